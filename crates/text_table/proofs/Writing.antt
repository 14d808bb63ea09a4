-- Writing a table: lengths, room, and where each frame goes. Assumes nothing.
use mathlib.Core.Path.{◌≡◌, refl, ap, sym, ◌∙◌}
use mathlib.Core.Bool.{true, false}
use mathlib.Core.List.{List, [], ◌∷◌, ◌++◌}
use mathlib.Core.Logic.{⊎_elim}
use Prim.Native.Nat.{ℕ, zero, suc, ◌+◌, ◌*◌, ◌-◌, ◌≤◌, ◌<◌}
use native.Mathlib.Omega.{arith}
use borrow.Author.Tests.{le-leb, lt-leb}
use lib.Dec.{leb}
use lib.ListN.{length, take, length-append}
use lib.Seq.{sets}
use Rattle.text_line.specs.Text.{byte, width_of}
use Rattle.text_line.proofs.Values.{lt_or_ge}
use Rattle.text_line.proofs.Fields.{line_length}
use Rattle.text_line.proofs.Out.{sets_append}
use Rattle.table.specs.Words.{production_count, child_count}
use Rattle.table.specs.Judge.{header, symbol, production, equation, judge_table}
use Rattle.table.specs.Shape.{Shaped}
use Rattle.table.proofs.Holds.{symbols_of_lem, shaped_of}
use Rattle.table.proofs.Sound.{all_hold, sound}
use Rattle.text_frame.specs.Text.{fields_of, text_of}
use Rattle.text_table.specs.Text.{child_in, shown, texts, table_text}
use Rattle.text_frame.specs.Walk.{next_of, Ready, is_on}
use Rattle.text_table.specs.Inner.Putting.{Shows, text_at}
use Rattle.text_frame.specs.declared.Expected.{Expected}
use Rattle.text_frame.specs.declared.Expected.TheVariants.{AtHeader, AtSymbol, AtProduction, AtEquation, Ended}
use Rattle.text_table.proofs.Order.{Valid, rest_of, entries, rest_next, text_next, next_valid}

-- how long each frame's text is
pub header_length : (t : List ℕ) → length (text_at t AtHeader) ≡ 7
unfolding text_at text_of shown fields_of
header_length t = line_length (fields_of (shown t header))

pub symbol_length : (t : List ℕ) (s : ℕ) → length (text_at t (AtSymbol s)) ≡ 7
unfolding text_at text_of shown fields_of
symbol_length t s = line_length (fields_of (shown t (symbol s)))

pub equation_length : (t : List ℕ) (p q k : ℕ) → length (text_at t (AtEquation p q k)) ≡ 29
unfolding text_at text_of shown fields_of
equation_length t p q k = line_length (fields_of (shown t (equation p q k)))

children_width : (n a b c d : ℕ) → n ≤ 4 → width_of (take n (byte a ∷ byte b ∷ byte c ∷ byte d ∷ [])) ≡ 2 * n
children_width zero a b c d h = refl
children_width (suc zero) a b c d h = refl
children_width (suc (suc zero)) a b c d h = refl
children_width (suc (suc (suc zero))) a b c d h = refl
children_width (suc (suc (suc (suc zero)))) a b c d h = refl
children_width (suc (suc (suc (suc (suc n))))) a b c d h = absurd (omega arith)

pub production_length : (t : List ℕ) (p : ℕ) → child_count t p ≤ 4 → length (text_at t (AtProduction p)) ≡ 7 + 2 * child_count t p
unfolding text_at text_of shown fields_of
production_length t p h = line_length (fields_of (shown t (production p))) ∙ omega (arith, children_width (child_count t p) (child_in t p 0) (child_in t p 1) (child_in t p 2) (child_in t p 3) h)

-- of a sound table
module _ (t : List ℕ) (e : judge_table t ≡ 0) where
  shaped : (p : ℕ) → p < production_count t → Shaped t p
  shaped p h = let a = all_hold t e in shaped_of t p (symbols_of_lem t a.header a.symbols) (a.productions p h)

  pub ready_of : (x : Expected) → Valid t x → Ready t x
  ready_of AtHeader v = tt
  ready_of (AtSymbol s) v = omega (arith, (sound t e).symbols.1)
  ready_of (AtProduction p) v = (omega (arith, (sound t e).productions.1), shaped p v)
  ready_of (AtEquation p q k) v =
      let s = shaped p v.production in
      (omega (arith, v.production, (sound t e).productions.1), (s, (v.position, omega (arith, v.set, s.few q v.position))))
  ready_of Ended v = tt

  pub shows_of : (x : Expected) → Valid t x → Shows t x
  shows_of AtHeader v = tt
  shows_of (AtSymbol s) v = tt
  shows_of (AtProduction p) v = tt
  shows_of (AtEquation p q k) v = ((sound t e).formed p q k v).known
  shows_of Ended v = tt

  pub still_valid : (x : Expected) → Valid t x → Valid t (next_of t x)
  still_valid = next_valid t (sound t e).symbols.0 (sound t e).productions.0

-- the text from an expected frame on
abbrev pub rest_text : List ℕ → Expected → List ℕ
rest_text t x = texts t (rest_of t x)

module _ (t : List ℕ) (x : Expected) (v : Valid t x) where
  pub rest_length : length (rest_text t x) ≡ length (text_at t x) + length (rest_text t (next_of t x))
  rest_length = ap length (text_next t x v) ∙ length-append (text_at t x) (rest_text t (next_of t x))

  -- fewer frames are left
  pub rest_less : is_on x ≡ true → length (rest_of t (next_of t x)) < length (rest_of t x)
  rest_less on = rw (rest_next t x v) (by_frame x on)
    where
      by_frame : (y : Expected) → is_on y ≡ true → length (rest_of t (next_of t x)) < length (entries y ++ rest_of t (next_of t x))
      by_frame AtHeader o = omega arith
      by_frame (AtSymbol s) o = omega arith
      by_frame (AtProduction p) o = omega arith
      by_frame (AtEquation p q k) o = omega arith
      by_frame Ended o = let z : ◌≡◌ {A = ℕ} 0 1 = cc in absurd (omega arith)

  -- room
  pub room_stops : (left : ℕ) → left < length (text_at t x) → leb (length (rest_text t x)) left ≡ false
  room_stops left h = lt-leb (length (rest_text t x)) left (omega (arith, rest_length))

  pub room_goes : (left : ℕ) → length (text_at t x) ≤ left → leb (length (rest_text t x)) left ≡ leb (length (rest_text t (next_of t x))) (left - length (text_at t x))
  room_goes left h =
      ⊎_elim
      (λ k. lt-leb (length (rest_text t x)) left (omega (arith, rest_length)) ∙ sym (lt-leb (length (rest_text t (next_of t x))) (left - length (text_at t x)) k))
      (λ k. le-leb (length (rest_text t x)) left (omega (arith, rest_length)) ∙ sym (le-leb (length (rest_text t (next_of t x))) (left - length (text_at t x)) k))
      (lt_or_ge (left - length (text_at t x)) (length (rest_text t (next_of t x))))

  -- what is left to store once the expected frame is stored
  pub stored_next : (l : List ℕ) (place : ℕ) → sets l place (rest_text t x) ≡ sets (sets l place (text_at t x)) (place + length (text_at t x)) (rest_text t (next_of t x))
  stored_next l place = ap (sets l place) (text_next t x v) ∙ sets_append (text_at t x) (rest_text t (next_of t x)) l place

-- at the end nothing is left
pub rest_none : (t : List ℕ) (x : Expected) → is_on x ≡ false → rest_text t x ≡ []
unfolding rest_of texts
rest_none t AtHeader e = let z : ◌≡◌ {A = ℕ} 0 1 = cc in absurd (omega arith)
rest_none t (AtSymbol s) e = let z : ◌≡◌ {A = ℕ} 0 1 = cc in absurd (omega arith)
rest_none t (AtProduction p) e = let z : ◌≡◌ {A = ℕ} 0 1 = cc in absurd (omega arith)
rest_none t (AtEquation p q k) e = let z : ◌≡◌ {A = ℕ} 0 1 = cc in absurd (omega arith)
rest_none t Ended e = refl

pub rest_all : (t : List ℕ) → rest_text t AtHeader ≡ table_text t
unfolding rest_of table_text
rest_all t = refl
