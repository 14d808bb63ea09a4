-- A sound table's frames stored into fresh words, one behind the other: the words show the same frames. Assumes nothing.
use mathlib.Core.Path.{◌≡◌, refl, ap, ◌∙◌}
use mathlib.Core.List.{List, [], ◌∷◌}
use mathlib.Core.Bool.{Bool, true, false, cond}
use Prim.Native.Nat.{ℕ, zero, suc, ◌+◌, ◌*◌, ◌^◌, ◌≤◌, ◌<◌, zero-le}
use native.Mathlib.Omega.{arith}
use borrow.Author.Tests.{le-ltb}
use lib.Dec.{eqb, ltb}
use lib.ListN.{length, get_or}
use Rattle.table.specs.Words.{symbol_count, production_count, child_of, child_count, rule_of, constant_at}
use Rattle.table.specs.Equations.{a_field, b_field, argument}
use Rattle.table.specs.Judge.{header, symbol, production, equation, judge_table}
use Rattle.table.specs.Same.{Has}
use Rattle.table.proofs.Sound.{sound}
use Rattle.text_table.specs.Text.{shown}
use Rattle.text_frame.specs.Walk.{entry_of, next_of, is_on}
use Rattle.text_frame.specs.Text.{type_of}
use Rattle.text_table.specs.Read.{type_at, word_of, constant_of, store}
use Rattle.text_frame.specs.Laws.{Fits}
use Rattle.text_table.specs.Laws.{AllWords}
use Rattle.text_frame.specs.declared.Expected.{Expected}
use Rattle.text_frame.specs.declared.Expected.TheVariants.{AtHeader, AtSymbol, AtProduction, AtEquation, Ended}
use Rattle.text_table.proofs.Order.{Valid, rest_of}
use Rattle.text_table.proofs.Writing.{ready_of, still_valid}
use Rattle.text_table.proofs.Readings.{store_length}
use Rattle.text_table.proofs.Walked.{no_frames, stands}
use Rattle.text_table.proofs.Kept.{Before, Through, before_through, through_next, placed_ready, before_kept, WordsAt, stored_words, words_same, header_is, symbol_is, production_is, equation_is}
use Rattle.text_table.proofs.Alike.{ShownAlike}

-- ---- a frame of a sound table fits

kid_small : (b : Bool) (v : ℕ) → v < 2 ^ 8 → cond b v 0 < 2 ^ 8
kid_small true v h = h
kid_small false v h = omega arith

kid_none : (k n v : ℕ) → n ≤ k → cond (ltb k n) v 0 ≡ 0
kid_none k n v h = rw (le-ltb k n h)

module _ (t : List ℕ) (j : judge_table t ≡ 0) where
  fits_header : Fits (shown t header)
  unfolding shown
  fits_header = (omega (arith, (sound t j).symbols.1), omega (arith, (sound t j).productions.1))

  fits_symbol : (s : ℕ) → s < symbol_count t → Fits (shown t (symbol s))
  unfolding shown
  fits_symbol s h = (omega (arith, ((sound t j).sets s h).0), omega (arith, ((sound t j).sets s h).1))

  child_small : (p k : ℕ) → child_of t p k < 2 ^ 8
  unfolding child_of
  child_small p k = omega arith

  fits_production : (p : ℕ) → p < production_count t → Fits (shown t (production p))
  unfolding shown
  fits_production p h = (
    omega (arith, (sound t j).below p 0 h zero-le, (sound t j).symbols.1),
    (
      (sound t j).children p h,
      record {
        one = kid_small (ltb 0 (child_count t p)) (child_of t p 0) (child_small p 0);
        two = kid_small (ltb 1 (child_count t p)) (child_of t p 1) (child_small p 1);
        three = kid_small (ltb 2 (child_count t p)) (child_of t p 2) (child_small p 2);
        four = kid_small (ltb 3 (child_count t p)) (child_of t p 3) (child_small p 3);
        none = kid_none 0 (child_count t p) (child_of t p 0);
        single = kid_none 1 (child_count t p) (child_of t p 1);
        double = kid_none 2 (child_count t p) (child_of t p 2);
        triple = kid_none 3 (child_count t p) (child_of t p 3);
      },
    ),
  )

  fits_equation : AllWords t → (p q k : ℕ) → Has t p q k → Fits (shown t (equation p q k))
  unfolding shown argument a_field b_field constant_at
  fits_equation w p q k h =
      (omega (arith, ((sound t j).formed p q k h).known), ((omega arith, omega arith), ((omega arith, omega arith), w (98 + 2 * rule_of p q k))))

  pub fits : AllWords t → (x : Expected) → Valid t x → Fits (shown t (entry_of x))
  fits w AtHeader v = fits_header
  fits w (AtSymbol s) v = fits_symbol s v
  fits w (AtProduction p) v = fits_production p v
  fits w (AtEquation p q k) v = fits_equation w p q k v
  fits w Ended v = fits_header

pub type_is : (t : List ℕ) (x : Expected) → is_on x ≡ true → eqb (type_of (shown t (entry_of x))) (type_at x) ≡ true
unfolding shown
type_is t AtHeader o = refl
type_is t (AtSymbol s) o = refl
type_is t (AtProduction p) o = refl
type_is t (AtEquation p q k) o = refl
type_is t Ended o = absurd (let z : ◌≡◌ {A = ℕ} 0 1 = cc in omega arith)

-- words that hold a frame show it
shows : (t u : List ℕ) (x : Expected) → is_on x ≡ true → Fits (shown t (entry_of x)) → WordsAt u x (word_of (shown t (entry_of x))) (constant_of (shown t (entry_of x))) → shown u (entry_of x) ≡ shown t (entry_of x)
unfolding shown word_of constant_of
shows t u AtHeader o f w = header_is u (symbol_count t) (production_count t) w f.1
shows t u (AtSymbol s) o f w = symbol_is u s _ _ w f.1
shows t u (AtProduction p) o f w = production_is u p _ _ _ w (omega (arith, f.1.0)) f.1.1
shows t u (AtEquation p q k) o f w = equation_is u p q k _ _ _ _ _ _ w.0 w.1 f.1.0.0 f.1.0.1 f.1.1.0.0 f.1.1.0.1
shows t u Ended o f w = absurd (let z : ◌≡◌ {A = ℕ} 0 1 = cc in omega arith)

-- ---- the frames stored

abbrev pub storing : List ℕ → List ℕ → Expected → List ℕ
storing t w x = store w x (word_of (shown t (entry_of x))) (constant_of (shown t (entry_of x)))

-- n frames at most, from an expected one on
unfoldable pub writes : ℕ → List ℕ → List ℕ → Expected → List ℕ
writes zero t w x = w
writes (suc n) t w x = cond (is_on x) (writes n t (storing t w x) (next_of t x)) w

pub writes_on : (n : ℕ) (t w : List ℕ) (x : Expected) → is_on x ≡ true → writes (suc n) t w x ≡ writes n t (storing t w x) (next_of t x)
unfolding writes
writes_on n t w x o = rw o

pub writes_off : (n : ℕ) (t w : List ℕ) (x : Expected) → is_on x ≡ false → writes n t w x ≡ w
unfolding writes
writes_off zero t w x o = refl
writes_off (suc n) t w x o = rw o

pub rest_off : (t : List ℕ) (x : Expected) → is_on x ≡ false → rest_of t x ≡ []
unfolding rest_of
rest_off t AtHeader o = absurd (let z : ◌≡◌ {A = ℕ} 0 1 = cc in omega arith)
rest_off t (AtSymbol s) o = absurd (let z : ◌≡◌ {A = ℕ} 0 1 = cc in omega arith)
rest_off t (AtProduction p) o = absurd (let z : ◌≡◌ {A = ℕ} 0 1 = cc in omega arith)
rest_off t (AtEquation p q k) o = absurd (let z : ◌≡◌ {A = ℕ} 0 1 = cc in omega arith)
rest_off t Ended o = refl

module _ (t : List ℕ) (j : judge_table t ≡ 0) where
  -- what was stored before stays
  kept : (n : ℕ) (w : List ℕ) (x : Expected) → Valid t x → (m : ℕ) → Before x m → get_or w m 0 ≡ get_or (writes n t w x) m 0
  unfolding writes
  kept zero w x v m b = refl
  kept (suc n) w x v m b =
      let r = ready_of t j x v in
      by (is_on x) (before_kept w x (word_of (shown t (entry_of x))) (constant_of (shown t (entry_of x))) m (placed_ready t x r) b
      ∙ kept n (storing t w x) (next_of t x) (still_valid t j x v) m (through_next t x m r (before_through x m b)))
    where
      by : (c : Bool) → get_or w m 0 ≡ get_or (writes n t (storing t w x) (next_of t x)) m 0 → get_or w m 0 ≡ get_or (cond c (writes n t (storing t w x) (next_of t x)) w) m 0
      by true e = e
      by false e = refl

  -- and so does the frame that is stored
  pub through_kept : (n : ℕ) (w : List ℕ) (x : Expected) → Valid t x → (m : ℕ) → Through x m → get_or (storing t w x) m 0 ≡ get_or (writes n t (storing t w x) (next_of t x)) m 0
  through_kept n w x v m b = kept n (storing t w x) (next_of t x) (still_valid t j x v) m (through_next t x m (ready_of t j x v) b)

  pub all_alike : AllWords t → (n : ℕ) (w : List ℕ) (x : Expected) → length w ≡ 2657 → Valid t x → length (rest_of t x) ≤ n → ShownAlike t (writes n t w x) (rest_of t x)
  all_alike fit zero w x l v h = let e : rest_of t x ≡ [] = no_frames (rest_of t x) (omega arith) in rw e tt
  all_alike fit (suc n) w x l v h =
      by (is_on x) refl (λ k. all_alike fit n (storing t w x) (next_of t x) (store_length w x (word_of (shown t (entry_of x))) (constant_of (shown t (entry_of x))) ∙ l) (still_valid t j x v) k)
    where
      by : (c : Bool) → is_on x ≡ c → (length (rest_of t (next_of t x)) ≤ n → ShownAlike t (writes n t (storing t w x) (next_of t x)) (rest_of t (next_of t x))) → ShownAlike t (writes (suc n) t w x) (rest_of t x)
      by true o again =
          let u : List ℕ = writes n t (storing t w x) (next_of t x) in
          let a = word_of (shown t (entry_of x)) in
          let c = constant_of (shown t (entry_of x)) in
          let d : rest_of t x ≡ entry_of x ∷ rest_of t (next_of t x) = stands t x v o in
          let k : length (rest_of t (next_of t x)) ≤ n = omega (arith, ap length d) in
          let own = stored_words w x a c l (placed_ready t x (ready_of t j x v)) in
          let s = shows t u x o (fits t j fit x v) (words_same (storing t w x) u x a c (through_kept n w x v) own) in
          rw (writes_on n t w x o, d) (s, again k)
      by false o again = rw (rest_off t x o) tt
