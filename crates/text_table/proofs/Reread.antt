-- A sound table that is written reads back equal. Assumes nothing.
use mathlib.Core.Path.{◌≡◌, refl, ap, sym, ◌∙◌}
use mathlib.Core.List.{List, [], ◌∷◌, ◌++◌, append_assoc, append-nil}
use mathlib.Core.Bool.{Bool, true, false}
use mathlib.Core.Logic.{inl, inr}
use Rattle.std.proofs.Common.{Ok}
use Prim.Native.Nat.{ℕ, zero, suc, ◌+◌, ◌*◌, ◌-◌, ◌≤◌, ◌<◌}
use native.Mathlib.Omega.{arith}
use lib.ListN.{length, get_or, replicate, length-append, length-replicate}
use Rattle.text_line.proofs.Fields.{line_length}
use Rattle.table.specs.Words.{rule_of, head_at, constant_at}
use Rattle.table.specs.Judge.{Frame, frames, header, symbol, production, equation, refusal_at, judge_table}
use Rattle.table.specs.Same.{Same}
use Rattle.table.proofs.Holds.{held}
use Rattle.table.proofs.Sound.{all_hold}
use Rattle.table.proofs.Local.{header_local, symbol_local, production_local, equation_local}
use Rattle.table.proofs.Same.{judge_same}
use Rattle.text_frame.specs.Frames.{frame_at, line_after}
use Rattle.text_frame.specs.Text.{fields_of, text_of}
use Rattle.text_table.specs.Text.{shown, texts}
use Rattle.text_frame.specs.Walk.{entry_of, next_of, is_on}
use Rattle.text_table.specs.Inner.Putting.{text_at}
use Rattle.text_table.specs.Read.{word_of, constant_of, words_after, taken_at}
use Rattle.text_table.specs.Reading.{done, read_on, reading_at}
use Rattle.text_frame.specs.Laws.{lines_after}
use Rattle.text_table.specs.Laws.{AllWords, TableBackAll}
use Rattle.text_frame.specs.declared.Frame as text
use Rattle.text_frame.specs.declared.Step.{Step}
use Rattle.text_frame.specs.declared.Expected.{Expected}
use Rattle.text_frame.specs.declared.Expected.TheVariants.{AtHeader, AtSymbol, AtProduction, AtEquation, Ended}
use Rattle.text_table.proofs.Order.{Valid, rest_of, text_next}
use Rattle.text_table.proofs.Writing.{ready_of, still_valid, rest_text, rest_all}
use Rattle.text_table.proofs.Taking.{sound_taken}
use Rattle.text_table.proofs.Sofar.{stored}
use Rattle.text_table.proofs.Readings.{store_length, read_goes, read_ends}
use Rattle.text_tree.proofs.Trees.{frame_at_lem}
use Rattle.text_table.proofs.Walked.{stands}
use Rattle.text_table.proofs.Kept.{Through, next_alike}
use Rattle.text_table.proofs.Alike.{same_of, valid_same, next_same}
use Rattle.text_table.proofs.Afresh.{fits, type_is, storing, writes, writes_on, writes_off, rest_off, through_kept, all_alike}

-- a frame's number is that of the whole table, once its words and those before it are there
pub judged_early : (w u : List ℕ) (x : Expected) → judge_table u ≡ 0 → Valid u x → is_on x ≡ true → ((m : ℕ) → Through x m → get_or w m 0 ≡ get_or u m 0) → refusal_at w (entry_of x) ≡ 0
unfolding head_at constant_at rule_of
judged_early w u AtHeader j v o same = header_local w u (same 0 (omega arith)) ∙ held u header (all_hold u j).header
judged_early w u (AtSymbol s) j v o same = symbol_local w u s (same (1 + s) (omega arith)) ∙ held u (symbol s) ((all_hold u j).symbols s v)
judged_early w u (AtProduction p) j v o same =
    production_local w u p (same 0 (inl (omega arith))) (same (33 + p) (inl (omega arith))) ∙ held u (production p) ((all_hold u j).productions p v)
judged_early w u (AtEquation p q k) j v o same =
    let r = ready_of u j (AtEquation p q k) v in
    let low : (m : ℕ) → m < 34 + p → get_or u m 0 ≡ get_or w m 0 = λ m h. sym (same m (inl h)) in
    let m : ℕ = 2 * (20 * p + (4 * q + k)) in
    sym (equation_local u w p r.1.0 (low (33 + p) (omega arith)) (λ s h. low (1 + s) (omega arith)) q k (sym (same (97 + m) (inr (omega arith, omega arith)))) (sym (same (98 + m) (inr (omega arith, omega arith)))))
    ∙ held u (equation p q k) ((all_hold u j).equations p q k v)
judged_early w u Ended j v o same = absurd (let z : ◌≡◌ {A = ℕ} 0 1 = cc in omega arith)

shown_text : (t : List ℕ) (x : Expected) → is_on x ≡ true → text_at t x ≡ text_of (shown t (entry_of x))
unfolding text_at
shown_text t AtHeader o = refl
shown_text t (AtSymbol s) o = refl
shown_text t (AtProduction p) o = refl
shown_text t (AtEquation p q k) o = refl
shown_text t Ended o = absurd (let z : ◌≡◌ {A = ℕ} 0 1 = cc in omega arith)

-- a text has a byte for each frame at least
some_text : (f : text.Frame) → 1 ≤ length (text_of f)
unfolding text_of
some_text f = omega (arith, line_length (fields_of f))

texts_long : (t : List ℕ) (xs : List Frame) → length xs ≤ length (texts t xs)
unfolding texts
texts_long t [] = omega arith
texts_long t (x ∷ xs) = omega (arith, some_text (shown t x), texts_long t xs, length-append (text_of (shown t x)) (texts t xs))

module _ (t : List ℕ) (j : judge_table t ≡ 0) (fit : AllWords t) (u : List ℕ) (same : Same t u) (ju : judge_table u ≡ 0) (rest : List ℕ) where
  -- one frame
  module _ (w : List ℕ) (x : Expected) (v : Valid t x) (o : is_on x ≡ true) (through : (m : ℕ) → Through x m → get_or (storing t w x) m 0 ≡ get_or u m 0) where
    abbrev f : text.Frame
    f = shown t (entry_of x)

    taken : (line : ℕ) → taken_at w x f line ≡ Ok (next_of t x)
    taken line =
        let ty = type_is t x o in
        let d : storing t w x ≡ words_after w x f = sym (stored w x f ty) in
        let vu : Valid u x = valid_same t u j same x v in
        let n : next_of u x ≡ next_of (storing t w x) x = next_alike u (storing t w x) x (ready_of u ju x vu) (λ m b. sym (through m b)) in
        sym (sound_taken w x f line (storing t w x) ty d (judged_early (storing t w x) u x ju vu o through)) ∙ ap Ok (sym n ∙ sym (next_same t u j same x v))

    module _ (pre : List ℕ) (line : ℕ) where
      abbrev more : List ℕ
      more = rest_text t (next_of t x)

      whole : rest_text t x ≡ text_of f ++ more
      whole = text_next t x v ∙ ap (λ (l : List ℕ). l ++ more) (shown_text t x o)

      -- the same text, with the frame in front
      split : pre ++ (rest_text t x ++ rest) ≡ (pre ++ text_of f) ++ (more ++ rest)
      split = ap (λ (l : List ℕ). pre ++ (l ++ rest)) whole ∙ ap (λ (l : List ℕ). pre ++ l) (append_assoc (text_of f) more rest) ∙ sym (append_assoc pre (text_of f) (more ++ rest))

      one_read : (k : ℕ) → 1 ≤ k
          → read_on k w x (pre ++ (rest_text t x ++ rest)) (length pre) line ≡ read_on (k - 1) (storing t w x) (next_of t x) ((pre ++ text_of f) ++ (more ++ rest)) (length (pre ++ text_of f)) (line_after line)
      one_read k h =
          let s : List ℕ = pre ++ (text_of f ++ (more ++ rest)) in
          let e : pre ++ (rest_text t x ++ rest) ≡ s = split ∙ append_assoc pre (text_of f) (more ++ rest) in
          let r : Step = record { frame = f; place = length (pre ++ text_of f); line = line_after line } in
          let found : r ≡ frame_at s (length pre) line = sym (frame_at_lem pre f (more ++ rest) line (fits t j fit x v)) in
          ap (λ (l : List ℕ). read_on k w x l (length pre) line) e
          ∙ read_goes s w x (length pre) line o k h r found (next_of t x) (taken line)
          ∙ (λ i. read_on (k - 1) (stored w x f (type_is t x o) i) (next_of t x) (sym (append_assoc pre (text_of f) (more ++ rest)) i) (length (pre ++ text_of f)) (line_after line))

      ends : (d : ℕ) → d ≡ length ((pre ++ text_of f) ++ more) → d ≡ length (pre ++ rest_text t x)
      ends d e = e ∙ ap length (append_assoc pre (text_of f) more ∙ ap (λ (l : List ℕ). pre ++ l) (sym whole))

  -- where no frame is expected
  none_read : (k n : ℕ) (w : List ℕ) (x : Expected) (pre : List ℕ) (line : ℕ) → is_on x ≡ false → writes n t w x ≡ u
      → read_on k w x (pre ++ (rest_text t x ++ rest)) (length pre) line ≡ done u (length (pre ++ rest_text t x)) (lines_after (length (rest_of t x)) line)
  unfolding texts
  none_read k n w x pre line o e =
      let a : w ≡ u = sym (writes_off n t w x o) ∙ e in
      read_ends k (pre ++ (rest_text t x ++ rest)) w x (length pre) line o
      ∙ rw (rest_off t x o) (λ i. done (a i) (length (sym (append-nil pre) i)) line)

  pub back : (n k : ℕ) (w : List ℕ) (x : Expected) (pre : List ℕ) (line : ℕ) → length w ≡ 2657 → Valid t x → length (rest_of t x) ≤ n → length (rest_of t x) ≤ k → writes n t w x ≡ u
      → read_on k w x (pre ++ (rest_text t x ++ rest)) (length pre) line ≡ done u (length (pre ++ rest_text t x)) (lines_after (length (rest_of t x)) line)
  back zero k w x pre line l v h g e = by (is_on x) refl
    where
      by : (c : Bool) → is_on x ≡ c → read_on k w x (pre ++ (rest_text t x ++ rest)) (length pre) line ≡ done u (length (pre ++ rest_text t x)) (lines_after (length (rest_of t x)) line)
      by true o = absurd (omega (arith, ap length (stands t x v o)))
      by false o = none_read k zero w x pre line o e
  back (suc n) k w x pre line l v h g e =
      by (is_on x) refl (λ a b c. back n (k - 1) (storing t w x) (next_of t x) (pre ++ text_of (shown t (entry_of x))) (line_after line) (store_length w x (word_of (shown t (entry_of x))) (constant_of (shown t (entry_of x))) ∙ l) (still_valid t j x v) a b c)
    where
      by : (c : Bool) → is_on x ≡ c
          → (length (rest_of t (next_of t x)) ≤ n → length (rest_of t (next_of t x)) ≤ k - 1 → writes n t (storing t w x) (next_of t x) ≡ u
          → read_on (k - 1) (storing t w x) (next_of t x) ((pre ++ text_of (shown t (entry_of x))) ++ (rest_text t (next_of t x) ++ rest)) (length (pre ++ text_of (shown t (entry_of x)))) (line_after line) ≡ done u (length ((pre ++ text_of (shown t (entry_of x))) ++ rest_text t (next_of t x))) (lines_after (length (rest_of t (next_of t x))) (line_after line)))
          → read_on k w x (pre ++ (rest_text t x ++ rest)) (length pre) line ≡ done u (length (pre ++ rest_text t x)) (lines_after (length (rest_of t x)) line)
      by true o again =
          let d : rest_of t x ≡ entry_of x ∷ rest_of t (next_of t x) = stands t x v o in
          let m : length (rest_of t x) ≡ suc (length (rest_of t (next_of t x))) = ap length d in
          let c : writes n t (storing t w x) (next_of t x) ≡ u = sym (writes_on n t w x o) ∙ e in
          let through : (i : ℕ) → Through x i → get_or (storing t w x) i 0 ≡ get_or u i 0 = λ i b. through_kept t j n w x v i b ∙ ap (λ (z : List ℕ). get_or z i 0) c in
          one_read w x v o through pre line k (omega arith)
          ∙ again (omega arith) (omega arith) c
          ∙ (λ i. done u (ends w x v o through pre line (length ((pre ++ text_of (shown t (entry_of x))) ++ rest_text t (next_of t x))) refl i) (lines_after (sym m i) line))
      by false o again = none_read k (suc n) w x pre line o e

pub table_back : TableBackAll
unfolding reading_at rest_of
table_back t rest line j fit =
    let zeros : List ℕ = replicate 2657 0 in
    let l : length zeros ≡ 2657 = length-replicate {A = ℕ} 2657 0 in
    let u : List ℕ = writes (length (frames t)) t zeros AtHeader in
    let same : Same t u = same_of t u j (all_alike t j fit (length (frames t)) zeros AtHeader l tt (omega arith)) in
    let s : List ℕ = rest_text t AtHeader ++ rest in
    let k : length (frames t) ≤ length s = omega (arith, texts_long t (frames t), length-append (rest_text t AtHeader) rest) in
    let r : read_on (length s) zeros AtHeader s 0 line ≡ done u (length (rest_text t AtHeader)) (lines_after (length (frames t)) line) = back t j fit u same (judge_same t u same j).sound rest (length (frames t)) (length s) zeros AtHeader [] line l tt (omega arith) k refl in
    record { words = u; read = rw (rest_all t) at r; same = same }
