-- Reading a whole table: frame by frame, and the copy. Assumes nothing.
use mathlib.Core.Path.{◌≡◌, refl, ap, sym, ◌∙◌}
use mathlib.Core.Bool.{Bool, true, false, cond}
use mathlib.Core.List.{List}
use Rattle.std.proofs.Common.{Ok, Err}
use Prim.Native.Nat.{ℕ, zero, suc, ◌+◌, ◌*◌, ◌-◌, ◌≤◌, ◌<◌}
use native.Mathlib.Omega.{arith}
use native.Mathlib.Nat.{zero-add}
use native.Mathlib.Numerals.{add-one}
use lib.Dec.{eqb}
use lib.ListN.{length, get_or, set, replicate, length-set}
use lib.Seq.{paste, paste-suc}
use Rattle.refusal.specs.declared.Refusal.{Refusal}
use Rattle.refusal.specs.declared.Refusal.TheVariants as why
use Rattle.text_frame.specs.Frames.{frame_at}
use Rattle.text_frame.specs.Walk.{is_on}
use Rattle.text_frame.specs.Text.{type_of}
use Rattle.text_table.specs.Read.{type_at, word_of, constant_of, store, words_after, taken_at}
use Rattle.text_table.specs.Reading.{done, stop, after, read_on, reading_at}
use Rattle.text_frame.specs.declared.Frame.{Frame}
use Rattle.text_frame.specs.declared.Step.{Step}
use Rattle.text_frame.specs.declared.Expected.{Expected}
use Rattle.text_frame.specs.declared.Expected.TheVariants.{AtHeader, AtSymbol, AtProduction, AtEquation, Ended}
use Rattle.text_frame.specs.Calls.{misread}

-- one word of a copy
pub copy_next : (d s : List ℕ) (i : ℕ) → i < length d → i < length s → set (paste d 0 s i) i (get_or s i 0) ≡ paste d 0 s (i + 1)
copy_next d s i h k =
    let z : 0 + i ≡ i = zero-add i in
    ap (λ (n : ℕ). set (paste d 0 s i) n (get_or s i 0)) (sym z) ∙ paste-suc d 0 s i 0 (omega arith) k ∙ ap (paste d 0 s) (sym (add-one i))

pub store_length : (t : List ℕ) (x : Expected) (w c : ℕ) → length (store t x w c) ≡ length t
store_length t AtHeader w c = length-set t 0 w
store_length t (AtSymbol s) w c = length-set t (1 + s) w
store_length t (AtProduction p) w c = length-set t (33 + p) w
store_length t (AtEquation p q k) w c =
    length-set (set t (97 + 2 * (20 * p + (4 * q + k))) w) (98 + 2 * (20 * p + (4 * q + k))) c ∙ length-set t (97 + 2 * (20 * p + (4 * q + k))) w
store_length t Ended w c = refl

pub words_length : (t : List ℕ) (x : Expected) (f : Frame) → length (words_after t x f) ≡ length t
unfolding words_after
words_length t x f = either (eqb (type_of f) (type_at x))
  where
    either : (b : Bool) → length (cond b (store t x (word_of f) (constant_of f)) t) ≡ length t
    either true = store_length t x (word_of f) (constant_of f)
    either false = refl

pub reading_starts : (s t : List ℕ) (place line : ℕ) → t ≡ replicate 2657 0 → reading_at s place line ≡ read_on (length s) t AtHeader s place line
unfolding reading_at
reading_starts s t place line e = rw e

-- a turn, by what the step at a place is
module _ (s t : List ℕ) (x : Expected) (place line : ℕ) (on : is_on x ≡ true) where
  pub read_out : read_on 0 t x s place line ≡ stop why.Frame line
  unfolding read_on
  read_out = rw on

  pub read_turn : (n : ℕ) → read_on (suc n) t x s place line
      ≡ after (taken_at t x (frame_at s place line).frame line) (λ y. read_on n (words_after t x (frame_at s place line).frame) y s (frame_at s place line).place (frame_at s place line).line)
  unfolding read_on
  read_turn n = rw on

  module _ (left : ℕ) (some : 1 ≤ left) (r : Step) (found : r ≡ frame_at s place line) where
    pub read_goes : (y : Expected) → taken_at t x r.frame line ≡ Ok y → read_on left t x s place line ≡ read_on (left - 1) (words_after t x r.frame) y s r.place r.line
    read_goes y h =
        let n : left ≡ suc (left - 1) = omega arith in
        let g : taken_at t x (frame_at s place line).frame line ≡ Ok y = ap (λ (z : Step). taken_at t x z.frame line) (sym found) ∙ h in
        ap (λ (m : ℕ). read_on m t x s place line) n ∙ read_turn (left - 1) ∙ rw g (ap (λ (z : Step). read_on (left - 1) (words_after t x z.frame) y s z.place z.line) (sym found))

    pub read_stops : (f : Refusal) (l : ℕ) → taken_at t x r.frame line ≡ Err (misread f l) → read_on left t x s place line ≡ stop f l
    read_stops f l h =
        let n : left ≡ suc (left - 1) = omega arith in
        let g : taken_at t x (frame_at s place line).frame line ≡ Err (misread f l) = ap (λ (z : Step). taken_at t x z.frame line) (sym found) ∙ h in
        ap (λ (m : ℕ). read_on m t x s place line) n ∙ read_turn (left - 1) ∙ rw g

pub read_ends : (n : ℕ) (s t : List ℕ) (x : Expected) (place line : ℕ) → is_on x ≡ false → read_on n t x s place line ≡ done t place line
unfolding read_on
read_ends zero s t x place line e = rw e
read_ends (suc n) s t x place line e = rw e
