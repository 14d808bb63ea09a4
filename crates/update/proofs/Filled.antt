-- Buffers filled with a list and zeros behind it, and lists of which a part is exchanged. Assumes nothing.
use mathlib.Core.Path.{◌≡◌, refl, ap, sym, ◌∙◌}
use mathlib.Core.List.{List, ◌++◌}
use Prim.Native.Nat.{ℕ, zero, suc, ◌+◌, ◌-◌, ◌≤◌}
use native.Mathlib.Decide.{dec_lt}
use native.Mathlib.Omega.{arith}
use lib.ListN.{length, get_or, take, drop, replicate, length-append, length-replicate, length-drop, get_or-append, get_or-eq_default}
use lib.Seq.{length-take-le, take_at, get_or-append-add}
use Rattle.tree.specs.Replace.{exchanged}
use Rattle.update.specs.Memories.{filled_with, filled}

-- ---- zeros behind

pub get_d_zeros : (n i : ℕ) → get_or {A = ℕ} (replicate n 0) i 0 ≡ 0
get_d_zeros zero i = refl
get_d_zeros (suc n) zero = refl
get_d_zeros (suc n) (suc i) = get_d_zeros n i

pub get_d_filled : (xs l : List ℕ) (x : ℕ) → get_or (filled xs l) x 0 ≡ get_or xs x 0
unfolding filled
get_d_filled xs l x = elim (dec_lt x (length xs)) [
  | yes h ↦ get_or-append xs (replicate (length l - length xs) 0) 0 x h
  | no h ↦
      let e : length xs + (x - length xs) ≡ x = omega arith in
      ap (λ (k : ℕ). get_or (xs ++ replicate (length l - length xs) 0) k 0) (sym e)
      ∙ get_or-append-add xs (replicate (length l - length xs) 0) (x - length xs) 0
      ∙ get_d_zeros (length l - length xs) (x - length xs)
      ∙ sym (get_or-eq_default xs 0 (omega arith))
]

pub length_filled : (xs l : List ℕ) → length xs ≤ length l → length (filled xs l) ≡ length l
unfolding filled
length_filled xs l h = omega (arith, length-append xs (replicate (length l - length xs) 0), length-replicate {A = ℕ} (length l - length xs) 0)

-- the front of a filled buffer
pub take_filled_with : {A : Type 0} (z : A) (xs l : List A) (n : ℕ) → length xs ≡ n → take n (filled_with z xs l) ≡ xs
take_filled_with z xs l n e = take_at xs (replicate (length l - length xs) z) n e

pub take_filled : (xs l : List ℕ) (n : ℕ) → length xs ≡ n → take n (filled xs l) ≡ xs
unfolding filled
take_filled xs l n e = take_filled_with 0 xs l n e

-- a buffer is filled by its length alone
pub filled_with_as : {A : Type 0} (z : A) (xs l l' : List A) → length l ≡ length l' → filled_with z xs l ≡ filled_with z xs l'
filled_with_as z xs l l' e = ap (λ (n : ℕ). xs ++ replicate (n - length xs) z) e

-- and what lies behind
pub behind_filled : (xs l : List ℕ) (i : ℕ) → length xs ≤ i → get_or (filled xs l) i 0 ≡ 0
behind_filled xs l i h = get_d_filled xs l i ∙ get_or-eq_default xs 0 h

-- ---- a part exchanged

pub length_exchanged : {A : Type 0} (l : List A) (r k : ℕ) (new : List A) → r + k ≤ length l → length (exchanged l r k new) ≡ length l - k + length new
unfolding exchanged
length_exchanged l r k new h =
    let a = length-append (take r l) (new ++ drop (r + k) l) in
    let b = length-append new (drop (r + k) l) in
    omega (arith, length-take-le r l (omega arith), length-drop (r + k) l)
