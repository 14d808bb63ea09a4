-- A buffer that is filled: what copying to its front and clearing behind come to. Assumes nothing.
use mathlib.Core.Path.{◌≡◌, ap, sym, ◌∙◌}
use mathlib.Core.List.{List, [], ◌∷◌, ◌++◌, append-nil}
use Prim.Native.Nat.{ℕ, zero, suc, ◌+◌, ◌-◌, ◌≤◌}
use native.Mathlib.Nat.{suc-add, zero-add}
use native.Mathlib.Omega.{arith}
use lib.ListN.{length, take, drop, replicate, length-replicate, drop_of_length-le}
use lib.Seq.{paste, length-take-le, take_all, take-nil}
use Rattle.update.specs.Memories.{filled_with}
pub use Rattle.update.proofs.Filled.{get_d_zeros, get_d_filled, length_filled, take_filled, take_filled_with}

module _ {A : Type 0} where
  pub drop_take : (i j : ℕ) (l : List A) → drop i (take (i + j) l) ≡ take j (drop i l)
  drop_take zero j l = ap (λ (k : ℕ). take k l) (zero-add j)
  drop_take (suc i) j [] = ap (drop (suc i)) (take-nil (suc i + j)) ∙ sym (take-nil j)
  drop_take (suc i) j (x ∷ l) = ap (λ (k : ℕ). drop (suc i) (take k (x ∷ l))) (suc-add i j) ∙ drop_take i j l

-- z from e to the end
pub clear_rest : {A : Type 0} (z : A) (d : List A) (e : ℕ) → e ≤ length d → paste d e (replicate (length d - e) z) (length d - e) ≡ filled_with z (take e d) d
clear_rest {A} z d e h =
    let R = length d - e in
    let g : length (take e d) ≡ e = length-take-le e d h in
    ap (λ l. take e d ++ l ++ drop (e + R) d) (take_all R (replicate R z) (omega (arith, length-replicate {A = A} R z)))
    ∙ ap (λ l. take e d ++ replicate R z ++ l) (drop_of_length-le d {i = e + R} (omega arith))
    ∙ append-nil (take e d ++ replicate R z)
    ∙ ap (λ k. take e d ++ replicate (length d - k) z) (sym g)
