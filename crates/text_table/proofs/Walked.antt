-- Going from frame to frame passes the frames of a sound table. Assumes nothing.
use mathlib.Core.Path.{◌≡◌, refl, ap, sym}
use mathlib.Core.List.{List, [], ◌∷◌}
use mathlib.Core.Bool.{true}
use Prim.Native.Nat.{ℕ, zero, suc}
use native.Mathlib.Omega.{arith}
use lib.ListN.{length}
use Rattle.table.specs.Judge.{Frame, frames, judge_table}
use Rattle.text_frame.specs.Walk.{entry_of, next_of, is_on, walk_from, Walks}
use Rattle.text_frame.specs.declared.Expected.{Expected}
use Rattle.text_frame.specs.declared.Expected.TheVariants.{AtHeader, AtSymbol, AtProduction, AtEquation, Ended}
use Rattle.text_table.proofs.Order.{Valid, rest_of, rest_next}
use Rattle.text_table.proofs.Writing.{still_valid}

pub no_frames : (xs : List Frame) → length xs ≡ 0 → xs ≡ []
no_frames [] e = refl
no_frames (x ∷ xs) e = absurd (omega arith)

-- an expected frame stands first
pub stands : (t : List ℕ) (x : Expected) → Valid t x → is_on x ≡ true → rest_of t x ≡ entry_of x ∷ rest_of t (next_of t x)
stands t AtHeader v o = rest_next t AtHeader v
stands t (AtSymbol s) v o = rest_next t (AtSymbol s) v
stands t (AtProduction p) v o = rest_next t (AtProduction p) v
stands t (AtEquation p q k) v o = rest_next t (AtEquation p q k) v
stands t Ended v o = absurd (let z : ◌≡◌ {A = ℕ} 0 1 = cc in omega arith)

still_on_lem : (t : List ℕ) (x : Expected) (n : ℕ) → length (rest_of t x) ≡ suc n → is_on x ≡ true
unfolding rest_of
still_on_lem t AtHeader n e = refl
still_on_lem t (AtSymbol s) n e = refl
still_on_lem t (AtProduction p) n e = refl
still_on_lem t (AtEquation p q k) n e = refl
still_on_lem t Ended n e = absurd (omega arith)

passed : (t : List ℕ) → judge_table t ≡ 0 → (n : ℕ) (x : Expected) → Valid t x → length (rest_of t x) ≡ n → walk_from n t x ≡ rest_of t x
unfolding walk_from
passed t j zero x v e = sym (no_frames (rest_of t x) e)
passed t j (suc n) x v e =
    let o : is_on x ≡ true = still_on_lem t x n e in
    let d : rest_of t x ≡ entry_of x ∷ rest_of t (next_of t x) = stands t x v o in
    let l : length (rest_of t (next_of t x)) ≡ n = omega (arith, ap length d) in
    rw (o, d, passed t j n (next_of t x) (still_valid t j x v) l)

pub walks : Walks
unfolding rest_of
walks t j = passed t j (length (frames t)) AtHeader tt refl
