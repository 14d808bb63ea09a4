-- A refusal is known by its number, and a number of 1 to 17 by its refusal. Assumes nothing.
use mathlib.Core.Path.{◌≡◌, refl, sym}
use mathlib.Core.Bool.{true, false, true≢false, not}
use Rattle.std.proofs.Common.{Result, Ok, Err}
use Rattle.std.specs.Result.{MatchResult, is_ok}
use Prim.Native.Nat.{ℕ, suc, ◌-◌, ◌<◌}
use native.Mathlib.Omega.{arith}
use borrow.Author.Tests.{not-false, eqb-true}
use lib.Dec.{eqb}
use Rattle.refusal.specs.Numbers.{number_of, verdict_of}
use Rattle.refusal.specs.declared.Refusal.{Refusal}
use Rattle.refusal.specs.declared.Refusal.TheVariants as why
use Rattle.table.specs.First.{some_below}
use Rattle.table.proofs.FirstLaws.{some_none}
use Rattle.text_frame.specs.Calls.{misread}
use Rattle.text_frame.specs.declared.Misread.{Misread}
use Rattle.text_tree.specs.Written.{refusal_of}

pub by_number : (r : Refusal) → refusal_of (number_of r) ≡ r
unfolding refusal_of
by_number why.Count = refl
by_number why.Symbol = refl
by_number why.Start = refl
by_number why.Form = refl
by_number why.Argument = refl
by_number why.Production = refl
by_number why.Shape = refl
by_number why.Size = refl
by_number why.Point = refl
by_number why.Busy = refl
by_number why.Fields = refl
by_number why.Undeclared = refl
by_number why.Line = refl
by_number why.Frame = refl
by_number why.Buffer = refl
by_number why.Absent = refl
by_number why.Idle = refl
by_number why.Waiver = refl
by_number why.Points = refl
by_number why.Overlap = refl

-- all 17, by computation
all_numbered : (i : ℕ) → i < 17 → not (eqb (number_of (refusal_of (suc i))) (suc i)) ≡ false
unfolding refusal_of some_below
all_numbered = some_none (λ (i : ℕ). not (eqb (number_of (refusal_of (suc i))) (suc i))) 17 refl

pub numbered : (n : ℕ) → 0 < n → n < 18 → number_of (refusal_of n) ≡ n
numbered n l u =
    let e : suc (n - 1) ≡ n = omega arith in
    rw e at (eqb-true (number_of (refusal_of (suc (n - 1)))) (suc (n - 1)) (not-false _ (all_numbered (n - 1) (omega arith))))

-- a judgement's refusal, named at a line
pub record Named (n line : ℕ) (m : Misread) : Type 0 where
  pub refusal : Refusal
  pub is : m ≡ misread refusal line
  pub by : number_of refusal ≡ n

pub named : (v : Result (Unit {0}) Refusal) {n line : ℕ} {m : Misread} → MatchResult v (λ x. ◌≡◌ {A = Result (Unit {0}) Misread} (Err m) (Ok x)) (λ e. m ≡ misread e line) → verdict_of v ≡ n → Named n line m
named (Ok x) w h = absurd (let z : ◌≡◌ {A = ℕ} 0 1 = cc in omega arith)
named (Err e) w h = record { refusal = e; is = w; by = h }

pub passed : (v : Result (Unit {0}) Refusal) {n : ℕ} → true ≡ is_ok v → verdict_of v ≡ n → n ≡ 0
passed (Ok x) w h = sym h
passed (Err e) w h = absurd (true≢false w)
