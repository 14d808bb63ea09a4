-- A table whose heads have no operation 9 is without it. Assumes nothing.
use mathlib.Core.Path.{sym, ◌∙◌}
use mathlib.Core.Bool.{true≢false}
use mathlib.Core.List.{List}
use Prim.Native.Nat.{ℕ, zero, suc, ◌*◌, ◌≤◌, ◌<◌}
use native.Mathlib.Omega.{arith}
use borrow.Author.Tests.{eq-eqb}
use Rattle.table.specs.Words.{production_count, left_of, child_of, child_count, defined, rule_of, head_at}
use Rattle.table.specs.Equations.{op_number}
use Rattle.table.specs.Limits.{Limits}
use Rattle.table.proofs.Limits.{limits}
use Rattle.circles.specs.Ranked.{up_from}
use Rattle.circles.proofs.Lists.{of_slots}
use Rattle.climb.proofs.Lists.{any_none}
use Rattle.wire_plan.specs.Inner.Nines.{is_nine, nine_in, NoneNine}

few : (t : List ℕ) → Limits t → (p q : ℕ) → p < production_count t → q ≤ child_count t p → defined t p q ≤ 4
few t l p zero h k = l.synthesized (left_of t p) (l.small p zero h k)
few t l p (suc q) h k = l.inherited (child_of t p q) (l.small p (suc q) h k)

pub none_nine : NoneNine
unfolding nine_in rule_of
none_nine t g h p q k has e =
    let l = limits t g in
    let f = few t l p q has.production has.position in
    let b : rule_of p q k < 20 * production_count t = omega (arith, f, has.production, has.position, has.set, l.arity p has.production) in
    true≢false (sym (eq-eqb (op_number (head_at t (rule_of p q k))) 9 e) ∙ any_none (is_nine t) (up_from 0 (20 * production_count t)) h (rule_of p q k) (of_slots (rule_of p q k) (20 * production_count t) b))
