-- What the judgement of a table and a tree gives to the stages behind it. Assumes nothing.
use Prim.Native.Nat.{ℕ}
use mathlib.Core.Path.{◌≡◌, ◌∙◌}
use mathlib.Core.List.{List}
use Rattle.table.specs.Judge.{judge_table}
use Rattle.refusal.specs.Orders.{refusal_by}
use Rattle.refusal.proofs.Orders.{or_none}
use Rattle.tree.specs.Refusals.{tree_refusal}
use Rattle.tree.proofs.Handed.{judged}
use Rattle.wire.specs.Inner.Turns.{Held}
use Rattle.text_tree.proofs.Writing.{handed}

pub held : (t ns owns : List ℕ) → tree_refusal t ns owns ≡ 0 → Held t ns
unfolding tree_refusal refusal_by
held t ns owns e =
    let h = handed t ns owns e in
    let j : judge_table t ≡ 0 = (or_none (judge_table t) _ e).0 in
    record { judged = j; sound = judged t ns owns j h.few h.equal ∙ e; few = h.few }
