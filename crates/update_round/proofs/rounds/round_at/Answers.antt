-- `round_at`: the round from the sets made ready; a lone circle closes at once. Assumes nothing.
use mathlib.Core.Bool.{◌||◌}
use Prim.Native.Nat.{◌≤◌}
use native.Mathlib.Nat.{le_trans}
use lib.ListN.{length}
use Rattle.climb.specs.Inner.Wires.{wired_by}
use Rattle.climb.proofs.Places.{rows_span}
use Rattle.update_round.specs.Inner.Says.{RoundSays}
use Rattle.update_round.proofs.Rounding.{length_ready, span_member, round_says}
use Rattle.update_round.proofs.rounds.round_at.Goals.{After-round-still}
use Rattle.update_round.proofs.rounds.round_at.Goals as goal

says : (c : After-round-still) → RoundSays (wired_by c.args.table.now c.args.owns.now c.args.wires) c.args.circle.now c.args.k c.args.sets.now c.round-still.new.sets (c.lone-alone.result || c.round-still.result)
says c =
    let g = c.args in
    let long : g.wires.n ≤ length c.make_ready.new.sets = rw (length_ready g.k c.lone-alone.result g.sets.now g.circle.now c.make_ready.new.sets c.make_ready.ensures) c.requires.n_in_bounds.2 in
    round_says _ _ _ _ _ _ _ c.lone-alone.ensures c.make_ready.ensures c.round-still.ensures.sets _ (λ x m. le_trans (span_member (rows_span c.requires.rows) x m) long)
    c.round-still.ensures.still

pub returns-then-alone : goal.returns-then-alone
returns-then-alone c = let h = says (goal.at.returns-then-alone c).After-round-still in rw c.if-alone.true (rw c.if-alone.true at h)

pub returns-else-alone : goal.returns-else-alone
returns-else-alone c = let h = says (goal.at.returns-else-alone c).After-round-still in rw c.if-alone.false at h
