-- The ground, and then the tree where one is held. Assumes nothing.
use mathlib.Core.Path.{◌≡◌, sym, ◌∙◌}
use mathlib.Core.Bool.{true, false}
use mathlib.Core.List.{List, [], ◌∷◌}
use Prim.Native.Nat.{ℕ}
use native.Mathlib.Omega.{arith}
use Rattle.refusal.specs.Numbers.{number_of}
use Rattle.refusal.specs.declared.Refusal.{Refusal}
use Rattle.refusal.specs.Orders.{Order, refusal_by}
use Rattle.refusal.proofs.Distinct.{handed_number}
use Rattle.refusal.proofs.Orders.{past, stopped}
use Rattle.update.specs.declared.Record.{Record}
use Rattle.update.specs.Memories.{lent, Memory}
use Rattle.update.specs.Refusals.{held_refusal, ground_order, held_order}
use Rattle.update_judge.proofs.Orders.{grounded}
use Rattle.session_memory.specs.Refusals.{if_held, kept_order}
use Rattle.session_memory.proofs.fitting.judge_kept.Goals as goal

module _ (t : List ℕ) (m : Memory) (r : Record) where
  abbrev tree : Order
  tree = if_held r.held (held_refusal t m r) ∷ []

  tree_held : r.held ≡ true → refusal_by (held_order t m.productions m.owns r) ≡ refusal_by tree
  unfolding refusal_by
  tree_held h = rw h

  tree_none : r.held ≡ false → 0 ≡ refusal_by tree
  unfolding refusal_by
  tree_none h = rw h

  held : (n : ℕ) → refusal_by (ground_order t m r) ≡ 0 → r.held ≡ true → n ≡ refusal_by (held_order t m.productions m.owns r) → n ≡ refusal_by (kept_order t m r)
  held n g h e = e ∙ tree_held h ∙ sym (past (ground_order t m r) tree g)

  none_held : refusal_by (ground_order t m r) ≡ 0 → r.held ≡ false → 0 ≡ refusal_by (kept_order t m r)
  none_held g h = tree_none h ∙ sym (past (ground_order t m r) tree g)

  no_ground : (q : Refusal) → number_of q ≡ refusal_by (ground_order t m r) → number_of q ≡ refusal_by (kept_order t m r)
  no_ground q e = stopped (ground_order t m r) tree q e

pub judge_holding-requires : goal.judge_holding-requires
judge_holding-requires c =
    let g = grounded c.args.table.now (lent c.args.held.now c.args.held_owns.now c.args.sets.now c.args.earlier.now) c.args.«record» (sym c.in_ok-judge_ground.ensures) in
    record { table_value = g.table; record_in_bounds = (omega (arith, g.room.productions, g.within.nodes), omega (arith, g.room.owns, g.within.nodes)) }

pub returns-then-record : goal.returns-then-record
returns-then-record c = held c.args.table.now (lent c.args.held.now c.args.held_owns.now c.args.sets.now c.args.earlier.now) c.args.«record» _ (sym c.in_ok-judge_ground.ensures) c.if-record.true c.judge_holding.ensures

pub returns : goal.returns
returns c = none_held c.args.table.now (lent c.args.held.now c.args.held_owns.now c.args.sets.now c.args.earlier.now) c.args.«record» (sym c.in_ok-judge_ground.ensures) c.if-record.false

pub returns-in_err-judge_ground : goal.returns-in_err-judge_ground
returns-in_err-judge_ground c = handed_number _ _ c.from_residual.ensures.1 _ (no_ground c.args.table.now (lent c.args.held.now c.args.held_owns.now c.args.sets.now c.args.earlier.now) c.args.«record» c.in_err-judge_ground.field-0.0 c.in_err-judge_ground.ensures)
