-- What a look at the held tree is refused by, then 12. Assumes nothing.
use Rattle.std.proofs.Common.{sym, ◌∙◌, arith}
use Rattle.refusal.proofs.Distinct.{handed}
use Rattle.update.specs.Memories.{lent}
use Rattle.engine.proofs.Answers.{look_refused, shaped, fits, numbered, inside, undeclared, read_said}
use Rattle.engine.proofs.reading.read.Goals as goal

pub is_declared-requires-clause-limits : goal.is_declared-requires-clause-limits
is_declared-requires-clause-limits c = shaped c.args.table.now (lent c.args.held.now c.args.held_owns.now c.args.sets.now c.args.earlier.now) c.args.«record» c.in_ok-judge_look.ensures

pub is_declared-requires-clause-numbered : goal.is_declared-requires-clause-numbered
is_declared-requires-clause-numbered c = numbered c.args.table.now (lent c.args.held.now c.args.held_owns.now c.args.sets.now c.args.earlier.now) c.args.«record» c.in_ok-judge_look.ensures

pub is_declared-requires-clause-nodes_in_bounds : goal.is_declared-requires-clause-nodes_in_bounds
is_declared-requires-clause-nodes_in_bounds c = fits c.args.table.now (lent c.args.held.now c.args.held_owns.now c.args.sets.now c.args.earlier.now) c.args.«record» c.in_ok-judge_look.ensures

pub offset_bounds-sets-instance : goal.offset_bounds-sets-instance
offset_bounds-sets-instance c = let l = inside c.args.table.now (lent c.args.held.now c.args.held_owns.now c.args.sets.now c.args.earlier.now) c.args.«record» c.in_ok-judge_look.ensures c.args.instance (sym c.is_declared.ensures ∙ c.if-not-is_declared.false) in omega arith

pub bounds-sets-instance : goal.bounds-sets-instance
bounds-sets-instance c = inside c.args.table.now (lent c.args.held.now c.args.held_owns.now c.args.sets.now c.args.earlier.now) c.args.«record» c.in_ok-judge_look.ensures c.args.instance (sym c.is_declared.ensures ∙ c.if-not-is_declared.false)

pub returns : goal.returns
returns c = read_said c.args.table.now (lent c.args.held.now c.args.held_owns.now c.args.sets.now c.args.earlier.now) c.args.«record» c.in_ok-judge_look.ensures c.args.instance (sym c.is_declared.ensures ∙ c.if-not-is_declared.false)

pub returns-then-not-is_declared : goal.returns-then-not-is_declared
returns-then-not-is_declared c = undeclared _ _ _ c.in_ok-judge_look.ensures c.args.instance (sym c.is_declared.ensures ∙ c.if-not-is_declared.true)

pub returns-in_err-judge_look : goal.returns-in_err-judge_look
returns-in_err-judge_look c = rw (handed _ _ c.from_residual.ensures.1) (look_refused _ _ _ _ _ c.in_err-judge_look.ensures)
