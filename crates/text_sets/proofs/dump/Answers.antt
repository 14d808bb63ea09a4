-- What a look at the held tree is refused by, then the text's room. Assumes nothing.
use Rattle.std.proofs.Common.{length, ap, sym, ◌∙◌, arith}
use Rattle.std.proofs.lemmas.List.Edits.{sets}
use Rattle.std.proofs.lemmas.Result.{err_from_is_err_and}
use Rattle.update.specs.Memories.{lent}
use Rattle.update_judge.proofs.Orders.{looked}
use Rattle.text_sets.proofs.Slots.{dump_told_lem, tellable}
use Rattle.text_sets.proofs.Answers.{dump_stopped, dump_short, dump_said}
use Rattle.text_sets.proofs.dump.Goals as goal

pub sets_length-requires : goal.sets_length-requires
sets_length-requires c =
    let a = c.args in
    let m = lent a.held.now a.held_owns.now a.sets.now a.earlier.now in
    let k = looked a.table.now m a.«record» (sym c.in_ok-judge_look.ensures) in
    tellable a.table.now m a.«record» k.footing k.tree

pub returns-then-text-sets_length : goal.returns-then-text-sets_length
returns-then-text-sets_length c =
    let a = c.args in
    let m = lent a.held.now a.held_owns.now a.sets.now a.earlier.now in
    let e = ap length (dump_told_lem a.table.now m a.«record») in
    dump_short a.table.now m a.«record» a.text.now (looked a.table.now m a.«record» (sym c.in_ok-judge_look.ensures)) (omega (arith, c.sets_length.ensures))

pub put_sets-requires-clause-tellable : goal.put_sets-requires-clause-tellable
put_sets-requires-clause-tellable c =
    let a = c.args in
    let m = lent a.held.now a.held_owns.now a.sets.now a.earlier.now in
    let k = looked a.table.now m a.«record» (sym c.in_ok-judge_look.ensures) in
    tellable a.table.now m a.«record» k.footing k.tree

pub returns : goal.returns
returns c =
    let a = c.args in
    let m = lent a.held.now a.held_owns.now a.sets.now a.earlier.now in
    let t = dump_told_lem a.table.now m a.«record» in
    let e = ap length t in
    dump_said a.table.now m a.«record» a.text.now (looked a.table.now m a.«record» (sym c.in_ok-judge_look.ensures)) (omega (arith, c.sets_length.ensures)) _ _ (omega (arith, c.put_sets.ensures.0)) (c.put_sets.ensures.1 ∙ ap (sets a.text.now 0) t)

pub returns-in_err-judge_look : goal.returns-in_err-judge_look
returns-in_err-judge_look c =
    let a = c.args in
    let m = lent a.held.now a.held_owns.now a.sets.now a.earlier.now in
    let e = c.in_err-judge_look in
    let p = err_from_is_err_and c.from_residual.result c.from_residual.ensures.1 in
    rw (p.1, p.2) (dump_stopped a.table.now m a.«record» a.text.now e.field-0.0 e.ensures)
