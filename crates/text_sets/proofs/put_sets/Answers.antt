-- A turn stores its slot's line, so what is left to store is the rest. Assumes nothing.
use Rattle.std.proofs.Common.{◌+◌, ◌*◌, length, take, ap, sym, ◌∙◌, arith}
use Rattle.std.proofs.lemmas.List.Edits.{sets as sets_at}
use Rattle.text_sets.proofs.Slots.{rest, rest_all, rest_length, rest_none, stored_next}
use Rattle.text_sets.proofs.put_sets.Goals as goal

pub loop-x-init : goal.loop-x-init
loop-x-init c =
    let e = rest_all c.args.table.now (take c.args.nodes c.args.held.now) c.args.sets.now (8 * c.args.nodes) in
    record { behind = omega (arith, ap length e); stored = ap (sets_at c.args.buffer.now c.args.place) (sym e) }

pub put_slot-at-requires-clause-x_bound : goal.put_slot-at-requires-clause-x_bound
put_slot-at-requires-clause-x_bound c =
    let a = c.args in
    let l = c.loop-x in
    let r = rest_length a.table.now (take a.nodes a.held.now) a.sets.now (8 * a.nodes) l.x c.loop-x-test.true in
    (c.loop-x-test.true, omega (arith, c.requires.text_in_bounds, l.auto.buffer, l.invariant.behind))

pub loop-x-preserved : goal.loop-x-preserved
loop-x-preserved c =
    let a = c.args in
    let l = c.loop-x in
    let f = c.put_slot-at in
    let ns = take a.nodes a.held.now in
    let r = rest_length a.table.now ns a.sets.now (8 * a.nodes) l.x c.loop-x-test.true in
    record {
      behind = omega (arith, f.ensures.0, l.invariant.behind);
      stored = l.invariant.stored ∙ stored_next a.table.now ns a.sets.now (8 * a.nodes) l.x c.loop-x-test.true l.buffer l.at
          ∙ sym (λ i. sets_at (f.ensures.1 i) (f.ensures.0 i) (rest a.table.now ns a.sets.now (8 * a.nodes) (l.x + 1)));
    }

pub returns : goal.returns
returns c =
    let a = c.args in
    let l = c.loop-x in
    let n = rest_none a.table.now (take a.nodes a.held.now) a.sets.now (8 * a.nodes) l.x (omega arith) in
    (omega (arith, ap length n, l.invariant.behind), sym (l.invariant.stored ∙ ap (sets_at l.buffer l.at) n))
