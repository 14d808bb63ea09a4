-- The line of a declared slot, none of another. Assumes nothing.
use Rattle.std.proofs.Common.{length, take, ap, sym, ◌∙◌, arith}
use Rattle.std.proofs.lemmas.List.Edits.{sets}
use Rattle.climb.specs.Memory.{at}
use Rattle.text_sets.proofs.Slots.{slot_told, slot_empty, set_length}
use Rattle.text_sets.proofs.put_slot.Goals as goal

pub put_set-requires : goal.put_set-requires
put_set-requires c =
    let a = c.args in
    let e = ap length (slot_told a.table.now (take a.nodes a.held.now) a.sets.now a.x (sym c.is_declared.ensures ∙ c.if-is_declared.true)) ∙ set_length a.x (at a.sets.now a.x) in
    omega (arith, c.requires.x_bound.1)

pub returns-then-is_declared : goal.returns-then-is_declared
returns-then-is_declared c =
    let a = c.args in
    let t = slot_told a.table.now (take a.nodes a.held.now) a.sets.now a.x (sym c.is_declared.ensures ∙ c.if-is_declared.true) in
    let e = ap length t ∙ set_length a.x (at a.sets.now a.x) in
    (omega (arith, c.put_set.ensures.0), c.put_set.ensures.1 ∙ ap (sets a.buffer.now a.place) (sym t))

pub returns-else-is_declared : goal.returns-else-is_declared
returns-else-is_declared c =
    let a = c.args in
    let e = slot_empty a.table.now (take a.nodes a.held.now) a.sets.now a.x (sym c.is_declared.ensures ∙ c.if-is_declared.false) in
    (omega (arith, ap length e), ap (sets a.buffer.now a.place) (sym e))
