-- Operations 2 to 8 read a, 4 to 7 read b; a field that is not read leads to the mark. Assumes nothing.
use native.Mathlib.Omega.{arith}
use Rattle.table.specs.Equations.{op_number}
use Rattle.wire.proofs.Reading.{first_within, second_within, first_named, second_named}
use Rattle.wire.proofs.reads_in.Goals as goal

pub bounds-head : goal.bounds-head
unfolding op_number
bounds-head c = omega (arith, c.requires.head_bound)

pub bounds-named-fields : goal.bounds-named-fields
unfolding op_number
bounds-named-fields c = let h = c.requires in first_within c.args.named.now c.args.head h.named_value h.head_bound h.a_fits h.b_fits

pub bounds-named-fields-2 : goal.bounds-named-fields-2
unfolding op_number
bounds-named-fields-2 c = let h = c.requires in second_within c.args.named.now c.args.head h.named_value h.head_bound h.a_fits h.b_fits

pub returns-clause-first_value : goal.returns-clause-first_value
unfolding op_number
returns-clause-first_value c = let h = c.requires in first_named c.args.named.now c.args.head h.named_value h.head_bound h.a_fits h.b_fits

pub returns-clause-second_value : goal.returns-clause-second_value
unfolding op_number
returns-clause-second_value c = let h = c.requires in second_named c.args.named.now c.args.head h.named_value h.head_bound h.a_fits h.b_fits
