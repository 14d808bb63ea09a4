-- The arm that is taken tells the awaited. Assumes nothing.
use native.Mathlib.Omega.{arith}
use borrow.Author.Rules.{rules}
use Rattle.text_table.proofs.Sofar.{awaits_so}
use Rattle.update.specs.Memories.{lent}
use Rattle.session_line.proofs.Cases.{by_table, by_command, by_naming, by_nodes, by_none}
use Rattle.session_line.proofs.Heard.{as_well, lent_as, silent}
use Rattle.session_line.proofs.hearing.hear.Goals as goal

pub hear_table-requires : goal.hear_table-requires
hear_table-requires c =
    let g = c.in-Table in
    let h = rw g.is at c.requires.table_len.1 in
    (c.requires.table_len.0, awaits_so c.args.table.now g.expected h.0, omega (arith, c.requires.parts_kept_in_bounds.2.room))

pub returns-in-Table : goal.returns-in-Table
returns-in-Table c =
    let a = c.args in
    let m = lent a.held.now a.held_owns.now a.sets.now a.earlier.now in
    let g = c.in-Table in
    as_well (by_table a.table.now a.parts.now a.part_owns.now m a.«record» a.frame a.line a.awaited g.expected g.is) (c.hear_table.ensures a.parts.now a.part_owns.now m)

pub returns-in-Command : goal.returns-in-Command
returns-in-Command c =
    let a = c.args in
    let m = lent a.held.now a.held_owns.now a.sets.now a.earlier.now in
    lent_as (search rules) (search rules) (search rules) (search rules) (search rules) (search rules)
    (as_well (by_command a.table.now a.parts.now a.part_owns.now m a.«record» a.frame a.line a.awaited c.in-Command.is) c.hear_command.ensures.heard)

pub returns-in-Naming : goal.returns-in-Naming
returns-in-Naming c =
    let a = c.args in
    let m = lent a.held.now a.held_owns.now a.sets.now a.earlier.now in
    let g = c.in-Naming in
    lent_as (search rules) (search rules) (search rules) (search rules) (search rules) (search rules)
    (as_well (by_naming a.table.now a.parts.now a.part_owns.now m a.«record» a.frame a.line a.awaited g.count g.taken g.command g.is) c.hear_point.ensures.heard)

pub returns-in-Nodes : goal.returns-in-Nodes
returns-in-Nodes c =
    let a = c.args in
    let m = lent a.held.now a.held_owns.now a.sets.now a.earlier.now in
    let g = c.in-Nodes in
    lent_as (search rules) (search rules) (search rules) (search rules) (search rules) (search rules)
    (as_well (by_nodes a.table.now a.parts.now a.part_owns.now m a.«record» a.frame a.line a.awaited g.coming g.count g.taken g.command g.is) c.hear_node.ensures.heard)

pub returns-in-Working : goal.returns-in-Working
returns-in-Working c =
    let a = c.args in
    let m = lent a.held.now a.held_owns.now a.sets.now a.earlier.now in
    as_well (by_none a.table.now a.parts.now a.part_owns.now m a.«record» a.frame a.line a.awaited c.in-Working.is) (silent a.table.now a.parts.now a.part_owns.now m a.«record» a.awaited a.printed a.out.now)
