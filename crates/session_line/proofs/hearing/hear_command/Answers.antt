-- The arm that is taken tells the frame. Assumes nothing.
use mathlib.Core.Path.{refl}
use Rattle.session_line.specs.Lent.{memory_in}
use Rattle.session_line.proofs.Cases.{no_command, a_change, a_dump}
use Rattle.session_line.proofs.Heard.{as_well}
use Rattle.session_line.proofs.hearing.hear_command.Goals as goal

pub returns-in-Change-clause-heard : goal.returns-in-Change-clause-heard
returns-in-Change-clause-heard c =
    let a = c.args in
    let m = memory_in a.memory.now in
    as_well (a_change a.table.now a.parts.now.nodes.now a.parts.now.owns.now m a.«record» a.frame a.line c.in-Change.change c.in-Change.is) c.hear_change.ensures.heard

pub returns-in-Dump-clause-heard : goal.returns-in-Dump-clause-heard
returns-in-Dump-clause-heard c =
    let a = c.args in
    let m = memory_in a.memory.now in
    let e = c.tell_sets.ensures in
    as_well (a_dump a.table.now a.parts.now.nodes.now a.parts.now.owns.now m a.«record» a.frame a.line c.in-Dump.is) (record { awaited = e.0; next = e.1; place = e.2; shown = e.3; words_then = refl; parts_then = refl; owns_then = refl; memory = refl })

pub returns-in_default-clause-heard : goal.returns-in_default-clause-heard
returns-in_default-clause-heard c =
    let a = c.args in
    let m = memory_in a.memory.now in
    as_well (no_command a.table.now a.parts.now.nodes.now a.parts.now.owns.now m a.«record» a.frame a.line c.in_default.not-Change c.in_default.not-Dump) (c.stop_at.ensures a.table.now a.parts.now.nodes.now a.parts.now.owns.now m)
