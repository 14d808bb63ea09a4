-- Rounds, nothing behind the end, or a line. Assumes nothing.
use Rattle.session_feed.specs.Inner.Kept.{memory_of}
use Rattle.session_feed.proofs.Faring.{sound_here, rounds_told, over}
use Rattle.session_feed.proofs.feeding.turn.Goals as goal

pub work-told-requires-clause-going : goal.work-told-requires-clause-going
work-told-requires-clause-going c =
    let a = c.args in
    let k = a.kept.now in
    rw c.in-Working.is at (sound_here k.table.now k.window.now k.parts.now k.part_owns.now (memory_of k) a.state a.piece.now a.from a.out.now a.printed c.requires.0 c.requires.1)

pub returns-in-Working-clause-turns : goal.returns-in-Working-clause-turns
returns-in-Working-clause-turns c =
    let a = c.args in
    let k = a.kept.now in
    rw c.work-told.ensures.unchanged.0
    (rounds_told k.table.now k.window.now k.parts.now k.part_owns.now (memory_of k) a.state a.piece.now a.from a.out.now a.printed c.requires.0 c.requires.1 c.in-Working.turns c.in-Working.is _ _ _ c.work-told.ensures.told)

pub returns-in-Stopped-clause-turns : goal.returns-in-Stopped-clause-turns
returns-in-Stopped-clause-turns c =
    let a = c.args in
    let k = a.kept.now in
    over k.table.now k.window.now k.parts.now k.part_owns.now (memory_of k) a.state a.piece.now a.from a.out.now a.printed c.requires.0 c.requires.1 c.in-Stopped.is
