-- The bytes that are gathered wait, or make a line that is heard. Assumes nothing.
use Rattle.std.proofs.lemmas.Bool.{not-true, not-false}
use Rattle.session_feed.specs.Inner.Kept.{memory_of}
use Rattle.session_feed.proofs.Faring.{sound_here, line_waits, line_heard}
use Rattle.session_feed.proofs.feeding.listen.Goals as goal

pub returns-then-not-g-clause-turns : goal.returns-then-not-g-clause-turns
returns-then-not-g-clause-turns c =
    let a = c.args in
    let k = a.kept.now in
    line_waits k.table.now k.window.now k.parts.now k.part_owns.now (memory_of k) a.state a.piece.now a.from a.out.now a.printed c.requires.0 c.requires.1 _ _ _ _ c.gather-g.ensures c.gather-g.auto.window (not-true _ c.if-not-g.true) c.requires.2

pub hear_line-told-requires-clause-table_len : goal.hear_line-told-requires-clause-table_len
hear_line-told-requires-clause-table_len c =
    let a = c.args in
    let k = a.kept.now in
    (c.requires.0.size, sound_here k.table.now k.window.now k.parts.now k.part_owns.now (memory_of k) a.state a.piece.now a.from a.out.now a.printed c.requires.0 c.requires.1)

pub returns-clause-turns : goal.returns-clause-turns
returns-clause-turns c =
    let a = c.args in
    let k = a.kept.now in
    let h = c.hear_line-told.ensures in
    rw h.window
    (line_heard k.table.now k.window.now k.parts.now k.part_owns.now (memory_of k) a.state a.piece.now a.from a.out.now a.printed c.requires.0 c.requires.1 _ _ _ _ c.gather-g.ensures c.gather-g.auto.window _ _ _ _ _ _ h.hears _ c.line_after.ensures
    (not-false _ c.if-not-g.false) c.requires.2)
