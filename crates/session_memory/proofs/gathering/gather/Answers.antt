-- The bytes that come, by their first LF. Assumes nothing.
use Rattle.std.proofs.Common.{◌+◌, Some, None, refl, sym, ◌∙◌}
use Rattle.session_memory.proofs.Bytes.{gathered_put}
use Rattle.session_memory.proofs.gathering.gather.Goals as goal
use Rattle.session_memory.proofs.gathering.gather.Goals.{in-Some, in-None}

pub returns : goal.returns
returns c =
    let a = c.args in
    let p = c.requires in
    elim c.match-end_of.branch [
      | in-Some w ↦
          rw w.taken-is
          (gathered_put a.piece.now a.from a.window.now a.begun p.0 p.1 p.2 _ _ c.min.ensures c.min-2.ensures _ refl (Some w.in-Some.i) (sym w.in-Some.is ∙ c.end_of.ensures) (w.in-Some.i + 1) refl _
          (rw w.taken-is at c.copy_from_slice.ensures.after))
      | in-None w ↦
          rw w.taken-is
          (gathered_put a.piece.now a.from a.window.now a.begun p.0 p.1 p.2 _ _ c.min.ensures c.min-2.ensures _ refl None (sym w.in-None.is ∙ c.end_of.ensures) _ refl _
          (rw w.taken-is at c.copy_from_slice.ensures.after))
    ]
