-- `take_piece`: the calls so far, and what is owed falls with the next. Assumes nothing.
use Rattle.std.proofs.Common.{length, drop}
use Rattle.session_memory.specs.Suspended.{owed_for}
use Rattle.session_serve.specs.Serving.{session_in}
use Rattle.session_serve.proofs.Amid.{Amid}
use Rattle.session_serve.proofs.take_piece.Given as goal

abbrev pub invariant-loop-fed : goal.invariant-loop-fed
invariant-loop-fed g l = Amid (session_in l.initial.memory l.initial.state) l.initial.out l.piece (session_in l.memory l.state) l.out l.place

abbrev pub decreases-loop-fed : goal.decreases-loop-fed
decreases-loop-fed g l = length (owed_for (session_in l.memory l.state) (drop l.place l.piece))
