-- The program's session starts as a session does. Assumes nothing.
use Rattle.session.specs.Session.{own_memory}
use Rattle.session_feed.specs.Laws.{first_out}
use Rattle.session_feed.proofs.Beginning.{program_starts}
use Rattle.session_serve.proofs.serve.Goals as goal

pub take_pieces-requires : goal.take_pieces-requires
unfolding first_out own_memory
take_pieces-requires g c = rw c.start.ensures program_starts
