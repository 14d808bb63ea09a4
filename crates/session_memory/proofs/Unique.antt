-- No second answer or buffer fits what a session's start and end say: each is an equation. Assumes nothing.
use Rattle.refusal.proofs.Fitting.{only_equal, only_both}
use Rattle.session_memory.specs.Suspended.{first_state}
use Rattle.session_memory.specs.Ending.{finish_answer, finish_out}
use Rattle.session_memory.specs.Unique.{EndsOne}

pub ends_one : EndsOne
ends_one = record { start = only_equal first_state; finish = λ s out. only_both (finish_answer s out) (finish_out s out) }
