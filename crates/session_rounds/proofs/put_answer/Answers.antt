-- Each answer's numbers fit its line. Assumes nothing.
use mathlib.Core.Path.{◌∙◌}
use Rattle.session_rounds.proofs.Answering.{byte_of, round_put, done_put}
use Rattle.session_rounds.proofs.put_answer.Goals as goal

pub returns-in-Round : goal.returns-in-Round
returns-in-Round c = round_put c.args.out.now c.args.printed c.put_round.ensures.0 _ _ _ _ _ c.in-Round.is (c.from.ensures ∙ byte_of _) c.put_round.ensures.1

pub returns-in-Done : goal.returns-in-Done
returns-in-Done c = done_put c.args.out.now c.args.printed c.put_done.ensures.0 _ _ _ c.in-Done.is c.put_done.ensures.1
