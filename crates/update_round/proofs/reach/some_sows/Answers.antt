-- `some_sows`: point by point. Assumes nothing.
use Rattle.std.proofs.Common.{◌∙◌, rules, tests}
use Rattle.std.proofs.lemmas.Iterator.{YieldsList-from_slice}
use Rattle.std.proofs.lemmas.Iterator.Adapters.{serves_from_places}
use Rattle.std.proofs.lemmas.Iterator.Search.{any_from_yields_List}
use Rattle.wire.specs.Replaced.{sown_by}
use Rattle.update.specs.Records.{points_of}
use Rattle.update_round.proofs.Points.{numbers_at, any_some}
use Rattle.update_round.proofs.reach.some_sows.Goals as goal

pub any-requires-clause-callable : goal.any-requires-clause-callable
any-requires-clause-callable c =
    serves_from_places (YieldsList-from_slice (points_of c.args.r.now) cc) (λ x q h. search (rules, tests)) (λ x k h e _ _ _ _ _ _ _. numbers_at c.requires x.now k h e)

pub returns : goal.returns
returns c =
    any_from_yields_List (λ q. sown_by q.node q.count c.args.x) _ _ _ c.any.ensures.ran (YieldsList-from_slice (points_of c.args.r.now) cc) (λ q b f k. search (rules, tests))
    ∙ any_some (λ q. sown_by q.node q.count c.args.x) (points_of c.args.r.now)
