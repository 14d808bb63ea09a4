-- `all_spare`: point by point. Assumes nothing.
use Rattle.std.proofs.Common.{◌∙◌, rules, tests}
use Rattle.std.proofs.lemmas.Iterator.{YieldsList-from_slice}
use Rattle.std.proofs.lemmas.Iterator.Adapters.{serves_from_places}
use Rattle.std.proofs.lemmas.Iterator.Search.{all_from_yields_List}
use Rattle.tree.specs.Points.{survives_at}
use Rattle.update.specs.Records.{points_of}
use Rattle.update_round.proofs.Points.{numbers_at, all_every}
use Rattle.update_round.proofs.reach.all_spare.Goals as goal

pub all-requires-clause-callable : goal.all-requires-clause-callable
all-requires-clause-callable c =
    serves_from_places (YieldsList-from_slice (points_of c.args.r.now) cc) (λ x q h. search (rules, tests)) (λ x k h e _ _ _ _ _ _ _. numbers_at c.requires x.now k h e)

pub returns : goal.returns
returns c =
    all_from_yields_List (λ q. survives_at q c.args.node) _ _ _ c.all.ensures.ran (YieldsList-from_slice (points_of c.args.r.now) cc) (λ q b f k. search (rules, tests))
    ∙ all_every (λ q. survives_at q c.args.node) (points_of c.args.r.now)
