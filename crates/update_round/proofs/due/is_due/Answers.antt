-- `is_due`: member by member. Assumes nothing.
use Rattle.std.proofs.Common.{ℕ, Bool, ◌||◌, get_or, ◌∙◌, rules, tests}
use Prim.Native.Nat.{◌<◌, zero-le}
use Rattle.std.proofs.lemmas.List.{get_or_default}
use Rattle.std.proofs.lemmas.Iterator.{YieldsList-from_slice}
use Rattle.std.proofs.lemmas.Iterator.Adapters.{serves_from_places}
use Rattle.std.proofs.lemmas.Iterator.Search.{any_from_yields_List}
use Rattle.circles.specs.Arrays.{given}
use Rattle.circles.specs.Ranked.{any_of}
use Rattle.climb.specs.Memory.{at}
use Rattle.update.specs.Steps.{sown_of}
use Rattle.update_round.specs.Inner.Tests.{moved_in, due_in}
use Rattle.climb.proofs.Lists.{any_is}
use Rattle.update_round.proofs.due.is_due.Goals as goal

pub any-requires-clause-callable : goal.any-requires-clause-callable
any-requires-clause-callable c =
    serves_from_places (YieldsList-from_slice c.args.circle.now cc) (λ x q h. search (rules, tests)) (λ x k h e. let l : x.now < c.args.wires.n = rw (e ∙ get_or_default c.args.circle.now k x.now 0 h) (c.requires.span.inside k zero-le h) in search rules)

pub returns : goal.returns
unfolding due_in
returns c =
    let g = c.args in
    let w = g.wires in
    let f : ℕ → Bool = λ x. sown_of g.r.now x || any_of (moved_in g.label.now (at g.earlier.now) (at g.sets.now) (get_or g.circle.now 0 0)) (given w.n (get_or w.a.now x 65534) (get_or w.b.now x 65534)) in
    any_from_yields_List f _ _ _ c.any.ensures.ran (YieldsList-from_slice g.circle.now cc) (λ x b q k. search (rules, tests)) ∙ any_is f g.circle.now
