-- The words' counts are added up. Assumes nothing.
use mathlib.Core.Path.{◌≡◌, ap, sym, ◌∙◌}
use Prim.Native.Nat.{ℕ, ◌+◌, ◌-◌, ◌^◌}
use native.Mathlib.Omega.{arith}
use borrow.Author.Rules.{rules}
use lib.ListN.{take, drop, length-take}
use Rattle.std.specs.List.{sum_by}
use Rattle.std.proofs.lemmas.Iterator.{YieldsList-from_map, YieldsList-from_slice}
use Rattle.std.proofs.lemmas.Iterator.Adapters.{fits_from_length, at_most_from_yields_List}
use Rattle.std.proofs.lemmas.Iterator.Consumers.{YieldsList-at, sum_by_from_yields_List}
use Rattle.session_owed.proofs.Words.{count_of, named_sum}
use Rattle.session_owed.proofs.points.announced_in.Goals as goal

pub sum-requires-clause-fits : goal.sum-requires-clause-fits
sum-requires-clause-fits c =
    fits_from_length _ _ 8 (2 ^ 64)
    (at_most_from_yields_List (YieldsList-at c.map.ensures.source (YieldsList-from_slice _ c.iter.ensures.rest)) (omega (arith, length-take {A = ℕ})))
    c.map.ensures.closure (omega arith) (λ x r q k. search rules)

pub returns : goal.returns
returns c =
    let words = drop 513 c.args.part_owns.now in
    let m : 513 + c.min.result - 513 ≡ c.min.result = omega arith in
    let road = YieldsList-at c.map.ensures.source (YieldsList-from_slice (take c.min.result words) (c.iter.ensures.rest ∙ ap (λ n. take n words) m)) in
    sum_by_from_yields_List count_of (take c.min.result words) c.map.result c.sum.result c.sum.ensures.ran (YieldsList-from_map _ count_of road c.map.ensures.closure (λ x r q k. search rules))
    ∙ ap (λ n. sum_by count_of (take n words)) c.min.ensures
    ∙ sym (named_sum c.args.taken c.args.part_owns.now)
