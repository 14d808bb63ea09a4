-- Every slot is asked, or one up to which all are sure is not. Assumes nothing.
use Rattle.std.proofs.Common.{ℕ, ◌≡◌, ◌<◌, ◌≤◌, Bool, List, MatchBool, length, get_or, subst, sym, refl, arith, rules, tests}
use Rattle.std.specs.List.{AllWithin, HoldsAt, range_with_len}
use Rattle.std.proofs.lemmas.Iterator.{cases_from_all, YieldsList-from_range}
use Rattle.std.proofs.lemmas.List.FromFn.{get_or-range_with_len, length-range_with_len}
use Rattle.std.proofs.lemmas.Bool.{MatchBool-at_true, MatchBool-at_false}
use Rattle.circles.specs.Arrays.{graph_of}
use Rattle.circles.specs.Graph.{Closed}
use Rattle.circles_order.specs.Inner.Turns.{Says}
use Rattle.bench_ranks.specs.Inner.Slots.{Sure}
use Rattle.bench_ranks.proofs.Closing.{closed_of, sure_of}
use Rattle.bench_ranks.proofs.is_closed.Goals as goal

says_closed : (n : ℕ) (a b : List ℕ) (r : Bool) → n ≤ length a → n ≤ length b
    → MatchBool r (AllWithin (Sure n a b) (range_with_len 0 n) 0 (length (range_with_len 0 n))) ((k : ℕ) × (k < length (range_with_len 0 n)) × HoldsAt (λ x. Sure n a b x → ⊥) (range_with_len 0 n) k)
    → Says (Closed (graph_of n a b)) r
says_closed n a b r la lb m =
    let all : length (range_with_len 0 n) ≡ n = length-range_with_len 0 n in
    let at : (x : ℕ) → x < n → get_or (range_with_len 0 n) x 0 ≡ x = λ x h. omega (arith, get_or-range_with_len 0 n x 0 h) in
    record {
      if_true = λ e. closed_of n a b la lb (λ x h. subst (Sure n a b) (at x h) (MatchBool-at_true _ _ e m x 0 (omega arith) (omega arith)));
      if_false = λ e C.
          let (x, h, unsure) = MatchBool-at_false _ _ e m in
          let xl : x < n = omega arith in
          unsure 0 (subst (Sure n a b) (sym (at x xl)) (sure_of n a b la lb C x xl));
    }

pub returns : goal.returns
returns c =
    let g = c.args.g in
    let S = Sure g.n g.a.now g.b.now in
    says_closed g.n g.a.now g.b.now c.all.result c.requires.1 c.requires.2
    (cases_from_all _ _ c.all.result S (λ x. S x → ⊥) c.all.ensures.ran (YieldsList-from_range 0 g.n g.n refl (omega arith)) (λ x q k. search (rules, tests)) (λ x q k. search (rules, tests)))
