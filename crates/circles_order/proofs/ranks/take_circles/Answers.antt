-- The circle that is pulled is laid out, and what reads it is touched; where none is pulled the ranking is at its end. Assumes nothing.
use Rattle.std.proofs.Common.{ℕ, ◌≡◌, suc, ◌+◌, ◌-◌, set, arith, sym, ap, subst, ◌∙◌}
use mathlib.Core.Path.{subst₃}
use lib.ListN.{length-set}
use Rattle.circles.specs.Arrays.{graph_of}
use Rattle.circles.specs.Ranked.{ranking, labels_of}
use Rattle.circles.proofs.Ranking.{ranking_zero}
use Rattle.circles_order.specs.Inner.Turns.{Listed}
use Rattle.circles_order.proofs.Going.{Going, covered, going_first, going_room, going_more, going_end, listed_first, stops}
use Rattle.circles_order.proofs.Taking.{lead, cursors_then, turn_then}
use Rattle.circles_order.proofs.ranks.take_circles.Goals as goal

pub loop-count-init : goal.loop-count-init
loop-count-init c =
    let s = c.args in
    let g = s.g in
    (c.requires.turn.0, going_first g.n g.a.now g.b.now s.taken.now s.members.now s.ends.now (omega (arith, c.requires.n_in_bounds.1)) c.requires.turn.1)

pub returns-in_default : goal.returns-in_default
returns-in_default c =
    let g = c.args.g in
    let G = graph_of g.n g.a.now g.b.now in
    let p = c.requires.given in
    let l = c.loop-count in
    let i = l.invariant.1 in
    let last = g.n - l.count - 1 in
    listed_first (going_end i
    (ap (λ (u : ℕ). ranking u G (labels_of G) i.tk) (let z : g.n - l.count ≡ suc last = omega (arith, c.loop-count-test.true) in z)
    ∙ stops p.0 p.1 p.2 i.same l.invariant.0 c.in_default.ensures p.0.few last))

pub lay_circle-pos-requires : goal.lay_circle-pos-requires
lay_circle-pos-requires c =
    let p = c.requires.given in
    let i = c.loop-count.invariant in
    let q = c.in-Some.ensures in
    let w = lead p.1 i.0 q.0 q.1 in
    (p.1, w.0, w.1, omega (arith, going_room p.0 p.1 p.2 i.0 q.1 i.1 w.0, c.loop-count.auto.members, c.requires.n_in_bounds.0))

pub overflow_cast-ends : goal.overflow_cast-ends
overflow_cast-ends c =
    let p = c.requires.given in
    let i = c.loop-count.invariant in
    let q = c.in-Some.ensures in
    omega (arith, going_room p.0 p.1 p.2 i.0 q.1 i.1 (lead p.1 i.0 q.0 q.1).0, c.lay_circle-pos.ensures.1, p.0.few)

pub retire_circle-requires-clause-l_lt_n : goal.retire_circle-requires-clause-l_lt_n
retire_circle-requires-clause-l_lt_n c =
    let p = c.requires.given in
    let i = c.loop-count.invariant in
    let q = c.in-Some.ensures in
    ((lead p.1 i.0 q.0 q.1).0, p.3, p.1, covered p.0 p.2, simp length-set i.0.flags)

pub retire_circle-requires-clause-cursors : goal.retire_circle-requires-clause-cursors
retire_circle-requires-clause-cursors c =
    let p = c.requires.given in
    let i = c.loop-count.invariant in
    let q = c.in-Some.ensures in
    (cursors_then p.1 i.0 q.0 q.1, q.1.bits, (lead p.1 i.0 q.0 q.1).1)

pub loop-count-preserved : goal.loop-count-preserved
loop-count-preserved c =
    let s = c.args in
    let g = s.g in
    let p = c.requires.given in
    let l = c.loop-count in
    let q = c.in-Some.ensures in
    let d = c.lay_circle-pos.ensures in
    let r = c.retire_circle.ensures in (
      turn_then p.1 l.invariant.0 q.0 q.1 (covered p.0 p.2) r.0 r.1,
      subst₃ (λ m e v. Going g.n g.a.now g.b.now (set l.taken c.in-Some.l 1) s.members.now (set s.ends.now 0 0) m (set l.ends (l.count + 1) e) (l.count + 1) v) (sym d.0) (sym d.1) (sym d.1)
          (going_more p.0 p.1 p.2 l.invariant.0 q.1 l.invariant.1 (lead p.1 l.invariant.0 q.0 q.1).0 c.loop-count-test.true c.requires.n_in_bounds.0 (omega (arith, length-set s.ends.now 0 0, c.requires.n_in_bounds.1))),
    )

pub returns : goal.returns
returns c =
    let s = c.args in
    let g = s.g in
    let G = graph_of g.n g.a.now g.b.now in
    let l = c.loop-count in
    let i = l.invariant.1 in
    let all : l.count ≡ g.n = omega arith in
    subst (λ (u : ℕ). Listed G s.members.now s.ends.now l.members l.ends u) all
    (listed_first (going_end i (ap (λ (u : ℕ). ranking u G (labels_of G) i.tk) (let z : g.n - l.count ≡ 0 = omega arith in z) ∙ ranking_zero G (labels_of G) i.tk)))
