-- What the search's front says of a turn, of its start and of its end. Assumes nothing.
use Rattle.std.proofs.Common.{ℕ, ◌≡◌, ◌<◌, get_or, arith, sym, subst, ap, ◌∙◌}
use lib.ListN.{length-set}
use Rattle.circles_find.proofs.Front.{done_kept, started, ended, found_before, front_le, done_more, lone}
use Rattle.circles_find.proofs.Sweeps.{looks_front}
use Rattle.circles_find.proofs.search.mark_readers.Goals as goal

pub loop-head-init : goal.loop-head-init
loop-head-init c =
    let r = c.requires.n_le_slots_most in
    (rw c.from.ensures (started c.args.queue.now r.3 r.4 r.2), record { all = λ i l. absurd (omega arith) }, omega arith, omega (arith, r.2.small))

pub loop-head-preserved : goal.loop-head-preserved
loop-head-preserved c =
    let l = c.loop-head in
    let q = l.invariant.0.queued l.head c.loop-head-test.true in
    let v = c.from-in-loop-head.result in
    let e = c.from-in-loop-head.ensures in
    let small : v < c.args.g.n = subst (λ (u : ℕ). u < c.args.g.n) (sym e) q.0 in
    let marked : get_or l.mark v 0 ≡ c.args.s.x = ap (λ (u : ℕ). get_or l.mark u 0) e ∙ q.1 in
    let w = c.sweep-tail.ensures in
    let swept = looks_front l.invariant.0 small marked (λ y h yl. h) w.looks in (
      swept.0,
      done_more v (swept.1.same l.head c.loop-head-test.true ∙ sym e) (λ z h. w.all z h.0 h.1) (done_kept l.invariant.2 swept.1 l.invariant.1),
      omega (arith, swept.1.longer, c.loop-head-test.true),
      omega (arith, front_le swept.0, length-set c.args.mark.now c.args.s.x c.args.s.x),
    )

pub returns : goal.returns
returns c = let i = c.loop-head.invariant in (found_before (ended c.requires.n_le_slots_most.2.small (λ u v e. e.0) i.0 i.1 c.loop-head-test.false), lone i.0)
