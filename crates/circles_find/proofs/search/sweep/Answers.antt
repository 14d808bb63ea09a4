-- One look, and on to the next place of the chain. Assumes nothing.
use Rattle.std.proofs.Common.{◌≡◌, ◌/◌, get_or, arith}
use Rattle.circles_find.specs.Inner.Search.{begin, look}
use Rattle.circles_find.proofs.Sweeps.{Seen, visited_kept, seen_more}
use Rattle.circles_find.proofs.Chains.{upto_start, chain_first, chain_next, arg_of_lem, at_readers}
use Rattle.circles_find.proofs.search.sweep.Goals as goal

pub loop-e-init : goal.loop-e-init
loop-e-init c = let s = c.args.s in (begin, upto_start (Seen s.x s.okay.now s.k c.args.mark.now) (chain_first c.requires.2 c.requires.1 c.from-e.ensures), c.requires.4)

pub loop-e-preserved : goal.loop-e-preserved
loop-e-preserved c =
    let g = c.args.g in
    let e = c.loop-e.e in
    let el = c.loop-e-test.true in
    let i = c.loop-e.invariant in
    let hit = i.1.hit el in
    let kept = visited_kept i.2 c.look-t.ensures in (
      look (e / 2) (arg_of_lem g.n g.a.now g.b.now e c.args.v c.requires.0 el c.requires.1 hit) i.0 c.look-t.ensures,
      seen_more c.from-e-in-loop-e.result el i.1 kept (chain_next c.requires.2 c.requires.1 el hit c.from-e-in-loop-e.ensures),
      kept.room,
    )

pub returns : goal.returns
returns c =
    let g = c.args.g in
    let s = c.args.s in
    let i = c.loop-e.invariant in
    record {
      looks = i.0;
      all = at_readers (λ y. get_or s.okay.now y 0 ≡ s.k → get_or c.loop-e.mark y 0 ≡ s.x) g.n g.a.now g.b.now c.args.v (λ e h₁ h₂ h₃. i.1.past e (omega (arith, c.loop-e-test.false, h₁)) h₁ h₂ h₃);
      room = i.2;
    }
