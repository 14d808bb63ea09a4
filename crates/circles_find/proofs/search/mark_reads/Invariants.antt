-- The search's front, with two looks a turn. Assumes nothing.
use Rattle.std.proofs.Common.{◌-◌, ◌≤◌, length, set}
use Rattle.circles_find.specs.Inner.Search.{Arg}
use Rattle.circles_find.proofs.Front.{Front, Done}
use Rattle.circles_find.proofs.search.mark_reads.Given as goal

abbrev pub invariant-loop-head : goal.invariant-loop-head
invariant-loop-head l =
    Front l.g.n (Arg l.g.n l.g.a.now l.g.b.now) l.s.okay.now l.s.k l.s.x (set l.fn.mark l.s.x l.s.x) l.mark l.queue l.tail
    × Done (Arg l.g.n l.g.a.now l.g.b.now) l.s.okay.now l.s.k l.s.x l.mark l.queue l.head
    × (l.head ≤ l.tail)
    × (l.tail ≤ length l.fn.mark)

abbrev pub decreases-loop-head : goal.decreases-loop-head
decreases-loop-head l = length l.fn.mark - l.head
