-- The looks along the chain of readers, up to where it stands. Assumes nothing.
use Rattle.std.proofs.Common.{◌-◌, ◌*◌}
use Rattle.circles_find.specs.Inner.Search.{Looks, Room, Back, Arg, arg_of}
use Rattle.circles_find.proofs.Sweeps.{Seen}
use Rattle.circles_find.proofs.Chains.{Upto}
use Rattle.circles_find.proofs.search.sweep.Given as goal

abbrev pub invariant-loop-e : goal.invariant-loop-e
invariant-loop-e l =
    Looks l.g.n (Back (Arg l.g.n l.g.a.now l.g.b.now) l.v) l.s.x l.s.okay.now l.s.k l.initial.mark l.initial.queue l.tail l.mark l.queue l.t
    × Upto (arg_of l.g.a.now l.g.b.now) (2 * l.g.n) l.v (Seen l.s.x l.s.okay.now l.s.k l.mark) l.e
    × Room l.g.n l.s.x l.mark l.queue l.t

abbrev pub decreases-loop-e : goal.decreases-loop-e
decreases-loop-e l = 2 * l.g.n - l.e
