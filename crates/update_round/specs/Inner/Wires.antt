-- The same of the wires and of the ranked circles. Assumes nothing.
use Rattle.std.specs.Prelude.{List, ℕ}
use Rattle.climb.specs.System.{System}
use Rattle.climb.specs.declared.Wires.{Wires}
use Rattle.update_round.specs.declared.Ranked.{Ranked}
use Rattle.update_round.specs.Inner.Arranged.{circles_in, Circles, Looks}
use Rattle.update_round.specs.Inner.Tests.{reading}

-- the circles of the graph that they hold, and its system of a due test
abbrev pub circles_by : Wires → List (List ℕ)
circles_by w = circles_in w.n w.a.now w.b.now

abbrev pub reading_by : Wires → System
reading_by w = reading w.n w.a.now w.b.now

-- the circles are ranked
abbrev pub CirclesBy : Wires → Ranked → Type 0
CirclesBy w r = Circles w.n w.a.now w.b.now r.label.now r.members.now r.ends.now r.count

-- what a due test reads has its place
abbrev pub LooksBy : Wires → List ℕ → List ℕ → List ℕ → Type 0
LooksBy w label earlier sets = Looks w.n w.a.now w.b.now label earlier sets
