-- What the wires hold, and what the code asks of them: the same as of their arrays. Assumes nothing.
use Rattle.std.specs.Prelude.{List, ℕ, length}
use Rattle.climb.specs.System.{System}
use Rattle.climb.specs.Inner.Wired.{wired, Row, Rows, Wiring}
use Rattle.climb.specs.declared.Wires.{Wires}

-- the system that they hold
abbrev pub wired_by : List ℕ → List ℕ → Wires → System
wired_by t owns w = wired w.n t owns w.a.now w.b.now w.left.now w.rule.now

-- x has its row
abbrev pub RowBy : List ℕ → Wires → ℕ → Type 0
RowBy owns w x = Row owns w.a.now w.b.now w.left.now w.rule.now w.n x

-- and so has each member of a circle
abbrev pub RowsBy : List ℕ → Wires → List ℕ → Type 0
RowsBy owns w circle = Rows owns w.a.now w.b.now w.left.now w.rule.now circle w.n 0 (length circle)

-- and each declared slot
abbrev pub WiringBy : List ℕ → Wires → Type 0
WiringBy owns w = Wiring owns w.a.now w.b.now w.left.now w.rule.now w.n
