-- The text of a dump, slot by slot. Assumes nothing.
use Rattle.std.specs.Prelude.{cond, List, [], map, ℕ, ◌*◌, ◌≤◌, length, take}
use Rattle.table.specs.Limits.{Limits}
use Rattle.circles.specs.Ranked.{keep, up_from}
use Rattle.climb.specs.Memory.{at}
use Rattle.wire.specs.Instances.{declared}
use Rattle.tree.specs.Numbered.{Numbered}
use Rattle.text_frame.specs.Out.{Held, set_text, dump_text}
use Rattle.tree.specs.Tree.{nodes_most}

-- an instance and its value
abbrev pub held_in : List ℕ → ℕ → Held
held_in sets x = record { instance = x; value = at sets x }

-- 18.2: the lines of n slots from x on, of the tree ns: one for each that is declared
unfoldable pub told_from : List ℕ → List ℕ → List ℕ → ℕ → ℕ → List ℕ
told_from t ns sets x n = dump_text (map (held_in sets) (keep (declared t ns) (up_from x n)))

-- 18.2: a slot's line, or none
unfoldable pub slot_text : List ℕ → List ℕ → List ℕ → ℕ → List ℕ
slot_text t ns sets x = cond (declared t ns x) (set_text x (at sets x)) []

-- what is known of the tree of the first nodes, and of its sets
pub record Tellable (t held sets : List ℕ) (nodes : ℕ) : Type 0 where
  pub limits : Limits t
  pub numbered : Numbered t (take nodes held)
  pub few : nodes ≤ nodes_most
  pub long : nodes ≤ length held
  pub slots : 8 * nodes ≤ length sets
