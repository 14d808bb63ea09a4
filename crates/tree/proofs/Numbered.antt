-- Every node's production number is below the count in a judged tree. Assumes nothing.
use mathlib.Core.Path.{◌≡◌}
use mathlib.Core.List.{List}
use Prim.Native.Nat.{ℕ}
use Rattle.tree.specs.Tree.{judge_nodes}
use Rattle.tree.specs.Numbered.{Numbered}
use Rattle.tree.proofs.Exchange.{sound_number}

pub judged_numbered : (t ns wanted : List ℕ) → judge_nodes t ns wanted ≡ 0 → Numbered t ns
judged_numbered t ns wanted h = record { below = sound_number t ns wanted h }
