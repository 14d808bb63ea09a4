-- What a session lends for its commands. Assumes nothing.
use Rattle.std.specs.Prelude.{◌≡◌, ◌≤◌, length}
use Rattle.update.specs.Memories.{lent, Memory}
use Rattle.session_owed.specs.Owed.{owns_kept, parts_kept}
use Rattle.session_line.specs.declared.lent.Lent.{Lent}
use Rattle.session_line.specs.declared.lent.Parts.{Parts}

-- the memory of the held tree
abbrev pub memory_in : Lent → Memory
memory_in m = lent m.held.now m.held_owns.now m.sets.now m.earlier.now

-- 20.8: 513 nodes have a place, and eight points
abbrev pub Holds : Parts → Type 0
Holds p = (parts_kept ≤ length p.nodes.now) × (owns_kept ≤ length p.owns.now)

-- the buffers are the same ones still
pub record Same (m m' : Lent) : Type 0 where
  pub held : m'.held.ghost_name ≡ m.held.ghost_name
  pub held_owns : m'.held_owns.ghost_name ≡ m.held_owns.ghost_name
  pub sets : m'.sets.ghost_name ≡ m.sets.ghost_name
  pub earlier : m'.earlier.ghost_name ≡ m.earlier.ghost_name

pub record SameParts (p p' : Parts) : Type 0 where
  pub nodes : p'.nodes.ghost_name ≡ p.nodes.ghost_name
  pub owns : p'.owns.ghost_name ≡ p.owns.ghost_name
