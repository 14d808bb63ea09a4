-- The memory of a call as the code carries it: its buffers and the session that they hold. Assumes nothing.
use Rattle.std.specs.Prelude.{◌≡◌}
use Rattle.update.specs.Memories.{Memory, lent}
use Rattle.session_memory.specs.declared.State.{State}
use Rattle.session_memory.specs.Suspended.{Suspended, suspended}
use Rattle.session_feed.specs.declared.feeding.Kept.{Kept}

abbrev pub memory_of : Kept → Memory
memory_of k = lent k.held.now k.held_owns.now k.sets.now k.earlier.now

abbrev pub kept_with : Kept → State → Suspended
kept_with k = suspended k.table.now k.window.now k.parts.now k.part_owns.now (memory_of k)

-- the buffers are those that were lent
abbrev pub Same : Kept → Kept → Type 0
Same k l =
    (l.table.ghost_name ≡ k.table.ghost_name) × (l.window.ghost_name ≡ k.window.ghost_name) × (l.parts.ghost_name ≡ k.parts.ghost_name) × (l.part_owns.ghost_name ≡ k.part_owns.ghost_name)
    × (l.held.ghost_name ≡ k.held.ghost_name) × (l.held_owns.ghost_name ≡ k.held_owns.ghost_name) × (l.sets.ghost_name ≡ k.sets.ghost_name) × (l.earlier.ghost_name ≡ k.earlier.ghost_name)
