-- What the test for 21 finds: in a table without operation 9 nothing, and of a tree as it would be its nodes in memory of their own. Assumes nothing.
use mathlib.Core.Path.{◌≡◌, ap, sym, ◌∙◌}
use mathlib.Core.Bool.{false}
use mathlib.Core.List.{List, ◌++◌}
use Prim.Native.Nat.{ℕ, ◌≤◌}
use lib.ListN.{length, take}
use lib.Seq.{take-length, take_at}
use Rattle.table.specs.Words.{production_count}
use Rattle.table.proofs.Limits.{limits}
use Rattle.tree.specs.declared.Cuts.{Cuts}
use Rattle.wire.specs.Inner.Turns.{Held}
use Rattle.wire.specs.Waivers.{waives}
use Rattle.wire.proofs.Waivers.{plain_free}
use Rattle.wire_plan.proofs.Nines.{none_nine}
use Rattle.wire_plan.specs.Inner.Nines.{nine_in}
use Rattle.update_place.specs.Inner.Pieces.{spliced_by}

-- a table without operation 9 has no tree that waives
pub without_nine : (t ns : List ℕ) → Held t ns → nine_in t ≡ false → waives t ns ≡ false
without_nine t ns h e = plain_free t ns h.judged h.sound (none_nine t h.judged e)

pub held_productions : (t ns : List ℕ) → Held t ns → production_count t ≤ 64
held_productions t ns h = (limits t h.judged).productions

-- nodes that are spliced to the front of a buffer stand there
module _ (cs : Cuts) (new ns : List ℕ) where
  pub whole : spliced_by cs new (take (length ns) ns) ≡ spliced_by cs new ns
  whole = ap (spliced_by cs new) (take-length ns)

  pub spliced_there : (rest e : List ℕ) (n : ℕ) → n ≡ length (spliced_by cs new (take (length ns) ns)) → e ≡ spliced_by cs new (take (length ns) ns) ++ rest → take n e ≡ spliced_by cs new ns
  spliced_there rest e n h g = ap (take n) g ∙ take_at (spliced_by cs new (take (length ns) ns)) rest n (sym h) ∙ whole

-- what the test for 21 is proved by
pub ruleset waiving = (without_nine, held_productions)
