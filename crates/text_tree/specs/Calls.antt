-- What each public call on a tree's text says: its contract cites the relation, and so does the theorem that no second answer fits it. Assumes nothing.
use Rattle.std.specs.Prelude.{◌≡◌, List, ℕ, length, Result}
use Rattle.tree.specs.Refusals.{tree_refusal}
use Rattle.refusal.specs.declared.Refusal.{Refusal}
use Rattle.text_frame.specs.declared.Misread.{Misread}
use Rattle.text_tree.specs.Text.{tree_text}
use Rattle.text_tree.specs.Written.{written_of, buffer_after}
use Rattle.text_tree.specs.Growing.{planting_at, tree_answer, productions_after, owns_after}
use Rattle.text_tree.specs.declared.ReadTree.{ReadTree}

-- 15.12, 21.1: `write_tree`: the answer, and what the buffer holds then
abbrev pub WriteTreeSays : List ℕ → List ℕ → List ℕ → List ℕ → Result ℕ Refusal → List ℕ → Type 0
WriteTreeSays t ns owns buffer a buffer' =
    (a ≡ written_of (tree_refusal t ns owns) (length buffer) (tree_text ns owns)) × (buffer' ≡ buffer_after (tree_refusal t ns owns) buffer (tree_text ns owns))

-- 15.14, 21.4: `read_tree`: the answer, and what the lent nodes and own sets are then
abbrev pub ReadTreeSays : List ℕ → List ℕ → ℕ → ℕ → List ℕ → List ℕ → Result ReadTree Misread → List ℕ → List ℕ → Type 0
ReadTreeSays t s place line ns owns a ns' owns' =
    (a ≡ tree_answer (planting_at t s place line (length ns) (length owns)))
    × ((ns' ≡ productions_after (planting_at t s place line (length ns) (length owns)) ns) × (owns' ≡ owns_after (planting_at t s place line (length ns) (length owns)) owns))
