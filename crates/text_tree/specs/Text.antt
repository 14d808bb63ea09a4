-- The text of a tree. Assumes nothing.
use Rattle.std.specs.Prelude.{ℕ, List, [], ◌∷◌, ◌++◌, length}
use Rattle.text_frame.specs.Text.{text_of}
use Rattle.text_frame.specs.declared.Frame.TheVariants.{Node, Change}
use Rattle.text_frame.specs.declared.Change.TheVariants.{Load}

-- 17.4: the text of nodes, a `05` each
unfoldable pub nodes_text : List ℕ → List ℕ → List ℕ
nodes_text [] owns = []
nodes_text (p ∷ ps) [] = []
nodes_text (p ∷ ps) (o ∷ owns) = text_of (Node p o) ++ nodes_text ps owns

-- 21.1: the text of a tree: a `06` that counts its nodes, and these
unfoldable pub tree_text : List ℕ → List ℕ → List ℕ
tree_text ps owns = text_of (Change (Load (length ps))) ++ nodes_text ps owns
