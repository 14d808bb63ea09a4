-- Each node of a tree but the first is one child of one node. Assumes nothing.
use mathlib.Core.Path.{ap, ◌∙◌}
use mathlib.Core.List.{[], ◌∷◌}
use Rattle.tree.specs.Owner.{owner}
use Rattle.tree.specs.Parents.{ParentsLaw}
use Rattle.tree.proofs.Owner.{owner_child, one_parent, parent_of}
use Rattle.tree.proofs.Symbols.{child_below, child_symbol, root_symbol}

pub parents : ParentsLaw
parents t ns s e = record {
  root = root_symbol t ns s e;
  each = parent_of t ns s e;
  one = λ c d. one_parent t ns (s ∷ []) e c d;
  computed = λ {q} {k} {m} c. ap (owner t ns) c.place ∙ owner_child t ns (s ∷ []) e q k c.below c.within;
  below = λ c. child_below t ns s e c;
  symbol = λ c. child_symbol t ns s e c;
}
