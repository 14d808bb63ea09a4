-- What is promised of trees as text: what is written is read and what is read is written. Assumes nothing.
use Rattle.std.specs.Prelude.{◌≡◌, List, [], ◌∷◌, ◌++◌, ℕ, suc, ◌+◌, ◌^◌, ◌≤◌, ◌<◌, length, take, drop}
use Rattle.tree.specs.Refusals.{tree_refusal}
use Rattle.text_frame.specs.Laws.{lines_after}
use Rattle.text_tree.specs.Text.{tree_text}
use Rattle.text_tree.specs.Planting.{good, tree_at}
use Rattle.text_tree.specs.Growing.{planting_at}

-- nodes as memory has them: a byte and a set each
abbrev pub AllFit : List ℕ → List ℕ → Type 0
AllFit [] [] = Unit {0}
AllFit [] (o ∷ owns) = ⊥
AllFit (p ∷ ps) [] = ⊥
AllFit (p ∷ ps) (o ∷ owns) = (p < 2 ^ 8) × ((o < 2 ^ 64) × AllFit ps owns)

-- 21.7: a tree that is written reads back equal
abbrev pub TreeBack : Type 0
TreeBack = (ps owns rest : List ℕ) (line : ℕ) → AllFit ps owns → length ps < 2 ^ 16
    → tree_at (tree_text ps owns ++ rest) 0 line ≡ good ps owns (length (tree_text ps owns)) (lines_after (suc (length ps)) line)

-- 21.8: a text that is read as a tree is the tree's text
pub record TreeForth (s : List ℕ) (place : ℕ) (ps owns : List ℕ) (end : ℕ) : Type 0 where
  pub text : take (length (tree_text ps owns)) (drop place s) ≡ tree_text ps owns
  pub behind : end ≡ place + length (tree_text ps owns)
  pub fit : AllFit ps owns

-- 21.8: so is every text
abbrev pub TreeForthAll : Type 0
TreeForthAll = (s : List ℕ) (place line : ℕ) (ps owns : List ℕ) (end next : ℕ) → tree_at s place line ≡ good ps owns end next → TreeForth s place ps owns end

-- 21.7: a tree that may be written is read again into memory that has room for it
abbrev pub GrownBack : Type 0
GrownBack = (t ps owns rest : List ℕ) (line room room_owns : ℕ) → AllFit ps owns → tree_refusal t ps owns ≡ 0 → length ps ≤ room → length ps ≤ room_owns
    → planting_at t (tree_text ps owns ++ rest) 0 line room room_owns ≡ good ps owns (length (tree_text ps owns)) (lines_after (suc (length ps)) line)

-- 21.8: a text that is accepted over a table is the text of a tree that may be written
pub record GrownForth (t s : List ℕ) (place : ℕ) (ps owns : List ℕ) (end : ℕ) : Type 0 where
  pub tree : TreeForth s place ps owns end
  pub sound : tree_refusal t ps owns ≡ 0

-- 21.8: so is every text
abbrev pub GrownForthAll : Type 0
GrownForthAll = (t s : List ℕ) (place line room room_owns : ℕ) (ps owns : List ℕ) (end next : ℕ)
    → planting_at t s place line room room_owns ≡ good ps owns end next → GrownForth t s place ps owns end
