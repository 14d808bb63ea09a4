-- What a replacement keeps: the tree stays one, and places, ends, children and parents correspond under the renumbering. Assumes nothing.
use Rattle.std.specs.Prelude.{ℕ, ◌+◌, ◌≤◌, ◌<◌, ◌≡◌, List, [], ◌∷◌, length, get_or}
use Rattle.table.specs.Words.{left_of}
use Rattle.tree.specs.Tree.{judge_nodes, span_end, child_at, Child}
use Rattle.tree.specs.Moved.{Moved, Outer}
use Rattle.tree.specs.Replace.{exchanged, part}

-- 9.1, 9.4: the nodes once `new` stands in the place of r's subtree
abbrev pub after : List ℕ → List ℕ → List ℕ → ℕ → List ℕ
after t ns new r = exchanged ns r (part t ns r) new

-- 9.4: where the places go, and those of the nodes outside the part
abbrev pub Goes : List ℕ → List ℕ → List ℕ → ℕ → ℕ → ℕ → Type 0
Goes t ns new r = Moved r (part t ns r) (length new)

abbrev pub Around : List ℕ → List ℕ → List ℕ → ℕ → ℕ → ℕ → Type 0
Around t ns new r = Outer r (part t ns r) (length new)

-- 9.4: how the tree afterwards corresponds to the one before
pub record Replacement (t ns new : List ℕ) (w r : ℕ) : Type 0 where
  pub sound : judge_nodes t (after t ns new r) (w ∷ []) ≡ 0
  pub size : length (after t ns new r) + part t ns r ≡ length ns + length new
  pub some : 0 < part t ns r
  pub fits : r + part t ns r ≤ length ns
  -- a node outside the part keeps its production, and r's place its symbol too
  pub node : {q q' : ℕ} → Around t ns new r q q' → get_or ns q 0 ≡ get_or (after t ns new r) q' 0
  pub symbol : {m m' : ℕ} → Goes t ns new r m m' → left_of t (get_or (after t ns new r) m' 0) ≡ left_of t (get_or ns m 0)
  pub ends : {q q' : ℕ} → Goes t ns new r q q' → Goes t ns new r (span_end t ns q) (span_end t (after t ns new r) q')
  pub place : (k : ℕ) {q q' : ℕ} → Around t ns new r q q' → Goes t ns new r (child_at t ns q k) (child_at t (after t ns new r) q' k)
  pub child : {q q' k m m' : ℕ} → Around t ns new r q q' → Goes t ns new r m m' → Child t ns q k m → Child t (after t ns new r) q' k m'
  pub child_back : {q q' k m m' : ℕ} → Around t ns new r q q' → Goes t ns new r m m' → Child t (after t ns new r) q' k m' → Child t ns q k m
  pub parent : {q k m m' : ℕ} → Goes t ns new r m m' → Child t ns q k m → (q' : ℕ) × Around t ns new r q q' × Child t (after t ns new r) q' k m'

-- 9.1: of a tree of symbol w, a node r of it, and a new part that is a tree of r's symbol
abbrev pub ReplacementLaw : Type 0
ReplacementLaw = (t ns new : List ℕ) (w r : ℕ) → judge_nodes t ns (w ∷ []) ≡ 0 → r < length ns
    → judge_nodes t new (left_of t (get_or ns r 0) ∷ []) ≡ 0 → Replacement t ns new w r
