-- The same replacements made one after the other, from the last point to the first, end alike. The proofs are in proofs/. Assumes nothing.
use Rattle.std.specs.Prelude.{◌≡◌, List, [], ◌∷◌, ℕ, get_or}
use Rattle.tree.specs.Points.{Part, nodes_row, owns_row}
use Rattle.wire.specs.Laws.{Words}
use Rattle.wire.specs.Replaced.{nodes_after, owns_after}
use Rattle.update.specs.declared.Record.{Record}
use Rattle.update.specs.Memories.{Memory}
use Rattle.update.specs.Calls.{leaving, is_open, replace_call}
use Rattle.update.specs.Points.{WordsIn}
use Rattle.demands.specs.Engine.{Engine, ours}
use Rattle.demands.specs.History.{WorkedToDone, Opening, History}
use Rattle.demands.specs.Demands.{Demand1, Demand2, SameEnd}

-- 9.12: our call for one point opens an update of the tree with the new part in the place of that point's subtree
abbrev pub SingleOpens : Type 0
SingleOpens = (t ns owns : List ℕ) (r r' : Record) (m m' : Memory) → History ours t ns owns r m → (point : ℕ) (new new_owns : List ℕ) → Words new_owns
    → replace_call t m r point new new_owns ≡ leaving is_open r' m' → Opening ours t (nodes_after t ns new point) (owns_after t ns owns new_owns point) r' m'

-- 9.5, 23.13: the replacements of a row, each alone at its point, from the last to the first, each accepted and worked to done
pub data InTurn (E : Engine) (t : List ℕ) (r₀ : Record) (m₀ : Memory) : List Part → Record → Memory → Type 0 where
  begun : InTurn E t r₀ m₀ [] r₀ m₀
  next : {p : Part} {ps : List Part} {r r₁ r' : Record} {m m₁ m' : Memory} {circles evaluations changed : ℕ} → InTurn E t r₀ m₀ ps r m
      → E.replace t m r (p ∷ []) ≡ leaving is_open r₁ m₁ → WorkedToDone E t r₁ m₁ circles evaluations changed r' m' → InTurn E t r₀ m₀ (p ∷ ps) r' m'

-- 23.13: both ways end with the same tree, the same record and the same sets. Not every row can be made in turn: on the way a tree may pass 512 nodes, or
-- have a waiver inside a circle
pub record SameWay (E : Engine) (t ns owns : List ℕ) (r r' : Record) (m m' : Memory) : Type 0 where
  pub one : History E t ns owns r m
  pub other : History E t ns owns r' m'
  pub tree : (i : ℕ) → (get_or m.productions i 0 ≡ get_or m'.productions i 0) × (get_or m.owns i 0 ≡ get_or m'.owns i 0)
  pub end : SameEnd r r' m m'

-- 23.13: of any engine that meets demands 1 and 2
abbrev pub LastFirst : Type 0
LastFirst = (E : Engine) → Demand1 E → Demand2 E → (t ns owns : List ℕ) (ps : List Part) (r r₁ r' r'' : Record) (m m₁ m' m'' : Memory) (circles evaluations changed : ℕ)
    → History E t ns owns r m → WordsIn ps → E.replace t m r ps ≡ leaving is_open r₁ m₁ → WorkedToDone E t r₁ m₁ circles evaluations changed r' m'
    → InTurn E t r m ps r'' m'' → SameWay E t (nodes_row t ns ps) (owns_row t ns owns ps) r' r'' m' m''
