-- A list spliced in one go from its first element to its last, by the cuts that code holds. Assumes nothing.
use Rattle.std.specs.Prelude.{ℕ, zero, suc, ◌+◌, ◌-◌, ◌*◌, ◌≤◌, ◌<◌, List, [], ◌∷◌, ◌++◌, take, drop, replicate}
use Rattle.tree.specs.declared.Cut.{Cut}
use Rattle.tree.specs.declared.Cuts.{Cuts}
use Rattle.tree.specs.Handed.{cut_at}

-- the `old` elements from `from` on make way for those of `fresh`
pub record Piece (A : Type 0) : Type 0 where
  pub from : ℕ
  pub old : ℕ
  pub fresh : List A

-- from place `at` of l on: what stays up to the next piece, then what comes there
unfoldable pub spliced : {A : Type 0} → List (Piece A) → List A → ℕ → List A
spliced [] l at = drop at l
spliced (p ∷ ps) l at = take (p.from - at) (drop at l) ++ (p.fresh ++ spliced ps l (p.from + p.old))

-- n cuts of an array from place i on, as code reads them
unfoldable pub cuts_from : ℕ → ℕ → List Cut → List Cut
cuts_from i zero l = []
cuts_from i (suc n) l = cut_at l i ∷ cuts_from (suc i) n l

abbrev pub named_cuts : Cuts → List Cut
named_cuts cs = cuts_from 0 cs.count cs.cuts

-- 9.10: of nodes or own sets: what came is one list, part after part
unfoldable pub pieces : {A : Type 0} → List Cut → List A → List (Piece A)
pieces [] new = []
pieces (c ∷ cs) new = record { from = c.node; old = c.old; fresh = take c.count new } ∷ pieces cs (drop c.count new)

-- 9.6: of attribute sets, eight to a node: a point keeps its own, and the rest of its part starts empty
unfoldable pub gaps : List Cut → List (Piece ℕ)
gaps [] = []
gaps (c ∷ cs) = record { from = 8 * (c.node + 1); old = 8 * (c.old - 1); fresh = replicate (8 * (c.count - 1)) 0 } ∷ gaps cs

-- 9.4: the nodes or own sets l afterwards
abbrev pub spliced_by : {A : Type 0} → Cuts → List A → List A → List A
spliced_by cs new l = spliced (pieces (named_cuts cs) new) l 0

-- 9.6: and the attribute sets
abbrev pub carried_by : Cuts → List ℕ → List ℕ
carried_by cs l = spliced (gaps (named_cuts cs)) l 0

-- 9.3: the cuts rise and lie apart in n nodes, from node `at` on, and `left` new nodes are enough for their parts
pub data Fits (n : ℕ) : ℕ → ℕ → List Cut → Type 0 where
  none : {at left : ℕ} → at ≤ n → Fits n at left []
  more : {at left : ℕ} {c : Cut} {cs : List Cut} → at ≤ c.node → 0 < c.old → c.node + c.old ≤ n → 0 < c.count → c.count ≤ left
      → Fits n (c.node + c.old) (left - c.count) cs → Fits n at left (c ∷ cs)

pub record Fitting (cs : Cuts) (n came : ℕ) : Type 0 where
  pub few : cs.count ≤ 8
  pub fits : Fits n 0 came (named_cuts cs)

-- whatever came
pub record Apart (cs : Cuts) (n : ℕ) : Type 0 where
  pub came : ℕ
  pub fitting : Fitting cs n came
