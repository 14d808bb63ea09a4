-- The orders of refusals in the parts that the code judges them in, and what is known where none refuses. Assumes nothing.
use Rattle.std.specs.Prelude.{◌≡◌, true, false, List, [], ◌∷◌, ◌++◌, ℕ, ◌+◌, ◌-◌, length}
use Rattle.refusal.specs.Orders.{unless, Order}
use Rattle.table.specs.Judge.{judge_table}
use Rattle.tree.specs.Points.{Part, nodes_row, leaving_row, coming_row}
use Rattle.update.specs.declared.Record.{Record}
use Rattle.update.specs.Records.{is_open_kind}
use Rattle.update.specs.Memories.{Memory}
use Rattle.update.specs.Refusals.{held_refusal, waiver_order, miscounted, missing, asked_order, point_check, row_order}
use Rattle.update.specs.Within.{Roomy, WithinLimits}

-- 15.6, where a tree that is held is sound, all before its subtrees are counted: 10, 22, 16, 9
abbrev pub named_order : Record → List Part → Order
named_order r ps = asked_order r ps ++ (unless 16 r.held ∷ point_check r.nodes ps ∷ [])

-- and then 23, 8, the parts' 6/7, of a tree of so many nodes
abbrev pub fit_order : List ℕ → List ℕ → ℕ → List Part → Order
fit_order t ns nodes ps = row_order t ns (nodes - leaving_row t ns ps + coming_row ps) ps

-- in all where its points are nodes of a sound tree: 23, 8, the parts' 6/7, 21
abbrev pub last_order : List ℕ → List ℕ → List Part → Order
last_order t ns ps = fit_order t ns (length ns) ps ++ waiver_order t (nodes_row t ns ps)

-- what none of the first is refused by
pub record Grounded (t : List ℕ) (m : Memory) (r : Record) : Type 0 where
  pub table : judge_table t ≡ 0
  pub room : Roomy m
  pub within : WithinLimits r

-- and a tree that is held is sound
pub record Holding (t : List ℕ) (m : Memory) (r : Record) : Type 0 where
  pub footing : Grounded t m r
  pub tree : r.held ≡ true → held_refusal t m r ≡ 0

-- the points of parts are nodes of a tree that is held, and no update is open
pub record Named (r : Record) (ps : List Part) : Type 0 where
  pub closed : is_open_kind r.«open» ≡ false
  pub counted : miscounted ps ≡ false
  pub held : r.held ≡ true
  pub inside : missing r.nodes ps ≡ false

-- what a step and a run are refused by none of
pub record Going (t : List ℕ) (m : Memory) (r : Record) : Type 0 where
  pub footing : Grounded t m r
  pub held : r.held ≡ true
  pub tree : held_refusal t m r ≡ 0
  pub busy : is_open_kind r.«open» ≡ true
