-- Days of two clerks: one on which both orders are taken, by other counts, and two on which only one is. The proofs are in proofs/. Assumes nothing.
use Rattle.std.specs.Prelude.{◌≡◌, List, [], ◌∷◌, ◌++◌, ℕ, zero, suc, ◌+◌, replicate, take}
use Rattle.table.specs.Example.{put, table_a}
use Rattle.tree.specs.Points.{Part}
use Rattle.tree.specs.PointExample.{table_b}
use Rattle.tree.specs.EitherOrder.{NeitherInside, made_after, nodes_then, owns_then}
use Rattle.update.specs.declared.Record.{Record}
use Rattle.update.specs.Memories.{Memory}
use Rattle.update.specs.Calls.{refused}
use Rattle.demands.specs.Engine.{Engine, ours}
use Rattle.demands.specs.History.{History}
use Rattle.demands.specs.Demands.{Demand1, Demand2}
use Rattle.demands.specs.InTurn.{InTurn, begun, next}
use Rattle.demands.specs.TwoClerks.{OneThenOther}

-- the evaluations that the corrections of a row took together
unfoldable pub evaluations_of : {E : Engine} {t : List ℕ} {r : Record} {m : Memory} {ps : List Part} {r' : Record} {m' : Memory} → InTurn E t r m ps r' m' → ℕ
evaluations_of begun = 0
evaluations_of (next {evaluations = evaluations} before call work) = evaluations + evaluations_of before

-- ---- both orders are taken

-- session A's table, where each of two accounts is told what the other is held for, with two productions more, of an account over another: 3 has the
-- lower one's reasons unless it is told of them (operation 9), 4 has them all
unfoldable pub table_n : List ℕ
unfolding put
table_n = put (put (put (put (put (table_a ++ replicate 80 0) 0 517) 36 1103823372288) 37 1103823372288) 217 38671482884) 257 8606711808

-- two accounts that have their own reasons: 0 the first, 0 and 1 the second
abbrev pub nodes_n : List ℕ
nodes_n = 0 ∷ 2 ∷ 2 ∷ []

abbrev pub owns_n : List ℕ
owns_n = 0 ∷ 1 ∷ 3 ∷ []

-- clerk one: the first account has the reasons 0 and 2, unless the second has them. Clerk two: the second has reason 2. Both parts are a node larger than the old ones
abbrev pub clerk_one : Part
clerk_one = record { point = 1; nodes = 3 ∷ 2 ∷ []; owns = 0 ∷ 5 ∷ [] }

abbrev pub clerk_two : Part
clerk_two = record { point = 2; nodes = 4 ∷ 2 ∷ []; owns = 0 ∷ 4 ∷ [] }

-- the sets at the end, eight slots a node: the first account has reason 0, since the second has reason 2
abbrev pub end_n : List ℕ
end_n =
    5 ∷ 0 ∷ 0 ∷ 0 ∷ 0 ∷ 0 ∷ 0 ∷ 0
    ∷ 1 ∷ 0 ∷ 0 ∷ 0 ∷ 4 ∷ 0 ∷ 0 ∷ 0
    ∷ 5 ∷ 0 ∷ 0 ∷ 0 ∷ 0 ∷ 0 ∷ 0 ∷ 0
    ∷ 4 ∷ 0 ∷ 0 ∷ 0 ∷ 1 ∷ 0 ∷ 0 ∷ 0
    ∷ 4 ∷ 0 ∷ 0 ∷ 0 ∷ 0 ∷ 0 ∷ 0 ∷ 0 ∷ []

-- 23.14: behind a load of that tree ours takes both orders, so that what `TwoClerks` asks for can be had. The tree and the sets are the same;
-- one order takes 12 evaluations, the other 8
pub record BothTaken : Type 0 where
  pub r : Record
  pub r₁ : Record
  pub r₂ : Record
  pub m : Memory
  pub m₁ : Memory
  pub m₂ : Memory
  pub history : History ours table_n nodes_n owns_n r m
  pub neither : NeitherInside table_n nodes_n clerk_one.point clerk_two.point
  pub one : OneThenOther ours table_n r m clerk_one (made_after table_n nodes_n clerk_one clerk_two) r₁ m₁
  pub other : OneThenOther ours table_n r m clerk_two (made_after table_n nodes_n clerk_two clerk_one) r₂ m₂
  pub nodes : (nodes_then table_n nodes_n clerk_one clerk_two ≡ 0 ∷ 3 ∷ 2 ∷ 4 ∷ 2 ∷ []) × (nodes_then table_n nodes_n clerk_two clerk_one ≡ 0 ∷ 3 ∷ 2 ∷ 4 ∷ 2 ∷ [])
  pub owns : (owns_then table_n nodes_n owns_n clerk_one clerk_two ≡ 0 ∷ 0 ∷ 5 ∷ 0 ∷ 4 ∷ []) × (owns_then table_n nodes_n owns_n clerk_two clerk_one ≡ 0 ∷ 0 ∷ 5 ∷ 0 ∷ 4 ∷ [])
  pub sets : (take 40 m₁.sets ≡ end_n) × (take 40 m₂.sets ≡ end_n)
  pub evaluations : (evaluations_of one ≡ 12) × (evaluations_of other ≡ 8)

-- ---- a waiver between them

-- the second account has what it is told of too
abbrev pub nodes_w : List ℕ
nodes_w = 0 ∷ 2 ∷ 1 ∷ []

-- 23.16: where clerk one is first, the first account would wait for what the second has from it: 21 refuses that. Where clerk two is first, both are taken
pub record WaiverBetween (E : Engine) : Type 0 where
  pub r : Record
  pub r₁ : Record
  pub m : Memory
  pub m₁ : Memory
  pub history : History E table_n nodes_w owns_n r m
  pub first : (E.replace table_n m r (clerk_one ∷ [])).answer ≡ refused 21
  pub other : OneThenOther E table_n r m clerk_two (made_after table_n nodes_w clerk_two clerk_one) r₁ m₁

-- 23.16: of whatever engine meets the demands
abbrev pub EveryWaiverBetween : Type 0
EveryWaiverBetween = (E : Engine) → Demand1 E → Demand2 E → WaiverBetween E

-- ---- no room between them

-- over the table of tree/specs/PointExample, without sets: 0 is over two nodes, 1 over none. A row of n nodes, each over one without children and the next of the row
abbrev pub row_of : ℕ → List ℕ → List ℕ
row_of zero l = 1 ∷ l
row_of (suc n) l = 0 ∷ 1 ∷ row_of n l

-- 511 nodes: the root, 509 from node 1 on, and node 510
abbrev pub nodes_r : List ℕ
nodes_r = 0 ∷ row_of 254 (1 ∷ [])

abbrev pub owns_r : List ℕ
owns_r = replicate 511 0

-- clerk one makes room at node 1, and clerk two takes two nodes more at node 510
abbrev pub clears : Part
clears = record { point = 1; nodes = 1 ∷ []; owns = 0 ∷ [] }

abbrev pub grows : Part
grows = record { point = 510; nodes = 0 ∷ 1 ∷ 1 ∷ []; owns = 0 ∷ 0 ∷ 0 ∷ [] }

-- 23.16: where clerk two is first there would be 513 nodes: 8 refuses that. Where clerk one is first, both are taken
pub record RoomBetween (E : Engine) : Type 0 where
  pub r : Record
  pub r₁ : Record
  pub m : Memory
  pub m₁ : Memory
  pub history : History E table_b nodes_r owns_r r m
  pub first : (E.replace table_b m r (grows ∷ [])).answer ≡ refused 8
  pub one : OneThenOther E table_b r m clears (made_after table_b nodes_r clears grows) r₁ m₁

-- 23.16: of whatever engine meets the demands
abbrev pub EveryRoomBetween : Type 0
EveryRoomBetween = (E : Engine) → Demand1 E → Demand2 E → RoomBetween E
