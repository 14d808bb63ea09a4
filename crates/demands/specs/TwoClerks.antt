-- Two clerks correct one tree, neither inside what the other replaces: whoever is first, it ends alike. The proofs are in proofs/. Assumes nothing.
use Rattle.std.specs.Prelude.{◌≡◌, List, [], ◌∷◌, ℕ, ◌≤◌, ◌<◌, length}
use Rattle.tree.specs.Points.{Part, nodes_row}
use Rattle.tree.specs.EitherOrder.{NeitherInside, made_after, nodes_then, owns_then}
use Rattle.wire.specs.Laws.{Words}
use Rattle.wire.specs.Waivers.{Waiver, Free}
use Rattle.update.specs.declared.Record.{Record}
use Rattle.update.specs.Memories.{Memory}
use Rattle.update.specs.Calls.{refused}
use Rattle.demands.specs.Engine.{Engine}
use Rattle.demands.specs.History.{History}
use Rattle.demands.specs.Demands.{Accepted, Demand1, Demand2}
use Rattle.demands.specs.InTurn.{InTurn, SameWay}
use Rattle.tree.specs.Tree.{nodes_most}

-- 23.14: the one correction and then the other, each accepted and worked to done, by any rows of steps and runs
abbrev pub OneThenOther : Engine → List ℕ → Record → Memory → Part → Part → Record → Memory → Type 0
OneThenOther E t r m p q r' m' = InTurn E t r m (q ∷ p ∷ []) r' m'

-- 23.14, 23.15: behind one history clerk one corrects at p and clerk two at q, and neither point is in what the other replaces. In the one order p's comes first,
-- and q's goes to where its point then is; in the other q's comes first, and p's goes to where its point then is (`made_after`). Where p stands before q it is q's
-- number that shifts, by the growth of p's part; where q stands before p it is p's (`OneShifts`, tree/specs/EitherOrder). If all four are accepted and each
-- is worked to done, both orders end with the same tree and own sets, the same record and the same sets: of any engine that meets demands 1 and 2, over any
-- table, with operation 9 or without it. Rounds and evaluations may differ, and do (specs/ClerksDay)
abbrev pub TwoClerks : Type 0
TwoClerks = (E : Engine) → Demand1 E → Demand2 E → (t ns owns : List ℕ) (r r₁ r₂ : Record) (m m₁ m₂ : Memory) → History E t ns owns r m
    → (p q : Part) → Words p.owns → Words q.owns → NeitherInside t ns p.point q.point
    → OneThenOther E t r m p (made_after t ns p q) r₁ m₁ → OneThenOther E t r m q (made_after t ns q p) r₂ m₂
    → SameWay E t (nodes_then t ns p q) (owns_then t ns owns p q) r₁ r₂ m₁ m₂

-- 23.16: where the one order was taken, p's first, the other may be refused, for the tree between its two corrections alone
pub record OtherOrder (E : Engine) (t ns : List ℕ) (r : Record) (m : Memory) (p q : Part) : Type 0 where
  -- q's, which comes first, is refused by 8 where that tree has too many nodes, by 21 where it has room and a waiver inside a circle, and is else accepted
  pub by8 : nodes_most < length (nodes_row t ns (q ∷ [])) → (E.replace t m r (q ∷ [])).answer ≡ refused 8
  pub by21 : length (nodes_row t ns (q ∷ [])) ≤ nodes_most → Waiver t (nodes_row t ns (q ∷ [])) → (E.replace t m r (q ∷ [])).answer ≡ refused 21
  pub first : length (nodes_row t ns (q ∷ [])) ≤ nodes_most → Free t (nodes_row t ns (q ∷ [])) → Accepted (E.replace t m r (q ∷ []))
  -- and behind it p's is accepted
  pub second : (r₁ : Record) (m₁ : Memory) → InTurn E t r m (q ∷ []) r₁ m₁ → Accepted (E.replace t m₁ r₁ (made_after t ns q p ∷ []))

-- 23.16: so it is with any engine that meets demands 1 and 2
abbrev pub BetweenAlone : Type 0
BetweenAlone = (E : Engine) → Demand1 E → Demand2 E → (t ns owns : List ℕ) (r r₁ : Record) (m m₁ : Memory) → History E t ns owns r m
    → (p q : Part) → Words p.owns → Words q.owns → NeitherInside t ns p.point q.point
    → OneThenOther E t r m p (made_after t ns p q) r₁ m₁ → OtherOrder E t ns r m p q
