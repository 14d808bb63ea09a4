-- 20.9: every number by which memory that no session comes to is refused, exactly when. Assumes nothing.
use Rattle.std.specs.Prelude.{◌≡◌, false, ◌↔◌, List, ℕ, ◌≤◌, take}
use Rattle.refusal.specs.Orders.{Gives}
use Rattle.session_owed.specs.Owed.{Begun, NamedSoFar}
use Rattle.session_memory.specs.Suspended.{Suspended, Wide, Fits}
use Rattle.session_memory.specs.Refusals.{narrow, overrun, misnamed, state_order, state_refusal}

-- ---- what the three tests say

abbrev pub NarrowMeans : Type 0
NarrowMeans = (d : Suspended) (out : List ℕ) → (narrow d out ≡ false) ↔ Wide d.words d.window d.parts d.part_owns d.memory out

abbrev pub OverrunMeans : Type 0
OverrunMeans = (begun : ℕ) (window : List ℕ) → (overrun begun window ≡ false) ↔ ((begun ≤ 28) × Begun (take begun window))

abbrev pub MisnamedMeans : Type 0
MisnamedMeans = (count taken : ℕ) (os : List ℕ) → (misnamed count taken os ≡ false) ↔ NamedSoFar count taken os

-- ---- a state and its memory

-- 20.9: a number that is given by the order: 0 exactly where the memory is a session's, and 15 exactly where a buffer is short, though what is asked behind that asks for the
-- engine's buffers once more
pub record StateGives (d : Suspended) (out : List ℕ) (given : ℕ) : Type 0 where
  pub order : Gives (state_order d out) given
  pub fits : (given ≡ 0) ↔ Fits d out
  pub short : (given ≡ 15) ↔ (Wide d.words d.window d.parts d.part_owns d.memory out → ⊥)

-- 20.9, 23.1: any memory is refused exactly so
abbrev pub AllStateGives : Type 0
AllStateGives = (d : Suspended) (out : List ℕ) → StateGives d out (state_refusal d out)
