-- Every call gives each number of its order exactly when (15.2), and one that refuses leaves all as it was (15.1). Assumes nothing.
use Rattle.std.specs.Prelude.{◌≡◌, List, ℕ, ◌<◌}
use Rattle.refusal.specs.Orders.{Gives}
use Rattle.tree.specs.Points.{Part}
use Rattle.update.specs.declared.Record.{Record}
use Rattle.update.specs.Memories.{Memory}
use Rattle.update.specs.Calls.{Said, refused, said, Left, load_call, replace_call, points_call, step_call, run_call, read_call}
use Rattle.update.specs.Refusals.{load_order, load_refusal, replace_order, replace_refusal, points_order, points_refusal, step_order, step_refusal, read_order, read_refusal, dump_order, dump_refusal}

-- ---- 15.2: each number exactly when

-- 15.2: a number that a call gives, by the call's order
abbrev pub LoadGives : List ℕ → Memory → Record → List ℕ → List ℕ → ℕ → Type 0
LoadGives t m r ns owns = Gives (load_order t m r ns owns)

abbrev pub ReplaceGives : List ℕ → Memory → Record → ℕ → List ℕ → List ℕ → ℕ → Type 0
ReplaceGives t m r point new new_owns = Gives (replace_order t m r point new new_owns)

abbrev pub PointsGives : List ℕ → Memory → Record → List Part → ℕ → Type 0
PointsGives t m r ps = Gives (points_order t m r ps)

abbrev pub StepGives : List ℕ → Memory → Record → ℕ → Type 0
StepGives t m r = Gives (step_order t m r)

abbrev pub ReadGives : List ℕ → Memory → Record → ℕ → ℕ → Type 0
ReadGives t m r x = Gives (read_order t m r x)

abbrev pub DumpGives : List ℕ → Memory → Record → ℕ → ℕ → ℕ → Type 0
DumpGives t m r room wanted = Gives (dump_order t m r room wanted)

-- 23.1: every call gives its numbers exactly so
pub record GivenExactly (t : List ℕ) (m : Memory) (r : Record) : Type 0 where
  pub load : (ns owns : List ℕ) → LoadGives t m r ns owns (load_refusal t m r ns owns)
  pub replace : (point : ℕ) (new new_owns : List ℕ) → ReplaceGives t m r point new new_owns (replace_refusal t m r point new new_owns)
  pub points : (ps : List Part) → PointsGives t m r ps (points_refusal t m r ps)
  pub step : StepGives t m r (step_refusal t m r)
  pub read : (x : ℕ) → ReadGives t m r x (read_refusal t m r x)
  pub dump : (room wanted : ℕ) → DumpGives t m r room wanted (dump_refusal t m r room wanted)

abbrev pub AllGivenExactly : Type 0
AllGivenExactly = (t : List ℕ) (m : Memory) (r : Record) → GivenExactly t m r

-- ---- 15.1: a refusal changes nothing lent

-- 15.1: a call that refuses by n answers n and leaves all; one that refuses nothing answers what was asked for
pub record Leaves {A : Type 0} (n : ℕ) (r : Record) (m : Memory) (left : Left (Said A)) : Type 0 where
  pub refused : 0 < n → left ≡ record { answer = refused n; next = r; memory = m }
  pub carried : n ≡ 0 → (a : A) × (left.answer ≡ said a)

-- 13.3: a reading changes nothing in any case
pub record ReadLeaves (n : ℕ) (answer : Said ℕ) : Type 0 where
  pub refused : 0 < n → answer ≡ refused n
  pub carried : n ≡ 0 → (v : ℕ) × (answer ≡ said v)

pub record CallsLeave (t : List ℕ) (m : Memory) (r : Record) : Type 0 where
  pub load : (ns owns : List ℕ) → Leaves (load_refusal t m r ns owns) r m (load_call t m r ns owns)
  pub replace : (point : ℕ) (new new_owns : List ℕ) → Leaves (replace_refusal t m r point new new_owns) r m (replace_call t m r point new new_owns)
  pub points : (ps : List Part) → Leaves (points_refusal t m r ps) r m (points_call t m r ps)
  pub step : Leaves (step_refusal t m r) r m (step_call t m r)
  pub run : (budget : ℕ) → Leaves (step_refusal t m r) r m (run_call t m r budget)
  pub read : (x : ℕ) → ReadLeaves (read_refusal t m r x) (read_call t m r x)

abbrev pub AllLeave : Type 0
AllLeave = (t : List ℕ) (m : Memory) (r : Record) → CallsLeave t m r
