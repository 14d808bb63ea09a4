-- A step by the arrays is the step of the system and the circles that they hold. Assumes nothing.
use mathlib.Core.Path.{◌≡◌, refl, sym, ◌∙◌}
use mathlib.Core.Bool.{Bool}
use mathlib.Core.List.{List}
use Prim.Native.Nat.{ℕ, ◌≤◌, ◌<◌, zero-le}
use native.Mathlib.Nat.{le_refl}
use borrow.Author.Tests.{lt-ltb, le-ltb}
use lib.ListN.{length, get_or}
use Rattle.climb.specs.System.{System}
use Rattle.climb.specs.Circuit.{due_of}
use Rattle.climb.specs.Inner.Wired.{wired, Rows, Wiring}
use Rattle.climb.proofs.Places.{wiring_rows}
use Rattle.update.specs.declared.Record.{Record}
use Rattle.update.specs.declared.Answer.{Answer}
use Rattle.update.specs.declared.Answer.TheVariants.{Round, Done}
use Rattle.update.specs.Records.{shut}
use Rattle.update.specs.Steps.{changed_of, round_number, round_record, round_made, done_made, due_from, step_of}
use Rattle.update_round.specs.Inner.Tests.{reading}
use Rattle.update_round.specs.Inner.Says.{RoundSays}
use Rattle.update_step.specs.Inner.Says.{StepSays}
use Rattle.update_round.proofs.Looking.{Place}
use Rattle.circles.specs.Ranked.{circle_at}

-- ---- the two outcomes

pub made_done : (n : ℕ) (a : List ℕ) (r : Record) (earlier sets : List ℕ) (c : ℕ) → c ≡ changed_of (reading n a a) r earlier sets
    → StepSays (done_made (reading n a a) r earlier sets) (Done r.circles r.evaluations c) (shut r.held r.nodes) sets
unfolding done_made
made_done n a r earlier sets c e = rw (← e) (record { answer = refl; next = refl; sets = refl })

pub made_round : (S : System) (C : List ℕ) (i k size : ℕ) (closed : Bool) (r d : Record) (s s' : List ℕ)
    → k ≡ round_number r i → RoundSays S C k s s' closed → size ≡ length C → d ≡ round_record r i k size closed
    → StepSays (round_made S C r i (round_number r i) s) (Round (get_or C 0 0) k size closed) d s'
unfolding round_made
made_round S C i k size closed r d s s' ek h es ed = rw (← ek, ← h.closed, ← h.sets, ← es) (record { answer = refl; next = ed; sets = refl })

-- ---- who reads whom is all that the due test and the count need

module _ (n : ℕ) (t owns a b left rule : List ℕ) where
  due_any : (R : List (List ℕ)) (r : Record) (earlier sets : List ℕ) → due_from (reading n a b) R r earlier sets ≡ due_from (wired n t owns a b left rule) R r earlier sets
  unfolding due_from due_of
  due_any R r earlier sets = refl

  done_any : (r : Record) (earlier sets : List ℕ) → done_made (reading n a a) r earlier sets ≡ done_made (wired n t owns a b left rule) r earlier sets
  unfolding done_made changed_of
  done_any r earlier sets = refl

  module _ (R : List (List ℕ)) (count : ℕ) (r : Record) (earlier sets : List ℕ) (i : ℕ) (ans : Answer) (d : Record) (counted : count ≡ length R)
      (found : i ≡ due_from (reading n a b) R r earlier sets) where
    pub step_over : count ≤ i → StepSays (done_made (reading n a a) r earlier sets) ans d sets → StepSays (step_of (wired n t owns a b left rule) R r earlier sets) ans d sets
    unfolding step_of
    step_over h s =
        let f : due_from (wired n t owns a b left rule) R r earlier sets ≡ i = sym (found ∙ due_any R r earlier sets) in
        rw (f, ← counted, le-ltb i count h) (rw (done_any r earlier sets) at s)

    pub step_one : (C s' : List ℕ) → i < count → circle_at R i ≡ C → StepSays (round_made (wired n t owns a b left rule) C r i (round_number r i) sets) ans d s'
        → StepSays (step_of (wired n t owns a b left rule) R r earlier sets) ans d s'
    unfolding step_of
    step_one C s' h e s =
        let f : due_from (wired n t owns a b left rule) R r earlier sets ≡ i = sym (found ∙ due_any R r earlier sets) in
        rw (f, ← counted, lt-ltb i count h, e) s

-- ---- what is lent has room for what is read

-- the members of a circle have their rows
pub place_rows : {owns a b left rule C : List ℕ} {n : ℕ} → Wiring owns a b left rule n → Place n a b C → Rows owns a b left rule C n 0 (length C)
place_rows w p = wiring_rows w zero-le (le_refl _) (λ k s t. p.declared k t)
