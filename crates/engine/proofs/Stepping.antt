-- What step and run leave, from what the code over the arrays says. Assumes nothing.
use mathlib.Core.Path.{◌≡◌, ap, sym, ◌∙◌}
use mathlib.Core.Bool.{true, not, false≢true}
use mathlib.Core.List.{List, []}
use Prim.Native.Nat.{ℕ, ◌<◌}
use native.Mathlib.Decide.{dec_lt}
use native.Mathlib.Omega.{arith}
use borrow.Author.Tests.{ltb-true}
use Rattle.std.specs.Prelude.{Ok, Err}
use lib.Dec.{ltb, eqb}
use lib.ListN.{length, get_or, get_or-eq_default}
use Rattle.refusal.specs.Numbers.{number_of}
use Rattle.refusal.specs.declared.Refusal.{Refusal}
use Rattle.circles.specs.Ranked.{circle_at, member}
use Rattle.climb.specs.System.{System}
use Rattle.climb.specs.Inner.Wired.{wired}
use Rattle.update.specs.declared.Record.{Record}
use Rattle.update_step.specs.declared.step.Stepped.{Stepped}
use Rattle.update.specs.declared.Run.{Run}
use Rattle.update.specs.Memories.{Memory, nodes_of, owns_of}
use Rattle.update.specs.Refusals.{step_refusal}
use Rattle.update.specs.Steps.{step_of, run_of}
use Rattle.update.specs.Calls.{system_of, circles_of, with_sets, step_left, step_call, run_left, run_call}
use Rattle.update_round.specs.Inner.Arranged.{circles_in}
use Rattle.update_step.specs.Inner.Says.{StepSays, RunSays}
use Rattle.engine.specs.Lent.{stepped, ran}
use Rattle.update_judge.specs.Order.{Going}
use Rattle.engine.specs.Inner.Prepared.{ArraysHold}
use Rattle.update_judge.proofs.Orders.{step_none}
use Rattle.update_open.proofs.Answers.{by, left_carried}
use Rattle.update_judge.proofs.Parts.{and_first}
use Rattle.engine.proofs.Alike.{step_same, run_same}

module _ (t : List ℕ) (m : Memory) (r : Record) where
  pub step_refused : (q : Refusal) → number_of q ≡ step_refusal t m r → stepped r (Err q) m ≡ step_call t m r
  unfolding step_call
  step_refused q e = by q (step_refusal t m r) r m (step_left m (step_of (system_of t m r) (circles_of t m r) r m.earlier m.sets)) e

  pub run_refused : (budget : ℕ) (q : Refusal) → number_of q ≡ step_refusal t m r → ran (Err q) r m ≡ run_call t m r budget
  unfolding run_call
  run_refused budget q e = by q (step_refusal t m r) r m (run_left m (run_of (system_of t m r) (circles_of t m r) m.earlier budget r m.sets)) e

  module _ (k : Going t m r) (n : ℕ) (a b left rule label members ends : List ℕ) (count : ℕ)
      (h : ArraysHold t (nodes_of m r.nodes) (owns_of m r.nodes) n a b left rule label members ends count) where
    abbrev W : System
    W = wired n t (owns_of m r.nodes) a b left rule

    inside : (i x : ℕ) → member (circle_at (circles_in n a b) i) x ≡ true → W.declared x ≡ true
    inside i x e = elim (dec_lt i (length (circles_in n a b))) [
      | yes l ↦ h.circles.declared i (omega (arith, h.circles.counted)) x e
      | no l ↦ absurd (false≢true (sym (ap (λ (c : List ℕ). member c x) (get_or-eq_default (circles_in n a b) [] {n = i} (omega arith))) ∙ e))
    ]

    bound : (x : ℕ) → W.declared x ≡ true → x < n
    bound x e = ltb-true x n (and_first (ltb x n) (not (eqb (get_or a x 65534) 65534)) e)

    made : step_of W (circles_in n a b) r m.earlier m.sets ≡ step_of (system_of t m r) (circles_of t m r) r m.earlier m.sets
    made =
        step_same W (system_of t m r) h.alike (circles_in n a b) inside bound r m.earlier m.sets
        ∙ ap (λ (R : List (List ℕ)). step_of (system_of t m r) R r m.earlier m.sets) h.ranks

    run_same_made : (budget : ℕ) → run_of W (circles_in n a b) m.earlier budget r m.sets ≡ run_of (system_of t m r) (circles_of t m r) m.earlier budget r m.sets
    run_same_made budget =
        run_same W (system_of t m r) h.alike (circles_in n a b) inside bound m.earlier budget r m.sets
        ∙ ap (λ (R : List (List ℕ)). run_of (system_of t m r) R m.earlier budget r m.sets) h.ranks

    pub step_carried : (d : Stepped) (s : List ℕ) → StepSays (step_of W (circles_in n a b) r m.earlier m.sets) d.answer d.«record» s
        → stepped r (Ok d) (with_sets m s) ≡ step_call t m r
    unfolding step_call
    step_carried d s p =
        (λ j. record { answer = p.answer j; next = p.next j; memory = with_sets m (p.sets j) })
        ∙ ap (step_left m) made
        ∙ left_carried (step_refusal t m r) r m (step_left m (step_of (system_of t m r) (circles_of t m r) r m.earlier m.sets)) (step_none t m r k)

    pub run_carried : (budget : ℕ) (answer : Run) (next : Record) (s : List ℕ) → RunSays (run_of W (circles_in n a b) m.earlier budget r m.sets) answer next s
        → ran (Ok answer) next (with_sets m s) ≡ run_call t m r budget
    unfolding run_call
    run_carried budget answer next s p =
        (λ j. record { answer = p.answer j; next = p.next j; memory = with_sets m (p.sets j) })
        ∙ ap (run_left m) (run_same_made budget)
        ∙ left_carried (step_refusal t m r) r m (run_left m (run_of (system_of t m r) (circles_of t m r) m.earlier budget r m.sets)) (step_none t m r k)
