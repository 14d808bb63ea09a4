-- What is left of the walk gives the number of the whole. Assumes nothing.
use Rattle.std.proofs.Common.{◌≡◌, ◌≢◌, ℕ, suc, ◌+◌, ◌-◌, true, false, true≢false, List, ⊎_elim, ap, sym, ◌∙◌, arith, rules}
use Rattle.refusal.specs.Numbers.{number_of}
use Rattle.refusal.specs.declared.Refusal.{Refusal}
use Rattle.refusal.proofs.Distinct.{number_low, handed_number}
use Rattle.text_frame.specs.Walk.{next_of, is_on}
use Rattle.text_frame.specs.declared.Expected.{Expected}
use Rattle.text_frame.specs.declared.Expected.TheVariants.{Ended}
use Rattle.text_table.proofs.Refusing.{at_end}
use Rattle.text_table.proofs.Sofar.{awaits_so}
use Rattle.climb.proofs.Lists.{either}
use Rattle.session_memory.specs.Refusals.{frame_refusal, meets, walk_refusal, sofar_refusal}
use Rattle.session_memory.proofs.Arriving.{meets_tests, walk_meets, walk_passes, walk_stops, walk_out, frame_none}
use Rattle.session_memory.proofs.Walking.{stays, ready_so}
use Rattle.session_memory.proofs.fitting.judge_so_far.Invariants.{Stands}
use Rattle.session_memory.proofs.fitting.judge_so_far.Goals as goal
use Rattle.session_memory.proofs.fitting.judge_so_far.Goals.{else-eq-via-then-eq+else-ne, else-eq-via-else-eq}

module _ (t : List ℕ) (y x : Expected) (n m : ℕ) (i : Stands t y x n) (l : n ≡ suc m) where
  one_more : walk_refusal n t x y ≡ walk_refusal (suc m) t x y
  one_more = ap (λ (k : ℕ). walk_refusal k t x y) l

  met : x ≡ y → x ≢ Ended → meets x y ≡ true
  met e f = ⊎_elim (λ (o : is_on x ≡ true). (meets_tests x y).no (e, o)) (λ (o : is_on x ≡ false). absurd (f (at_end x o))) (either (is_on x))

  unmet : (x ≡ y → x ≡ Ended) → meets x y ≡ false
  unmet f = ⊎_elim
      (λ (h : meets x y ≡ true). let w = (meets_tests x y).yes h in absurd (true≢false (sym w.1 ∙ ap is_on (f w.0))))
      (λ (h : meets x y ≡ false). h)
      (either (meets x y))

  arrives : x ≡ y → x ≢ Ended → 0 ≡ sofar_refusal t y
  arrives e f = sym (i.same ∙ one_more ∙ walk_meets t x y m (met e f))

  passes : (x ≡ y → x ≡ Ended) → frame_refusal t x ≡ 0 → Stands t y (next_of t x) m
  passes f z = let o = frame_none t x z in record { so = stays t x i.so o.0 o.1; same = i.same ∙ one_more ∙ walk_passes t x y m (unmet f) z }

  stops : (x ≡ y → x ≡ Ended) → (r : Refusal) → number_of r ≡ frame_refusal t x → number_of r ≡ sofar_refusal t y
  stops f r e = e ∙ sym (i.same ∙ one_more ∙ walk_stops t x y m (unmet f) (omega (arith, number_low r)))

pub returns-then-ne : goal.returns-then-ne
returns-then-ne c = let l = c.loop in arrives c.args.table.now c.args.expected l.x (2657 - l.counter) (2656 - l.counter) l.invariant (omega arith) (search rules) (search rules)

pub judge_at-requires : goal.judge_at-requires
judge_at-requires c = awaits_so c.args.table.now c.loop.x c.loop.invariant.so

pub next_of-x-requires : goal.next_of-x-requires
next_of-x-requires c = ready_so c.args.table.now c.loop.x c.loop.invariant.so (frame_none _ c.loop.x (sym c.in_ok-judge_at.ensures)).1

pub loop-preserved : goal.loop-preserved
loop-preserved c =
    let l = c.loop in
    let past : l.x ≡ c.args.expected → l.x ≡ Ended = λ e. elim c.else-eq.branch [ else-eq-via-then-eq+else-ne w ↦ search rules | else-eq-via-else-eq w ↦ absurd (search rules) ] in
    rw c.next_of-x.ensures (passes c.args.table.now c.args.expected l.x (2657 - l.counter) (2657 - (l.counter + 1)) l.invariant (omega arith) past (sym c.in_ok-judge_at.ensures))

pub returns-in_err-judge_at : goal.returns-in_err-judge_at
returns-in_err-judge_at c =
    let l = c.loop in
    let past : l.x ≡ c.args.expected → l.x ≡ Ended = λ e. elim c.else-eq.branch [ else-eq-via-then-eq+else-ne w ↦ search rules | else-eq-via-else-eq w ↦ absurd (search rules) ] in
    handed_number _ _ c.from_residual.ensures.1 _ (stops c.args.table.now c.args.expected l.x (2657 - l.counter) (2657 - (l.counter + 1)) l.invariant (omega arith) past c.in_err-judge_at.field-0.0 c.in_err-judge_at.ensures)

pub returns : goal.returns
returns c = let l = c.loop in sym (l.invariant.same ∙ walk_out c.args.table.now l.x c.args.expected (2657 - l.counter) (omega arith))
