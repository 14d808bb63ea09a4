-- One step of an update: what it leaves of the record, and that its numbers fit a line. Assumes nothing.
use mathlib.Core.Path.{◌≡◌, refl, ap, ◌∙◌}
use mathlib.Core.Bool.{Bool, true, false, cond, not, ◌&&◌, true≢false}
use mathlib.Core.Logic.{⊎_elim}
use mathlib.Core.List.{List}
use Prim.Native.Nat.{ℕ, suc, ◌≤◌, ◌<◌, ◌^◌}
use native.Mathlib.Nat.{min-le_right}
use native.Mathlib.Omega.{arith}
use borrow.Author.Tests.{ltb-true}
use lib.Dec.{ltb, eqb}
use lib.ListN.{length, get_or}
use lib.Seq.{length-slice}
use Rattle.circles.specs.Ranked.{circle_at, keep, up_from, lone_of}
use Rattle.circles.proofs.Lists.{and_parts, length_up, first_member}
use Rattle.circles.proofs.Ranking.{keep_le}
use Rattle.climb.specs.System.{System, graph_of}
use Rattle.climb.specs.Memory.{at}
use Rattle.climb.specs.Inner.Wired.{wired}
use Rattle.climb.proofs.Lists.{either}
use Rattle.climb.proofs.Storing.{length_stores}
use Rattle.update.specs.declared.Record.{Record}
use Rattle.update.specs.Records.{is_load, shut}
use Rattle.update.specs.Within.{WithinLimits}
use Rattle.update.specs.Steps.{Outcome, round, done, Made, survives, changed_of, round_number, from_of, to_of, round_record, round_made, done_made, due_from, step_of}
use Rattle.update.specs.Calls.{said}
use Rattle.update_round.specs.Inner.Arranged.{circles_in, Circles}
use Rattle.update_round.proofs.Rounding.{length_ready}
use Rattle.session_rounds.specs.Telling.{Printable}

-- ---- what stays in the record

abbrev pub is_done : Outcome → Bool
is_done (round a k n c) = false
is_done (done a b c) = true

pub record Keeps (r : Record) (s : List ℕ) (m : Made) : Type 0 where
  pub held : m.next.held ≡ r.held
  pub nodes : m.next.nodes ≡ r.nodes
  pub busy : is_done m.outcome ≡ false → m.next.«open» ≡ r.«open»
  pub size : length m.sets ≡ length s

round_kept : (r : Record) (i k n x : ℕ) (s s' : List ℕ) (t : Bool) → length s' ≡ length s → Keeps r s (record { outcome = round x k n t; next = round_record r i k n t; sets = s' })
unfolding round_record
round_kept r i k n x s s' true l = record { held = refl; nodes = refl; busy = λ e. refl; size = l }
round_kept r i k n x s s' false l = record { held = refl; nodes = refl; busy = λ e. refl; size = l }

done_kept : (r : Record) (x y z : ℕ) (s : List ℕ) → Keeps r s (record { outcome = done x y z; next = shut r.held r.nodes; sets = s })
unfolding shut
done_kept r x y z s = record { held = refl; nodes = refl; busy = λ e. absurd (true≢false e); size = refl }

-- a round writes over the sets of its circle
round_long : (S : System) (C : List ℕ) (k : ℕ) (s : List ℕ) → length (to_of S C (from_of S C k s)) ≡ length s
unfolding from_of to_of
round_long S C k s = length_stores C (from_of S C k s) (S.eval (at (from_of S C k s))) ∙ length_ready k (lone_of (graph_of S) C) s C (from_of S C k s) refl

pub step_keeps : (S : System) (R : List (List ℕ)) (r : Record) (b s : List ℕ) → Keeps r s (step_of S R r b s)
unfolding step_of round_made done_made
step_keeps S R r b s =
    let i = due_from S R r b s in
    ⊎_elim
    (λ (h : ltb (due_from S R r b s) (length R) ≡ true). rw h (round_kept r i (round_number r i) (length (circle_at R i)) (get_or (circle_at R i) 0 0) s _ _ (round_long S (circle_at R i) (round_number r i) s)))
    (λ (h : ltb (due_from S R r b s) (length R) ≡ false). rw h (done_kept r r.circles r.evaluations (changed_of S r b s) s)) (either (ltb i (length R)))

-- ---- its numbers fit

number_fits : (r : Record) (i : ℕ) → round_number r i < 2 ^ 24
unfolding round_number
number_fits r i = let h = min-le_right (suc (cond (eqb i r.rank) r.round 0)) 262145 in omega arith

few_of : (t : Bool) (k n : ℕ) → k ≤ n → cond t 0 k ≤ n
few_of true k n h = omega arith
few_of false k n h = h

changed_few : (S : System) (r : Record) (b s : List ℕ) → changed_of S r b s ≤ S.size
unfolding changed_of
changed_few S r b s =
    let p : ℕ → Bool = λ x. S.declared x && survives r x && not (eqb (at s x) (at b x)) in
    few_of (is_load r.«open») (length (keep p (up_from 0 S.size))) S.size (omega (arith, keep_le p (up_from 0 S.size), length_up 0 S.size))

module _ {n : ℕ} {a b label members ends : List ℕ} {count : ℕ} (c : Circles n a b label members ends count) (few : n ≤ 4096) where
  circle_fits : (i : ℕ) → i < length (circles_in n a b) → (get_or (circle_at (circles_in n a b) i) 0 0 < 4096) × (length (circle_at (circles_in n a b) i) ≤ 4096)
  circle_fits i h =
      let C = circle_at (circles_in n a b) i in
      let l : i < count = omega (arith, c.counted) in
      let long : length C ≡ _ = ap length (c.circle i l) ∙ length-slice (get_or ends i 0) (get_or ends (suc i) 0) members (c.room i l) in
      let x = get_or C 0 0 in
      let d = c.declared i l x (first_member C (omega (arith, long, c.rise i l))) in
      let e : x < n = ltb-true x n (and_parts (ltb x n) (not (eqb (get_or a x 65534) 65534)) d).0 in
      (omega arith, omega (arith, long, c.most i l))

  pub step_fits : (t owns left rule : List ℕ) (r : Record) (earlier sets : List ℕ) → WithinLimits r
      → Printable (said (step_of (wired n t owns a b left rule) (circles_in n a b) r earlier sets).outcome)
  unfolding step_of round_made done_made
  step_fits t owns left rule r earlier sets w =
      let W = wired n t owns a b left rule in
      let i = due_from W (circles_in n a b) r earlier sets in
      ⊎_elim
      (λ (h : ltb (due_from (wired n t owns a b left rule) (circles_in n a b) r earlier sets) (length (circles_in n a b)) ≡ true). rw h (
      let f = circle_fits i (ltb-true i (length (circles_in n a b)) h) in
      (omega (arith, f.0), number_fits r i, omega (arith, f.1))))
      (λ (h : ltb (due_from (wired n t owns a b left rule) (circles_in n a b) r earlier sets) (length (circles_in n a b)) ≡ false). rw h (
        omega (arith, w.circles),
        omega (arith, w.evaluations),
        omega (arith, changed_few W r earlier sets),
      ))
      (either (ltb i (length (circles_in n a b))))
