-- What an update and a dump print is determined: no second text fits. Assumes nothing.
use mathlib.Core.Path.{◌≡◌, sym, ap, ◌∙◌, subst, fun_ext}
use mathlib.Core.Bool.{Bool, true, cond}
use mathlib.Core.Logic.{◌↔◌}
use mathlib.Core.List.{List, map}
use Prim.Native.Nat.{ℕ, suc, ◌*◌, ◌≤◌, ◌<◌}
use native.Mathlib.Nat.{le_refl}
use native.Mathlib.Omega.{arith}
use lib.ListN.{length}
use Rattle.circles.proofs.Lists.{bool_same}
use Rattle.climb.specs.System.{Assignment, System, graph_of}
use Rattle.climb.proofs.Sums.{sum_same, turns_behind, one_turn}
use Rattle.climb.proofs.Rounds.{takes_unique}
use Rattle.wire.specs.Instances.{system}
use Rattle.demands.specs.Work.{Due, over_due, Climbing, RoundTurn}
use Rattle.demands.specs.Asked.{ByRank, changed_from}
use Rattle.demands.proofs.Updating.{one_least}
use Rattle.demands.proofs.Circles.{rising_same}
use Rattle.text_frame.specs.Out.{dump_text}
use Rattle.session.specs.Lines.{UpdateLines, then_round, then_done, UpdateText, SetsText}
use Rattle.circles.specs.Ranked.{circle_at}

-- ---- turns

-- the sums over due circles look at those alone that are below their number
due_same : (due : ℕ → Bool) (f g : ℕ → ℕ) (n : ℕ) → ((i : ℕ) → i < n → f i ≡ g i) → over_due due f n ≡ over_due due g n
due_same due f g n h = sum_same (λ i. cond (due i) (f i) 0) (λ i. cond (due i) (g i) 0) n (λ i k. rw (h i k))

turn_within : {count i k n : ℕ} {due : ℕ → Bool} {climb : ℕ → ℕ} → RoundTurn count due climb i k n → n < over_due due climb count
turn_within {count} {i} {due = due} {climb} f = omega (arith, turns_behind due climb i count f.worked f.rank)

-- ---- lines

module _ (R : List (List ℕ)) (due : ℕ → Bool) (climb other : ℕ → ℕ) (changed : ℕ) (same : (i : ℕ) → i < length R → climb i ≡ other i) where
  sums : (i : ℕ) → i ≤ length R → over_due due climb i ≡ over_due due other i
  sums i l = due_same due climb other i (λ k h. same k (omega arith))

  turn_as : {i k n : ℕ} → RoundTurn (length R) due other i k n → RoundTurn (length R) due climb i k n
  turn_as {i} f = record {
    rank = f.rank;
    worked = f.worked;
    some = f.some;
    few = omega (arith, f.few, same i f.rank);
    time = omega (arith, f.time, sums i (omega (arith, f.rank)));
  }

  lines_same : {n : ℕ} {a b : List ℕ} → UpdateLines R due climb changed n a → UpdateLines R due other changed n b → a ≡ b
  lines_same {n} (then_round {text = x} i k f p) (then_round {text = y} j l g q) =
      let h = turn_as g in
      let e = one_turn due climb i k j l (suc n) f.worked f.some f.few f.time h.worked h.some h.few h.time in
      let z : x ≡ y = lines_same p q in
      rw (e.0, e.1, z, same j g.rank)
  lines_same {n} (then_round i k f p) (then_done e) = absurd (omega (arith, turn_within f, sums (length R) (le_refl (length R))))
  lines_same {n} (then_done e) (then_round j l g q) = absurd (omega (arith, turn_within (turn_as g)))
  lines_same {n} (then_done e) (then_done f) =
      rw (due_same due (λ i. length (circle_at R i) * climb i) (λ i. length (circle_at R i) * other i) (length R) (λ i l. ap (λ (k : ℕ). length (circle_at R i) * k) (same i l)))

-- ---- an update

module _ (S : System) (fresh survives : ℕ → Bool) (earlier : Assignment) where
  -- an update's text over the least sets v and the circles R
  record Over (v : Assignment) (R : List (List ℕ)) (text : List ℕ) : Type 0 where
    due : ℕ → Bool
    exactly : (i : ℕ) → (due i ≡ true) ↔ Due S fresh earlier v (circle_at R i)
    climb : ℕ → ℕ
    climbing : (i : ℕ) → i < length R → Climbing S (circle_at R i) v (climb i)
    lines : UpdateLines R due climb (changed_from S survives earlier v) 0 text

  over : {text : List ℕ} (p : UpdateText S fresh survives earlier text) → Over p.sets p.circles text
  over p = record { due = p.due; exactly = p.exactly; climb = p.climb; climbing = p.climbing; lines = p.lines }

  over_same : (v : Assignment) (R : List (List ℕ)) {a b : List ℕ} → Over v R a → Over v R b → a ≡ b
  over_same v R {a} {b} p q =
      let d : q.due ≡ p.due = fun_ext (λ i. bool_same (q.due i) (p.due i) (λ h. (p.exactly i).1 ((q.exactly i).0 h)) (λ h. (q.exactly i).1 ((p.exactly i).0 h))) in
      let l = subst (λ (due : ℕ → Bool). UpdateLines R due q.climb (changed_from S survives earlier v) 0 b) d q.lines in
      lines_same R p.due p.climb q.climb (changed_from S survives earlier v)
      (λ i h. takes_unique S (circle_at R i) v (p.climb i) (q.climb i) (p.climbing i h).takes (q.climbing i h).takes) p.lines l

  -- where the circles by rank are determined
  pub one_update : ((A B : List (List ℕ)) → ByRank (graph_of S) A → ByRank (graph_of S) B → A ≡ B)
      → {a b : List ℕ} → UpdateText S fresh survives earlier a → UpdateText S fresh survives earlier b → a ≡ b
  one_update one {a} {b} p q =
      let e : q.sets ≡ p.sets = one_least S q.sets p.sets q.least p.least in
      let c : q.circles ≡ p.circles = one q.circles p.circles q.ranked p.ranked in
      let k = subst (λ (v : Assignment). Over v q.circles b) e (over q) in
      over_same p.sets p.circles (over p) (subst (λ (R : List (List ℕ)). Over p.sets R b) c k)

-- ---- a dump

pub one_dump : {t ns owns a b : List ℕ} → SetsText t ns owns a → SetsText t ns owns b → a ≡ b
one_dump {t} {ns} {owns} p q =
    let e : p.sets ≡ q.sets = one_least (system t ns owns) p.sets q.sets p.least q.least in
    let i : p.instances ≡ q.instances =
    rising_same p.rising q.rising (λ x h. (q.exactly x).1 ((p.exactly x).0 h)) (λ x h. (p.exactly x).1 ((q.exactly x).0 h)) in
    p.shows ∙ ap (λ (v : Assignment). dump_text (map (λ x. record { instance = x; value = v x }) p.instances)) e
    ∙ ap (λ (l : List ℕ). dump_text (map (λ x. record { instance = x; value = q.sets x }) l)) i ∙ sym q.shows
