-- A walk's number turn by turn: it is 0 exactly where the walk comes to the expected frame, and else the number of the frame that it stops at. Assumes nothing.
use mathlib.Core.Path.{◌≡◌, refl, ap, sym, ◌∙◌}
use mathlib.Core.Bool.{Bool, true, false, cond, true≢false}
use mathlib.Core.List.{List, [], ◌∷◌}
use mathlib.Core.Logic.{◌⊎◌, inl, inr, ⊎_elim}
use Prim.Native.Nat.{ℕ, zero, suc, ◌-◌, ◌≤◌, ◌<◌}
use native.Mathlib.Omega.{arith}
use borrow.Author.Tests.{eqb-true, eq-eqb}
use lib.Dec.{eqb}
use lib.ListN.{get_or}
use Rattle.text_line.proofs.Values.{lt_or_ge}
use Rattle.table.specs.Judge.{refusal_at}
use Rattle.refusal.proofs.Orders.{or_left, or_right}
use Rattle.table.proofs.Refused.{frame_most}
use Rattle.climb.proofs.Lists.{either, and_is}
use Rattle.text_frame.specs.declared.Expected.{Expected}
use Rattle.text_frame.specs.declared.Expected.TheVariants.{AtHeader, AtSymbol, AtProduction, AtEquation, Ended}
use Rattle.text_frame.specs.Walk.{entry_of, next_of, is_on}
use Rattle.text_table.specs.Read.{Sofar}
use Rattle.text_table.proofs.Refusing.{at_end}
use Rattle.session_memory.specs.Suspended.{Tests}
use Rattle.session_memory.specs.Refusals.{frame_refusal, frame_key, alike, meets, walk_refusal, sofar_refusal, Comes, first, next, StopsBefore}
use Rattle.session_memory.proofs.Deciding.{tested_not}
use Rattle.session_memory.proofs.Walking.{low_rank, OnTheWay, begins, passes, goes_on, none_left}

-- ---- a frame, and the expected one

-- a place leads back to its frame
expected_at : List ℕ → Expected
expected_at l =
    cond (eqb (get_or l 0 0) 0) AtHeader
    (cond (eqb (get_or l 0 0) 1) (AtSymbol (get_or l 1 0))
    (cond (eqb (get_or l 0 0) 2) (AtProduction (get_or l 1 0))
    (cond (eqb (get_or l 0 0) 3) (AtEquation (get_or l 1 0) (get_or l 2 0) (get_or l 3 0)) Ended)))

led_back : (x : Expected) → expected_at (frame_key x) ≡ x
unfolding expected_at
led_back AtHeader = refl
led_back (AtSymbol s) = refl
led_back (AtProduction p) = refl
led_back (AtEquation p q k) = refl
led_back Ended = refl

alike_same : (k l : List ℕ) → alike k l ≡ true → k ≡ l
alike_same [] [] h = refl
alike_same [] (b ∷ l) h = absurd (true≢false (sym h))
alike_same (a ∷ k) [] h = absurd (true≢false (sym h))
alike_same (a ∷ k) (b ∷ l) h =
    let q = and_is {a = eqb a b} h in
    ap (λ (c : ℕ). c ∷ k) (eqb-true a b q.0) ∙ ap (λ (i : List ℕ). b ∷ i) (alike_same k l q.1)

alike_self : (l : List ℕ) → alike l l ≡ true
alike_self [] = refl
alike_self (a ∷ l) = rw (eq-eqb a a refl) (alike_self l)

pub meets_tests : (x y : Expected) → Tests (meets x y) ((x ≡ y) × (is_on x ≡ true))
meets_tests x y = record {
  yes = λ h. let q = and_is {a = is_on x} h in (sym (led_back x) ∙ ap expected_at (alike_same (frame_key x) (frame_key y) q.1) ∙ led_back y, q.0);
  no = λ w. met w.0 w.1;
}
  where
    met : x ≡ y → is_on x ≡ true → meets x y ≡ true
    met e o = rw (o, ← e) (alike_self (frame_key x))

-- ---- one turn of the walk

module _ (t : List ℕ) (x y : Expected) (n : ℕ) where
  pub walk_meets : meets x y ≡ true → walk_refusal (suc n) t x y ≡ 0
  unfolding walk_refusal
  walk_meets h = rw h

  pub walk_passes : meets x y ≡ false → frame_refusal t x ≡ 0 → walk_refusal (suc n) t x y ≡ walk_refusal n t (next_of t x) y
  unfolding walk_refusal
  walk_passes h z = rw h (or_right (frame_refusal t x) (walk_refusal n t (next_of t x) y) z)

  pub walk_stops : meets x y ≡ false → 0 < frame_refusal t x → walk_refusal (suc n) t x y ≡ frame_refusal t x
  unfolding walk_refusal
  walk_stops h z = rw h (or_left (frame_refusal t x) (walk_refusal n t (next_of t x) y) z)

pub walk_out : (t : List ℕ) (x y : Expected) (n : ℕ) → n ≤ 0 → walk_refusal n t x y ≡ 11
unfolding walk_refusal
walk_out t x y zero h = refl
walk_out t x y (suc n) h = absurd (omega arith)

on_frame : (t : List ℕ) (x : Expected) → is_on x ≡ true → frame_refusal t x ≡ refusal_at t (entry_of x)
on_frame t x o = rw o

-- a frame's number is 0 exactly for a frame that is not refused
pub frame_none : (t : List ℕ) (x : Expected) → frame_refusal t x ≡ 0 → (is_on x ≡ true) × (refusal_at t (entry_of x) ≡ 0)
frame_none t x = go (is_on x) (refusal_at t (entry_of x))
  where
    go : (b : Bool) (k : ℕ) → cond b k 11 ≡ 0 → (b ≡ true) × (k ≡ 0)
    go true k h = (refl, h)
    go false k h = absurd (omega arith)

-- ---- the walk to y

module _ (t : List ℕ) (y : Expected) where
  -- it arrives, passes a frame, stops at one, or is through
  data WalkTurn (n : ℕ) (x : Expected) : Type 0 where
    arrives : x ≡ y → is_on x ≡ true → walk_refusal (suc n) t x y ≡ 0 → WalkTurn n x
    passing : is_on x ≡ true → (x ≡ y → ⊥) → refusal_at t (entry_of x) ≡ 0 → walk_refusal (suc n) t x y ≡ walk_refusal n t (next_of t x) y → WalkTurn n x
    stops : is_on x ≡ true → (x ≡ y → ⊥) → 0 < refusal_at t (entry_of x) → walk_refusal (suc n) t x y ≡ refusal_at t (entry_of x) → WalkTurn n x
    through : x ≡ Ended → walk_refusal (suc n) t x y ≡ 11 → WalkTurn n x

  turn : (n : ℕ) (x : Expected) → WalkTurn n x
  turn n x = ⊎_elim
      (λ (q : meets x y ≡ true). let w = (meets_tests x y).yes q in arrives w.0 w.1 (walk_meets t x y n q))
      (λ (q : meets x y ≡ false). ⊎_elim
      (λ (o : is_on x ≡ true).
      let a : x ≡ y → ⊥ = λ e. tested_not (meets_tests x y) q (e, o) in
      let f = on_frame t x o in
      ⊎_elim
      (λ (l : 0 < refusal_at t (entry_of x)). stops o a l (walk_stops t x y n q (omega arith) ∙ f))
      (λ (l : refusal_at t (entry_of x) ≤ 0). let z : refusal_at t (entry_of x) ≡ 0 = omega arith in passing o a z (walk_passes t x y n q (f ∙ z)))
      (lt_or_ge 0 (refusal_at t (entry_of x))))
      (λ (o : is_on x ≡ false). let f : frame_refusal t x ≡ 11 = rw o in through (at_end x o) (walk_stops t x y n q (omega arith) ∙ f))
      (either (is_on x)))
      (either (meets x y))

  -- a frame that is not y is not met
  unmet : (x : Expected) → (x ≡ y → ⊥) → is_on x ≡ true → meets x y ≡ false
  unmet x a o = ⊎_elim (λ (q : meets x y ≡ true). absurd (a ((meets_tests x y).yes q).0)) (λ (q : meets x y ≡ false). q) (either (meets x y))

  walk_on : (n : ℕ) (x : Expected) → OnTheWay t y x (suc n) → is_on x ≡ true → (x ≡ y → ⊥) → refusal_at t (entry_of x) ≡ 0 → OnTheWay t y (next_of t x) n
  walk_on n x i o a z = let e : suc n - 1 ≡ n = omega arith in rw e at (goes_on t y x (suc n) i (omega arith) (λ w. a w.0) (o, z))

  -- a frame is left while a walk stands at one
  left_over : (x : Expected) → OnTheWay t y x zero → is_on x ≡ true → ⊥
  left_over x i o = omega (arith, low_rank t x i.so o, i.room)

  -- ---- 0 exactly where y is a frame behind frames that are not refused

  walk_none : (n : ℕ) (x : Expected) → OnTheWay t y x n → walk_refusal n t x y ≡ 0 → Sofar t y × (is_on y ≡ true)
  walk_none zero x i h = let e = walk_out t x y zero (omega arith) in absurd (omega arith)
  walk_none (suc n) x i h = go (turn n x) (walk_none n)
    where
      go : WalkTurn n x → ((x' : Expected) → OnTheWay t y x' n → walk_refusal n t x' y ≡ 0 → Sofar t y × (is_on y ≡ true)) → Sofar t y × (is_on y ≡ true)
      go (arrives e o k) f = (rw e at i.so, rw e at o)
      go (passing o a z k) f = f (next_of t x) (walk_on n x i o a z) (sym k ∙ h)
      go (stops o a l k) f = absurd (omega arith)
      go (through e k) f = absurd (omega arith)

  none_walk : Sofar t y × (is_on y ≡ true) → (n : ℕ) (x : Expected) → OnTheWay t y x n → walk_refusal n t x y ≡ 0
  none_walk w zero x i = absurd (none_left t y x zero i (omega arith) w)
  none_walk w (suc n) x i = go (turn n x) (none_walk w n)
    where
      go : WalkTurn n x → ((x' : Expected) → OnTheWay t y x' n → walk_refusal n t x' y ≡ 0) → walk_refusal (suc n) t x y ≡ 0
      go (arrives e o k) f = k
      go (passing o a z k) f = k ∙ f (next_of t x) (walk_on n x i o a z)
      go (stops o a l k) f = let z = (passes t y x (suc n) i (λ v. a v.0) w).sound in absurd (omega arith)
      go (through e k) f = let o = (passes t y x (suc n) i (λ v. true≢false (sym v.1 ∙ rw e)) w).on in absurd (true≢false (sym o ∙ rw e))

  pub sofar_none : sofar_refusal t y ≡ 0 → Sofar t y × (is_on y ≡ true)
  sofar_none = walk_none 2657 AtHeader (begins t y)

  pub none_sofar : Sofar t y × (is_on y ≡ true) → sofar_refusal t y ≡ 0
  none_sofar w = none_walk w 2657 AtHeader (begins t y)

  -- ---- wherever the walk comes, what is left of it gives the same number

  record Follows (x : Expected) : Type 0 where
    still : ℕ
    way : OnTheWay t y x still
    same : sofar_refusal t y ≡ walk_refusal still t x y

  follow_on : (x : Expected) (n : ℕ) → OnTheWay t y x n → sofar_refusal t y ≡ walk_refusal n t x y → is_on x ≡ true → (x ≡ y → ⊥) → refusal_at t (entry_of x) ≡ 0 → Follows (next_of t x)
  follow_on x zero i e o a z = absurd (left_over x i o)
  follow_on x (suc n) i e o a z = record { still = n; way = walk_on n x i o a z; same = e ∙ walk_passes t x y n (unmet x a o) (on_frame t x o ∙ z) }

  follows : {x : Expected} → Comes t y x → Follows x
  follows first = record { still = 2657; way = begins t y; same = refl }
  follows (next {x} c o a z) = let f = follows c in follow_on x f.still f.way f.same o a z

  -- ---- 1 to 5 of a frame that it stops at

  stops_at : (n : ℕ) (x : Expected) → Comes t y x → OnTheWay t y x n → (k : ℕ) → 1 ≤ k → k ≤ 5 → walk_refusal n t x y ≡ k → StopsBefore t y k
  stops_at zero x c i k l u h = let e = walk_out t x y zero (omega arith) in absurd (omega arith)
  stops_at (suc n) x c i k l u h = go (turn n x) (stops_at n)
    where
      go : WalkTurn n x → ((x' : Expected) → Comes t y x' → OnTheWay t y x' n → (j : ℕ) → 1 ≤ j → j ≤ 5 → walk_refusal n t x' y ≡ j → StopsBefore t y j) → StopsBefore t y k
      go (arrives e o q) f = absurd (omega arith)
      go (passing o a z q) f = f (next_of t x) (next c o a z) (walk_on n x i o a z) k l u (sym q ∙ h)
      go (stops o a p q) f = record { place = x; comes = c; on = o; unmet = a; number = sym q ∙ h }
      go (through e q) f = absurd (omega arith)

  pub stops_to : (k : ℕ) → 1 ≤ k → k ≤ 5 → sofar_refusal t y ≡ k → StopsBefore t y k
  stops_to k l u h = stops_at 2657 AtHeader first (begins t y) k l u h

  stop_from : (x : Expected) (n : ℕ) → OnTheWay t y x n → is_on x ≡ true → (x ≡ y → ⊥) → 0 < refusal_at t (entry_of x) → walk_refusal n t x y ≡ refusal_at t (entry_of x)
  stop_from x zero i o a l = absurd (left_over x i o)
  stop_from x (suc n) i o a l = let f = on_frame t x o in walk_stops t x y n (unmet x a o) (omega arith) ∙ f

  pub stops_from : (k : ℕ) → 1 ≤ k → StopsBefore t y k → sofar_refusal t y ≡ k
  stops_from k l s = let f = follows s.comes in f.same ∙ stop_from s.place f.still f.way s.on s.unmet (omega (arith, s.number)) ∙ s.number

  -- ---- 11 where it is through

  ends_at : (n : ℕ) (x : Expected) → Comes t y x → OnTheWay t y x n → walk_refusal n t x y ≡ 11 → Comes t y Ended
  ends_at zero x c i h = ⊎_elim (λ (o : is_on x ≡ true). absurd (left_over x i o)) (λ (o : is_on x ≡ false). rw (at_end x o) at c) (either (is_on x))
  ends_at (suc n) x c i h = go (turn n x) (ends_at n)
    where
      go : WalkTurn n x → ((x' : Expected) → Comes t y x' → OnTheWay t y x' n → walk_refusal n t x' y ≡ 11 → Comes t y Ended) → Comes t y Ended
      go (arrives e o q) f = absurd (omega arith)
      go (passing o a z q) f = f (next_of t x) (next c o a z) (walk_on n x i o a z) (sym q ∙ h)
      go (stops o a l q) f = absurd (omega (arith, frame_most t (entry_of x)))
      go (through e q) f = rw e at c

  pub ends_to : sofar_refusal t y ≡ 11 → Comes t y Ended
  ends_to h = ends_at 2657 AtHeader first (begins t y) h

  ended_walk : (n : ℕ) → walk_refusal n t Ended y ≡ 11
  unfolding walk_refusal
  ended_walk zero = refl
  ended_walk (suc n) = refl

  pub ends_from : Comes t y Ended → sofar_refusal t y ≡ 11
  ends_from c = let f = follows c in f.same ∙ ended_walk f.still

  -- ---- no other number

  walk_low : (n : ℕ) (x : Expected) → (walk_refusal n t x y ≤ 5) ⊎ (walk_refusal n t x y ≡ 11)
  walk_low zero x = inr (walk_out t x y zero (omega arith))
  walk_low (suc n) x = go (turn n x) (walk_low n)
    where
      go : WalkTurn n x → ((x' : Expected) → (walk_refusal n t x' y ≤ 5) ⊎ (walk_refusal n t x' y ≡ 11)) → (walk_refusal (suc n) t x y ≤ 5) ⊎ (walk_refusal (suc n) t x y ≡ 11)
      go (arrives e o q) f = inl (omega arith)
      go (passing o a z q) f = rw q (f (next_of t x))
      go (stops o a l q) f = inl (omega (arith, frame_most t (entry_of x)))
      go (through e q) f = inr q

  pub sofar_low : (sofar_refusal t y ≤ 5) ⊎ (sofar_refusal t y ≡ 11)
  sofar_low = walk_low 2657 AtHeader
