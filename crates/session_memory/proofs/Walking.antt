-- The walk from a table's header comes to every frame behind frames that are not refused. Assumes nothing.
use mathlib.Core.Path.{◌≡◌, refl, ap}
use mathlib.Core.Bool.{true}
use mathlib.Core.List.{List}
use mathlib.Core.Logic.{◌⊎◌, inl, inr, ⊎_elim}
use Prim.Native.Nat.{ℕ, zero, suc, ◌+◌, ◌*◌, ◌-◌, ◌≤◌, ◌<◌}
use native.Mathlib.Omega.{arith}
use borrow.Author.Tests.{lt-ltb, le-ltb}
use lib.ListN.{get_or}
use lib.Seq.{set-get_or}
use Rattle.text_line.proofs.Values.{lt_or_ge}
use Rattle.table.specs.Words.{symbol_count, production_count, child_count, defined}
use Rattle.table.specs.Judge.{header, production, refusal_at}
use Rattle.text_frame.specs.Walk.{entry_of, seek_from, next_of, is_on, Ready}
use Rattle.text_table.specs.Read.{store, Part, Sofar}
use Rattle.text_frame.specs.declared.Expected.{Expected}
use Rattle.text_frame.specs.declared.Expected.TheVariants.{AtHeader, AtSymbol, AtProduction, AtEquation, Ended}
use Rattle.text_table.proofs.Sofar.{shaped_so, step_goes, awaits_so}

-- ---- the order of the frames, as numbers

abbrev pub rank_of : Expected → ℕ
rank_of AtHeader = 0
rank_of (AtSymbol s) = 1 + s
rank_of (AtProduction p) = 33 + 21 * p
rank_of (AtEquation p q k) = 34 + 21 * p + (4 * q + k)
rank_of Ended = 1377

no_end : {A : Type 0} → is_on Ended ≡ true → A
no_end o = absurd (let z : ◌≡◌ {A = ℕ} 0 1 = cc in omega arith)

module _ (t : List ℕ) where
  -- the numbers that a frame of the table has
  pub low_rank : (y : Expected) → Sofar t y → is_on y ≡ true → rank_of y < 1377
  low_rank AtHeader f o = omega arith
  low_rank (AtSymbol s) f o = let a = awaits_so t (AtSymbol s) f in omega arith
  low_rank (AtProduction p) f o = let a = (awaits_so t (AtProduction p) f).0 in omega arith
  low_rank (AtEquation p q k) f o =
      let a = awaits_so t (AtEquation p q k) f in
      let b = a.0 in let c = a.1.0.arity in let d = a.1.1.0 in let e = a.1.1.1 in omega arith
  low_rank Ended f o = no_end o

  -- ---- what comes behind a frame that is not refused

  pub stays : (x : Expected) → Sofar t x → is_on x ≡ true → refusal_at t (entry_of x) ≡ 0 → Sofar t (next_of t x)
  stays AtHeader f o z = rw (set-get_or t 0 0) at (step_goes t AtHeader (get_or t 0 0) 0 o f (rw (set-get_or t 0 0) z))
  stays (AtSymbol s) f o z = rw (set-get_or t (1 + s) 0) at (step_goes t (AtSymbol s) (get_or t (1 + s) 0) 0 o f (rw (set-get_or t (1 + s) 0) z))
  stays (AtProduction p) f o z = rw (set-get_or t (33 + p) 0) at (step_goes t (AtProduction p) (get_or t (33 + p) 0) 0 o f (rw (set-get_or t (33 + p) 0) z))
  stays (AtEquation p q k) f o z =
      let m = 2 * (20 * p + (4 * q + k)) in
      let same : store t (AtEquation p q k) (get_or t (97 + m) 0) (get_or t (98 + m) 0) ≡ t = rw (set-get_or t (97 + m) 0, set-get_or t (98 + m) 0) in
      rw same at (step_goes t (AtEquation p q k) (get_or t (97 + m) 0) (get_or t (98 + m) 0) o f (rw same z))
  stays Ended f o z = no_end o

  pub ready_so : (x : Expected) → Sofar t x → refusal_at t (entry_of x) ≡ 0 → Ready t x
  ready_so AtHeader f z = tt
  ready_so (AtSymbol s) f z = awaits_so t (AtSymbol s) f
  ready_so (AtProduction p) f z = ((awaits_so t (AtProduction p) f).0, shaped_so t p f.1.0 z)
  ready_so (AtEquation p q k) f z = awaits_so t (AtEquation p q k) f
  ready_so Ended f z = tt

  -- ---- it stands further on

  module _ (p : ℕ) (small : p < 64) (arity : child_count t p ≤ 4) where
    seek_high : (n q : ℕ) → q + n ≡ suc (child_count t p) → 34 + 21 * p + 4 * q ≤ rank_of (seek_from n t p q)
    unfolding seek_from
    seek_high zero q e =
        ⊎_elim (λ h. rw (lt-ltb (p + 1) (production_count t) h) (omega arith)) (λ h. rw (le-ltb (p + 1) (production_count t) h) (omega arith)) (lt_or_ge (p + 1) (production_count t))
    seek_high (suc n) q e =
        ⊎_elim (λ h. rw (lt-ltb 0 (defined t p q) h) (omega arith)) (λ h. rw (le-ltb 0 (defined t p q) h) (omega (arith, seek_high n (q + 1) (omega arith)))) (lt_or_ge 0 (defined t p q))

  pub further : (x : Expected) → Sofar t x → is_on x ≡ true → refusal_at t (entry_of x) ≡ 0 → rank_of x < rank_of (next_of t x)
  unfolding next_of
  further AtHeader f o z = omega arith
  further (AtSymbol s) f o z =
      let a = awaits_so t (AtSymbol s) f in
      ⊎_elim (λ h. rw (lt-ltb (s + 1) (symbol_count t) h) (omega arith)) (λ h. rw (le-ltb (s + 1) (symbol_count t) h) (omega arith)) (lt_or_ge (s + 1) (symbol_count t))
  further (AtProduction p) f o z =
      let r = ready_so (AtProduction p) f z in
      omega (arith, seek_high p r.0 r.1.arity (suc (child_count t p)) 0 (omega arith))
  further (AtEquation p q k) f o z =
      let r = awaits_so t (AtEquation p q k) f in
      let i = r.1.1.0 in
      let j = r.1.1.1 in
      ⊎_elim (λ h. rw (lt-ltb (k + 1) (defined t p q) h) (omega arith))
      (λ h. rw (le-ltb (k + 1) (defined t p q) h) (omega (arith, seek_high p r.0 r.1.0.arity (child_count t p - q) (q + 1) (omega arith)))) (lt_or_ge (k + 1) (defined t p q))
  further Ended f o z = no_end o

  -- ---- and no further than any frame of the table behind it

  module _ (p : ℕ) (arity : child_count t p ≤ 4) where
    -- behind all positions of the production there is another production
    past_part : (y : Expected) → Sofar t y → is_on y ≡ true → 34 + 21 * p + 4 * suc (child_count t p) ≤ rank_of y → (54 + 21 * p ≤ rank_of y) × (p + 1 < production_count t)
    past_part AtHeader f o h = absurd (omega arith)
    past_part (AtSymbol s) f o h = let a = awaits_so t (AtSymbol s) f in absurd (omega arith)
    past_part (AtProduction p') f o h = let b = f.0 in (omega arith, omega arith)
    past_part (AtEquation p' q k) f o h =
        let r = awaits_so t (AtEquation p' q k) f in
        let b = f.0.production in
        let c = r.1.0.arity in
        let i = r.1.1.0 in
        let j = r.1.1.1 in
        let l : p < p' =
        ⊎_elim (λ l. l) (λ (g : p' ≤ p). absurd (⊎_elim (λ (m : p' < p). omega arith) (λ (m : p ≤ p'). let e : p ≡ p' = omega arith in let n = ap (child_count t) e in omega arith) (lt_or_ge p' p))) (lt_or_ge p p') in
        (omega arith, omega arith)
    past_part Ended f o h = no_end o

    -- a position that defines nothing has no frame
    past_empty : (y : Expected) → Sofar t y → is_on y ≡ true → (q : ℕ) → q ≤ 4 → defined t p q ≤ 0 → 34 + 21 * p + 4 * q ≤ rank_of y → 34 + 21 * p + 4 * (q + 1) ≤ rank_of y
    past_empty AtHeader f o q l d h = absurd (omega arith)
    past_empty (AtSymbol s) f o q l d h = let a = awaits_so t (AtSymbol s) f in absurd (omega arith)
    past_empty (AtProduction p') f o q l d h = let g : p < p' = omega arith in omega arith
    past_empty (AtEquation p' q' k') f o q l d h =
        let r = awaits_so t (AtEquation p' q' k') f in
        let c = r.1.0.arity in
        let i = r.1.1.0 in
        let j = r.1.1.1 in
        let s = f.0.set in
        ⊎_elim (λ (g : p < p'). omega arith)
        (λ (g : p' ≤ p).
        let e : p' ≡ p = omega arith in
        ⊎_elim (λ (m : q < q'). omega arith) (λ (m : q' ≤ q). absurd (let e' : q' ≡ q = omega arith in let n : k' < defined t p q = rw (← e, ← e') s in omega arith)) (lt_or_ge q q'))
        (lt_or_ge p p')
    past_empty Ended f o q l d h = no_end o

    module _ (y : Expected) (f : Sofar t y) (o : is_on y ≡ true) where
      seek_low : (n q : ℕ) → q + n ≡ suc (child_count t p) → 34 + 21 * p + 4 * q ≤ rank_of y → rank_of (seek_from n t p q) ≤ rank_of y
      unfolding seek_from
      seek_low zero q e h =
          let a = past_part y f o (omega arith) in
          rw (lt-ltb (p + 1) (production_count t) a.1) (omega arith)
      seek_low (suc n) q e h =
          ⊎_elim (λ d. rw (lt-ltb 0 (defined t p q) d) (omega arith))
          (λ d. rw (le-ltb 0 (defined t p q) d) (seek_low n (q + 1) (omega arith) (past_empty y f o q (omega arith) d h))) (lt_or_ge 0 (defined t p q))

  -- ---- the goal y is reached, or the frame before it is passed

  pub record Passes (x y : Expected) : Type 0 where
    pub on : is_on x ≡ true
    pub sound : refusal_at t (entry_of x) ≡ 0
    pub low : rank_of (next_of t x) ≤ rank_of y

  symbol_low : (s : ℕ) (y : Expected) → s < 32 → 33 ≤ rank_of y → rank_of (next_of t (AtSymbol s)) ≤ rank_of y
  unfolding next_of
  symbol_low s y b h =
      ⊎_elim (λ k. rw (lt-ltb (s + 1) (symbol_count t) k) (omega arith)) (λ k. rw (le-ltb (s + 1) (symbol_count t) k) (omega arith)) (lt_or_ge (s + 1) (symbol_count t))

  production_low : (p : ℕ) (y : Expected) → Sofar t (AtProduction p) → refusal_at t (production p) ≡ 0 → Sofar t y → is_on y ≡ true → 34 + 21 * p ≤ rank_of y → rank_of (next_of t (AtProduction p)) ≤ rank_of y
  unfolding next_of
  production_low p y f z g o h = seek_low p (ready_so (AtProduction p) f z).1.arity y g o (suc (child_count t p)) 0 (omega arith) (omega arith)

  -- behind an equation: the next one of its position, or y stands behind the position
  equation_low : (p q k : ℕ) (y : Expected) → Sofar t (AtEquation p q k) → Sofar t y → is_on y ≡ true → 34 + 21 * p + (4 * q + k) < rank_of y
      → (defined t p q ≤ k + 1 → 34 + 21 * p + 4 * (q + 1) ≤ rank_of y) → rank_of (next_of t (AtEquation p q k)) ≤ rank_of y
  unfolding next_of
  equation_low p q k y f g o h i =
      let r = awaits_so t (AtEquation p q k) f in
      let l = r.1.1.0 in
      ⊎_elim (λ d. rw (lt-ltb (k + 1) (defined t p q) d) (omega arith))
      (λ d. rw (le-ltb (k + 1) (defined t p q) d) (seek_low p r.1.0.arity y g o (child_count t p - q) (q + 1) (omega arith) (i d))) (lt_or_ge (k + 1) (defined t p q))

  or_same : (a b : ℕ) → a ≤ b → (a ≡ b) ⊎ (a < b)
  or_same a b h = ⊎_elim (λ k. inr k) (λ k. inl (omega arith)) (lt_or_ge a b)

  part_low : (p q k : ℕ) (y : Expected) → Sofar t (AtEquation p q k) → 54 + 21 * p ≤ rank_of y → 34 + 21 * p + 4 * (q + 1) ≤ rank_of y
  part_low p q k y f h = let r = awaits_so t (AtEquation p q k) f in let a = r.1.0.arity in let i = r.1.1.0 in omega arith

  in_part : (p q k : ℕ) (y : Expected) → Sofar t (AtEquation p q k) → Sofar t y → is_on y ≡ true → 54 + 21 * p ≤ rank_of y → Part t p → Passes (AtEquation p q k) y
  in_part p q k y f g o h d =
      let r = awaits_so t (AtEquation p q k) f in
      let a = r.1.0.arity in
      let i = r.1.1.0 in
      let j = r.1.1.1 in
      record { on = refl; sound = d.equations q k f.0.position f.0.set; low = equation_low p q k y f g o (omega arith) (λ m. part_low p q k y f h) }

  module _ (p q k : ℕ) (f : Sofar t (AtEquation p q k)) where
    same_position : (k' : ℕ) → Sofar t (AtEquation p q k') → k ≤ k' → (AtEquation p q k ≡ AtEquation p q k') ⊎ Passes (AtEquation p q k) (AtEquation p q k')
    same_position k' g h =
        ⊎_elim (λ (e : k ≡ k'). inl (ap (AtEquation p q) e))
        (λ (l : k < k').
        let b = g.0.set in
        inr (record { on = refl; sound = g.1.1.1.sets k l f.0.set; low = equation_low p q k (AtEquation p q k') f g refl (omega arith) (λ m. absurd (omega arith)) })) (or_same k k' h)

    same_production : (q' k' : ℕ) → Sofar t (AtEquation p q' k') → 4 * q + k ≤ 4 * q' + k' → (AtEquation p q k ≡ AtEquation p q' k') ⊎ Passes (AtEquation p q k) (AtEquation p q' k')
    same_production q' k' g h =
        let i = (awaits_so t (AtEquation p q k) f).1.1.1 in
        let j = (awaits_so t (AtEquation p q' k') g).1.1.1 in
        ⊎_elim (λ (e : q ≡ q'). rw (← e) (same_position k' (rw (← e) at g) (omega arith)))
        (λ (l : q < q').
        inr (record { on = refl; sound = g.1.1.1.positions q k l f.0.position f.0.set; low = equation_low p q k (AtEquation p q' k') f g refl (omega arith) (λ m. omega arith) })) (or_same q q' (omega arith))

    same_table : (p' q' k' : ℕ) → Sofar t (AtEquation p' q' k') → 21 * p + (4 * q + k) ≤ 21 * p' + (4 * q' + k') → (AtEquation p q k ≡ AtEquation p' q' k') ⊎ Passes (AtEquation p q k) (AtEquation p' q' k')
    same_table p' q' k' g h =
        let b = awaits_so t (AtEquation p' q' k') g in
        let a = b.1.0.arity in
        let i = b.1.1.0 in
        let j = b.1.1.1 in
        ⊎_elim (λ (e : p ≡ p'). rw (← e) (same_production q' k' (rw (← e) at g) (omega arith)))
        (λ (l : p < p'). inr (in_part p q k (AtEquation p' q' k') f g refl (omega arith) (g.1.1.0 p l))) (or_same p p' (omega arith))

  pub comes : (x y : Expected) → Sofar t x → Sofar t y → is_on y ≡ true → rank_of x ≤ rank_of y → (x ≡ y) ⊎ Passes x y
  unfolding next_of
  comes AtHeader AtHeader f g o h = inl refl
  comes AtHeader (AtSymbol s) f g o h = inr (record { on = refl; sound = g.1.0; low = omega arith })
  comes AtHeader (AtProduction p) f g o h = inr (record { on = refl; sound = g.1.0.header; low = omega arith })
  comes AtHeader (AtEquation p q k) f g o h = inr (record { on = refl; sound = g.1.0.header; low = omega arith })
  comes (AtSymbol s) AtHeader f g o h = absurd (omega arith)
  comes (AtSymbol s) (AtSymbol s') f g o h =
      ⊎_elim (λ (e : s ≡ s'). inl (ap AtSymbol e))
      (λ (l : s < s'). let b = g.0 in inr (record { on = refl; sound = g.1.1 s l; low = rw (lt-ltb (s + 1) (symbol_count t) (omega arith)) (omega arith) }))
      (or_same s s' (omega arith))
  comes (AtSymbol s) (AtProduction p) f g o h =
      inr (record { on = refl; sound = g.1.0.symbols s f.0; low = symbol_low s (AtProduction p) (awaits_so t (AtSymbol s) f) (omega arith) })
  comes (AtSymbol s) (AtEquation p q k) f g o h =
      inr (record { on = refl; sound = g.1.0.symbols s f.0; low = symbol_low s (AtEquation p q k) (awaits_so t (AtSymbol s) f) (omega arith) })
  comes (AtProduction p) AtHeader f g o h = absurd (omega arith)
  comes (AtProduction p) (AtSymbol s) f g o h = let a = awaits_so t (AtSymbol s) g in absurd (omega arith)
  comes (AtProduction p) (AtProduction p') f g o h =
      ⊎_elim (λ (e : p ≡ p'). inl (ap AtProduction e))
      (λ (l : p < p'). let z = (g.1.1 p l).production in inr (record { on = refl; sound = z; low = production_low p (AtProduction p') f z g o (omega arith) }))
      (or_same p p' (omega arith))
  comes (AtProduction p) (AtEquation p' q k) f g o h =
      let r = awaits_so t (AtEquation p' q k) g in
      let a = r.1.0.arity in
      let i = r.1.1.0 in
      let j = r.1.1.1 in
      let m : p ≤ p' = omega arith in
      let z : refusal_at t (production p) ≡ 0 = ⊎_elim (λ (e : p ≡ p'). rw e g.1.1.1.production) (λ (l : p < p'). (g.1.1.0 p l).production) (or_same p p' m) in
      inr (record { on = refl; sound = z; low = production_low p (AtEquation p' q k) f z g o (omega arith) })
  comes (AtEquation p q k) AtHeader f g o h = absurd (omega arith)
  comes (AtEquation p q k) (AtSymbol s) f g o h = let a = awaits_so t (AtSymbol s) g in absurd (omega arith)
  comes (AtEquation p q k) (AtProduction p') f g o h =
      let l : p < p' = omega arith in
      inr (in_part p q k (AtProduction p') f g o (omega arith) (g.1.1 p l))
  comes (AtEquation p q k) (AtEquation p' q' k') f g o h = same_table p q k f p' q' k' g (omega arith)
  comes AtHeader Ended f g o h = no_end o
  comes (AtSymbol s) Ended f g o h = no_end o
  comes (AtProduction p) Ended f g o h = no_end o
  comes (AtEquation p q k) Ended f g o h = no_end o
  comes Ended y f g o h = absurd (omega (arith, low_rank y g o))

-- ---- the walk's invariant: x is on the way to y, and the count `still` has room for what is left of it
pub record OnTheWay (t : List ℕ) (y x : Expected) (still : ℕ) : Type 0 where
  pub so : Sofar t x
  pub low : Sofar t y × (is_on y ≡ true) → rank_of x ≤ rank_of y
  pub room : 1377 ≤ rank_of x + still

module _ (t : List ℕ) (y : Expected) where
  pub begins : OnTheWay t y AtHeader 2657
  begins = record { so = tt; low = λ w. omega arith; room = omega arith }

  -- where x is not the goal it is passed, and at the end of the count there is no goal
  module _ (x : Expected) (still : ℕ) (i : OnTheWay t y x still) where
    pub passes : ((x ≡ y) × (is_on x ≡ true) → ⊥) → Sofar t y × (is_on y ≡ true) → Passes t x y
    passes n w = ⊎_elim (λ (e : x ≡ y). absurd (n (e, rw e w.1))) (λ p. p) (comes t x y i.so w.0 w.1 (i.low w))

    pub goes_on : 0 < still → ((x ≡ y) × (is_on x ≡ true) → ⊥) → (is_on x ≡ true) × (refusal_at t (entry_of x) ≡ 0) → OnTheWay t y (next_of t x) (still - 1)
    goes_on h n s =
        record { so = stays t x i.so s.0 s.1; low = λ w. (passes n w).low; room = omega (arith, further t x i.so s.0 s.1, i.room) }

    pub none_left : still ≤ 0 → Sofar t y × (is_on y ≡ true) → ⊥
    none_left z w = omega (arith, low_rank t y w.0 w.1, i.low w, i.room)
