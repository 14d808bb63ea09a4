-- Cursors are set, and a circle is taken. Assumes nothing.
use Prim.Native.Nat.{ℕ, ◌+◌, ◌≤◌, ◌<◌, ◌/◌, ◌%◌}
use native.Mathlib.Omega.{arith}
use native.Mathlib.Decide.{ℕ_discrete, dec_lt}
use mathlib.Core.Path.{◌≡◌, refl, sym, ap, subst, ◌∙◌}
use mathlib.Core.List.{List}
use mathlib.Core.Logic.{◌⊎◌, inl, inr, ⊎_elim, dite}
use lib.ListN.{length, get_or, set, length-set, replicate, length-replicate, get_or-replicate, get_or-eq_default}
use lib.Seq.{get_or-set_same, get_or-set_other}
use Rattle.circles_find.specs.Inner.Search.{Arg, Marked, Roll}
use Rattle.circles_find.specs.Inner.Labels.{Kin}
use Rattle.circles_order.specs.Inner.Turns.{Settled, Free, Advanced, In, Put, Pulled, Cursor, Sure, Cursors, Moved, SureAt, Turn, Outset, Covered}
use Rattle.sets.proofs.Order.{digit_zero}
use Rattle.sets.specs.Members.{digit}

-- ---- the cursors are set, slot by slot

pub turn_none : (n : ℕ) (a b label taken cur ready : List ℕ) → Outset n taken cur ready → Turn n a b label taken cur ready 0
turn_none n a b label taken cur ready o = record {
  flags = o.flags;
  long = o.long;
  bits = o.bits;
  each = λ l h. absurd (omega arith);
  sure = λ l h. absurd (omega arith);
  is_ready = λ l h e. absurd (o.unready l h e);
  all_ready = λ l h. absurd (omega arith);
  done = λ l h e t. absurd (o.untaken l t);
}

module _ {n : ℕ} {a b label after taken cur ready : List ℕ} {i : ℕ} (K : Kin n label after) (il : i < n) (un : (y : ℕ) → get_or taken y 0 ≡ 1 → ⊥) (T : Turn n a b label taken cur ready i) where
  pub turn_skip : (get_or label i 0 ≡ i → ⊥) → Turn n a b label taken cur ready (i + 1)
  turn_skip ne = record {
    flags = T.flags;
    long = T.long;
    bits = T.bits;
    each = λ l h hl o. T.each l (below l h o) hl o;
    sure = λ l h hl o. T.sure l (below l h o) hl o;
    is_ready = λ l h e. let w = T.is_ready l h e in (omega (arith, w.0), w.1, w.2, w.3, w.4);
    all_ready = λ l h hl o t c. T.all_ready l (below l h o) hl o t c;
    done = T.done;
  }
    where
      below : (l : ℕ) → l < i + 1 → get_or label l 0 ≡ l → l < i
      below l h o = dite (ℕ_discrete l i) (λ c. absurd (ne (subst (λ (u : ℕ). get_or label u 0 ≡ u) c o))) (λ c. omega (arith, c))

  module _ {d : ℕ} (own : get_or label i 0 ≡ i) (A : Advanced n a b label taken i i d) where
    at_i : get_or (set cur i d) i 0 ≡ d
    at_i = get_or-set_same cur i d 0 (omega (arith, T.long, K.few))

    each_then : (l : ℕ) → l < i + 1 → l < n → get_or label l 0 ≡ l → Cursor n a b label taken l (get_or (set cur i d) l 0)
    each_then l h hl o = dite (ℕ_discrete l i)
        (λ c. subst (λ (u : ℕ). Cursor n a b label taken u (get_or (set cur i d) u 0)) (sym c) (subst (λ (u : ℕ). Cursor n a b label taken i u) (sym at_i)
        (record { past = λ z h₁ h₂ h₃. A.past z (omega (arith, K.least z h₂ (omega (arith, h₃)), h₃)) h₁ h₂ h₃; at = λ g. (A.stop g).0 })))
        (λ c. subst (λ (u : ℕ). Cursor n a b label taken l u) (sym (get_or-set_other cur i l d 0 c)) (T.each l (omega (arith, c)) hl o))

    sure_then : (l : ℕ) → l < i + 1 → l < n → get_or label l 0 ≡ l → Sure n a b label taken l (get_or (set cur i d) l 0)
    sure_then l h hl o = dite (ℕ_discrete l i)
        (λ c. subst (λ (u : ℕ). Sure n a b label taken u (get_or (set cur i d) u 0)) (sym c) (subst (λ (u : ℕ). Sure n a b label taken i u) (sym at_i) (record { held = λ g f. (A.stop g).1 f })))
        (λ c. subst (λ (u : ℕ). Sure n a b label taken l u) (sym (get_or-set_other cur i l d 0 c)) (T.sure l (omega (arith, c)) hl o))

    kept_ready : (l : ℕ) → l < 4096 → In ready l → (l < i + 1) × (l < n) × (get_or label l 0 ≡ l) × (get_or taken l 0 ≡ 1 → ⊥) × (n ≤ get_or (set cur i d) l 0)
    kept_ready l h e = let w = T.is_ready l h e in (omega (arith, w.0), w.1, w.2, w.3, omega (arith, w.4, get_or-set_other cur i l d 0 (λ c. omega (arith, c, w.0))))

    pub turn_on : d < n → Turn n a b label taken (set cur i d) ready (i + 1)
    turn_on dl = record {
      flags = T.flags;
      long = omega (arith, length-set cur i d, T.long);
      bits = T.bits;
      each = each_then;
      sure = sure_then;
      is_ready = kept_ready;
      all_ready = λ l h hl o t c. dite (ℕ_discrete l i)
          (λ e. absurd (omega (arith, c, at_i, ap (λ (u : ℕ). get_or (set cur i d) u 0) e)))
          (λ e. T.all_ready l (omega (arith, e)) hl o t (omega (arith, c, get_or-set_other cur i l d 0 e)));
      done = λ l h o t. absurd (un l t);
    }

    pub turn_past : {ready' : List ℕ} → n ≤ d → Put i ready ready' → Turn n a b label taken (set cur i d) ready' (i + 1)
    turn_past {ready' = ready'} dl P = record {
      flags = T.flags;
      long = omega (arith, length-set cur i d, T.long);
      bits = P.bits;
      each = each_then;
      sure = sure_then;
      is_ready = λ l h e. dite (ℕ_discrete l i)
          (λ c. (omega (arith, c), omega (arith, c), subst (λ (u : ℕ). get_or label u 0 ≡ u) (sym c) own, un l, omega (arith, at_i, ap (λ (u : ℕ). get_or (set cur i d) u 0) c)))
          (λ c. kept_ready l h (P.only l h c e));
      all_ready = λ l h hl o t c. dite (ℕ_discrete l i)
          (λ e. subst (λ (u : ℕ). In ready' u) (sym e) P.here)
          (λ e. P.stays l (omega (arith, hl, K.few)) (T.all_ready l (omega (arith, e)) hl o t (omega (arith, c, get_or-set_other cur i l d 0 e))));
      done = λ l h o t. absurd (un l t);
    }

-- ---- the cursors are set, by the list of the slots that have a label

-- further up, where no circle is led from on the way
turn_up : (n : ℕ) (a b label taken cur ready : List ℕ) (i j : ℕ) → i ≤ j → ((l : ℕ) → i ≤ l → l < j → l < n → get_or label l 0 ≡ l → ⊥) → Turn n a b label taken cur ready i → Turn n a b label taken cur ready j
turn_up n a b label taken cur ready i j le none T = record {
  flags = T.flags;
  long = T.long;
  bits = T.bits;
  each = λ l h hl o. T.each l (below l h hl o) hl o;
  sure = λ l h hl o. T.sure l (below l h hl o) hl o;
  is_ready = λ l h e. let w = T.is_ready l h e in (omega (arith, w.0), w.1, w.2, w.3, w.4);
  all_ready = λ l h hl o t c. T.all_ready l (below l h hl o) hl o t c;
  done = T.done;
}
  where
    below : (l : ℕ) → l < j → l < n → get_or label l 0 ≡ l → l < i
    below l h hl o = dite (dec_lt l i) (λ c. c) (λ c. absurd (none l (omega (arith, c)) h hl o))

-- the slots below `at` are looked at; the list has the others from its place k on
pub record Started (n : ℕ) (a b label taken cur ready slots : List ℕ) (d k : ℕ) : Type 0 where
  pub at : ℕ
  pub few : at ≤ n
  pub turn : Turn n a b label taken cur ready at
  pub ahead : (j : ℕ) → k ≤ j → j < d → at ≤ get_or slots j 0
  pub left : (y : ℕ) → at ≤ y → y < n → get_or label y 0 ≡ y → (j : ℕ) × (k ≤ j) × (j < d) × (get_or slots j 0 ≡ y)

module _ {n : ℕ} {a b label taken slots : List ℕ} {d : ℕ} (R : Roll (Marked n label) n slots d) where
  pub started_none : {cur ready : List ℕ} → Outset n taken cur ready → Started n a b label taken cur ready slots d 0
  started_none {cur} {ready} o = record {
    at = 0;
    few = omega arith;
    turn = turn_none n a b label taken cur ready o;
    ahead = λ j h₁ h₂. omega arith;
    left = λ y h₁ h₂ e. let w = R.all y h₂ (omega (arith, e)) in (w.0, omega arith, w.1, w.2);
  }

  module _ {cur ready : List ℕ} {k : ℕ} (S : Started n a b label taken cur ready slots d k) where
    pub started_at : k < d → Turn n a b label taken cur ready (get_or slots k 0)
    started_at kd = turn_up n a b label taken cur ready S.at (get_or slots k 0) (S.ahead k (omega arith) kd)
        (λ l h₁ h₂ h₃ e. let w = S.left l h₁ h₃ e in dite (ℕ_discrete w.0 k)
        (λ c. omega (arith, h₂, w.3, ap (λ (u : ℕ). get_or slots u 0) c))
        (λ c. omega (arith, h₂, w.3, R.rises k w.0 (omega (arith, c, w.1)) w.2)))
        S.turn

    pub started_more : {cur' ready' : List ℕ} → k < d → Turn n a b label taken cur' ready' (get_or slots k 0 + 1) → Started n a b label taken cur' ready' slots d (k + 1)
    started_more kd T = record {
      at = get_or slots k 0 + 1;
      few = omega (arith, R.within k kd);
      turn = T;
      ahead = λ j h₁ h₂. omega (arith, R.rises k j (omega arith) h₂);
      left = λ y h₁ h₂ e. let w = S.left y (omega (arith, h₁, S.ahead k (omega arith) kd)) h₂ e in
          (w.0, dite (ℕ_discrete w.0 k) (λ c. absurd (omega (arith, h₁, w.3, ap (λ (u : ℕ). get_or slots u 0) c))) (λ c. omega (arith, c, w.1)), w.2, w.3);
    }

    pub started_all : d ≤ k → Turn n a b label taken cur ready n
    started_all h = turn_up n a b label taken cur ready S.at n S.few (λ l h₁ h₂ h₃ e. let w = S.left l h₁ h₃ e in omega (arith, h, w.1, w.2)) S.turn

-- ---- a circle is taken

module _ {n : ℕ} {a b label after taken cur ready ready₁ : List ℕ} {l : ℕ} (K : Kin n label after) (T : Turn n a b label taken cur ready n) (ll : l < 4096) (P : Pulled ready ready₁ l) where
  rl : In ready l
  rl = P.hit ll

  pub lead : (l < n) × (get_or label l 0 ≡ l) × (get_or taken l 0 ≡ 1 → ⊥) × (n ≤ get_or cur l 0)
  lead = let w = T.is_ready l ll rl in (w.1, w.2, w.3, w.4)

  at_l : get_or (set taken l 1) l 0 ≡ 1
  at_l = get_or-set_same taken l 1 0 (omega (arith, T.flags, lead.0))

  more_taken : (j : ℕ) → get_or taken j 0 ≡ 1 → get_or (set taken l 1) j 0 ≡ 1
  more_taken j e = dite (ℕ_discrete j l) (λ c. ap (λ (u : ℕ). get_or (set taken l 1) u 0) c ∙ at_l) (λ c. get_or-set_other taken l j 1 0 c ∙ e)

  more_settled : (k y : ℕ) → Settled n label taken k y → Settled n label (set taken l 1) k y
  more_settled k y (inl h) = inl h
  more_settled k y (inr (inl h)) = inr (inl h)
  more_settled k y (inr (inr h)) = inr (inr (h.0, more_taken (get_or label y 0) h.1))

  more_free : (k x : ℕ) → Free n a b label taken k x → Free n a b label (set taken l 1) k x
  more_free k x f = record { one = more_settled k _ f.one; two = more_settled k _ f.two }

  pub cursors_then : Cursors n a b label (set taken l 1) cur
  cursors_then = record {
    long = T.long;
    each = λ k h o. record { past = λ z h₁ h₂ h₃. more_free k z ((T.each k h h o).past z h₁ h₂ h₃); at = (T.each k h h o).at };
  }

  -- what is settled now and was not is in the circle that was taken
  new_settled : (k y : ℕ) → Settled n label (set taken l 1) k y → (Settled n label taken k y) ⊎ ((y < n) × (get_or label y 0 ≡ l))
  new_settled k y (inl h) = inl (inl h)
  new_settled k y (inr (inl h)) = inl (inr (inl h))
  new_settled k y (inr (inr h)) =
      dite (dec_lt y n)
      (λ yl. dite (ℕ_discrete (get_or label y 0) l)
      (λ c. inr (yl, c))
      (λ c. inl (inr (inr (h.0, sym (get_or-set_other taken l (get_or label y 0) 1 0 c) ∙ h.1)))))
      (λ yl. inl (inl (omega (arith, yl))))

  module _ (D : Covered n a b label) {cur' ready' : List ℕ} (M : Moved n a b label (set taken l 1) cur ready₁ cur' ready')
      (S : (y w : ℕ) → y < n → get_or label y 0 ≡ l → Arg n a b w y → SureAt n a b label (set taken l 1) cur' w) where
    -- the cursor of k stays at x, an argument of which was settled by this turn
    by_reader : (k x y : ℕ) → k < n → x < n → get_or label x 0 ≡ k → get_or cur' k 0 ≡ x → Free n a b label (set taken l 1) k x → (y < n) × (get_or label y 0 ≡ l) → (get_or a x 0 ≡ y) ⊎ (get_or b x 0 ≡ y) → ⊥
    by_reader k x y kl xl e q f o r =
        (S y x o.0 o.1 (xl, o.0, D.stated x xl (omega (arith, e, kl)), r)).at (omega (arith, e)) (ap (λ (u : ℕ). get_or cur' u 0) e ∙ q) (subst (λ (u : ℕ). Free n a b label (set taken l 1) u x) (sym e) f)

    sure_now : (k : ℕ) → k < n → get_or label k 0 ≡ k → Sure n a b label (set taken l 1) k (get_or cur' k 0)
    sure_now k kl ko =
        ⊎_elim
        (λ q. record {
          held = λ h f. let x = get_or cur k 0 in
              let xl : x < n = omega (arith, h, q) in
              let g : Free n a b label (set taken l 1) k x = subst (λ (u : ℕ). Free n a b label (set taken l 1) k u) q f in
              let e : get_or label x 0 ≡ k = (T.each k kl kl ko).at xl in
              ⊎_elim
              (λ o. ⊎_elim
              (λ p. (T.sure k kl kl ko).held xl (record { one = o; two = p }))
              (λ p. by_reader k x (get_or b x 0) kl xl e q g p (inr refl))
              (new_settled k (get_or b x 0) g.two))
              (λ o. by_reader k x (get_or a x 0) kl xl e q g o (inl refl))
              (new_settled k (get_or a x 0) g.one);
        })
        (λ s. s)
        (M.sure k kl ko)

    pub turn_then : Turn n a b label (set taken l 1) cur' ready' n
    turn_then = record {
      flags = omega (arith, length-set taken l 1, T.flags);
      long = M.cursors.long;
      bits = M.bits;
      each = λ k _ h o. M.cursors.each k h o;
      sure = λ k _ h o. sure_now k h o;
      is_ready = λ j jl e. ⊎_elim
          (λ h. let w = T.is_ready j jl (P.only j jl h) in
          let ne : j ≡ l → ⊥ = λ c. P.gone (subst (λ (u : ℕ). In ready₁ u) c h) ll in
          (w.0, w.1, w.2, (λ t. w.3 (sym (get_or-set_other taken l j 1 0 ne) ∙ t)), M.ended j w.1 w.2 w.4))
          (λ h. (
            h.0,
            h.0,
            h.1,
            (λ t. dite (ℕ_discrete j l)
                (λ c. omega (arith, h.2, ap (λ (u : ℕ). get_or cur u 0) c, lead.3))
                (λ c. omega (arith, h.2, T.done j h.0 h.1 (sym (get_or-set_other taken l j 1 0 c) ∙ t)))),
            h.3,
          ))
          (M.only j jl e);
      all_ready = λ j _ jl o t h. dite (dec_lt (get_or cur j 0) n)
          (λ c. M.made j jl o c h)
          (λ c. let ne : j ≡ l → ⊥ = λ q. t (ap (λ (u : ℕ). get_or (set taken l 1) u 0) q ∙ at_l) in
          let small : j < 4096 = omega (arith, jl, K.few) in
          M.stays j small (P.stays j small ne (T.all_ready j jl jl o (λ q. t (more_taken j q)) (omega (arith, c)))));
      done = λ j jl o t. M.ended j jl o (dite (ℕ_discrete j l)
          (λ c. omega (arith, ap (λ (u : ℕ). get_or cur u 0) c, lead.3))
          (λ c. T.done j jl o (sym (get_or-set_other taken l j 1 0 c) ∙ t)));
    }

-- ---- nothing is taken or ready in new arrays

zeros : (n y : ℕ) → get_or (replicate {A = ℕ} n 0) y 0 ≡ 0
zeros n y = dite (dec_lt y n)
    (λ c. get_or-replicate {A = ℕ} n y 0 0 c)
    (λ c. get_or-eq_default (replicate {A = ℕ} n 0) 0 {n = y} (omega (arith, c, length-replicate {A = ℕ} n 0)))

pub untaken_new : (k y : ℕ) → get_or (replicate {A = ℕ} k 0) y 0 ≡ 1 → ⊥
untaken_new k y e = omega (arith, e, zeros k y)

pub outset_new : (n : ℕ) (taken cur : List ℕ) → n ≤ length taken → ((y : ℕ) → get_or taken y 0 ≡ 1 → ⊥) → n ≤ length cur → Outset n taken cur (replicate {A = ℕ} 65 0)
outset_new n taken cur ht un hc = record {
  flags = ht;
  long = hc;
  bits = record {
    long = length-replicate {A = ℕ} 65 0;
    fits = λ k. omega (arith, zeros 65 k);
    told = λ k _ h. absurd (omega (arith, h, zeros 65 k));
    true = λ k _ h. absurd (omega (arith, h, ap (digit k) (zeros 65 64), digit_zero k));
  };
  untaken = un;
  unready = λ y _ e. omega (arith, e, ap (digit (y % 64)) (zeros 65 (y / 64)), digit_zero (y % 64));
}
