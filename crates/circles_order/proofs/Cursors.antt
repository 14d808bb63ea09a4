-- Cursors over the members of circles. Assumes nothing.
use Prim.Native.Nat.{ℕ, ◌+◌, ◌≤◌, ◌<◌, ◌/◌, ◌*◌}
use native.Mathlib.Omega.{arith}
use native.Mathlib.Decide.{ℕ_discrete, dec_lt}
use mathlib.Core.Path.{◌≡◌, refl, sym, ap, subst, subst₂, ◌∙◌}
use mathlib.Core.List.{List}
use mathlib.Core.Logic.{◌⊎◌, inl, inr, ⊎_elim, dite}
use lib.ListN.{get_or, set, length-set}
use lib.Seq.{get_or-set_same, get_or-set_other}
use Rattle.circles_find.specs.Inner.Search.{Next, value_in, arg_of, Arg}
use Rattle.circles_find.specs.Inner.Labels.{Kin}
use Rattle.circles_find.proofs.Chains.{Upto, upto_more}
use Rattle.circles_order.specs.Inner.Turns.{Free, Advanced, In, Bits, Put, Cursor, Sure, Cursors, Moved, SureAt}

module _ (n : ℕ) (a b label taken after : List ℕ) (l x : ℕ) where
  pub record Going (e : ℕ) : Type 0 where
    pub from : x ≤ e
    pub past : (z : ℕ) → x ≤ z → z < e → z < n → get_or label z 0 ≡ l → Free n a b label taken l z
    pub at : e < n → get_or label e 0 ≡ l

-- the member y of the circle l has the next one behind it
pub member_next : {n : ℕ} {label after : List ℕ} {l y y' : ℕ} → Kin n label after → l < n → y < n → get_or label y 0 ≡ l → y' ≡ get_or after y 0 → Next (value_in label) n l (y + 1) y'
member_next {n} {label} {y} K ll yl e q = subst₂ (λ u v. Next (value_in label) n u (y + 1) v) e (sym q) (K.next y yl (omega (arith, e)))

-- ---- what a move does

module _ {n : ℕ} (nl : n ≤ 4096) {a b label taken : List ℕ} where
  pub moved_none : {cur ready : List ℕ} → Cursors n a b label taken cur → Bits ready → Moved n a b label taken cur ready cur ready
  moved_none C B = record {
    cursors = C;
    bits = B;
    sure = λ l h o. inl refl;
    ended = λ l h o e. e;
    made = λ l h o u v. absurd (omega arith);
    stays = λ l h e. e;
    only = λ l h e. inl e;
  }

  pub moved_join : {cur ready cur₁ ready₁ cur₂ ready₂ : List ℕ} → Moved n a b label taken cur ready cur₁ ready₁ → Moved n a b label taken cur₁ ready₁ cur₂ ready₂ → Moved n a b label taken cur ready cur₂ ready₂
  moved_join {cur} {ready} {cur₁} {ready₁} {cur₂} f g = record {
    cursors = g.cursors;
    bits = g.bits;
    sure = λ l h o. ⊎_elim (λ u. ⊎_elim (λ v. inl (u ∙ v)) (λ v. inr (subst (λ (w : ℕ). Sure n a b label taken l w) (sym u) v)) (f.sure l h o)) (λ u. inr u) (g.sure l h o);
    ended = λ l h o e. g.ended l h o (f.ended l h o e);
    made = λ l h o u v. dite (dec_lt (get_or cur₁ l 0) n)
        (λ c. g.made l h o c v)
        (λ c. g.stays l (omega arith) (f.made l h o u (omega (arith, c))));
    stays = λ l h e. g.stays l h (f.stays l h e);
    only = λ l h e. ⊎_elim
        (λ r. ⊎_elim (λ u. inl u) (λ u. inr (u.0, u.1, u.2, g.ended l u.0 u.1 u.3)) (f.only l h r))
        (λ r. dite (dec_lt (get_or cur l 0) n) (λ c. inr (r.0, r.1, c, r.3)) (λ c. absurd (omega (arith, r.2, f.ended l r.0 r.1 (omega (arith, c))))))
        (g.only l h e);
  }

  -- the cursor of j goes on to d
  module _ {cur : List ℕ} {j d : ℕ} (C : Cursors n a b label taken cur) (jl : j < n) (jo : get_or label j 0 ≡ j) (cl : get_or cur j 0 < n) (A : Advanced n a b label taken j (get_or cur j 0) d) where
    at_j : get_or (set cur j d) j 0 ≡ d
    at_j = get_or-set_same cur j d 0 (omega (arith, C.long))

    new : Cursor n a b label taken j d
    new = record {
      past = λ z h₁ h₂ h₃. dite (dec_lt z (get_or cur j 0)) (λ c. (C.each j jl jo).past z c h₂ h₃) (λ c. A.past z (omega (arith, c)) h₁ h₂ h₃);
      at = λ h. (A.stop h).0;
    }

    sure_here : Sure n a b label taken j (get_or (set cur j d) j 0)
    sure_here = subst (λ (u : ℕ). Sure n a b label taken j u) (sym at_j) (record { held = λ h f. (A.stop h).1 f })

    all_cursors : Cursors n a b label taken (set cur j d)
    all_cursors = record {
      long = omega (arith, length-set cur j d, C.long);
      each = λ l h o. dite (ℕ_discrete l j)
          (λ c. subst (λ (u : ℕ). Cursor n a b label taken u (get_or (set cur j d) u 0)) (sym c) (subst (λ (u : ℕ). Cursor n a b label taken j u) (sym at_j) new))
          (λ c. subst (λ (u : ℕ). Cursor n a b label taken l u) (sym (get_or-set_other cur j l d 0 c)) (C.each l h o));
    }

    all_sure : (l : ℕ) → l < n → get_or label l 0 ≡ l → (get_or (set cur j d) l 0 ≡ get_or cur l 0) ⊎ Sure n a b label taken l (get_or (set cur j d) l 0)
    all_sure l h o = dite (ℕ_discrete l j)
        (λ c. inr (subst (λ (u : ℕ). Sure n a b label taken u (get_or (set cur j d) u 0)) (sym c) sure_here))
        (λ c. inl (get_or-set_other cur j l d 0 c))

    -- what is known of w, at which the cursor stood
    pub sure_at : (w : ℕ) → w < n → get_or label w 0 ≡ j → SureAt n a b label taken (set cur j d) w
    sure_at w wl e = record {
      at = λ h q f. sure_here.held (omega (arith, ap (λ (u : ℕ). get_or (set cur j d) u 0) e, q)) (subst (λ (u : ℕ). Free n a b label taken j u) (sym q ∙ ap (λ (u : ℕ). get_or (set cur j d) u 0) e) (subst (λ (u : ℕ). Free n a b label taken u w) e f));
    }

    -- short of the end
    pub moved_on : {ready : List ℕ} → Bits ready → d < n → Moved n a b label taken cur ready (set cur j d) ready
    moved_on B dl = record {
      cursors = all_cursors;
      bits = B;
      sure = all_sure;
      ended = λ l h o e. dite (ℕ_discrete l j) (λ c. absurd (omega (arith, ap (λ (u : ℕ). get_or cur u 0) c))) (λ c. omega (arith, get_or-set_other cur j l d 0 c));
      made = λ l h o u v. dite (ℕ_discrete l j)
          (λ c. absurd (omega (arith, at_j, ap (λ (u : ℕ). get_or (set cur j d) u 0) c)))
          (λ c. absurd (omega (arith, get_or-set_other cur j l d 0 c)));
      stays = λ l h e. e;
      only = λ l h e. inl e;
    }

    -- past the end
    pub moved_past : {ready ready' : List ℕ} → Put j ready ready' → n ≤ d → Moved n a b label taken cur ready (set cur j d) ready'
    moved_past {ready' = ready'} P dl = record {
      cursors = all_cursors;
      bits = P.bits;
      sure = all_sure;
      ended = λ l h o e. dite (ℕ_discrete l j) (λ c. absurd (omega (arith, ap (λ (u : ℕ). get_or cur u 0) c))) (λ c. omega (arith, get_or-set_other cur j l d 0 c));
      made = λ l h o u v. dite (ℕ_discrete l j)
          (λ c. subst (λ (u : ℕ). In ready' u) (sym c) P.here)
          (λ c. absurd (omega (arith, get_or-set_other cur j l d 0 c)));
      stays = P.stays;
      only = λ l h e. dite (ℕ_discrete l j)
          (λ c. inr (omega (arith, c), subst (λ (u : ℕ). get_or label u 0 ≡ u) (sym c) jo, omega (arith, ap (λ (u : ℕ). get_or cur u 0) c), omega (arith, at_j, ap (λ (u : ℕ). get_or (set cur j d) u 0) c)))
          (λ c. inl (P.only l h c e));
    }

-- what is sure stays sure
pub sure_kept : {n : ℕ} {a b label after taken cur ready cur' ready' : List ℕ} → Kin n label after → Moved n a b label taken cur ready cur' ready' → (w : ℕ) → w < n → SureAt n a b label taken cur w → SureAt n a b label taken cur' w
sure_kept {n} {a} {b} {label} {taken} K m w wl s = record {
  at = λ h q f. ⊎_elim
      (λ e. s.at h (sym e ∙ q) f)
      (λ e. e.held (omega (arith, q)) (subst (λ (u : ℕ). Free n a b label taken (get_or label w 0) u) (sym q) f))
      (m.sure (get_or label w 0) h (K.own w wl h));
}

-- along y's chain of readers: the slot of a place is sure
abbrev pub Passing : ℕ → List ℕ → List ℕ → List ℕ → List ℕ → List ℕ → ℕ → ℕ → Type 0
Passing n a b label taken cur y = Upto (arg_of a b) (2 * n) y (λ i. SureAt n a b label taken cur (i / 2))

pub passing_more : {n : ℕ} {a b label after taken cur ready cur' ready' : List ℕ} {y e : ℕ} (e' : ℕ) → Kin n label after → Passing n a b label taken cur y e → Moved n a b label taken cur ready cur' ready' → SureAt n a b label taken cur' (e / 2) → Next (arg_of a b) (2 * n) y (e + 1) e' → Passing n a b label taken cur' y e'
passing_more {n} {a} {b} {label} {taken} {cur'} e' K p m s t = upto_more (λ i. SureAt n a b label taken cur' (i / 2)) e' p (λ i h. sure_kept K m (i / 2) (omega arith)) s t

-- along l's chain of members: what reads the member is sure
abbrev pub Walked : ℕ → List ℕ → List ℕ → List ℕ → List ℕ → List ℕ → ℕ → ℕ → Type 0
Walked n a b label taken cur l = Upto (value_in label) n l (λ v. (w : ℕ) → Arg n a b w v → SureAt n a b label taken cur w)

pub walked_more : {n : ℕ} {a b label after taken cur ready cur' ready' : List ℕ} {l y : ℕ} (y' : ℕ) → Kin n label after → Walked n a b label taken cur l y → Moved n a b label taken cur ready cur' ready' → ((w : ℕ) → Arg n a b w y → SureAt n a b label taken cur' w) → Next (value_in label) n l (y + 1) y' → Walked n a b label taken cur' l y'
walked_more {n} {a} {b} {label} {taken} {cur'} y' K k m s t = upto_more (λ v. (w : ℕ) → Arg n a b w v → SureAt n a b label taken cur' w) y' k (λ v _ p w h. sure_kept K m w h.0 (p w h)) s t
