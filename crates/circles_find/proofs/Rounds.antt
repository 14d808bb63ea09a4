-- The circle of a seed by two searches, whatever the order of the seeds. Assumes nothing.
use Prim.Native.Nat.{ℕ, ◌<◌, ◌≤◌}
use native.Mathlib.Omega.{arith}
use mathlib.Core.Path.{◌≡◌, refl, sym, ap, subst, ◌∙◌}
use mathlib.Core.List.{List}
use mathlib.Core.Logic.{◌⊎◌, inl, inr, ⊎_elim, dite}
use native.Mathlib.Decide.{ℕ_discrete, dec_lt}
use lib.ListN.{get_or, length, set}
use lib.Seq.{get_or-set_same, get_or-set_other}
use Rattle.circles.specs.Graph.{Path⁺, here, there}
use Rattle.circles_find.specs.Inner.Search.{Arg, Clean, Via, Back, Found, Stated, Marked, Roll}
use Rattle.circles_find.specs.Inner.Labels.{Round, Reps, Stale, Seeded, Took}
use Rattle.circles.proofs.Paths.{join, mapped, turned, inside, closed}

-- where the start is allowed, so is the end
allowed_end : (E : ℕ → ℕ → Type 0) (okay : List ℕ) (k : ℕ) {x y : ℕ} → get_or okay x 0 ≡ k → Path⁺ (Via E okay k) x y → get_or okay y 0 ≡ k
allowed_end E okay k h here = h
allowed_end E okay k h (there p e) = e.1

-- a way through what is allowed, from a declared slot, leads to declared ones, where what is allowed is declared
pub way_stated : (n : ℕ) (a b okay : List ℕ) (k : ℕ) {x y : ℕ} → Stated a x → ((z : ℕ) → z < n → get_or okay z 0 ≡ k → Stated a z) → Path⁺ (Via (Arg n a b) okay k) x y → Stated a y
way_stated n a b okay k d f here = d
way_stated n a b okay k d f (there p e) = f _ e.0.1 e.1

below : (n : ℕ) (a b : List ℕ) {x y : ℕ} → x < n → Path⁺ (Arg n a b) x y → y < n
below n a b h here = h
below n a b h (there p e) = e.1

module _ {n : ℕ} (nl : n ≤ 4096) (a b : List ℕ) where
  circ_sym : {x y : ℕ} → Round n a b x y → Round n a b y x
  circ_sym c = (c.1, c.0)

  circ_trans : {x y z : ℕ} → Round n a b x y → Round n a b y z → Round n a b x z
  circ_trans c d = (join c.0 d.0, join d.1 c.1)

  module _ {x : ℕ} {r : List ℕ} (R : Reps n a b r) (xl : x < n) (rx : get_or r x 0 ≡ 65533) where
    pub clean_reps : Clean n x r
    clean_reps = record {
      small = xl;
      none = λ y yl h. ⊎_elim (λ u. omega arith)
          (λ u. let w : get_or r x 0 ≡ get_or r y 0 = R.whole y x yl xl u.0 (circ_sym (subst (λ (v : ℕ). Round n a b v y) h u.1)) in omega arith)
          (R.own y yl);
    }

    -- the circle of x has no label yet
    free : (y : ℕ) → Round n a b x y → get_or r y 0 ≡ 65533
    free y c =
        let yl : y < n = below n a b xl c.0 in
        ⊎_elim (λ u. u) (λ u. let w : get_or r x 0 ≡ get_or r y 0 = R.whole y x yl xl u.0 (circ_sym c) in absurd (omega (arith, u.0))) (R.own y yl)

    -- where the first search finds x alone, the second is spared
    pub found_lone : {m' : List ℕ} → ((y : ℕ) → y < n → get_or m' y 0 ≡ x → y ≡ x) → Found n (Arg n a b) m' x x r (set r x x)
    found_lone {m' = m'} alone =
        let at_x : get_or (set r x x) x 0 ≡ x = get_or-set_same r x x 0 (omega (arith, R.long)) in
        record {
          sound = λ y yl h. dite (ℕ_discrete y x)
              (λ c. subst (λ (u : ℕ). Path⁺ (Via (Arg n a b) m' x) x u) (sym c) here)
              (λ c. absurd (clean_reps.none y yl (sym (get_or-set_other r x y x 0 c) ∙ h)));
          complete = λ y p. ap (λ (u : ℕ). get_or (set r x x) u 0) (closed (λ z. z ≡ x) refl (λ u z _ e. alone z e.0.1 e.1) p) ∙ at_x;
          frame = λ y. dite (ℕ_discrete y x)
              (λ c. inl (ap (λ (u : ℕ). get_or (set r x x) u 0) c ∙ at_x))
              (λ c. inr (get_or-set_other r x y x 0 c));
        }

    -- what gets to a declared slot by reading is declared
    pub readers_stated : Stated a x → {m m' : List ℕ} → Found n (Back (Arg n a b)) r 65533 x m m' → (y : ℕ) → y < n → get_or m' y 0 ≡ x → Stated a y
    readers_stated xd f y yl h = back (f.sound y yl h)
      where
        back : {z : ℕ} → Path⁺ (Via (Back (Arg n a b)) r 65533) x z → Stated a z
        back here = xd
        back (there p e) = e.0.2

    module _ {m m' r' : List ℕ} (S : Stale n m r) (f : Found n (Back (Arg n a b)) r 65533 x m m') (g : Found n (Arg n a b) m' x x r r') (lr : n ≤ length r') (lm : n ≤ length m') (xd : Stated a x) where
      sound : (y : ℕ) → y < n → get_or r' y 0 ≡ x → Round n a b x y
      sound y yl h =
          let p : Path⁺ (Via (Arg n a b) m' x) x y = g.sound y yl h in
          let mx : get_or m' x 0 ≡ x = f.complete x here in
          (mapped (λ u v e. e.0) p, turned (mapped (λ u v e. e.0) (f.sound y yl (allowed_end (Arg n a b) m' x mx p))))

      seen : (z : ℕ) → Round n a b x z → get_or m' z 0 ≡ x
      seen z c =
          f.complete z (inside {E = Back (Arg n a b)} (λ v. get_or r v 0 ≡ 65533) (λ y p q. free y (turned {E = Arg n a b} q, turned {E = Arg n a b} p))
          (turned {E = Back (Arg n a b)} c.1) (turned {E = Back (Arg n a b)} c.0))

      complete : (y : ℕ) → Round n a b x y → get_or r' y 0 ≡ x
      complete y c = g.complete y (inside {E = Arg n a b} (λ v. get_or m' v 0 ≡ x) (λ z p q. seen z (p, q)) c.0 c.1)

      still : (y : ℕ) → get_or r y 0 < n → get_or r' y 0 < n
      still y h = ⊎_elim (λ u. omega arith) (λ u. omega arith) (g.frame y)

      pub took : Took n a b x r r' m'
      took = record {
        reps = record {
          long = lr;
          own = λ y yl. ⊎_elim
              (λ h. inr (omega arith, subst (λ (v : ℕ). Round n a b v y) (sym h) (sound y yl h)))
              (λ h. subst (λ (v : ℕ). (v ≡ 65533) ⊎ ((v < n) × Round n a b v y)) (sym h) (R.own y yl))
              (g.frame y);
          whole = λ y z yl zl h c. ⊎_elim
              (λ u. complete z (circ_trans (sound y yl u) c) ∙ sym u)
              (λ u. ⊎_elim
              (λ w. w ∙ sym (complete y (circ_trans (sound z zl w) (circ_sym c))))
              (λ w. w ∙ R.whole y z yl zl (omega arith) c ∙ sym u)
              (g.frame z))
              (g.frame y);
          stated = λ y yl h e. ⊎_elim
              (λ u. xd (ap (λ (v : ℕ). get_or a v 0) (sym u) ∙ e))
              (λ u. R.stated y yl (omega arith) (ap (λ (v : ℕ). get_or a v 0) (sym u) ∙ e))
              (g.frame y);
        };
        stale = record {
          long = lm;
          used = λ y yl h. ⊎_elim
              (λ u. let w : get_or r' x 0 ≡ x = complete x (here, here) in omega (arith, ap (λ (v : ℕ). get_or r' v 0) u))
              (λ u. still _ (subst (λ (v : ℕ). get_or r v 0 < n) (sym u) (S.used y yl (omega arith))))
              (f.frame y);
        };
        kept = still;
        here = λ _ _. let w : get_or r' x 0 ≡ x = complete x (here, here) in omega arith;
      }

-- the first j of the list have their label
abbrev pub Labelled : ℕ → List ℕ → List ℕ → ℕ → Type 0
Labelled n slots rep j = (k : ℕ) → k < j → Marked n rep (get_or slots k 0)

-- once the seed is tried, those up to where the search stands have theirs
pub tried : (n d : ℕ) (a b slots rep rep' m : List ℕ) (i j x i' j' : ℕ) → Roll (Stated a) n slots d → Reps n a b rep → Labelled n slots rep j → Seeded n d slots rep i j x i' j' → Took n a b x rep rep' m → Labelled n slots rep' j'
tried n d a b slots rep rep' m i j x i' j' L R f s t k h =
    let kd : k < d = omega (arith, s.within) in
    elim (dec_lt k j) [
      | yes l ↦ t.kept (get_or slots k 0) (f k l)
      | no l ↦ ⊎_elim
          (λ e. subst (λ (v : ℕ). v < n → Stated a v → Marked n rep' v) (s.skip k (omega arith) h e) t.here (L.within k kd) (L.is k kd))
          (λ p. t.kept (get_or slots k 0) p.0) (R.own (get_or slots k 0) (L.within k kd))
    ]
