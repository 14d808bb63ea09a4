-- Every circle is listed, once, and after what it reads. Assumes nothing.
use Prim.Native.Nat.{ℕ, zero, suc, ◌+◌, ◌≤◌, ◌<◌}
use native.Mathlib.Omega.{arith}
use native.Mathlib.Decide.{dec_lt}
use mathlib.Core.Path.{◌≡◌, refl, sym, ap, subst, ◌∙◌}
use mathlib.Core.Bool.{Bool, true, false, not, ◌&&◌, ◌||◌, true≢false}
use mathlib.Core.List.Memᴰ
use mathlib.Core.List.{List, [], ◌∷◌}
use mathlib.Core.Logic.{◌⊎◌, inl, inr, ⊎_elim, dite}
use lib.ListN.{length}
use lib.Dec.{eqb}
use borrow.Author.Tests.{eq-eqb, eqb-true}
use Rattle.circles.specs.Graph.{Graph, Reaches, Together, Closed, here, ◌∈◌}
use Rattle.circles.specs.Ranked.{member, all_of, keep, slots, has, reaching, first_of, label_at, labels_of, circle_of, settled, ready, takeable, ranking}
use Rattle.circles.proofs.Paths.{one, join}
use Rattle.circles.proofs.Lists.{not_true_false, and_parts, and_of, or_parts, or_one, or_two, not_of, not_was, of_member, all_of_lem, of_all, in_keep, of_keep, keep_here, keep_none, in_slots, of_slots, first_cases, keep_same, bool_same, length_up}
use Rattle.circles.proofs.Reach.{reaching_sound, reaching_complete, end_below}
use Rattle.circles.proofs.Least.{together_sym, together_join, least_move, least_label, label_is, label_off, label_past, reached_declared}
use Rattle.circles.proofs.Ranking.{ranking_takes, count_two, held_by, held_more}

-- ---- lists

all_false : (p : ℕ → Bool) (l : List ℕ) → all_of p l ≡ false → (y : ℕ) × (y ∈ l) × (p y ≡ false)
all_false p [] e = absurd (true≢false e)
all_false p (x ∷ l) e = go (p x) refl e (all_false p l)
  where
    go : (t : Bool) → p x ≡ t → (t && all_of p l) ≡ false → (all_of p l ≡ false → (y : ℕ) × (y ∈ l) × (p y ≡ false)) → (y : ℕ) × (y ∈ (x ∷ l)) × (p y ≡ false)
    go true q h f = let w = f h in (w.0, Memᴰ.tail w.1, w.2)
    go false q h f = (x, Memᴰ.head refl, q)

held_or : (t : Bool) → (t ≡ false → ⊥) → t ≡ true
held_or true f = refl
held_or false f = absurd (f refl)

pub some_long : {x : ℕ} {l : List ℕ} → x ∈ l → 0 < length l
some_long (Memᴰ.head e) = omega arith
some_long (Memᴰ.tail h) = omega arith

-- fewer pass, where what passes p passes q and x passes q alone
keep_lt : (p q : ℕ → Bool) (ks : List ℕ) (x : ℕ) → ((y : ℕ) → p y ≡ true → q y ≡ true) → x ∈ ks → q x ≡ true → p x ≡ false → length (keep p ks) < length (keep q ks)
keep_lt p q ks x f h qx px =
    omega (
      arith,
      count_two p (λ y. q y && not (p y)) q ks
          (λ y h₁ h₂. true≢false (sym h₁ ∙ not_was (p y) (and_parts (q y) (not (p y)) h₂).1))
          f
          (λ y h₁. (and_parts (q y) (not (p y)) h₁).0)
          (λ y h₁. either (p y) refl (λ e. inl e) (λ e. inr (and_of (q y) (not (p y)) h₁ (not_of (p y) e)))),
      some_long (of_keep (λ y. q y && not (p y)) h (and_of (q x) (not (p x)) qx (not_of (p x) px))),
    )
  where
    either : {A : Type 0} (t : Bool) {s : Bool} → s ≡ t → (s ≡ true → A) → (s ≡ false → A) → A
    either true e f g = f e
    either false e f g = g e

-- the same, where what passes p passes q among ks
keep_lt_in : (p q : ℕ → Bool) (ks : List ℕ) (x : ℕ) → ((y : ℕ) → p y ≡ true → y ∈ ks → q y ≡ true) → x ∈ ks → q x ≡ true → p x ≡ false → length (keep p ks) < length (keep q ks)
keep_lt_in p q ks x f h qx px =
    omega (
      arith,
      keep_lt (λ y. p y && member ks y) (λ y. q y || (p y && member ks y)) ks x (λ y e. or_two (q y) (p y && member ks y) e) h (or_one (q x) (p x && member ks x) qx) (not_true_false (p x && member ks x) (λ e. true≢false (sym (and_parts (p x) (member ks x) e).0 ∙ px))),
      ap length (keep_same (λ y. p y && member ks y) p ks (λ y m. bool_same (p y && member ks y) (p y) (λ e. (and_parts (p y) (member ks y) e).0) (λ e. and_of (p y) (member ks y) e (of_member m)))),
      ap length (keep_same (λ y. q y || (p y && member ks y)) q ks (λ y m. bool_same (q y || (p y && member ks y)) (q y) (λ e. ⊎_elim (λ u. u) (λ u. f y (and_parts (p y) (member ks y) u).0 m) (or_parts (q y) (p y && member ks y) e)) (λ e. or_one (q y) (p y && member ks y) e))),
    )

-- where as many pass as there are, all pass
keep_full : (p : ℕ → Bool) (ks : List ℕ) (x : ℕ) → length ks ≤ length (keep p ks) → x ∈ ks → p x ≡ true
keep_full p ks x h m = go (p x) refl
  where
    all_pass : (ls : List ℕ) → length (keep (λ y. true) ls) ≡ length ls
    all_pass [] = ap length (keep_none (λ y. true))
    all_pass (k ∷ ls) = ap length (keep_here (λ y. true) k ls refl) ∙ ap suc (all_pass ls)

    go : (t : Bool) → p x ≡ t → p x ≡ true
    go true e = e
    go false e = absurd (omega (arith, h, all_pass ks, keep_lt p (λ y. true) ks x (λ y _. refl) m refl e))

pub held_full : (G : Graph) (labels tk : List ℕ) → G.size ≤ held_by G labels tk → (x : ℕ) → x < G.size → member tk (label_at labels x) ≡ true
unfolding held_by
held_full G labels tk h x xl = keep_full (λ x. member tk (label_at labels x)) (slots G) x (omega (arith, h, length_up 0 G.size)) (of_slots x G.size xl)

module _ (G : Graph) (C : Closed G) where
  abbrev L : List ℕ
  L = labels_of G

  below : (x : ℕ) → G.declared x ≡ true → x < G.size
  below x d = C.bound x d

  -- the label of a declared instance is a declared instance of its circle, and its own label
  pub label_below : (x : ℕ) → G.declared x ≡ true → label_at L x < G.size
  label_below x d = end_below G (below x d) (least_label G x (below x d) d).within.0

  pub label_declared : (x : ℕ) → G.declared x ≡ true → G.declared (label_at L x) ≡ true
  label_declared x d = reached_declared C d (least_label G x (below x d) d).within.0

  pub label_own : (x : ℕ) → G.declared x ≡ true → label_at L (label_at L x) ≡ label_at L x
  label_own x d =
      let t = least_label G x (below x d) d in
      label_is G (label_at L x) (label_at L x) (label_below x d) (label_declared x d) (least_move (together_sym t.within) t)

  pub same_label : (x y : ℕ) → G.declared x ≡ true → G.declared y ≡ true → label_at L x ≡ label_at L y → Together G x y
  same_label x y d e q =
      let s = (least_label G x (below x d) d).within in
      let t = (least_label G y (below y e) e).within in
      together_join s (together_sym (subst (λ (u : ℕ). Together G y u) (sym q) t))

  pub one_label : (x y : ℕ) → G.declared x ≡ true → Together G x y → label_at L x ≡ label_at L y
  one_label x y d t =
      let e : G.declared y ≡ true = reached_declared C d t.0 in
      label_is G x (label_at L y) (below x d) d (least_move t (least_label G y (below y e) e))

  -- what has a label below the size is declared
  pub labelled : (x l : ℕ) → l < G.size → G.size ≤ 65535 → label_at L x ≡ l → G.declared x ≡ true
  labelled x l h few e = go (G.declared x) refl
    where
      go : (t : Bool) → G.declared x ≡ t → G.declared x ≡ true
      go true d = d
      go false d = absurd (dite (dec_lt x G.size) (λ c. omega (arith, h, few, e, label_off G x c d)) (λ c. omega (arith, h, few, e, label_past G x (omega (arith, c)))))

  -- ---- what can be taken, in parts

  takeable_is : (tk : List ℕ) (l : ℕ) → takeable G L tk l ≡ (eqb (label_at L l) l && not (member tk l) && ready G L tk l)
  takeable_is tk l = unfold takeable in refl

  ready_is : (tk : List ℕ) (l : ℕ) → ready G L tk l ≡ all_of (λ x. all_of (settled L tk l) (G.args x)) (circle_of G L l)
  ready_is tk l = unfold ready in refl

  settled_is : (tk : List ℕ) (l y : ℕ) → settled L tk l y ≡ (eqb (label_at L y) l || member tk (label_at L y))
  settled_is tk l y = unfold settled in refl

  pub in_circle : {x : ℕ} (l : ℕ) → x ∈ circle_of G L l → (x < G.size) × (label_at L x ≡ l)
  unfolding circle_of
  in_circle {x} l h = let w = in_keep (λ x. eqb (label_at L x) l) (slots G) h in (in_slots G.size w.0, eqb-true (label_at L x) l w.1)

  pub of_circle : (x l : ℕ) → x < G.size → label_at L x ≡ l → x ∈ circle_of G L l
  unfolding circle_of
  of_circle x l h e = of_keep (λ x. eqb (label_at L x) l) (of_slots x G.size h) (eq-eqb (label_at L x) l e)

  pub record Parts (tk : List ℕ) (l : ℕ) : Type 0 where
    pub own : label_at L l ≡ l
    pub untaken : member tk l ≡ false
    pub outside : (x y : ℕ) → x < G.size → label_at L x ≡ l → y ∈ G.args x → (label_at L y ≡ l) ⊎ (member tk (label_at L y) ≡ true)

  pub parts_of : (tk : List ℕ) (l : ℕ) → takeable G L tk l ≡ true → Parts tk l
  parts_of tk l e =
      let p = and_parts (eqb (label_at L l) l && not (member tk l)) (ready G L tk l) (sym (takeable_is tk l) ∙ e) in
      let q = and_parts (eqb (label_at L l) l) (not (member tk l)) p.0 in
      record {
        own = eqb-true (label_at L l) l q.0;
        untaken = not_was (member tk l) q.1;
        outside = λ x y h m a. let s = all_of_lem (settled L tk l) (all_of_lem (λ x. all_of (settled L tk l) (G.args x)) (sym (ready_is tk l) ∙ p.1) (of_circle x l h m)) a in
            ⊎_elim (λ u. inl (eqb-true (label_at L y) l u)) (λ u. inr u) (or_parts (eqb (label_at L y) l) (member tk (label_at L y)) (sym (settled_is tk l y) ∙ s));
      }

  pub of_parts : (tk : List ℕ) (l : ℕ) → Parts tk l → takeable G L tk l ≡ true
  of_parts tk l P =
      takeable_is tk l
      ∙ and_of (eqb (label_at L l) l && not (member tk l)) _
      (and_of (eqb (label_at L l) l) _ (eq-eqb (label_at L l) l P.own) (not_of (member tk l) P.untaken))
      (ready_is tk l ∙ of_all (λ x. all_of (settled L tk l) (G.args x)) (circle_of G L l) (λ x h. let w = in_circle l h in
      of_all (settled L tk l) (G.args x) (λ y a. settled_is tk l y ∙ ⊎_elim
      (λ u. or_one (eqb (label_at L y) l) (member tk (label_at L y)) (eq-eqb (label_at L y) l u))
      (λ u. or_two (eqb (label_at L y) l) (member tk (label_at L y)) u)
      (P.outside x y w.0 w.1 a))))

  -- ---- some untaken circle can always be taken

  reached : ℕ → ℕ
  reached x = length (keep (λ z. has (reaching G z) x) (slots G))

  -- what y reaches x reaches, and more, where x reaches y and y doesn't reach x
  fewer : (x y : ℕ) → x < G.size → y < G.size → Reaches G x y → (Reaches G y x → ⊥) → reached y < reached x
  unfolding reached
  fewer x y xl yl p ne =
      keep_lt_in (λ z. has (reaching G z) y) (λ z. has (reaching G z) x) (slots G) x
      (λ z h m. reaching_complete G x z (in_slots G.size m) (join p (reaching_sound G y z h)))
      (of_slots x G.size xl) (reaching_complete G x x xl here)
      (not_true_false (has (reaching G x) y) (λ h. ne (reaching_sound G y x h)))

  module _ (few : G.size ≤ 65535) where
    progress : (k : ℕ) (tk : List ℕ) (x : ℕ) → G.declared x ≡ true → member tk (label_at L x) ≡ false → reached x < k → (l : ℕ) × (l < G.size) × (takeable G L tk l ≡ true)
    progress zero tk x d u h = absurd (omega arith)
    progress (suc k) tk x d u h = go (ready G L tk (label_at L x)) refl (λ y dy uy hy. progress k tk y dy uy hy)
      where
        l : ℕ
        l = label_at L x

        go : (t : Bool) → ready G L tk (label_at L x) ≡ t → ((y : ℕ) → G.declared y ≡ true → member tk (label_at L y) ≡ false → reached y < k → (m : ℕ) × (m < G.size) × (takeable G L tk m ≡ true)) → (m : ℕ) × (m < G.size) × (takeable G L tk m ≡ true)
        go true e f = (label_at L x, label_below x d, takeable_is tk (label_at L x) ∙ and_of (eqb (label_at L (label_at L x)) (label_at L x) && not (member tk (label_at L x))) _ (and_of (eqb (label_at L (label_at L x)) (label_at L x)) _ (eq-eqb (label_at L (label_at L x)) (label_at L x) (label_own x d)) (not_of (member tk (label_at L x)) u)) e)
        go false e f =
            let v = all_false (λ z. all_of (settled L tk (label_at L x)) (G.args z)) (circle_of G L (label_at L x)) (sym (ready_is tk (label_at L x)) ∙ e) in
            let z = v.0 in
            let c = in_circle (label_at L x) v.1 in
            let w = all_false (settled L tk (label_at L x)) (G.args v.0) v.2 in
            let y = w.0 in
            let dz : G.declared v.0 ≡ true = labelled v.0 (label_at L x) (label_below x d) few c.1 in
            let dy : G.declared w.0 ≡ true = C.closed v.0 dz w.0 w.1 in
            let apart : label_at L w.0 ≡ label_at L x → ⊥ = λ q. true≢false (sym (or_one (eqb (label_at L w.0) (label_at L x)) (member tk (label_at L w.0)) (eq-eqb (label_at L w.0) (label_at L x) q)) ∙ sym (settled_is tk (label_at L x) w.0) ∙ w.2) in
            let un : member tk (label_at L w.0) ≡ false = not_true_false (member tk (label_at L w.0)) (λ q. true≢false (sym (or_two (eqb (label_at L w.0) (label_at L x)) (member tk (label_at L w.0)) q) ∙ sym (settled_is tk (label_at L x) w.0) ∙ w.2)) in
            let xz : Together G x v.0 = same_label x v.0 d dz (sym c.1) in
            let p : Reaches G x w.0 = join xz.0 (one (record { from = c.0; to = below w.0 dy; argument = w.1 })) in
            f w.0 dy un (omega (arith, h, fewer x w.0 (below x d) (below w.0 dy) p (λ r. apart (sym (one_label x w.0 d (p, r))))))

    -- ---- every declared instance's circle is listed

    pub listed : (k : ℕ) (tk : List ℕ) → G.size ≤ k + held_by G L tk → (x : ℕ) → G.declared x ≡ true → (member tk (label_at L x) ≡ true) ⊎ (label_at L x ∈ ranking k G L tk)
    listed zero tk h x d = inl (held_full G L tk (omega arith) x (below x d))
    listed (suc k) tk h x d =
        ⊎_elim
        (λ w. let r = first_of (takeable G L tk) (slots G) G.size in
        let P = parts_of tk (first_of (takeable G L tk) (slots G) G.size) w.passes in
        let more = held_more G L tk (first_of (takeable G L tk) (slots G) G.size) P.untaken in
        let some = some_long (of_circle (first_of (takeable G L tk) (slots G) G.size) (first_of (takeable G L tk) (slots G) G.size) w.below P.own) in
        let step = ranking_takes G L tk k (first_of (takeable G L tk) (slots G) G.size) refl w.below in
        ⊎_elim
        (λ u. ⊎_elim
        (λ q. inr (subst (λ (m : List ℕ). label_at L x ∈ m) (sym step) (Memᴰ.head (eqb-true (label_at L x) _ q))))
        (λ q. inl q)
        (or_parts (eqb (label_at L x) (first_of (takeable G L tk) (slots G) G.size)) (member tk (label_at L x)) u))
        (λ u. inr (subst (λ (m : List ℕ). label_at L x ∈ m) (sym step) (Memᴰ.tail u)))
        (listed k (first_of (takeable G L tk) (slots G) G.size ∷ tk) (omega (arith, h, more, some)) x d))
        (λ w. inl (held_or (member tk (label_at L x)) (λ u. let l = progress (suc (reached x)) tk x d u (omega arith) in true≢false (sym l.2 ∙ w.none l.0 (omega arith) l.1))))
        (first_cases (takeable G L tk) 0 G.size G.size (omega arith))
