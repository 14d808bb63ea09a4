-- The turns of the code against the ranking as it computes. Assumes nothing.
use Prim.Native.Nat.{ℕ, suc, ◌+◌, ◌-◌, ◌≤◌, ◌<◌}
use native.Mathlib.Omega.{arith}
use native.Mathlib.Decide.{ℕ_discrete, dec_lt}
use mathlib.Core.Path.{◌≡◌, refl, sym, ap, subst, ◌∙◌}
use mathlib.Core.Bool.{true, false, not, ◌&&◌, true≢false, false≢true}
use mathlib.Core.List.{List, [], ◌∷◌, ◌++◌, map, append-nil, append_assoc}
use mathlib.Core.Logic.{◌⊎◌, inl, inr, ⊎_elim, dite}
use lib.ListN.{length, get_or, set, drop, length-append, length-set, length-map, get_or-append}
use lib.Seq.{drop-set-lt, set-set, get_or-set_same, get_or-set_other, sets, set-append_seam, drop-cons, append_snoc}
use lib.Dec.{eqb}
use borrow.Author.Tests.{eq-eqb, eqb-true}
use Rattle.circles.specs.Graph.{Graph, ◌∈◌}
use Rattle.circles.specs.Ranked.{member, all_of, keep, up_from, slots, first_of, label_at, labels_of, circle_of, settled, ready, takeable, ranking, ranked}
use Rattle.circles.specs.Arrays.{Given, graph_of, joined, ends_from, over}
use Rattle.circles_find.specs.Inner.Labels.{Kin}
use Rattle.circles_find.specs.Inner.Search.{Marked}
use Rattle.circles_order.specs.Inner.Turns.{Settled, Free, In, Pulled, Turn, members_from, Agrees, Covered, Listed}
use Rattle.circles.proofs.Lists.{not_true_false, and_parts, and_of, or_parts, or_one, or_two, not_of, not_was, all_of_lem, of_all, in_keep, of_keep, keep_same, in_slots, of_slots, first_is, first_none, default_is}
use Rattle.circles_find.proofs.Holding.{in_given, of_given, is_declared, was_declared, arg_reads}
use Rattle.circles.proofs.Least.{labels_long}
use Rattle.circles.proofs.Listing.{label_below, labelled}
use Rattle.circles.proofs.Ranking.{ranking_takes, ranking_ends, held_by, held_le, held_none, held_more, joined_cons, joined_none, ranked_is}

-- ---- lists laid over others

over_snoc : (xs l : List ℕ) (v : ℕ) → length xs < length l → set (over xs l) (length xs) v ≡ over (xs ++ (v ∷ [])) l
over_snoc xs l v h =
    ap (λ (u : List ℕ). set (xs ++ u) (length xs) v) (drop-cons l (length xs) 0 h)
    ∙ set-append_seam xs (get_or l (length xs) 0) (drop (suc (length xs)) l) v
    ∙ sym (append_snoc xs v (drop (suc (length xs)) l))
    ∙ ap (λ (u : ℕ). xs ++ (v ∷ []) ++ drop u l) (let q : suc (length xs) ≡ length (xs ++ (v ∷ [])) = omega (arith, length-append xs (v ∷ [])) in q)

pub over_sets : (xs l vs : List ℕ) (i : ℕ) → i ≡ length xs → length xs + length vs ≤ length l → sets (over xs l) i vs ≡ over (xs ++ vs) l
over_sets xs l [] i e h = ap (λ (u : List ℕ). over u l) (sym (append-nil xs))
over_sets xs l (v ∷ vs) i e h =
    let q : length (xs ++ (v ∷ [])) ≡ suc (length xs) = omega (arith, length-append xs (v ∷ [])) in
    ap (λ (u : ℕ). sets (set (over xs l) u v) (suc i) vs) e
    ∙ ap (λ (u : List ℕ). sets u (suc i) vs) (over_snoc xs l v (omega arith))
    ∙ over_sets (xs ++ (v ∷ [])) l vs (suc i) (ap suc e ∙ sym q) (omega (arith, q))
    ∙ ap (λ (u : List ℕ). over u l) (append_snoc xs v vs)

map_snoc : (f : ℕ → List ℕ) (ls : List ℕ) (l : ℕ) → map f (ls ++ (l ∷ [])) ≡ map f ls ++ (f l ∷ [])
map_snoc f [] l = refl
map_snoc f (x ∷ ls) l = ap (λ (u : List (List ℕ)). f x ∷ u) (map_snoc f ls l)

joined_snoc : (R : List (List ℕ)) (C : List ℕ) → joined (R ++ (C ∷ [])) ≡ joined R ++ C
unfolding joined
joined_snoc [] C = append-nil C
joined_snoc (D ∷ R) C = ap (λ (u : List ℕ). D ++ u) (joined_snoc R C) ∙ sym (append_assoc D (joined R) C)

ends_snoc : (k e : ℕ) (R : List (List ℕ)) (C : List ℕ) → e ≡ k + length (joined R) + length C → ends_from k (R ++ (C ∷ [])) ≡ ends_from k R ++ (e ∷ [])
unfolding ends_from
ends_snoc k e [] C h = ap (λ (u : ℕ). k ∷ u ∷ []) (let q : k + length C ≡ e = omega (arith, h, ap length joined_none) in q)
ends_snoc k e (D ∷ R) C h = ap (λ (u : List ℕ). k ∷ u) (ends_snoc (k + length D) e R C (omega (arith, h, joined_cons D R)))

ends_none : ends_from 0 [] ≡ 0 ∷ []
unfolding ends_from
ends_none = refl

pub ends_long : (k : ℕ) (R : List (List ℕ)) → length (ends_from k R) ≡ suc (length R)
unfolding ends_from
ends_long k [] = refl
ends_long k (C ∷ R) = ap suc (ends_long (k + length C) R)

-- ---- what has a label

-- the labels as they compute are those of the declared slots, and of what these read
pub covered : {n : ℕ} {a b label : List ℕ} → Given n a b → Agrees n a b label → Covered n a b label
covered {n} {a} {b} {label} Q E = record {
  marked = λ x xl d. on x (is_declared n a b Q.long_a Q.long_b x xl d);
  stated = λ x xl m. (was_declared n a b Q.long_a Q.long_b x (labelled (graph_of n a b) Q.closed x (get_or label x 0) m (omega (arith, Q.few)) (sym (E.at x xl)))).1;
  reads = λ x y r. on y (Q.closed.closed x (is_declared n a b Q.long_a Q.long_b x r.0 r.2) y (arg_reads n a b Q.long_a Q.long_b x y r).argument);
}
  where
    on : (x : ℕ) → (graph_of n a b).declared x ≡ true → Marked n label x
    on x d = omega (arith, E.at x (Q.closed.bound x d), label_below (graph_of n a b) Q.closed x d)

-- ---- the turns of the code

pub record Same (n : ℕ) (taken tk : List ℕ) : Type 0 where
  pub to : (j : ℕ) → j < n → get_or taken j 0 ≡ 1 → member tk j ≡ true
  pub of : (j : ℕ) → member tk j ≡ true → (j < n) × (get_or taken j 0 ≡ 1)

pub same_more : (n : ℕ) (taken tk : List ℕ) (l : ℕ) → l < n → n ≤ length taken → Same n taken tk → Same n (set taken l 1) (l ∷ tk)
same_more n taken tk l ll lt K =
    let at_l : get_or (set taken l 1) l 0 ≡ 1 = get_or-set_same taken l 1 0 (omega arith) in
    record {
      to = λ j jl e. dite (ℕ_discrete j l)
          (λ c. or_one (eqb j l) (member tk j) (eq-eqb j l c))
          (λ c. or_two (eqb j l) (member tk j) (K.to j jl (sym (get_or-set_other taken l j 1 0 c) ∙ e)));
      of = λ j e. ⊎_elim
          (λ c. let q : j ≡ l = eqb-true j l c in (omega (arith, q), ap (λ (u : ℕ). get_or (set taken l 1) u 0) q ∙ at_l))
          (λ c. let w = K.of j c in
          (w.0, dite (ℕ_discrete j l) (λ q. ap (λ (u : ℕ). get_or (set taken l 1) u 0) q ∙ at_l) (λ q. get_or-set_other taken l j 1 0 q ∙ w.1)))
          (or_parts (eqb j l) (member tk j) e);
    }

module _ {n : ℕ} {a b label after taken tk : List ℕ} (Q : Given n a b) (N : Kin n label after) (E : Agrees n a b label) (K : Same n taken tk) where
  abbrev L : List ℕ
  L = labels_of (graph_of n a b)

  abbrev G : Graph
  G = graph_of n a b

  pub circle_is : (l : ℕ) → circle_of G L l ≡ members_from n label l 0
  unfolding circle_of members_from
  circle_is l = keep_same (λ x. eqb (label_at L x) l) (λ x. eqb (get_or label x 0) l) (up_from 0 n) (λ x h. ap (λ (u : ℕ). eqb u l) (sym (E.at x (in_slots n h))))
      ∙ ap (λ (u : ℕ). keep (λ x. eqb (get_or label x 0) l) (up_from 0 u)) (let q : n ≡ n - 0 = omega arith in q)

  settled_to : (l y : ℕ) → y < n → Settled n label taken l y → settled L tk l y ≡ true
  unfolding settled
  settled_to l y yl (inl h) = absurd (omega arith)
  settled_to l y yl (inr (inl h)) = or_one (eqb (label_at L y) l) _ (eq-eqb (label_at L y) l (sym (E.at y yl) ∙ h))
  settled_to l y yl (inr (inr h)) = or_two (eqb (label_at L y) l) _ (ap (λ (u : ℕ). member tk u) (sym (E.at y yl)) ∙ K.to (get_or label y 0) h.0 h.1)

  settled_of : (l y : ℕ) → y < n → settled L tk l y ≡ true → Settled n label taken l y
  unfolding settled
  settled_of l y yl e =
      ⊎_elim
      (λ p. inr (inl (E.at y yl ∙ eqb-true (label_at L y) l p)))
      (λ p. inr (inr (K.of (get_or label y 0) (ap (λ (u : ℕ). member tk u) (E.at y yl) ∙ p))))
      (or_parts (eqb (label_at L y) l) (member tk (label_at L y)) e)

  at_a : (x : ℕ) → x < n → get_or a x 65534 ≡ get_or a x 0
  at_a x h = default_is a x 65534 0 (omega (arith, Q.long_a))

  at_b : (x : ℕ) → x < n → get_or b x 65534 ≡ get_or b x 0
  at_b x h = default_is b x 65534 0 (omega (arith, Q.long_b))

  free_to : (l x : ℕ) → x < n → Free n a b label taken l x → all_of (settled L tk l) (G.args x) ≡ true
  free_to l x xl f =
      of_all (settled L tk l) (G.args x) (λ y h.
      let w = in_given n (get_or a x 65534) (get_or b x 65534) y h in
      settled_to l y w.0 (⊎_elim
      (λ e. subst (λ (u : ℕ). Settled n label taken l u) (sym (at_a x xl) ∙ e) f.one)
      (λ e. subst (λ (u : ℕ). Settled n label taken l u) (sym (at_b x xl) ∙ e) f.two)
      w.1))

  free_arg : (l x y : ℕ) → all_of (settled L tk l) (G.args x) ≡ true → ((get_or a x 65534 ≡ y) ⊎ (get_or b x 65534 ≡ y)) → Settled n label taken l y
  free_arg l x y e h =
      dite (dec_lt y n)
      (λ c. settled_of l y c (all_of_lem (settled L tk l) e (of_given n (get_or a x 65534) (get_or b x 65534) y c h)))
      (λ c. inl (omega (arith, c)))

  free_of : (l x : ℕ) → x < n → all_of (settled L tk l) (G.args x) ≡ true → Free n a b label taken l x
  free_of l x xl e = record { one = free_arg l x (get_or a x 0) e (inl (at_a x xl)); two = free_arg l x (get_or b x 0) e (inr (at_b x xl)) }

  takeable_is : (l : ℕ) → takeable G L tk l ≡ (eqb (label_at L l) l && not (member tk l) && ready G L tk l)
  takeable_is l = unfold takeable in refl

  ready_is : (l : ℕ) → ready G L tk l ≡ all_of (λ x. all_of (settled L tk l) (G.args x)) (circle_of G L l)
  ready_is l = unfold ready in refl

  in_circle : (l : ℕ) {x : ℕ} → x ∈ circle_of G L l → (x < n) × (get_or label x 0 ≡ l)
  unfolding circle_of
  in_circle l {x} h = let w = in_keep (λ x. eqb (label_at L x) l) (slots G) h in let xl : x < n = in_slots n w.0 in (xl, E.at x xl ∙ eqb-true (label_at L x) l w.1)

  of_circle : (l x : ℕ) → x < n → get_or label x 0 ≡ l → x ∈ circle_of G L l
  unfolding circle_of
  of_circle l x xl e = of_keep (λ x. eqb (label_at L x) l) (of_slots x n xl) (eq-eqb (label_at L x) l (sym (E.at x xl) ∙ e))

  module _ {cur rd rd₁ : List ℕ} {r : ℕ} (T : Turn n a b label taken cur rd n) (P : Pulled rd rd₁ r) where
    can_take : (l : ℕ) → l < 4096 → In rd l → takeable G L tk l ≡ true
    can_take l ll e =
        let w = T.is_ready l ll e in
        takeable_is l
        ∙ and_of (eqb (label_at L l) l && not (member tk l)) _
        (and_of (eqb (label_at L l) l) _ (eq-eqb (label_at L l) l (sym (E.at l w.1) ∙ w.2)) (not_of (member tk l) (not_true_false (member tk l) (λ t. w.3 (K.of l t).1))))
        (ready_is l ∙ of_all (λ x. all_of (settled L tk l) (G.args x)) (circle_of G L l) (λ x h. let v = in_circle l h in
        free_to l x v.0 ((T.each l w.1 w.1 w.2).past x (omega (arith, w.4, v.0)) v.0 v.1)))

    was_ready : (l : ℕ) → l < n → takeable G L tk l ≡ true → In rd l
    was_ready l ll e =
        let p = and_parts (eqb (label_at L l) l && not (member tk l)) (ready G L tk l) (sym (takeable_is l) ∙ e) in
        let q = and_parts (eqb (label_at L l) l) (not (member tk l)) p.0 in
        let own : get_or label l 0 ≡ l = E.at l ll ∙ eqb-true (label_at L l) l q.0 in
        let frees : (x : ℕ) → x < n → get_or label x 0 ≡ l → Free n a b label taken l x = λ x h m. free_of l x h (all_of_lem (λ x. all_of (settled L tk l) (G.args x)) (sym (ready_is l) ∙ p.1) (of_circle l x h m)) in
        let past : n ≤ get_or cur l 0 = dite (dec_lt (get_or cur l 0) n)
        (λ c. absurd ((T.sure l ll ll own).held c (frees (get_or cur l 0) c ((T.each l ll ll own).at c))))
        (λ c. omega (arith, c)) in
        T.all_ready l ll ll own (λ t. true≢false (sym (K.to l ll t) ∙ not_was (member tk l) q.1)) past

    found : r < n → first_of (takeable G L tk) (slots G) G.size ≡ r
    found rl =
        first_is (takeable G L tk) 0 n n r (omega arith) (omega arith) (can_take r (omega (arith, Q.few)) (P.hit (omega (arith, Q.few))))
        (λ j h₁ h₂. not_true_false (takeable G L tk j) (λ e. P.none j (omega (arith, Q.few)) (omega arith) (was_ready j (omega arith) e)))

    missed : n ≤ r → first_of (takeable G L tk) (slots G) G.size ≡ n
    missed rl =
        first_none (takeable G L tk) 0 n n (λ j h₁ h₂. not_true_false (takeable G L tk j) (λ e. P.none j (omega (arith, Q.few)) (omega arith) (was_ready j (omega arith) e)))

    pub untaken : r < n → member tk r ≡ false
    untaken rl = not_true_false (member tk r) (λ t. (T.is_ready r (omega (arith, Q.few)) (P.hit (omega (arith, Q.few)))).3 (K.of r t).1)

    pub takes : r < n → (k : ℕ) → ranking (suc k) G L tk ≡ r ∷ ranking k G L (r ∷ tk)
    takes rl k = ranking_takes G L tk k r (found rl) rl

    pub stops : n ≤ r → (k : ℕ) → ranking (suc k) G L tk ≡ []
    stops rl k = ranking_ends G L tk k n (missed rl) (omega arith)

-- ---- the state between two turns

-- the circles of ls are laid out, tk has the same, and what is left of the ranking follows
pub record Going (n : ℕ) (a b taken members₀ ends₀ members ends : List ℕ) (count pos : ℕ) : Type 0 where
  pub ls : List ℕ
  pub tk : List ℕ
  pub whole : ranking n (graph_of n a b) (labels_of (graph_of n a b)) [] ≡ ls ++ ranking (n - count) (graph_of n a b) (labels_of (graph_of n a b)) tk
  pub counted : length ls ≡ count
  pub few : count ≤ n
  pub same : Same n taken tk
  pub held : pos ≡ held_by (graph_of n a b) (labels_of (graph_of n a b)) tk
  pub at : pos ≡ length (joined (map (circle_of (graph_of n a b) (labels_of (graph_of n a b))) ls))
  pub members_are : members ≡ over (joined (map (circle_of (graph_of n a b) (labels_of (graph_of n a b))) ls)) members₀
  pub ends_are : ends ≡ over (ends_from 0 (map (circle_of (graph_of n a b) (labels_of (graph_of n a b))) ls)) ends₀

pub going_none : (n : ℕ) (a b taken members₀ ends₀ : List ℕ) → 0 < length ends₀ → ((y : ℕ) → get_or taken y 0 ≡ 1 → ⊥) → Going n a b taken members₀ ends₀ members₀ (set ends₀ 0 0) 0 0
going_none n a b taken members₀ ends₀ h un = record {
  ls = [];
  tk = [];
  whole = ap (λ (u : ℕ). ranking u (graph_of n a b) (labels_of (graph_of n a b)) []) (let q : n ≡ n - 0 = omega arith in q);
  counted = refl;
  few = omega arith;
  same = record { to = λ j _ e. absurd (un j e); of = λ j e. absurd (false≢true e) };
  held = sym (held_none (graph_of n a b) (labels_of (graph_of n a b)));
  at = ap length (sym joined_none);
  members_are = ap (λ (u : List ℕ). over u members₀) (sym joined_none);
  ends_are = over_snoc [] ends₀ 0 h ∙ ap (λ (u : List ℕ). over u ends₀) (sym ends_none);
}

module _ {n : ℕ} {a b label after taken cur rd rd₁ members₀ ends₀ members ends : List ℕ} {count pos r : ℕ} (Q : Given n a b) (N : Kin n label after) (E : Agrees n a b label)
    (T : Turn n a b label taken cur rd n) (P : Pulled rd rd₁ r) (g : Going n a b taken members₀ ends₀ members ends count pos) where
  R : List (List ℕ)
  R = map (circle_of (graph_of n a b) (labels_of (graph_of n a b))) g.ls

  same_circle : circle_of (graph_of n a b) (labels_of (graph_of n a b)) r ≡ members_from n label r 0
  same_circle = circle_is Q N E g.same r

  held_next : r < n → length (members_from n label r 0) + pos ≡ held_by (graph_of n a b) (labels_of (graph_of n a b)) (r ∷ g.tk)
  held_next rl = omega (arith, g.held, ap length same_circle, held_more (graph_of n a b) (labels_of (graph_of n a b)) g.tk r (untaken Q N E g.same T P rl))

  pub going_room : r < n → pos + length (members_from n label r 0) ≤ n
  going_room rl = omega (arith, held_next rl, held_le (graph_of n a b) (labels_of (graph_of n a b)) (r ∷ g.tk))

  pub going_more : r < n → count < n → n ≤ length members₀ → n + 1 ≤ length ends₀ → Going n a b (set taken r 1) members₀ ends₀ (sets members pos (members_from n label r 0)) (set ends (count + 1) (pos + length (members_from n label r 0))) (count + 1) (pos + length (members_from n label r 0))
  unfolding R
  going_more rl cl lm le =
      let C : List ℕ = members_from n label r 0 in
      let step : ranking (n - count) (graph_of n a b) (labels_of (graph_of n a b)) g.tk ≡ r ∷ ranking (n - (count + 1)) (graph_of n a b) (labels_of (graph_of n a b)) (r ∷ g.tk) =
      ap (λ (u : ℕ). ranking u (graph_of n a b) (labels_of (graph_of n a b)) g.tk) (let q : n - count ≡ suc (n - (count + 1)) = omega arith in q) ∙ takes Q N E g.same T P rl (n - (count + 1)) in
      let mapped : map (circle_of (graph_of n a b) (labels_of (graph_of n a b))) (g.ls ++ (r ∷ [])) ≡ R ++ (members_from n label r 0 ∷ []) = map_snoc (circle_of (graph_of n a b) (labels_of (graph_of n a b))) g.ls r ∙ ap (λ (u : List ℕ). R ++ (u ∷ [])) same_circle in
      let el : length (ends_from 0 R) ≡ suc count = ends_long 0 R ∙ ap suc (length-map g.ls (circle_of (graph_of n a b) (labels_of (graph_of n a b))) ∙ g.counted) in
      record {
        ls = g.ls ++ (r ∷ []);
        tk = r ∷ g.tk;
        whole = g.whole ∙ ap (λ (u : List ℕ). g.ls ++ u) step ∙ sym (append_snoc g.ls r (ranking (n - (count + 1)) (graph_of n a b) (labels_of (graph_of n a b)) (r ∷ g.tk)));
        counted = omega (arith, g.counted, length-append g.ls (r ∷ []));
        few = omega arith;
        same = same_more n taken g.tk r rl (omega (arith, T.flags, Q.few)) g.same;
        held = omega (arith, held_next rl);
        at = omega (arith, g.at, ap (λ (u : List (List ℕ)). length (joined u)) mapped, ap length (joined_snoc R (members_from n label r 0)), length-append (joined R) (members_from n label r 0));
        members_are =
            ap (λ (u : List ℕ). sets u pos (members_from n label r 0)) g.members_are
            ∙ over_sets (joined R) members₀ (members_from n label r 0) pos g.at (omega (arith, g.at, going_room rl, lm))
            ∙ ap (λ (u : List ℕ). over u members₀) (sym (joined_snoc R (members_from n label r 0)) ∙ ap joined (sym mapped));
        ends_are =
            ap (λ (u : ℕ). set ends u (pos + length (members_from n label r 0))) (let q : count + 1 ≡ length (ends_from 0 R) = omega (arith, el) in q)
            ∙ ap (λ (u : List ℕ). set u (length (ends_from 0 R)) (pos + length (members_from n label r 0))) g.ends_are
            ∙ over_snoc (ends_from 0 R) ends₀ (pos + length (members_from n label r 0)) (omega (arith, el, le, cl))
            ∙ ap (λ (u : List ℕ). over u ends₀) (sym (ends_snoc 0 (pos + length (members_from n label r 0)) R (members_from n label r 0) (omega (arith, g.at))) ∙ ap (ends_from 0) (sym mapped));
      }

-- the ranking is at its end
pub going_end : {n : ℕ} {a b taken members₀ ends₀ members ends : List ℕ} {count pos : ℕ} (g : Going n a b taken members₀ ends₀ members ends count pos) → ranking (n - count) (graph_of n a b) (labels_of (graph_of n a b)) g.tk ≡ [] → Listed (graph_of n a b) members₀ ends₀ members ends count
going_end {n} {a} {b} {members₀} {ends₀} {members} {ends} {count} {pos} g e =
    let all : g.ls ≡ ranking n (graph_of n a b) (labels_of (graph_of n a b)) [] = sym (g.whole ∙ ap (λ (u : List ℕ). g.ls ++ u) e ∙ append-nil g.ls) in
    let circles : map (circle_of (graph_of n a b) (labels_of (graph_of n a b))) g.ls ≡ ranked (graph_of n a b) = ap (map (circle_of (graph_of n a b) (labels_of (graph_of n a b)))) all ∙ ranked_is (graph_of n a b) in
    record {
      listed = g.members_are ∙ ap (λ (u : List (List ℕ)). over (joined u) members₀) circles;
      ended = g.ends_are ∙ ap (λ (u : List (List ℕ)). over (ends_from 0 u) ends₀) circles;
      counted = sym g.counted ∙ sym (length-map g.ls (circle_of (graph_of n a b) (labels_of (graph_of n a b)))) ∙ ap length circles;
    }

-- said of the ends before the first was written
pub listed_first : {G : Graph} {members₀ ends₀ members ends : List ℕ} {count : ℕ} → Listed G members₀ (set ends₀ 0 0) members ends count → Listed G members₀ ends₀ members ends count
listed_first {G} {members₀} {ends₀} {members} {ends} {count} w = record {
  listed = w.listed;
  ended = w.ended ∙ ap (λ (u : List ℕ). ends_from 0 (ranked G) ++ u) (drop-set-lt (length (ends_from 0 (ranked G))) ends₀ 0 0 (omega (arith, ends_long 0 (ranked G))));
  counted = w.counted;
}

pub going_first : (n : ℕ) (a b taken members₀ ends₀ : List ℕ) → 0 < length ends₀ → ((y : ℕ) → get_or taken y 0 ≡ 1 → ⊥) → Going n a b taken members₀ (set ends₀ 0 0) members₀ (set ends₀ 0 0) 0 0
going_first n a b taken members₀ ends₀ h un =
    subst (λ (u : List ℕ). Going n a b taken members₀ (set ends₀ 0 0) members₀ u 0 0) (set-set ends₀ 0 0 0) (going_none n a b taken members₀ (set ends₀ 0 0) (omega (arith, length-set ends₀ 0 0)) un)

pub agrees_of : (n : ℕ) (a b label₀ label : List ℕ) → label ≡ over (labels_of (graph_of n a b)) label₀ → Agrees n a b label
agrees_of n a b label₀ label e = record {
  at = λ x h. let xl : x < length (labels_of (graph_of n a b)) = omega (arith, labels_long (graph_of n a b)) in
      ap (λ (u : List ℕ). get_or u x 0) e ∙ get_or-append (labels_of (graph_of n a b)) (drop (length (labels_of (graph_of n a b))) label₀) 0 x xl ∙ default_is (labels_of (graph_of n a b)) x 0 65535 xl;
}
