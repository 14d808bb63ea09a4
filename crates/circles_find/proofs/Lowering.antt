-- From the labels by any member to the labels by the least, and to the labels as they compute. Assumes nothing.
use Prim.Native.Nat.{ℕ, ◌≤◌, ◌<◌}
use native.Mathlib.Omega.{arith}
use native.Mathlib.Decide.{dec_lt}
use mathlib.Core.Path.{◌≡◌, refl, sym, ap, subst, ◌∙◌}
use mathlib.Core.Bool.{Bool, true, false, true≢false}
use mathlib.Core.List.{List, ◌++◌}
use mathlib.Core.Logic.{⊎_elim, dite}
use lib.ListN.{length, get_or, take, drop, take-append-drop}
use lib.Seq.{get_or-take, length-take-le, ext_get_or}
use Rattle.circles.specs.Graph.{LeastOf}
use Rattle.circles.specs.Ranked.{labels_of, label_at}
use Rattle.circles.specs.Arrays.{Given, graph_of, over}
use Rattle.circles_find.specs.Inner.Search.{Chained, value_in, Stated, Marked, Roll}
use Rattle.circles_find.specs.Inner.Labels.{Round, Reps, Cleared, Lowered, Kin}
use Rattle.circles.proofs.Paths.{join}
use Rattle.circles.proofs.Reach.{end_below}
use Rattle.circles.proofs.Least.{label_is, label_off, labels_long, reached_declared}
use Rattle.circles_find.proofs.Rolls.{roll_same}
use Rattle.circles_find.proofs.Holding.{is_declared, was_declared, round_together, together_round}
use Rattle.circles.proofs.Lists.{default_is}

-- the first k of the list have their least
pub record Partway (n : ℕ) (rep low slots label₀ : List ℕ) (k : ℕ) (label : List ℕ) : Type 0 where
  pub least : (j : ℕ) → j < k → get_or label (get_or slots j 0) 0 ≡ get_or low (get_or rep (get_or slots j 0) 0) 0
  pub none : (x : ℕ) → x < n → n ≤ get_or rep x 0 → get_or label x 0 ≡ 65535
  pub long : length label ≡ length label₀
  pub rest : drop n label ≡ drop n label₀

-- said of the labels before they were cleared
pub lowered_cleared : {n : ℕ} {rep low label₀ label₁ label : List ℕ} → Cleared label₀ n label₁ → Lowered n rep low label₁ label → Lowered n rep low label₀ label
lowered_cleared c L = record { some = L.some; none = L.none; long = L.long ∙ c.long; rest = L.rest ∙ c.rest }

-- ---- the labels by the least are the labels as they compute, and their chains are the circles

append_drop : (l m : List ℕ) → length m ≤ length l → ((i : ℕ) → i < length m → get_or l i 0 ≡ get_or m i 0) → l ≡ m ++ drop (length m) l
append_drop l m h f =
    sym (take-append-drop (length m) l)
    ∙ ap (λ (u : List ℕ). u ++ drop (length m) l) (ext_get_or 0 (take (length m) l) m (length-take-le (length m) l h)
    (λ i g. let gl : i < length m = omega (arith, length-take-le (length m) l h, g) in get_or-take (length m) l i 0 gl ∙ f i gl))

-- what is labelled is declared
reps_undeclared : (n : ℕ) (a b rep : List ℕ) → Given n a b → Reps n a b rep → (x : ℕ) → x < n → (graph_of n a b).declared x ≡ false → get_or rep x 0 ≡ 65533
reps_undeclared n a b rep Q R x xl d =
    ⊎_elim (λ u. u)
    (λ u. absurd (true≢false (sym (reached_declared Q.closed (is_declared n a b Q.long_a Q.long_b (get_or rep x 0) u.0 (R.stated x xl u.0)) (round_together n a b Q.long_a Q.long_b _ x u.1).0) ∙ d)))
    (R.own x xl)

pub labelled_stated : {n : ℕ} {a b rep : List ℕ} → Given n a b → Reps n a b rep → (y : ℕ) → y < n → Marked n rep y → Stated a y
labelled_stated {n} {a} {b} {rep} Q R y yl m = by ((graph_of n a b).declared y) refl
  where
    by : (t : Bool) → (graph_of n a b).declared y ≡ t → Stated a y
    by true d = (was_declared n a b Q.long_a Q.long_b y d).1
    by false d = absurd (omega (arith, m, Q.few, reps_undeclared n a b rep Q R y yl d))

module _ {n : ℕ} {a b rep low after label₀ label : List ℕ} (Q : Given n a b) (R : Reps n a b rep) (all : (y : ℕ) → y < n → (get_or a y 0 ≡ 65534 → ⊥) → get_or rep y 0 < n)
    (C : Chained (value_in rep) n n low after) (L : Lowered n rep low label₀ label) (ll : n ≤ length label₀) where
  by_rep : (y : ℕ) → y < n → get_or rep y 0 < n → Round n a b (get_or rep y 0) y
  by_rep y h r = ⊎_elim (λ u. absurd (omega (arith, u, r, Q.few))) (λ u. u.1) (R.own y h)

  same_round : (x y : ℕ) → x < n → y < n → get_or rep x 0 < n → get_or rep x 0 ≡ get_or rep y 0 → Round n a b x y
  same_round x y xl yl r e =
      let p = by_rep x xl r in
      let q : Round n a b (get_or rep x 0) y = subst (λ (u : ℕ). Round n a b u y) (sym e) (by_rep y yl (omega arith)) in
      (join p.1 q.0, join q.1 p.0)

  is : (x : ℕ) → x < n → get_or rep x 0 < n → get_or label x 0 ≡ get_or low (get_or rep x 0) 0
  is x xl r = L.some x xl r

  at_most : (x : ℕ) → x < n → get_or rep x 0 < n → get_or label x 0 ≤ x
  at_most x xl r =
      dite (dec_lt x (get_or low (get_or rep x 0) 0))
      (λ c. absurd ((C.start (get_or rep x 0) r).skip x (omega arith) c xl refl))
      (λ c. omega (arith, c, is x xl r))

  rep_label : (x : ℕ) → x < n → get_or rep x 0 < n → get_or rep (get_or label x 0) 0 ≡ get_or rep x 0
  rep_label x xl r = ap (λ (u : ℕ). get_or rep u 0) (is x xl r) ∙ (C.start (get_or rep x 0) r).hit (omega (arith, is x xl r, at_most x xl r))

  -- what has a label below n has a rep
  has_rep : (x : ℕ) → x < n → get_or label x 0 < n → get_or rep x 0 < n
  has_rep x xl h = dite (dec_lt (get_or rep x 0) n) (λ c. c) (λ c. absurd (omega (arith, Q.few, h, L.none x xl (omega (arith, c)))))

  least_of : (x : ℕ) → x < n → get_or rep x 0 < n → LeastOf (graph_of n a b) x (get_or label x 0)
  least_of x xl r = record {
    within = round_together n a b Q.long_a Q.long_b x (get_or label x 0) (same_round x (get_or label x 0) xl (omega (arith, at_most x xl r)) r (sym (rep_label x xl r)));
    least = λ y t. let yl : y < n = end_below (graph_of n a b) xl t.0 in
        dite (dec_lt y (get_or low (get_or rep x 0) 0))
        (λ d. absurd ((C.start (get_or rep x 0) r).skip y (omega arith) d yl (R.whole x y xl yl r (together_round n a b Q.long_a Q.long_b Q.closed x y (is_declared n a b Q.long_a Q.long_b x xl (labelled_stated Q R x xl r)) t))))
        (λ d. omega (arith, d, is x xl r));
  }

  label_case : (x : ℕ) → x < n → (t : Bool) → (graph_of n a b).declared x ≡ t → get_or label x 0 ≡ label_at (labels_of (graph_of n a b)) x
  label_case x xl true d = sym (label_is (graph_of n a b) x (get_or label x 0) xl d (least_of x xl (all x xl (was_declared n a b Q.long_a Q.long_b x d).1)))
  label_case x xl false d = L.none x xl (omega (arith, Q.few, reps_undeclared n a b rep Q R x xl d)) ∙ sym (label_off (graph_of n a b) x xl d)

  pub labels_are : label ≡ over (labels_of (graph_of n a b)) label₀
  labels_are =
      let q : length (labels_of (graph_of n a b)) ≡ n = labels_long (graph_of n a b) in
      append_drop label (labels_of (graph_of n a b)) (omega (arith, q, L.long))
      (λ i h. let hl : i < n = omega (arith, q, h) in label_case i hl ((graph_of n a b).declared i) refl ∙ default_is (labels_of (graph_of n a b)) i 65535 0 h)
      ∙ ap (λ (u : ℕ). labels_of (graph_of n a b) ++ drop u label) q ∙ ap (λ (u : List ℕ). labels_of (graph_of n a b) ++ u) L.rest ∙ ap (λ (u : ℕ). labels_of (graph_of n a b) ++ drop u label₀) (sym q)

  -- the list of the declared slots is that of the labels
  pub roll_labels : {slots : List ℕ} {d : ℕ} → Roll (Stated a) n slots d → Roll (Marked n label) n slots d
  roll_labels = roll_same
      (λ y yl h. omega (arith, at_most y yl (all y yl h)))
      (λ y yl h. labelled_stated Q R y yl (has_rep y yl h))

  pub kin : Kin n label after
  kin = record {
    few = Q.few;
    long = omega (arith, L.long);
    room = C.nexts;
    own = λ z zl h. let r = has_rep z zl h in
        is (get_or label z 0) h (subst (λ (u : ℕ). u < n) (sym (rep_label z zl r)) r) ∙ ap (λ (u : ℕ). get_or low u 0) (rep_label z zl r) ∙ sym (is z zl r);
    least = λ z zl h. at_most z zl (has_rep z zl h);
    next = λ x xl h. let r = has_rep x xl h in let t = C.step x xl r in record {
      from = t.from;
      hit = λ el. let re : get_or rep (get_or after x 0) 0 ≡ get_or rep x 0 = t.hit el in is (get_or after x 0) el (subst (λ (u : ℕ). u < n) (sym re) r) ∙ ap (λ (u : ℕ). get_or low u 0) re ∙ sym (is x xl r);
      skip = λ z h₁ h₂ h₃ e. t.skip z h₁ h₂ h₃ (sym (rep_label z h₃ (has_rep z h₃ (subst (λ (u : ℕ). u < n) (sym e) h))) ∙ ap (λ (u : ℕ). get_or rep u 0) e ∙ rep_label x xl r);
    };
  }
