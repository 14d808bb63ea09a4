-- Labels are the least of their circles. Assumes nothing.
use Prim.Native.Nat.{ℕ, ◌≤◌, ◌<◌}
use native.Mathlib.Omega.{arith}
use native.Mathlib.Decide.{dec_lt}
use mathlib.Core.Path.{◌≡◌, sym, ap, subst, ◌∙◌}
use mathlib.Core.Bool.{Bool, true, false, cond, ◌&&◌, true≢false}
use mathlib.Core.List.{List, []}
use mathlib.Core.Logic.{⊎_elim, dite}
use lib.ListN.{length, get_or, get_or-eq_default}
use Rattle.circles.specs.Graph.{Graph, Reaches, Together, LeastOf, Closed, here}
use Rattle.circles.specs.Ranked.{has, first_of, slots, reaching, reachings, label_in, labels_by, labels_of, label_at}
use Rattle.circles.proofs.Paths.{join, closed}
use Rattle.circles.proofs.Lists.{and_parts, and_of, map_at, map_long, first_cases}
use Rattle.circles.proofs.Reach.{reaching_sound, reaching_complete, end_below}

pub together_sym : {G : Graph} {x y : ℕ} → Together G x y → Together G y x
together_sym t = (t.1, t.0)

pub together_join : {G : Graph} {x y z : ℕ} → Together G x y → Together G y z → Together G x z
together_join s t = (join s.0 t.0, join t.1 s.1)

-- a circle has one least instance
pub least_one : {G : Graph} {x l m : ℕ} → LeastOf G x l → LeastOf G x m → l ≡ m
least_one {l} {m} p q = omega (arith, p.least m q.within, q.least l p.within)

pub least_move : {G : Graph} {x y l : ℕ} → Together G x y → LeastOf G y l → LeastOf G x l
least_move t p = record { within = together_join t p.within; least = λ z h. p.least z (together_join (together_sym t) h) }

-- with Closed, what is reached from a declared instance is declared
pub reached_declared : {G : Graph} {x y : ℕ} → Closed G → G.declared x ≡ true → Reaches G x y → G.declared y ≡ true
reached_declared {G} C d p = closed (λ z. G.declared z ≡ true) d (λ y z h e. C.closed y h z e.argument) p

module _ (G : Graph) where
  row_at : (y : ℕ) → y < G.size → get_or (reachings G) y [] ≡ reaching G y
  unfolding reachings
  row_at y h = map_at (reaching G) [] G.size y h

  abbrev both : ℕ → ℕ → Bool
  both x y = has (get_or (reachings G) y []) x && has (get_or (reachings G) x []) y

  both_of : (x y : ℕ) → x < G.size → y < G.size → Together G x y → both x y ≡ true
  both_of x y xl yl t =
      and_of (has (get_or (reachings G) y []) x) (has (get_or (reachings G) x []) y)
      (ap (λ (u : List Bool). has u x) (row_at y yl) ∙ reaching_complete G x y yl t.0)
      (ap (λ (u : List Bool). has u y) (row_at x xl) ∙ reaching_complete G y x xl t.1)

  of_both : (x y : ℕ) → x < G.size → y < G.size → both x y ≡ true → Together G x y
  of_both x y xl yl e =
      let p = and_parts (has (get_or (reachings G) y []) x) (has (get_or (reachings G) x []) y) e in
      (reaching_sound G x y (ap (λ (u : List Bool). has u x) (sym (row_at y yl)) ∙ p.0), reaching_sound G y x (ap (λ (u : List Bool). has u y) (sym (row_at x xl)) ∙ p.1))

  pub label_least : (x : ℕ) → x < G.size → LeastOf G x (label_in G (reachings G) x)
  unfolding label_in
  label_least x xl =
      ⊎_elim
      (λ h. record {
        within = of_both x _ xl h.below h.passes;
        least = λ y t. let yl : y < G.size = end_below G xl t.0 in
            dite (dec_lt y (first_of (both x) (slots G) G.size))
            (λ c. absurd (true≢false (sym (both_of x y xl yl t) ∙ h.least y (omega arith) c)))
            (λ c. omega (arith, c));
      })
      (λ h. absurd (true≢false (sym (both_of x x xl xl (here, here)) ∙ h.none x (omega arith) xl)))
      (first_cases (both x) 0 G.size G.size (omega arith))

  pub labels_long : length (labels_of G) ≡ G.size
  unfolding labels_of labels_by
  labels_long = map_long (λ x. cond (G.declared x) (label_in G (reachings G) x) 65535) 65535 G.size

  labels_at : (x : ℕ) → x < G.size → label_at (labels_of G) x ≡ cond (G.declared x) (label_in G (reachings G) x) 65535
  unfolding labels_of labels_by
  labels_at x h = map_at (λ x. cond (G.declared x) (label_in G (reachings G) x) 65535) 65535 G.size x h

  pub label_on : (x : ℕ) → x < G.size → G.declared x ≡ true → label_at (labels_of G) x ≡ label_in G (reachings G) x
  label_on x h d = labels_at x h ∙ ap (λ (t : Bool). cond t (label_in G (reachings G) x) 65535) d

  pub label_off : (x : ℕ) → x < G.size → G.declared x ≡ false → label_at (labels_of G) x ≡ 65535
  label_off x h d = labels_at x h ∙ ap (λ (t : Bool). cond t (label_in G (reachings G) x) 65535) d

  pub label_past : (x : ℕ) → G.size ≤ x → label_at (labels_of G) x ≡ 65535
  label_past x h = get_or-eq_default (labels_of G) 65535 {n = x} (omega (arith, labels_long, h))

  pub least_label : (x : ℕ) → x < G.size → G.declared x ≡ true → LeastOf G x (label_at (labels_of G) x)
  least_label x h d = subst (λ (u : ℕ). LeastOf G x u) (sym (label_on x h d)) (label_least x h)

  -- what the least of x's circle is, is x's label
  pub label_is : (x l : ℕ) → x < G.size → G.declared x ≡ true → LeastOf G x l → label_at (labels_of G) x ≡ l
  label_is x l h d L = least_one (least_label x h d) L
