-- A circle is lone by its members; and graphs that agree on the slots have the same circles. Assumes nothing.
use Prim.Native.Nat.{ℕ, zero, suc, ◌<◌}
use mathlib.Core.Path.{◌≡◌, refl, sym, ap, subst, ◌∙◌}
use mathlib.Core.Bool.{Bool, false, cond, not, ◌&&◌, ◌||◌, true≢false, false≢true}
use mathlib.Core.List.{List, [], ◌∷◌, map}
use lib.ListN.{get_or, length}
use lib.Dec.{eqb, ltb}
use native.Mathlib.Omega.{arith}
use Rattle.circles.specs.Graph.{Graph, ◌∈◌}
use Rattle.circles.specs.Ranked.{member, any_of, all_of, keep, up_from, first_of, has, wider, widened, reaching, reachings, label_in, labels_by, labels_of, label_at, circle_of, settled, ready, takeable, ranking, ranked_by, ranked, lone_of}
use Rattle.circles.specs.Laws.{Lonely, Alike}
use Rattle.circles.proofs.Lists.{member_of, of_member, not_of, not_was, not_true_false, map_same, in_keep, in_slots, all_cong}

pub lonely : (G : Graph) (C : List ℕ) → Lonely G C
unfolding lone_of
lonely G [] = record { lonely = ((λ e. absurd (false≢true e)), (λ w. let z : ◌≡◌ {A = ℕ} 0 1 = ap length w.1 in absurd (omega arith))) }
lonely G (x ∷ []) = record {
  lonely = (
    (λ e. (x, refl, λ h. true≢false (sym (of_member h) ∙ not_was (member (G.args x) x) e))),
    (λ w. let q : x ≡ w.0 = ap (λ (l : List ℕ). get_or l 0 0) w.1 in
        not_of (member (G.args x) x) (not_true_false (member (G.args x) x) (λ h. w.2 (subst (λ (u : ℕ). u ∈ G.args u) q (member_of (G.args x) h))))),
  );
}
lonely G (x ∷ y ∷ C) = record { lonely = ((λ e. absurd (false≢true e)), (λ w. let z : suc (suc (length C)) ≡ 1 = ap length w.1 in absurd (omega arith))) }

-- ---- two graphs of one size

module _ (n : ℕ) (d e : ℕ → Bool) (f g : ℕ → List ℕ) (ds : (x : ℕ) → x < n → d x ≡ e x) (fs : (x : ℕ) → x < n → f x ≡ g x) where
  abbrev A : Graph
  A = record { size = n; declared = d; args = f }

  abbrev B : Graph
  B = record { size = n; declared = e; args = g }

  wider_same : (S : List Bool) → wider A S ≡ wider B S
  unfolding wider
  wider_same S = map_same (λ x. has S x || any_of (has S) (f x)) false (λ x. has S x || any_of (has S) (g x)) n (λ x h. ap (λ (l : List ℕ). has S x || any_of (has S) l) (fs x h))

  widened_same : (k : ℕ) (S : List Bool) → widened k A S ≡ widened k B S
  unfolding widened
  widened_same zero S = refl
  widened_same (suc k) S = widened_same k (wider A S) ∙ ap (widened k B) (wider_same S)

  reaching_same : (y : ℕ) → reaching A y ≡ reaching B y
  unfolding reaching
  reaching_same y = widened_same n (map (λ x. eqb x y) (up_from 0 n))

  reachings_same : reachings A ≡ reachings B
  unfolding reachings
  reachings_same = map_same (reaching A) [] (reaching B) n (λ x h. reaching_same x)

  label_same : (S : List (List Bool)) (x : ℕ) → label_in A S x ≡ label_in B S x
  unfolding label_in
  label_same S x = refl

  labels_same : labels_of A ≡ labels_of B
  unfolding labels_of labels_by
  labels_same =
      map_same (λ x. cond (d x) (label_in A (reachings A) x) 65535) 65535 (λ x. cond (e x) (label_in B (reachings B) x) 65535) n
      (λ x h. ap (λ (t : Bool). cond t (label_in A (reachings A) x) 65535) (ds x h)
      ∙ ap (λ (u : ℕ). cond (e x) u 65535) (label_same (reachings A) x ∙ ap (λ (S : List (List Bool)). label_in B S x) reachings_same))

  circle_same : (labels : List ℕ) (l : ℕ) → circle_of A labels l ≡ circle_of B labels l
  unfolding circle_of
  circle_same labels l = refl

  ready_same : (labels tk : List ℕ) (l : ℕ) → ready A labels tk l ≡ ready B labels tk l
  unfolding ready circle_of
  ready_same labels tk l =
      all_cong (λ x. all_of (settled labels tk l) (f x)) (λ x. all_of (settled labels tk l) (g x)) (keep (λ x. eqb (label_at labels x) l) (up_from 0 n))
      (λ x h. ap (all_of (settled labels tk l)) (fs x (in_slots n (in_keep (λ x. eqb (label_at labels x) l) (up_from 0 n) h).0)))

  takeable_same : (labels tk : List ℕ) (l : ℕ) → takeable A labels tk l ≡ takeable B labels tk l
  unfolding takeable
  takeable_same labels tk l = ap (λ (t : Bool). eqb (label_at labels l) l && not (member tk l) && t) (ready_same labels tk l)

  first_same : (p q : ℕ → Bool) (ks : List ℕ) (m : ℕ) → ((x : ℕ) → p x ≡ q x) → first_of p ks m ≡ first_of q ks m
  unfolding first_of
  first_same p q [] m h = refl
  first_same p q (x ∷ ks) m h = ap (λ (t : Bool). cond t x (first_of p ks m)) (h x) ∙ ap (λ (u : ℕ). cond (q x) x u) (first_same p q ks m h)

  ranking_same : (k : ℕ) (labels tk : List ℕ) → ranking k A labels tk ≡ ranking k B labels tk
  unfolding ranking
  ranking_same zero labels tk = refl
  ranking_same (suc k) labels tk =
      ap (λ (l : ℕ). cond (ltb l n) (l ∷ ranking k A labels (l ∷ tk)) []) (first_same (takeable A labels tk) (takeable B labels tk) (up_from 0 n) n (takeable_same labels tk))
      ∙ ap (λ (u : List ℕ). cond (ltb (first_of (takeable B labels tk) (up_from 0 n) n) n) (first_of (takeable B labels tk) (up_from 0 n) n ∷ u) []) (ranking_same k labels (first_of (takeable B labels tk) (up_from 0 n) n ∷ tk))

  ranked_same : ranked A ≡ ranked B
  unfolding ranked ranked_by
  ranked_same =
      ap (λ (u : List ℕ). map (circle_of A u) (ranking n A u [])) labels_same
      ∙ ap (λ (u : List ℕ). map (circle_of A (labels_of B)) u) (ranking_same n (labels_of B) [])
      ∙ map_circles (ranking n B (labels_of B) [])
    where
      map_circles : (ks : List ℕ) → map (circle_of A (labels_of B)) ks ≡ map (circle_of B (labels_of B)) ks
      map_circles [] = refl
      map_circles (k ∷ ks) = λ i. circle_same (labels_of B) k i ∷ map_circles ks i

-- only the slots count
pub ranked_cong : (G H : Graph) → G.size ≡ H.size → ((x : ℕ) → x < G.size → G.declared x ≡ H.declared x) → ((x : ℕ) → x < G.size → G.args x ≡ H.args x) → Alike G H
ranked_cong G H s ds fs =
    subst (λ (m : ℕ). Alike G (record { size = m; declared = H.declared; args = H.args })) s
    (record { labels = labels_same G.size G.declared H.declared G.args H.args ds fs; circles = ranked_same G.size G.declared H.declared G.args H.args ds fs })
