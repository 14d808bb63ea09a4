-- What is laid out circle behind circle is arranged: each circle stands between its ends. Assumes nothing.
use mathlib.Core.Path.{◌≡◌, refl, sym, ap, ◌∙◌}
use mathlib.Core.List.{List, [], ◌∷◌, ◌++◌, append_assoc}
use Prim.Native.Nat.{ℕ, zero, suc, ◌+◌, ◌≤◌, ◌<◌}
use native.Mathlib.Omega.{arith}
use lib.Dec.{eqb}
use lib.ListN.{length, get_or, drop, length-append, get_or-append}
use lib.Seq.{slice, take_at, drop_at}
use Rattle.circles.specs.Graph.{Graph}
use Rattle.circles.specs.Arrays.{graph_of, joined, ends_from, over}
use Rattle.circles.specs.Ranked.{circle_at, labels_of, label_at}
use Rattle.circles.proofs.Least.{labels_long}
use Rattle.circles.proofs.Lists.{default_is}
use Rattle.update_round.specs.Inner.Arranged.{Arranged, circles_in, Listed, LaidArranged}

-- ---- the ends

ends_first : (R : List (List ℕ)) (k : ℕ) (u : List ℕ) → get_or (ends_from k R ++ u) 0 0 ≡ k
unfolding ends_from
ends_first [] k u = refl
ends_first (C ∷ R) k u = refl

ends_next : (R : List (List ℕ)) (k : ℕ) (u : List ℕ) (i : ℕ) → i < length R → get_or (ends_from k R ++ u) (suc i) 0 ≡ get_or (ends_from k R ++ u) i 0 + length (circle_at R i)
unfolding ends_from
ends_next [] k u i h = absurd (omega arith)
ends_next (C ∷ R) k u zero h = ends_first R (k + length C) u
ends_next (C ∷ R) k u (suc i) h = ends_next R (k + length C) u i (omega arith)

ends_most : (R : List (List ℕ)) (k : ℕ) (u : List ℕ) (i : ℕ) → i ≤ length R → get_or (ends_from k R ++ u) i 0 ≤ k + length (joined R)
unfolding ends_from joined
ends_most [] k u zero h = omega arith
ends_most [] k u (suc i) h = absurd (omega arith)
ends_most (C ∷ R) k u zero h = omega arith
ends_most (C ∷ R) k u (suc i) h = omega (arith, ends_most R (k + length C) u i (omega arith), length-append C (joined R))

length_ends : (R : List (List ℕ)) (k : ℕ) → length (ends_from k R) ≡ suc (length R)
unfolding ends_from
length_ends [] k = refl
length_ends (C ∷ R) k = ap suc (length_ends R (k + length C))

-- ---- a circle between its ends

circle_laid : (R : List (List ℕ)) (pre t u : List ℕ) (i : ℕ) → i < length R
    → circle_at R i ≡ slice (get_or (ends_from (length pre) R ++ u) i 0) (get_or (ends_from (length pre) R ++ u) (suc i) 0) (pre ++ (joined R ++ t))
unfolding ends_from joined
circle_laid [] pre t u i h = absurd (omega arith)
circle_laid (C ∷ R) pre t u zero h = rw (ends_first R (length pre + length C) u, append_assoc C (joined R) t, ← append_assoc pre C (joined R ++ t))
    (sym (ap (drop (length pre)) (take_at (pre ++ C) (joined R ++ t) (length pre + length C) (length-append pre C)) ∙ drop_at pre C (length pre) refl))
circle_laid (C ∷ R) pre t u (suc i) h = rw (append_assoc C (joined R) t, ← append_assoc pre C (joined R ++ t), ← length-append pre C) (circle_laid R (pre ++ C) t u i (omega arith))

-- ---- the labels

label_over : (G : Graph) (l : List ℕ) (y : ℕ) → y < G.size → get_or (over (labels_of G) l) y 0 ≡ label_at (labels_of G) y
label_over G l y h =
    let k : y < length (labels_of G) = rw (labels_long G) h in
    get_or-append (labels_of G) (drop (length (labels_of G)) l) 0 y k ∙ default_is (labels_of G) y 0 65535 k

-- ---- all of it

-- the arrays as they are, over any circles R
module _ (R : List (List ℕ)) (n : ℕ) (a b l₀ m₀ e₀ : List ℕ) (w : Listed (graph_of n a b) R) where
  arranged_over : Arranged R n a b (over (labels_of (graph_of n a b)) l₀) (over (joined R) m₀) (over (ends_from 0 R) e₀) (length R)
  arranged_over = record {
    counted = refl;
    few = w.count;
    labels = omega (arith, length-append (labels_of (graph_of n a b)) (drop (length (labels_of (graph_of n a b))) l₀), labels_long (graph_of n a b));
    ended = omega (arith, length-append (ends_from 0 R) (drop (length (ends_from 0 R)) e₀), length_ends R 0);
    rise = λ i h. omega (arith, ends_next R 0 (drop (length (ends_from 0 R)) e₀) i h, w.some i h);
    room = λ i h. omega (arith, ends_most R 0 (drop (length (ends_from 0 R)) e₀) (suc i) h, length-append (joined R) (drop (length (joined R)) m₀));
    most = λ i h. omega (arith, ends_most R 0 (drop (length (ends_from 0 R)) e₀) (suc i) h, w.total);
    circle = λ i h. circle_laid R [] (drop (length (joined R)) m₀) (drop (length (ends_from 0 R)) e₀) i h;
    declared = λ i h x m. w.declared i x m;
    placed = λ i h y s. w.placed i h y s ∙ ap (λ (z : ℕ). eqb z (get_or (circle_at R i) 0 0)) (sym (label_over (graph_of n a b) l₀ y s));
  }

pub laid_arranged : LaidArranged
laid_arranged n a b l₀ m₀ e₀ label members ends count h w =
    rw (h.labelled, h.listed, h.ended, h.counted) (arranged_over (circles_in n a b) n a b l₀ m₀ e₀ w)
