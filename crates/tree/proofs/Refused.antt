-- Nodes that are handed in with own sets give each number exactly when its condition holds and none that is judged before it. Assumes nothing.
use Prim.Native.Nat.{ℕ, zero, suc, ◌≤◌, ◌<◌}
use mathlib.Core.Path.{◌≡◌, refl, sym, ◌∙◌}
use mathlib.Core.Bool.{Bool, true, false, cond}
use mathlib.Core.Logic.{◌⊎◌, inl, inr, ⊎_elim}
use mathlib.Core.List.{List, [], ◌∷◌}
use native.Mathlib.Omega.{arith}
use borrow.Author.Tests.{ltb-true, ltb-false, eqb-true, eqb-false, eq-eqb, ne_eqb, le-ltb}
use lib.Dec.{eqb, ltb}
use lib.ListN.{length}
use Rattle.refusal.specs.Numbers.{number_of}
use Rattle.refusal.specs.declared.Refusal.{Refusal}
use Rattle.refusal.specs.declared.Refusal.TheVariants as why
use Rattle.refusal.proofs.Distinct.{number_low, number_one}
use Rattle.refusal.specs.Orders.{or_else, when, refusal_by, Agrees}
use Rattle.table.specs.Judge.{judge_table}
use Rattle.table.specs.Sound.{Sound}
use Rattle.refusal.proofs.Orders.{or_left, or_none, or_zero, agree_judged}
use Rattle.table.proofs.Refused.{refused_exactly, five_numbers}
use Rattle.table.proofs.Sound.{sound_exactly}
use Rattle.tree.specs.Tree.{judge_nodes, judge_tree}
use Rattle.tree.specs.Refusals.{tree_check, tree_refusal}
use Rattle.tree.specs.Refused.{Judges, unequal, number, shape, subtree, HandedExactly, TreeRefused, by1to5, by8, by6, by7, SoundTree, AllTreesExactly}
use Rattle.tree.proofs.Exactly.{number_exactly, shape_exactly, three_verdicts, tree_exactly}
use Rattle.tree.proofs.Handed.{too_large}

-- ---- nodes and own sets

module _ (t ns owns : List ℕ) (s : ℕ) where
  of_nodes : (n : ℕ) → length ns ≡ length owns → judge_nodes t ns (s ∷ []) ≡ n → Judges t ns owns s n
  of_nodes n e h =
      ⊎_elim (λ (z : judge_nodes t ns (s ∷ []) ≡ 0). rw (sym h ∙ z) (subtree e ((tree_exactly t ns s).0 z)))
      (⊎_elim (λ (z : judge_nodes t ns (s ∷ []) ≡ 6). rw (sym h ∙ z) (number e ((number_exactly t ns (s ∷ [])).0 z)))
      (λ (z : judge_nodes t ns (s ∷ []) ≡ 7). rw (sym h ∙ z) (shape e ((shape_exactly t ns (s ∷ [])).0 z)))) (three_verdicts t ns (s ∷ []))

  judged_to : (n : ℕ) (b : Bool) → eqb (length ns) (length owns) ≡ b → cond b (judge_nodes t ns (s ∷ [])) 7 ≡ n → Judges t ns owns s n
  judged_to n true e h = of_nodes n (eqb-true (length ns) (length owns) e) h
  judged_to n false e h = rw (sym h) (unequal (eqb-false (length ns) (length owns) e))

  judged_equal : length ns ≡ length owns → judge_tree t ns owns s ≡ judge_nodes t ns (s ∷ [])
  unfolding judge_tree
  judged_equal e = rw (eq-eqb (length ns) (length owns) e)

  judged_from : {n : ℕ} → Judges t ns owns s n → judge_tree t ns owns s ≡ n
  unfolding judge_tree
  judged_from (unequal f) = rw (ne_eqb (length ns) (length owns) f)
  judged_from (number e w) = judged_equal e ∙ (number_exactly t ns (s ∷ [])).1 w
  judged_from (shape e w) = judged_equal e ∙ (shape_exactly t ns (s ∷ [])).1 w
  judged_from (subtree e w) = judged_equal e ∙ (tree_exactly t ns s).1 w

pub handed_exactly : HandedExactly
unfolding judge_tree
handed_exactly t ns owns s n = (judged_to t ns owns s n (eqb (length ns) (length owns)) refl, judged_from t ns owns s)

-- ---- with the table, and their number

-- the first of two numbers that is not 0
first_of : (a b n : ℕ) → 0 < n → or_else a b ≡ n → (a ≡ n) ⊎ ((a ≡ 0) × (b ≡ n))
first_of zero b n z e = inr (refl, e)
first_of (suc a) b n z e = inl e

size_number : (m n : ℕ) → 0 < n → when (ltb 512 m) 8 ≡ n → (n ≡ 8) × (512 < m)
size_number m n z e = by (ltb 512 m) refl e
  where
    by : (b : Bool) → ltb 512 m ≡ b → cond b 8 0 ≡ n → (n ≡ 8) × (512 < m)
    by true h e = (sym e, ltb-true 512 m h)
    by false h e = absurd (omega arith)

size_none : (m : ℕ) → when (ltb 512 m) 8 ≡ 0 → m ≤ 512
size_none m e = by (ltb 512 m) refl e
  where
    by : (b : Bool) → ltb 512 m ≡ b → ◌≡◌ {A = ℕ} (cond b 8 0) 0 → m ≤ 512
    by true h e = absurd (omega arith)
    by false h e = ltb-false 512 m h

module _ (t ns owns : List ℕ) where
  -- 6 or 7, by the nodes and own sets
  by_nodes : {n : ℕ} (r : Refusal) → n ≡ number_of r → Sound t → length ns ≤ 512 → Judges t ns owns 0 n → TreeRefused t ns owns r
  by_nodes r e k h (unequal f) = rw (← (number_one why.Shape r e)) (by7 k h (unequal f))
  by_nodes r e k h (number d w) = rw (← (number_one why.Production r e)) (by6 k h (number d w))
  by_nodes r e k h (shape d w) = rw (← (number_one why.Shape r e)) (by7 k h (shape d w))
  by_nodes r e k h (subtree d w) = absurd (omega (arith, number_low r))

  by_size : (r : Refusal) → Sound t → (when (ltb 512 (length ns)) 8 ≡ number_of r) ⊎ ((when (ltb 512 (length ns)) 8 ≡ 0) × (or_else (judge_tree t ns owns 0) 0 ≡ number_of r)) → TreeRefused t ns owns r
  by_size r k (inl e) = let w = size_number (length ns) (number_of r) (number_low r) e in rw (number_one r why.Size w.0) (by8 k w.1)
  by_size r k (inr w) =
      by_nodes r refl k (size_none (length ns) w.0)
      (⊎_elim (λ e. (handed_exactly t ns owns 0 (number_of r)).0 e) (λ z. absurd (omega (arith, number_low r, z.1))) (first_of (judge_tree t ns owns 0) 0 (number_of r) (number_low r) w.1))

  refused_to : (r : Refusal) → tree_refusal t ns owns ≡ number_of r → TreeRefused t ns owns r
  unfolding tree_refusal refusal_by
  refused_to r e =
      ⊎_elim (λ (d : judge_table t ≡ number_of r). by1to5 ((refused_exactly t (number_of r) (number_low r)).0 d))
      (λ w. by_size r ((sound_exactly t).0 w.0) (first_of (when (ltb 512 (length ns)) 8) (or_else (judge_tree t ns owns 0) 0) (number_of r) (number_low r) w.1))
      (first_of (judge_table t) _ (number_of r) (number_low r) e)

  -- behind a sound table and few nodes
  passes : Sound t → length ns ≤ 512 → tree_refusal t ns owns ≡ judge_tree t ns owns 0
  unfolding tree_refusal refusal_by
  passes k h = rw ((sound_exactly t).1 k, le-ltb 512 (length ns) h) (or_zero (judge_tree t ns owns 0))

  refused_from : {r : Refusal} → TreeRefused t ns owns r → tree_refusal t ns owns ≡ number_of r
  unfolding tree_refusal refusal_by
  refused_from (by1to5 {r} w) = let e = (refused_exactly t (number_of r) (number_low r)).1 w in or_left (judge_table t) _ (omega (arith, number_low r)) ∙ e
  refused_from (by8 k h) = sym (too_large t ns owns ((sound_exactly t).1 k) h)
  refused_from (by6 k h w) = passes k h ∙ (handed_exactly t ns owns 0 6).1 w
  refused_from (by7 k h w) = passes k h ∙ (handed_exactly t ns owns 0 7).1 w

  sound_of : Sound t → length ns ≤ 512 → (n : ℕ) → n ≡ 0 → Judges t ns owns 0 n → SoundTree t ns owns
  sound_of k h n e (unequal f) = absurd (omega arith)
  sound_of k h n e (number d w) = absurd (omega arith)
  sound_of k h n e (shape d w) = absurd (omega arith)
  sound_of k h n e (subtree d w) = record { table = k; few = h; equal = d; tree = w }

  sound_to : tree_refusal t ns owns ≡ 0 → SoundTree t ns owns
  unfolding tree_refusal refusal_by
  sound_to e =
      let a = or_none (judge_table t) (or_else (when (ltb 512 (length ns)) 8) (or_else (judge_tree t ns owns 0) 0)) e in
      let b = or_none (when (ltb 512 (length ns)) 8) (or_else (judge_tree t ns owns 0) 0) a.1 in
      let d = or_none (judge_tree t ns owns 0) 0 b.1 in
      sound_of ((sound_exactly t).0 a.0) (size_none (length ns) b.0) 0 refl ((handed_exactly t ns owns 0 0).0 d.0)

  sound_from : SoundTree t ns owns → tree_refusal t ns owns ≡ 0
  sound_from w = passes w.table w.few ∙ (handed_exactly t ns owns 0 0).1 (subtree w.equal w.tree)

-- no number above 8 is given
or_most : (a b n : ℕ) → a ≤ n → b ≤ n → or_else a b ≤ n
or_most zero b n h k = k
or_most (suc a) b n h k = h

-- 6 and 7 are a tree's
of_judges : {t ns owns : List ℕ} {s n : ℕ} → Judges t ns owns s n → (n ≡ 0) ⊎ ((6 ≤ n) × (n ≤ 7))
of_judges (unequal f) = inr (omega arith, omega arith)
of_judges (number d w) = inr (omega arith, omega arith)
of_judges (shape d w) = inr (omega arith, omega arith)
of_judges (subtree d w) = inl refl

pub six_or_seven : (t ns owns : List ℕ) (s : ℕ) → (judge_tree t ns owns s ≡ 0) ⊎ ((6 ≤ judge_tree t ns owns s) × (judge_tree t ns owns s ≤ 7))
six_or_seven t ns owns s = of_judges ((handed_exactly t ns owns s (judge_tree t ns owns s)).0 refl)

pub agree_tree : (t ns owns : List ℕ) (s : ℕ) → Agrees (tree_check t ns owns s)
agree_tree t ns owns s = agree_judged 6 7 (judge_tree t ns owns s) (six_or_seven t ns owns s)

size_most : (m : ℕ) → when (ltb 512 m) 8 ≤ 8
size_most m = by (ltb 512 m)
  where
    by : (b : Bool) → cond b 8 0 ≤ 8
    by true = omega arith
    by false = omega arith

pub tree_most : (t ns owns : List ℕ) → tree_refusal t ns owns ≤ 8
unfolding tree_refusal refusal_by
tree_most t ns owns =
    or_most (judge_table t) _ 8 (omega (arith, five_numbers t)) (or_most (when (ltb 512 (length ns)) 8) _ 8 (size_most (length ns))
    (or_most (judge_tree t ns owns 0) 0 8 (⊎_elim (λ (e : judge_tree t ns owns 0 ≡ 0). omega arith) (λ w. omega (arith, w.1)) (six_or_seven t ns owns 0)) (omega arith)))

pub all_trees_exactly : AllTreesExactly
all_trees_exactly t ns owns = record {
  refused = λ r. (λ e. refused_to t ns owns r (sym e), λ w. sym (refused_from t ns owns w));
  sound = (λ e. sound_to t ns owns (sym e), λ w. sym (sound_from t ns owns w));
}
