-- How the judgement of nodes goes at a place. Assumes nothing.
use Prim.Native.Nat.{ℕ, suc, ◌+◌, ◌-◌, ◌≤◌, ◌<◌}
use mathlib.Core.Path.{◌≡◌, refl, ap, sym, ◌∙◌}
use mathlib.Core.List.{List, [], ◌∷◌, ◌++◌}
use lib.ListN.{length, get_or, drop, drop_of_length-le}
use lib.Seq.{drop-cons}
use native.Mathlib.Numerals.{add-one}
use native.Mathlib.Omega.{arith}
use borrow.Author.Tests.{lt-ltb, le-ltb, eq-eqb, ne_eqb}
use Rattle.table.specs.Words.{production_count, left_of, child_of, children_from, children}
use Rattle.tree.specs.Tree.{judge_nodes}

pub judge_none : (t : List ℕ) → judge_nodes t [] [] ≡ 0
unfolding judge_nodes
judge_none t = refl

pub judge_short : (t ns : List ℕ) (at s : ℕ) (ss : List ℕ) → length ns ≤ at → judge_nodes t (drop at ns) (s ∷ ss) ≡ 7
unfolding judge_nodes
judge_short t ns at s ss h = rw (drop_of_length-le ns h)

pub judge_done : (t ns : List ℕ) (at : ℕ) → length ns ≤ at → judge_nodes t (drop at ns) [] ≡ 0
unfolding judge_nodes
judge_done t ns at h = rw (drop_of_length-le ns h)

-- at a node
module _ (t : List ℕ) (n : ℕ) (ns : List ℕ) where
  pub node_number : (ws : List ℕ) → production_count t ≤ n → judge_nodes t (n ∷ ns) ws ≡ 6
  unfolding judge_nodes
  node_number [] h = rw (le-ltb n (production_count t) h)
  node_number (s ∷ ss) h = rw (le-ltb n (production_count t) h)

  pub node_over : n < production_count t → judge_nodes t (n ∷ ns) [] ≡ 7
  unfolding judge_nodes
  node_over h = rw (lt-ltb n (production_count t) h)

  pub node_wrong : (s : ℕ) (ss : List ℕ) → n < production_count t → ((left_of t n ≡ s) → ⊥) → judge_nodes t (n ∷ ns) (s ∷ ss) ≡ 7
  unfolding judge_nodes
  node_wrong s ss h f = rw (lt-ltb n (production_count t) h, ne_eqb (left_of t n) s f)

  pub node_step : (s : ℕ) (ss : List ℕ) → n < production_count t → left_of t n ≡ s → judge_nodes t (n ∷ ns) (s ∷ ss) ≡ judge_nodes t ns (children t n ++ ss)
  unfolding judge_nodes
  node_step s ss h e = rw (lt-ltb n (production_count t) h, eq-eqb (left_of t n) s e)

module _ (t ns : List ℕ) (at : ℕ) (h : at < length ns) where
  pub judge_number : (ws : List ℕ) → production_count t ≤ get_or ns at 0 → judge_nodes t (drop at ns) ws ≡ 6
  judge_number ws b = rw (drop-cons ns at 0 h) (node_number t _ _ ws b)

  pub judge_over : get_or ns at 0 < production_count t → judge_nodes t (drop at ns) [] ≡ 7
  judge_over b = rw (drop-cons ns at 0 h) (node_over t _ _ b)

  pub judge_wrong : (s : ℕ) (ss : List ℕ) → get_or ns at 0 < production_count t → ((left_of t (get_or ns at 0) ≡ s) → ⊥) → judge_nodes t (drop at ns) (s ∷ ss) ≡ 7
  judge_wrong s ss b f = rw (drop-cons ns at 0 h) (node_wrong t _ _ s ss b f)

  pub judge_step : (s : ℕ) (ss : List ℕ) → get_or ns at 0 < production_count t → left_of t (get_or ns at 0) ≡ s
      → judge_nodes t (drop at ns) (s ∷ ss) ≡ judge_nodes t (drop (at + 1) ns) (children t (get_or ns at 0) ++ ss)
  judge_step s ss b e = rw (add-one, drop-cons ns at 0 h) (node_step t _ _ s ss b e)

pub row_none : (t : List ℕ) (p n k : ℕ) → n ≤ k → children_from t p (n - k) k ≡ []
unfolding children_from
row_none t p n k h = rw (native.Mathlib.Nat.sub-eq-zero_of_le h)

pub row_more : (t : List ℕ) (p n k : ℕ) → k < n → children_from t p (n - k) k ≡ child_of t p k ∷ children_from t p (n - (k + 1)) (k + 1)
unfolding children_from
row_more t p n k h =
    let e : n - k ≡ suc (n - (k + 1)) = omega arith in
    ap (λ (j : ℕ). children_from t p j k) e ∙ ap (λ (j : ℕ). child_of t p k ∷ children_from t p (n - (k + 1)) j) (sym (add-one k))
