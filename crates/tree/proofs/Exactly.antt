-- Nodes are judged sound exactly when they are a tree, and refused by 6 and by 7 exactly at the first bad node. Assumes nothing.
use Prim.Native.Nat.{ℕ, zero, suc, ◌≤◌, ◌<◌}
use mathlib.Core.Path.{◌≡◌, refl, ap, sym, ◌∙◌}
use mathlib.Core.Logic.{◌⊎◌, inl, inr}
use mathlib.Core.List.{List, [], ◌∷◌, ◌++◌, append_assoc, append-nil}
use lib.ListN.{length, take, drop, length-drop, length-append, take-append-drop}
use native.Mathlib.Nat.{le_refl}
use native.Mathlib.Decide.{dec_lt, ℕ_discrete}
use native.Mathlib.Omega.{arith}
use Rattle.table.specs.Words.{production_count, left_of, children}
use Rattle.tree.specs.Tree.{judge_nodes, size}
use Rattle.tree.specs.Judged.{Subtree, node, Row, none, more, Good, begin, next, Number, Shape, missing, over, wrong, TreeExactly, GoodExactly, NumberExactly, ShapeExactly, ThreeVerdicts}
use Rattle.tree.proofs.Nodes.{judge_none, node_number, node_over, node_wrong, node_step}
use Rattle.tree.proofs.Exchange.{no_end, no_over, first, frame, parts}

module _ (t : List ℕ) where
  -- ---- good nodes in front are used up

  pub good_judge : {ws ns left : List ℕ} → Good t ws ns left → (ys : List ℕ) → judge_nodes t (ns ++ ys) ws ≡ judge_nodes t ys left
  good_judge begin ys = refl
  good_judge (next {p} {s} {wanted} {ns} h l g) ys = node_step t p (ns ++ ys) s wanted h l ∙ good_judge g ys

  -- ---- each judgement leads to what stands there

  pub sound_good : (ns ws : List ℕ) → judge_nodes t ns ws ≡ 0 → Good t ws ns []
  sound_good [] [] e = begin
  sound_good [] (s ∷ ws) e = absurd (no_end t s ws e)
  sound_good (p ∷ ns) [] e = absurd (no_over t p ns e)
  sound_good (p ∷ ns) (s ∷ ws) e = let f = first t p ns s ws e in next f.number f.left (sound_good ns (children t p ++ ws) f.rest)

  -- what the nodes are refused for
  data Fault (ws ns : List ℕ) (n : ℕ) : Type 0 where
    fine : n ≡ 0 → Fault ws ns n
    number : n ≡ 6 → Number t ws ns → Fault ws ns n
    shape : n ≡ 7 → Shape t ws ns → Fault ws ns n

  -- one good node more in front
  number_up : {p s : ℕ} {ws ns : List ℕ} → p < production_count t → left_of t p ≡ s → Number t (children t p ++ ws) ns → Number t (s ∷ ws) (p ∷ ns)
  number_up {p} h l w = record {
    before = p ∷ w.before;
    node = w.node;
    behind = w.behind;
    left = w.left;
    order = ap (λ (x : List ℕ). p ∷ x) w.order;
    good = next h l w.good;
    wrong = w.wrong;
  }

  shape_up : {p s : ℕ} {ws ns : List ℕ} → p < production_count t → left_of t p ≡ s → Shape t (children t p ++ ws) ns → Shape t (s ∷ ws) (p ∷ ns)
  shape_up {p} h l (missing x left g) = missing x left (next h l g)
  shape_up {p} h l (over before q behind o g b) = over (p ∷ before) q behind (ap (λ (x : List ℕ). p ∷ x) o) (next h l g) b
  shape_up {p} h l (wrong before q behind x left o g b f) = wrong (p ∷ before) q behind x left (ap (λ (x : List ℕ). p ∷ x) o) (next h l g) b f

  up : {p s n m : ℕ} {ws ns : List ℕ} → m ≡ n → p < production_count t → left_of t p ≡ s → Fault (children t p ++ ws) ns n → Fault (s ∷ ws) (p ∷ ns) m
  up e h l (fine f) = fine (e ∙ f)
  up e h l (number f w) = number (e ∙ f) (number_up h l w)
  up e h l (shape f w) = shape (e ∙ f) (shape_up h l w)

  at_once : (p : ℕ) (ns ws : List ℕ) → production_count t ≤ p → Fault ws (p ∷ ns) (judge_nodes t (p ∷ ns) ws)
  at_once p ns ws h = number (node_number t p ns ws h) (record { before = []; node = p; behind = ns; left = ws; order = refl; good = begin; wrong = h })

  fault : (ns ws : List ℕ) → Fault ws ns (judge_nodes t ns ws)
  unfolding judge_nodes
  fault [] [] = fine refl
  fault [] (s ∷ ws) = shape refl (missing s ws begin)
  fault (p ∷ ns) [] = elim (dec_lt p (production_count t)) [
    | yes h ↦ shape (node_over t p ns h) (over [] p ns refl begin h)
    | no h ↦ at_once p ns [] (omega arith)
  ]
  fault (p ∷ ns) (s ∷ ws) = elim (dec_lt p (production_count t)) [
    | yes h ↦ elim (ℕ_discrete (left_of t p) s) [
      | yes l ↦ up (node_step t p ns s ws h l) h l (fault ns (children t p ++ ws))
      | no l ↦ shape (node_wrong t p ns s ws h l) (wrong [] p ns s ws refl begin h l)
    ]
    | no h ↦ at_once p ns (s ∷ ws) (omega arith)
  ]

  -- ---- and back

  number_back : (ns ws : List ℕ) → Number t ws ns → judge_nodes t ns ws ≡ 6
  number_back ns ws w = ap (λ (l : List ℕ). judge_nodes t l ws) w.order ∙ good_judge w.good (w.node ∷ w.behind) ∙ node_number t w.node w.behind w.left w.wrong

  short : (s : ℕ) (left : List ℕ) → judge_nodes t [] (s ∷ left) ≡ 7
  unfolding judge_nodes
  short s left = refl

  shape_back : (ns ws : List ℕ) → Shape t ws ns → judge_nodes t ns ws ≡ 7
  shape_back ns ws (missing s left g) = rw append-nil at (good_judge g []) ∙ short s left
  shape_back ns ws (over before p behind o g b) = ap (λ (l : List ℕ). judge_nodes t l ws) o ∙ good_judge g (p ∷ behind) ∙ node_over t p behind b
  shape_back ns ws (wrong before p behind s left o g b f) = ap (λ (l : List ℕ). judge_nodes t l ws) o ∙ good_judge g (p ∷ behind) ∙ node_wrong t p behind s left b f

  number_of : (ns ws : List ℕ) (n : ℕ) → n ≡ 6 → Fault ws ns n → Number t ws ns
  number_of ns ws n e (fine f) = absurd (omega arith)
  number_of ns ws n e (number f w) = w
  number_of ns ws n e (shape f w) = absurd (omega arith)

  shape_of : (ns ws : List ℕ) (n : ℕ) → n ≡ 7 → Fault ws ns n → Shape t ws ns
  shape_of ns ws n e (fine f) = absurd (omega arith)
  shape_of ns ws n e (number f w) = absurd (omega arith)
  shape_of ns ws n e (shape f w) = w

  one_of : (ns ws : List ℕ) (n : ℕ) → Fault ws ns n → (n ≡ 0) ⊎ ((n ≡ 6) ⊎ (n ≡ 7))
  one_of ns ws n (fine f) = inl f
  one_of ns ws n (number f w) = inr (inl f)
  one_of ns ws n (shape f w) = inr (inr f)

  -- ---- sound nodes are a subtree

  mutual
    subtree_judge : {s : ℕ} {ns : List ℕ} → Subtree t s ns → (ws ys : List ℕ) → judge_nodes t (ns ++ ys) (s ∷ ws) ≡ judge_nodes t ys ws
    subtree_judge (node {p} {s} {ns} h l r) ws ys = node_step t p (ns ++ ys) s ws h l ∙ row_judge r ws ys

    row_judge : {ss ns : List ℕ} → Row t ss ns → (ws ys : List ℕ) → judge_nodes t (ns ++ ys) (ss ++ ws) ≡ judge_nodes t ys ws
    row_judge none ws ys = refl
    row_judge (more {s} {wanted} {ms} {ns} a b e) ws ys = rw (e, append_assoc) (subtree_judge a (wanted ++ ws) (ns ++ ys) ∙ row_judge b ws ys)

  -- by how many nodes there are at most
  row_of : (k : ℕ) (ns ws : List ℕ) → length ns ≤ k → judge_nodes t ns ws ≡ 0 → Row t ws ns
  row_of zero [] [] h e = none
  row_of zero [] (s ∷ ws) h e = absurd (no_end t s ws e)
  row_of zero (p ∷ ns) ws h e = absurd (omega arith)
  row_of (suc k) [] [] h e = none
  row_of (suc k) [] (s ∷ ws) h e = absurd (no_end t s ws e)
  row_of (suc k) (p ∷ ns) [] h e = absurd (no_over t p ns e)
  row_of (suc k) (p ∷ ns) (s ∷ ws) h e =
      let f = first t p ns s ws e in
      let m = size t ns (length (children t p)) in
      let a = parts t ns (children t p) ws f.rest in
      let w : take m ns ++ drop m ns ≡ ns = take-append-drop m ns in
      let b : judge_nodes t (drop m ns) ws ≡ 0 = sym (frame t (take m ns) (children t p) a ws (drop m ns)) ∙ ap (λ (l : List ℕ). judge_nodes t l (children t p ++ ws)) w ∙ f.rest in
      let i = row_of k (take m ns) (children t p) (omega (arith, ap length w, length-append (take m ns) (drop m ns))) a in
      let j = row_of k (drop m ns) ws (omega (arith, length-drop m ns)) b in
      more (node f.number f.left i) j (ap (λ (l : List ℕ). p ∷ l) (sym w))

  one_row : {s : ℕ} {ns : List ℕ} → Row t (s ∷ []) ns → Subtree t s ns
  one_row (more a none e) = rw (e, append-nil) a

pub good_exactly : GoodExactly
good_exactly t ns ws = (sound_good t ns ws, λ g. rw append-nil at (good_judge t g []) ∙ judge_none t)

pub number_exactly : NumberExactly
number_exactly t ns ws = (λ e. number_of t ns ws (judge_nodes t ns ws) e (fault t ns ws), number_back t ns ws)

pub shape_exactly : ShapeExactly
shape_exactly t ns ws = (λ e. shape_of t ns ws (judge_nodes t ns ws) e (fault t ns ws), shape_back t ns ws)

pub three_verdicts : ThreeVerdicts
three_verdicts t ns ws = one_of t ns ws (judge_nodes t ns ws) (fault t ns ws)

pub tree_exactly : TreeExactly
tree_exactly t ns s = (λ e. one_row t (row_of t (length ns) ns (s ∷ []) (le_refl (length ns)) e), λ w. rw append-nil at (subtree_judge t w [] []) ∙ judge_none t)
