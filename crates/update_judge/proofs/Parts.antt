-- The held tree: its nodes' numbers, its declared instances, and the count of a subtree node by node. Assumes nothing.
use mathlib.Core.Path.{◌≡◌, refl, ap, sym, ◌∙◌, subst}
use mathlib.Core.Bool.{Bool, true, false, ◌&&◌, true≢false}
use mathlib.Core.List.{List}
use Prim.Native.Nat.{ℕ, suc, ◌+◌, ◌-◌, ◌/◌, ◌%◌, ◌≤◌, ◌<◌}
use native.Mathlib.Omega.{arith}
use borrow.Author.Tests.{ltb-true}
use lib.Dec.{ltb}
use lib.ListN.{length, get_or, take, drop, drop_of_length-le, length-drop}
use lib.Seq.{length-take-le, get_or-take, get_or-drop, take_all, drop-cons}
use Rattle.std.proofs.lemmas.List.{drop_more}
use Rattle.table.specs.Limits.{Limits}
use Rattle.table.specs.Words.{production_count, left_of, child_count, has_set}
use Rattle.tree.specs.Tree.{size}
use Rattle.tree.specs.Replace.{part}
use Rattle.tree.proofs.Size.{size_zero, size_le}
use Rattle.wire.specs.Instances.{declared}
use Rattle.tree.specs.Numbered.{Numbered}
use Rattle.update_place.proofs.Slots.{node_of_table}

-- a node of the first n has a symbol of the table
pub symbol_below : (t held : List ℕ) (n i : ℕ) → Limits t → Numbered t (take n held) → n ≤ length held → i < n → left_of t (get_or held i 0) < 32
symbol_below t held n i l k h e = rw (get_or-take n held i 0 e) at (node_of_table t (take n held) i l k (omega (arith, length-take-le n held h))).symbol

pub and_first : (a b : Bool) → (a && b) ≡ true → a ≡ true
and_first true b e = refl
and_first false b e = absurd (true≢false (sym e))

pub declared_below : (t ns : List ℕ) (x : ℕ) → declared t ns x ≡ true → x / 8 < length ns
unfolding declared
declared_below t ns x e = ltb-true (x / 8) (length ns) (and_first (ltb (x / 8) (length ns)) (has_set t (left_of t (get_or ns (x / 8) 0)) (x % 8)) e)

-- ---- a subtree's nodes, i of ns passed, with `left` subtrees still to come: each node takes one off and puts its children on

module _ (t ns : List ℕ) (i left : ℕ) where
  pub size_at : i < length ns → (left ≡ 0 → ⊥) → size t (drop i ns) left ≡ suc (size t (drop (i + 1) ns) (left - 1 + child_count t (get_or ns i 0)))
  unfolding size
  size_at h l =
      let a : left ≡ suc (left - 1) = omega arith in
      let b : child_count t (get_or ns i 0) + (left - 1) ≡ left - 1 + child_count t (get_or ns i 0) = omega arith in
      ap (size t (drop i ns)) a ∙ ap (λ (l : List ℕ). size t l (suc (left - 1))) (drop_more ns i 0 h) ∙ ap (λ j. suc (size t (drop (i + 1) ns) j)) b

  pub size_done : left ≡ 0 → size t (drop i ns) left ≡ 0
  size_done e = ap (size t (drop i ns)) e ∙ size_zero t (drop i ns)

  pub size_end : length ns ≤ i → size t (drop i ns) left ≡ 0
  size_end h = let s = size_le t (drop i ns) left in let d : length (drop i ns) ≡ 0 = ap length (drop_of_length-le ns h) in omega arith

pub rest_all : (ns : List ℕ) (point : ℕ) → take (length ns - point) (drop point ns) ≡ drop point ns
rest_all ns point = take_all (length ns - point) (drop point ns) (omega (arith, length-drop point ns))

-- the nodes from `point` on have production numbers of the table, and four children at the most
module _ (t ns : List ℕ) (point i : ℕ) (l : Limits t) (n : Numbered t ns) (h : i < length (drop point ns)) where
  number : get_or (drop point ns) i 0 < production_count t
  number = subst (λ v. v < production_count t) (sym (get_or-drop point ns i 0)) (n.below (point + i) (omega (arith, length-drop point ns)))

  pub number_at : get_or (drop point ns) i 0 < 64
  number_at = omega (arith, number, l.productions)

  pub arity_at : child_count t (get_or (drop point ns) i 0) ≤ 4
  arity_at = l.arity (get_or (drop point ns) i 0) number

-- a subtree has a node at least, and ends inside the tree
pub part_fits : (t ns : List ℕ) (point : ℕ) → point < length ns → (0 < part t ns point) × (point + part t ns point ≤ length ns)
unfolding part size
part_fits t ns point h =
    let e : size t (drop point ns) 1 ≡ suc (size t (drop (suc point) ns) (child_count t (get_or ns point 0) + 0)) = rw (drop-cons ns point 0 h) in
    let s = size_le t (drop point ns) 1 in
    let d = length-drop point ns in
    (omega arith, omega arith)

-- ---- what each function is proved by

pub ruleset declaring = (node_of_table, symbol_below)

pub ruleset counting = (rest_all, size_at, size_done, size_end, number_at, arity_at)
