-- Sizes, ends and places of children. Assumes nothing.
use Prim.Native.Nat.{ℕ, zero, suc, ◌+◌, ◌≤◌, ◌<◌, ◌-◌}
use mathlib.Core.Path.{◌≡◌, refl, ap, sym, ◌∙◌}
use mathlib.Core.List.{List, [], ◌∷◌}
use lib.ListN.{length, get_or, drop, length-drop, drop_of_length-le}
use lib.Seq.{drop-cons, drop-drop}
use native.Mathlib.Nat.{zero-add, suc-add, add-zero, add_assoc}
use native.Mathlib.Numerals.{add-one}
use native.Mathlib.Omega.{arith}
use Rattle.table.specs.Words.{child_count}
use Rattle.tree.specs.Tree.{size, span_end, child_at}
use Rattle.tree.specs.Inner.Spans.{Ended}

module _ (t : List ℕ) where
  pub size_zero : (ns : List ℕ) → size t ns 0 ≡ 0
  unfolding size
  size_zero [] = refl
  size_zero (n ∷ ns) = refl

  pub size_le : (ns : List ℕ) (k : ℕ) → size t ns k ≤ length ns
  unfolding size
  size_le [] k = omega arith
  size_le (n ∷ ns) zero = omega arith
  size_le (n ∷ ns) (suc k) = omega (arith, size_le ns (child_count t n + k))

  -- j subtrees and then k more
  pub size_add : (ns : List ℕ) (j k : ℕ) → size t ns (j + k) ≡ size t ns j + size t (drop (size t ns j) ns) k
  unfolding size
  size_add [] j k = refl
  size_add (n ∷ ns) zero k = rw zero-add (sym (zero-add _))
  size_add (n ∷ ns) (suc j) k = rw (suc-add j k, suc-add (size t ns (child_count t n + j))) (ap suc (rw (← add_assoc) (size_add ns (child_count t n + j) k)))

  module _ (ns : List ℕ) where
    pub end_out : (n : ℕ) → length ns ≤ n → span_end t ns n ≡ n
    unfolding span_end size
    end_out n h = rw (drop_of_length-le ns h) (add-zero n)

    pub end_le : (n : ℕ) → n ≤ length ns → span_end t ns n ≤ length ns
    unfolding span_end
    end_le n h = omega (arith, size_le (drop n ns) 1, length-drop n ns)

    pub end_node : (n : ℕ) → n < length ns → span_end t ns n ≡ child_at t ns n (child_count t (get_or ns n 0))
    unfolding span_end child_at size
    end_node n h = rw (drop-cons ns n 0 h, add-zero) (omega arith)

    pub child_first : (n : ℕ) → child_at t ns n 0 ≡ suc n
    unfolding child_at
    child_first n = rw (size_zero (drop (suc n) ns)) (add-zero _)

    pub child_next : (n k : ℕ) → child_at t ns n (suc k) ≡ span_end t ns (child_at t ns n k)
    unfolding child_at span_end
    child_next n k = rw (← add-one k, size_add, drop-drop) (omega arith)

    pub child_after : (n k : ℕ) → n < child_at t ns n k
    unfolding child_at
    child_after n k = omega arith

    pub child_le : (n k : ℕ) → n < length ns → child_at t ns n k ≤ length ns
    unfolding child_at
    child_le n k h = omega (arith, size_le (drop (suc n) ns) k, length-drop (suc n) ns)

-- one turn of the walk over a node's children: behind child k is child k + 1
pub turn_in : (t ns ends : List ℕ) (at k next : ℕ) → next ≡ child_at t ns at k → Ended t ns (at + 1) ends → next < length ns → get_or ends next 0 ≡ child_at t ns at (k + 1)
turn_in t ns ends at k next e f h = rw (add-one, child_next) (f next (omega (arith, child_after t ns at k)) h ∙ ap (span_end t ns) e)

-- the walk: where it begins, a turn, and its end behind the last child
module _ (t ns : List ℕ) (at : ℕ) where
  pub turn_first : at + 1 ≡ child_at t ns at 0
  turn_first = add-one at ∙ sym (child_first t ns at)

  pub turn_next : (ends : List ℕ) (k next new : ℕ) → new ≡ get_or ends next 0 → next ≡ child_at t ns at k → Ended t ns (at + 1) ends → next < length ns → new ≡ child_at t ns at (k + 1)
  turn_next ends k next new d e f h = d ∙ turn_in t ns ends at k next e f h

  pub turn_last : (p next count : ℕ) → at < length ns → p ≡ get_or ns at 0 → count ≡ child_count t p → next ≡ child_at t ns at count → next ≡ span_end t ns at
  turn_last p next count h e f i = i ∙ ap (child_at t ns at) (f ∙ ap (child_count t) e) ∙ sym (end_node t ns at h)

  -- behind the last node every further child is where the walk stands
  out : (k next : ℕ) → next ≡ child_at t ns at k → length ns ≤ next → (j : ℕ) → next ≡ child_at t ns at (j + k)
  out k next e h zero = e ∙ ap (child_at t ns at) (sym (zero-add k))
  out k next e h (suc j) =
      sym (end_out t ns next h) ∙ ap (span_end t ns) (out k next e h j) ∙ sym (child_next t ns at (j + k)) ∙ ap (child_at t ns at) (sym (suc-add j k))

  pub turn_out : (p k next count : ℕ) → at < length ns → p ≡ get_or ns at 0 → count ≡ child_count t p → next ≡ child_at t ns at k → k ≤ count → length ns ≤ next → next ≡ span_end t ns at
  turn_out p k next count h e f i l o =
      let z : count - k + k ≡ count = omega arith in
      turn_last p next count h e f (rw z at (out k next i o (count - k)))
