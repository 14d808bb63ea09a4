-- A part of a list, exchanged: element by element. Assumes nothing.
use Prim.Native.Nat.{ℕ, ◌+◌, ◌-◌, ◌≤◌, ◌<◌}
use mathlib.Core.Path.{◌≡◌, ap, sym, ◌∙◌}
use mathlib.Core.List.{List, ◌++◌}
use lib.ListN.{length, get_or, take, drop, length-append, length-drop, get_or-append}
use lib.Seq.{length-take-le, get_or-take, get_or-drop, get_or-append-add}
use native.Mathlib.Omega.{arith}
use Rattle.tree.specs.Moved.{Outer, ahead, behind}
use Rattle.tree.specs.Replace.{exchanged}

module _ (ns new : List ℕ) (r k : ℕ) (h : r + k ≤ length ns) where
  front : length (take r ns) ≡ r
  front = length-take-le r ns (omega arith)

  pub exchanged_front : (j : ℕ) → j < r → get_or (exchanged ns r k new) j 0 ≡ get_or ns j 0
  unfolding exchanged
  exchanged_front j i = get_or-append (take r ns) _ 0 j (omega (arith, front)) ∙ get_or-take r ns j 0 i

  at_r : (j : ℕ) → get_or (exchanged ns r k new) (r + j) 0 ≡ get_or (new ++ drop (r + k) ns) j 0
  unfolding exchanged
  at_r j = ap (λ i. get_or (take r ns ++ (new ++ drop (r + k) ns)) (i + j) 0) (sym front) ∙ get_or-append-add (take r ns) (new ++ drop (r + k) ns) j 0

  pub exchanged_new : (j : ℕ) → r ≤ j → j - r < length new → get_or (exchanged ns r k new) j 0 ≡ get_or new (j - r) 0
  exchanged_new j i b =
      let e : r + (j - r) ≡ j = omega arith in
      rw e at (at_r (j - r) ∙ get_or-append new (drop (r + k) ns) 0 (j - r) b)

  pub exchanged_rest : (j : ℕ) → r ≤ j → length new ≤ j - r → get_or (exchanged ns r k new) j 0 ≡ get_or ns (j - length new + k) 0
  exchanged_rest j i b =
      let d = j - r - length new in
      let e : r + (length new + d) ≡ j = omega arith in
      let f : r + k + d ≡ j - length new + k = omega arith in
      rw (e, f) at (at_r (length new + d) ∙ get_or-append-add new (drop (r + k) ns) d 0 ∙ get_or-drop (r + k) ns d 0)

  pub exchanged_length : length (exchanged ns r k new) + k ≡ length ns + length new
  unfolding exchanged
  exchanged_length = omega (arith, length-append (take r ns) (new ++ drop (r + k) ns), length-append new (drop (r + k) ns), front, length-drop (r + k) ns)

  -- an element that isn't in the part is found where it goes
  pub exchanged_other : {q q' : ℕ} → Outer r k (length new) q q' → get_or (exchanged ns r k new) q' 0 ≡ get_or ns q 0
  exchanged_other {q} {q'} (ahead a f) = rw f (exchanged_front q a)
  exchanged_other {q} {q'} (behind a f) =
      let z : q' - length new + k ≡ q = omega arith in
      rw z at (exchanged_rest q' (omega arith) (omega arith))
