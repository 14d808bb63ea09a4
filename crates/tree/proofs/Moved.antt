-- Where the places go when a subtree is exchanged. Assumes nothing.
use Prim.Native.Nat.{ℕ, zero, suc, ◌+◌, ◌-◌, ◌≤◌, ◌<◌}
use mathlib.Core.Path.{◌≡◌, refl, ap, sym, ◌∙◌}
use mathlib.Core.List.{List, [], ◌∷◌, ◌++◌, append_assoc}
use lib.ListN.{length, get_or, drop, length-append, length-drop, get_or-append}
use lib.Seq.{drop-append-le, drop-append-add, get_or-append-add, get_or-drop}
use native.Mathlib.Nat.{add-zero, add-suc}
use native.Mathlib.Decide.{dec_lt}
use native.Mathlib.Omega.{arith}
use Rattle.table.specs.Words.{child_count}
use Rattle.tree.specs.Moved.{Moved, stays, shifts, Outer, ahead, behind}
use Rattle.tree.specs.Tree.{judge_nodes, size, span_end, child_at, Child}
use Rattle.tree.proofs.Size.{size_zero, child_after}
use Rattle.tree.proofs.Exchange.{frame_size, sound_some, child_inside}

module _ {r k s : ℕ} where
  pub outer_moved : {x y : ℕ} → Outer r k s x y → Moved r k s x y
  outer_moved (ahead h e) = stays (omega arith) e
  outer_moved (behind h e) = shifts h e

  pub outer_next : {x y : ℕ} → Outer r k s x y → Moved r k s (suc x) (suc y)
  outer_next (ahead h e) = stays (omega arith) (omega arith)
  outer_next (behind h e) = shifts (omega arith) (omega arith)

  -- a place goes to one place
  pub moved_one : {x y z : ℕ} → 0 < k → Moved r k s x y → Moved r k s x z → y ≡ z
  moved_one p (stays h e) (stays g f) = omega arith
  moved_one p (stays h e) (shifts g f) = absurd (omega arith)
  moved_one p (shifts h e) (stays g f) = absurd (omega arith)
  moved_one p (shifts h e) (shifts g f) = omega arith

  -- and back
  pub moved_back : {x y : ℕ} → Moved r k s x y → Moved r s k y x
  moved_back (stays h e) = stays (omega arith) (sym e)
  moved_back (shifts h e) = shifts (omega arith) (sym e)

  pub outer_back : {x y : ℕ} → Outer r k s x y → Outer r s k y x
  outer_back (ahead h e) = ahead (omega arith) (sym e)
  outer_back (behind h e) = behind (omega arith) (sym e)

  moved_on : {x y : ℕ} (a q : ℕ) → q + r ≡ a → Moved r k s x y → Moved a k s (q + x) (q + y)
  moved_on a q e (stays h f) = stays (omega arith) (omega arith)
  moved_on a q e (shifts h f) = shifts (omega arith) (omega arith)

module _ (t old new cs : List ℕ) (s : ℕ) (o : judge_nodes t old (s ∷ []) ≡ 0) (n : judge_nodes t new (s ∷ []) ≡ 0) where
  size_moved : (xs : List ℕ) (k : ℕ) → Moved (length xs) (length old) (length new) (size t (xs ++ (old ++ cs)) k) (size t (xs ++ (new ++ cs)) k)
  unfolding size
  size_moved [] zero = stays (omega (arith, size_zero t (old ++ cs))) (size_zero t (new ++ cs) ∙ sym (size_zero t (old ++ cs)))
  size_moved [] (suc k) =
      let e : 1 + k ≡ suc k = omega arith in
      let f : size t (old ++ cs) (suc k) ≡ length old + size t cs k = rw (← e) (frame_size t old (s ∷ []) o k cs) in
      let g : size t (new ++ cs) (suc k) ≡ length new + size t cs k = rw (← e) (frame_size t new (s ∷ []) n k cs) in
      shifts (omega arith) (omega arith)
  size_moved (x ∷ xs) zero = stays (omega arith) refl
  size_moved (x ∷ xs) (suc k) = up (size_moved xs (child_count t x + k))
    where
      up : {r k s x y : ℕ} → Moved r k s x y → Moved (suc r) k s (suc x) (suc y)
      up (stays h e) = stays (omega arith) (omega arith)
      up (shifts h e) = shifts (omega arith) (omega arith)

  module _ (xs : List ℕ) where
    abbrev pub before : List ℕ
    before = xs ++ (old ++ cs)

    abbrev pub afterwards : List ℕ
    afterwards = xs ++ (new ++ cs)

    abbrev pub Goes : ℕ → ℕ → Type 0
    Goes = Moved (length xs) (length old) (length new)

    abbrev pub Around : ℕ → ℕ → Type 0
    Around = Outer (length xs) (length old) (length new)

    -- behind the exchanged part the two lists are one
    same_behind : (q : ℕ) → length xs + length old ≤ q → (q' : ℕ) → q + length new ≡ q' + length old → drop q before ≡ drop q' afterwards
    same_behind q h q' e =
        let d = q - (length xs + length old) in
        let a : q ≡ length (xs ++ old) + d = omega (arith, length-append xs old) in
        let b : q' ≡ length (xs ++ new) + d = omega (arith, length-append xs new) in
        rw (a, b, ← append_assoc xs old cs, ← append_assoc xs new cs, drop-append-add (xs ++ old) cs d, drop-append-add (xs ++ new) cs d)

    -- k subtrees from corresponding places on end at corresponding places
    pub place_moved : (k : ℕ) {q q' : ℕ} → Goes q q' → Goes (q + size t (drop q before) k) (q' + size t (drop q' afterwards) k)
    place_moved k {q} {q'} (stays h e) =
        rw (e, drop-append-le q xs (old ++ cs) h, drop-append-le q xs (new ++ cs) h) (moved_on (length xs) q (omega (arith, length-drop q xs)) (size_moved (drop q xs) k))
    place_moved k {q} {q'} (shifts h e) = rw (same_behind q h q' e) (shifts (omega arith) (omega arith))

    pub end_moved : {q q' : ℕ} → Goes q q' → Goes (span_end t before q) (span_end t afterwards q')
    unfolding span_end
    end_moved g = place_moved 1 g

    pub child_moved : (k : ℕ) {q q' : ℕ} → Around q q' → Goes (child_at t before q k) (child_at t afterwards q' k)
    unfolding child_at
    child_moved k g = place_moved k (outer_next g)

    -- a node other than r has its production where it goes
    pub node_moved : {q q' : ℕ} → Around q q' → get_or before q 0 ≡ get_or afterwards q' 0
    node_moved {q} {q'} (ahead h e) = rw (e, get_or-append xs (old ++ cs) 0 q h, get_or-append xs (new ++ cs) 0 q h)
    node_moved {q} {q'} (behind h e) = rw (← add-zero q, ← add-zero q', ← get_or-drop q before 0 0, ← get_or-drop q' afterwards 0 0, same_behind q h q' e)

    some_old : 0 < length old
    some_old = sound_some t old s o

    below_moved : {q q' : ℕ} → Around q q' → q < length before → q' < length afterwards
    below_moved g h = go g h
      where
        b : length before ≡ length xs + (length old + length cs)
        b = length-append xs (old ++ cs) ∙ ap (λ j. length xs + j) (length-append old cs)

        a : length afterwards ≡ length xs + (length new + length cs)
        a = length-append xs (new ++ cs) ∙ ap (λ j. length xs + j) (length-append new cs)

        go : {q q' : ℕ} → Around q q' → q < length before → q' < length afterwards
        go (ahead i e) h = omega (arith, a)
        go (behind i e) h = omega (arith, a, b)

    -- a child of a node other than r goes where its parent's child is
    pub child_goes : {q q' k m m' : ℕ} → Around q q' → Goes m m' → Child t before q k m → Child t afterwards q' k m'
    child_goes {q} {q'} {k} g h c = record {
      below = below_moved g c.below;
      within = rw (← node_moved g) c.within;
      place = moved_one some_old h (rw c.place (child_moved k g));
    }

    -- the children of r's old subtree lie in it
    inner : (i k : ℕ) → i < length old → k < child_count t (get_or before (length xs + i) 0) → child_at t before (length xs + i) k < length xs + length old
    unfolding child_at
    inner i k h b =
        let v : get_or before (length xs + i) 0 ≡ get_or old i 0 = get_or-append-add xs (old ++ cs) i 0 ∙ get_or-append old cs 0 i h in
        let d : drop (suc (length xs + i)) before ≡ drop (suc i) old ++ cs = ap (λ j. drop j before) (sym (add-suc (length xs) i)) ∙ drop-append-add xs (old ++ cs) (suc i) ∙ drop-append-le (suc i) old cs h in
        rw d (omega (arith, child_inside t old (s ∷ []) cs o i h k (rw v at b)))

    -- the parent of a place that goes is another node than r, and not below it
    pub parent_around : {q k m m' : ℕ} → Goes m m' → Child t before q k m → (q' : ℕ) × Around q q'
    parent_around {q} {k} {m} {m'} g c = elim (dec_lt q (length xs)) [
      | yes h ↦ (q, ahead h refl)
      | no h ↦ elim (dec_lt q (length xs + length old)) [
        | yes i ↦
            let e : length xs + (q - length xs) ≡ q = omega arith in
            absurd (lost g (omega arith) (rw e at (inner (q - length xs) k (omega arith) (rw e c.within))))
        | no i ↦ (q + length new - length old, behind (omega arith) (omega arith))
      ]
    ]
      where
        lost : Goes m m' → length xs ≤ q → child_at t before q k < length xs + length old → ⊥
        lost (stays h e) i l = omega (arith, c.place, child_after t before q k)
        lost (shifts h e) i l = omega (arith, c.place)
