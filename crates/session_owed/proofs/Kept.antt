-- The nodes of a command, as they come: those that are kept, and what the command makes of them. Assumes nothing.
use mathlib.Core.Path.{◌≡◌, refl, ap, ◌∙◌}
use mathlib.Core.Bool.{Bool, true, false, cond}
use mathlib.Core.List.{List, [], ◌∷◌, ◌++◌, append_assoc}
use mathlib.Core.Logic.{⊎_elim}
use Prim.Native.Nat.{ℕ, ◌+◌, ◌≤◌, ◌<◌, min}
use native.Mathlib.Omega.{arith}
use native.Mathlib.Numerals.{add-one}
use borrow.Author.Tests.{lt-ltb, le-leb, leb-true}
use lib.Dec.{leb, ltb}
use lib.ListN.{length, take, set, replicate, length-append, length-replicate, length-set}
use lib.Seq.{length-take-le, take-suc-set}
use Rattle.text_line.proofs.Values.{lt_or_ge}
use Rattle.tree.specs.declared.Point.{Point}
use Rattle.update.specs.declared.Record.{Record}
use Rattle.update.specs.Memories.{Memory}
use Rattle.update.specs.Calls.{Said, Left, Opened}
use Rattle.text_tree.specs.Planting.{Nodes, good, bad, node_before}
use Rattle.session.specs.Session.{Told, with_nodes}
use Rattle.session_owed.specs.Owed.{order_call, heard, behind}
use Rattle.session_owed.specs.Hearing.{kept_at}
use Rattle.session_owed.specs.declared.Coming.{Coming}
use Rattle.session_owed.proofs.Shifts.{moved_nodes}
use Rattle.session_owed.proofs.Many.{order_many}

pub heard_none : (count : ℕ) (xs : List ℕ) → heard count 0 xs ≡ []
unfolding heard
heard_none count xs = by_test_lem (leb count 512)
  where
    by_test_lem : (b : Bool) → cond b (take 0 xs) (replicate 0 0) ≡ []
    by_test_lem true = refl
    by_test_lem false = refl

heard_long : (count taken : ℕ) (xs : List ℕ) → taken ≤ count → 513 ≤ length xs → length (heard count taken xs) ≡ taken
unfolding heard
heard_long count taken xs few long = by_test_lem (leb count 512) refl
  where
    by_test_lem : (b : Bool) → leb count 512 ≡ b → length (cond b (take taken xs) (replicate taken 0)) ≡ taken
    by_test_lem true e = length-take-le taken xs (omega (arith, leb-true count 512 e))
    by_test_lem false e = length-replicate {A = ℕ} taken 0

pub kept_long : (taken x : ℕ) (xs : List ℕ) → length (kept_at taken x xs) ≡ length xs
kept_long taken x xs = by_test_lem (ltb taken 513)
  where
    by_test_lem : (b : Bool) → length (cond b (set xs taken x) xs) ≡ length xs
    by_test_lem true = length-set xs taken x
    by_test_lem false = refl

module _ (count taken : ℕ) (few : taken < count) (xs : List ℕ) (long : 513 ≤ length xs) where
  -- one node more, where all are kept
  heard_next : (x : ℕ) → count ≤ 512 → heard count (taken + 1) (kept_at taken x xs) ≡ heard count taken xs ++ (x ∷ [])
  unfolding heard
  heard_next x h =
      let l : taken < 513 = omega arith in
      rw (le-leb count 512 h, lt-ltb taken 513 l, add-one taken) (take-suc-set xs taken x (omega arith))

heard_kept : (count taken : ℕ) (xs : List ℕ) → count ≤ 512 → take (taken + 1) xs ≡ heard count (taken + 1) xs
unfolding heard
heard_kept count taken xs h = rw (le-leb count 512 h)

-- a list with one element put between
put_between : (a : List ℕ) (x : ℕ) (b : List ℕ) → (a ++ (x ∷ [])) ++ b ≡ a ++ (x ∷ b)
put_between a x b = append_assoc a (x ∷ []) b

module _ (t : List ℕ) (m : Memory) (r : Record) (coming : Coming) (points : List Point) (count taken p o : ℕ) (ps os : List ℕ) (few : taken < count) (long : 513 ≤ length ps) (owns_long : 513 ≤ length os) where
  abbrev call : List ℕ → List ℕ → Left (Said Opened)
  call = order_call coming points t m r

  abbrev front : List ℕ
  front = heard count taken ps

  abbrev own_front : List ℕ
  own_front = heard count taken os

  abbrev then : List ℕ
  then = heard count (taken + 1) (kept_at taken p ps)

  abbrev own_then : List ℕ
  own_then = heard count (taken + 1) (kept_at taken o os)

  then_long : length then ≡ taken + 1
  then_long = heard_long count (taken + 1) (kept_at taken p ps) (omega arith) (omega (arith, kept_long taken p ps))

  -- the node p, o stands in front of those that are to come, or behind those that have come
  pub order_next : (qs ws : List ℕ) → taken + 1 + length qs ≡ count → call (front ++ (p ∷ qs)) (own_front ++ (o ∷ ws)) ≡ call (then ++ qs) (own_then ++ ws)
  order_next qs ws e =
      ⊎_elim
      (λ (h : count < 513). rw (
        heard_next count taken few ps long p (omega arith),
        heard_next count taken few os owns_long o (omega arith),
        put_between front p qs,
        put_between own_front o ws,
      ))
      (λ (h : 513 ≤ count). order_many t m r coming points _ _ _ _ (omega (arith, length-append front (p ∷ qs), heard_long count taken ps (omega arith) long)) (omega (arith, length-append then qs, then_long)))
      (lt_or_ge count 513)

  -- it was the last: 513 stand for more than 512
  pub order_last : taken + 1 ≡ count → call (front ++ (p ∷ [])) (own_front ++ (o ∷ [])) ≡ call (take (min count 513) (kept_at taken p ps)) (take (min count 513) (kept_at taken o os))
  order_last e =
      ⊎_elim
      (λ (h : count < 513).
      let c : min count 513 ≡ taken + 1 = omega arith in
      rw (c, take_kept ps long p (omega arith), take_kept os owns_long o (omega arith)))
      (λ (h : 513 ≤ count).
      let c : min count 513 ≡ 513 = omega arith in
      rw c (order_many t m r coming points _ _ _ _ (omega (arith, length-append front (p ∷ []), heard_long count taken ps (omega arith) long))
      (omega (arith, length-take-le 513 (kept_at taken p ps) (omega (arith, kept_long taken p ps))))))
      (lt_or_ge count 513)
    where
      take_kept : (xs : List ℕ) → 513 ≤ length xs → (x : ℕ) → count ≤ 512 → take (taken + 1) (kept_at taken x xs) ≡ heard count taken xs ++ (x ∷ [])
      take_kept xs l x h = heard_kept count taken (kept_at taken x xs) h ∙ heard_next count taken few xs l x h

-- nodes that have come, in front of one and of those behind it
pub with_node : (call : List ℕ → List ℕ → Told) (go : ℕ → ℕ → Record → Memory → List ℕ) (a b a' b' : List ℕ) (p o : ℕ) (x : Nodes)
    → ((qs ws : List ℕ) (place line : ℕ) → x ≡ good qs ws place line → call (a ++ (p ∷ qs)) (b ++ (o ∷ ws)) ≡ call (a' ++ qs) (b' ++ ws))
    → with_nodes (behind a b (node_before p o x)) call go ≡ with_nodes (behind a' b' x) call go
with_node call go a b a' b' p o (good qs ws place line) e = ap (λ (z : Told). z.text ++ go place line z.next z.memory) (e qs ws place line refl)
with_node call go a b a' b' p o (bad refusal line) e = refl

pub behind_none : (x : Nodes) → behind [] [] x ≡ x
behind_none (good qs ws place line) = refl
behind_none (bad refusal line) = refl

pub behind_moved : (a b : List ℕ) (p o k : ℕ) (x : Nodes) → behind a b (node_before p o (moved_nodes k x)) ≡ moved_nodes k (behind a b (node_before p o x))
behind_moved a b p o k (good qs ws place line) = refl
behind_moved a b p o k (bad refusal line) = refl
