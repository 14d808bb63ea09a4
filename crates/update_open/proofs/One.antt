-- One point: what is handed in with it, and that the call at several points is then the call at one. Assumes nothing.
use mathlib.Core.Path.{◌≡◌, refl, sym, ap, ◌∙◌, subst}
use mathlib.Core.Bool.{true, false, true≢false}
use mathlib.Core.Logic.{⊎_elim}
use mathlib.Core.List.{List, [], ◌∷◌, ◌++◌}
use Prim.Native.Nat.{ℕ, zero, suc, ◌+◌, ◌-◌, ◌<◌}
use native.Mathlib.Omega.{arith}
use lib.ListN.{length, get_or, replicate, length-replicate}
use lib.Seq.{take-length, take_all}
use Rattle.table.specs.Words.{left_of}
use Rattle.std.specs.Prelude.{Result}
use Rattle.refusal.specs.declared.Refusal.{Refusal}
use Rattle.tree.specs.declared.Places.{Places}
use Rattle.tree.specs.declared.Point.{Point}
use Rattle.tree.specs.Tree.{judge_tree}
use Rattle.tree.specs.Replace.{part}
use Rattle.tree.specs.Handed.{places_from, named_points, announced, cut_row, bare_row, evenly, handed_row}
use Rattle.climb.proofs.Lists.{either}
use Rattle.update.specs.declared.Record.{Record}
use Rattle.update.specs.Records.{padded}
use Rattle.update.specs.Memories.{Memory, nodes_of}
use Rattle.refusal.specs.Orders.{above, outside, judged, Order, refusal_by}
use Rattle.refusal.proofs.Orders.{or_some, order_joined}
use Rattle.update.specs.Refusals.{look_order, replace_refusal}
use Rattle.update.specs.Calls.{Said, Left, unless, Opened, points_call, replace_call}
use Rattle.update.proofs.Several.{one_point}
use Rattle.update_judge.proofs.Orders.{tree_unequal}
use Rattle.update_judge.proofs.Outlines.{even, even_back, handed_even, handed_uneven, bare_tree}
use Rattle.update_open.specs.Lent.{PointsLeave, ReplaceLeaves}
use Rattle.update_open.specs.Inner.Placed.{point_of, placed}

one_named : (q : Point) → named_points (placed (q ∷ [])) ≡ q ∷ []
unfolding places_from padded
one_named q = refl

-- a refusal number that is given, whatever would be left
unless_refused : (n k : ℕ) (r : Record) (m : Memory) (l j : Left (Said Opened)) → n ≡ k → 0 < n → unless n r m l ≡ unless k r m j
unless_refused n k r m l j e h = ap (λ (i : ℕ). unless i r m l) e ∙ given k (omega arith)
  where
    given : (i : ℕ) → 0 < i → unless i r m l ≡ unless i r m j
    given zero g = absurd (omega arith)
    given (suc i) g = refl

-- an order that ends with 7
some : (o : Order) → 0 < refusal_by (o ++ (judged 6 7 7 ∷ []))
unfolding refusal_by
some o = subst (λ (n : ℕ). 0 < n) (sym (order_joined o (judged 6 7 7 ∷ []))) (or_some (refusal_by o) 7 (omega arith))

module _ (t : List ℕ) (m : Memory) (r : Record) (point : ℕ) (new new_owns : List ℕ) where
  abbrev q : Point
  q = point_of point (length new)

  announces : announced (q ∷ []) ≡ length new
  unfolding announced
  announces = omega arith

  -- with as many own sets as nodes
  one_even : evenly (q ∷ []) new new_owns ≡ true → handed_row (q ∷ []) new new_owns ≡ record { point = point; nodes = new; owns = new_owns } ∷ []
  unfolding cut_row
  one_even e =
      let k = even (q ∷ []) new new_owns e in
      handed_even (q ∷ []) new new_owns e ∙ rw (take-length new, take_all (length new) new_owns (omega (arith, k.owned, announces)))

  -- with another number of them
  one_uneven : evenly (q ∷ []) new new_owns ≡ false → handed_row (q ∷ []) new new_owns ≡ record { point = point; nodes = replicate (length new) 0; owns = [] } ∷ []
  unfolding bare_row
  one_uneven e = handed_uneven (q ∷ []) new new_owns e

  unequal : evenly (q ∷ []) new new_owns ≡ false → (length new ≡ length new_owns → ⊥)
  unequal e f = let k = even_back (q ∷ []) new new_owns (record { nodes = sym announces; owned = sym f ∙ sym announces }) in absurd (true≢false (sym k ∙ e))

  abbrev symbol : ℕ
  symbol = left_of t (get_or (nodes_of m r.nodes) point 0)

  -- what comes before the part's 6/7: of the part it looks at the count alone
  abbrev ahead : ℕ → Order
  ahead n = look_order t m r ++ (outside 9 r.nodes point ∷ above 8 512 (r.nodes - part t (nodes_of m r.nodes) point + n) ∷ [])

  seven : (ns owns : List ℕ) → judge_tree t ns owns symbol ≡ 7 → replace_refusal t m r point ns owns ≡ refusal_by (ahead (length ns) ++ (judged 6 7 7 ∷ []))
  unfolding replace_refusal refusal_by
  seven ns owns e = rw e

  both_refused : (length new ≡ length new_owns → ⊥) → replace_call t m r point (replicate (length new) 0) [] ≡ replace_call t m r point new new_owns
  unfolding replace_call
  both_refused f =
      let a = seven (replicate (length new) 0) [] (bare_tree t (nodes_of m r.nodes) (length new) symbol) in
      let b = seven new new_owns (sym (tree_unequal t new new_owns symbol f)) in
      let e = a ∙ ap (λ (n : ℕ). refusal_by (ahead n ++ (judged 6 7 7 ∷ []))) (length-replicate {A = ℕ} (length new) 0) ∙ sym b in
      unless_refused (replace_refusal t m r point (replicate (length new) 0) []) (replace_refusal t m r point new new_owns) r m _ _ e (subst (λ (n : ℕ). 0 < n) (sym a) (some (ahead (length (replicate {A = ℕ} (length new) 0)))))

  -- at one point the two calls are the same, whatever is handed in
  pub one_call : points_call t m r (handed_row (named_points (placed (q ∷ []))) new new_owns) ≡ replace_call t m r point new new_owns
  one_call =
      ap (λ (qs : List Point). points_call t m r (handed_row qs new new_owns)) (one_named q)
      ∙ ⊎_elim
      (λ (e : evenly (q ∷ []) new new_owns ≡ true). ap (points_call t m r) (one_even e) ∙ one_point t m r (record { point = point; nodes = new; owns = new_owns }))
      (λ (e : evenly (q ∷ []) new new_owns ≡ false).
      ap (points_call t m r) (one_uneven e) ∙ one_point t m r (record { point = point; nodes = replicate (length new) 0; owns = [] }) ∙ both_refused (unequal e))
      (either (evenly (q ∷ []) new new_owns))

  -- so the call at the points that hold that one alone
  pub one_handed : (answer : Result Record Refusal) (m' : Memory) {places : Places} → places ≡ placed (q ∷ []) → PointsLeave t m r places new new_owns answer m' → ReplaceLeaves t m r point new new_owns answer m'
  one_handed answer m' e h = h ∙ ap (λ (p : Places). points_call t m r (handed_row (named_points p) new new_owns)) e ∙ one_call
