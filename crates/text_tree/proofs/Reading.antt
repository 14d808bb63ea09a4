-- A tree is read over a table, and refused, exactly when. Assumes nothing.
use mathlib.Core.Path.{◌≡◌, refl, ap, sym, ◌∙◌}
use mathlib.Core.Bool.{Bool, true, false, cond, ◌||◌}
use mathlib.Core.List.{List}
use mathlib.Core.Logic.{◌⊎◌, inl, inr}
use Rattle.std.proofs.Common.{Result}
use Prim.Native.Nat.{ℕ, zero, suc, ◌≤◌, ◌<◌}
use native.Mathlib.Omega.{arith}
use borrow.Author.Tests.{ltb-true, ltb-false, lt-ltb, le-ltb}
use lib.Dec.{ltb}
use lib.ListN.{length}
use Rattle.refusal.specs.Numbers.{number_of}
use Rattle.refusal.specs.declared.Refusal.TheVariants as why
use Rattle.refusal.proofs.Distinct.{number_low}
use Rattle.refusal.specs.Orders.{or_else, when, refusal_by}
use Rattle.table.specs.Judge.{judge_table}
use Rattle.table.specs.Sound.{Sound}
use Rattle.table.proofs.Refused.{refused_exactly, five_numbers}
use Rattle.table.proofs.Sound.{sound_exactly}
use Rattle.refusal.proofs.Orders.{or_left, or_zero}
use Rattle.tree.specs.Tree.{judge_tree}
use Rattle.tree.specs.Refusals.{tree_refusal}
use Rattle.tree.proofs.Refused.{tree_most, all_trees_exactly}
use Rattle.text_tree.specs.Written.{refusal_of}
use Rattle.text_tree.specs.Planting.{Nodes, good, bad, tree_at}
use Rattle.text_tree.specs.Growing.{unless, room_refusal, grown_order, fitted, planting_at, tree_answer, productions_after, owns_after}
use Rattle.text_tree.specs.Calls.{ReadTreeSays}
use Rattle.text_tree.specs.Refused.{LinesRead, ReadsTree, by1to5, by13or14, by8or6or7, by15, read, ReadTreeExactly}
use Rattle.text_frame.specs.declared.Misread.{Misread}
use Rattle.text_tree.specs.declared.ReadTree.{ReadTree}
use Rattle.text_tree.proofs.Numbers.{numbered}
use Rattle.text_tree.proofs.Lines.{lines_exactly}
use Rattle.text_tree.proofs.Planted.{refused_nodes}

-- 15: there are more nodes than room
room_short : (n room room_owns c : ℕ) → room_refusal n room room_owns ≡ suc c → (suc c ≡ 15) × ((room < n) ⊎ (room_owns < n))
room_short n room room_owns c e = by (ltb room n) (ltb room_owns n) refl refl e
  where
    by : (p q : Bool) → ltb room n ≡ p → ltb room_owns n ≡ q → cond (p || q) 15 0 ≡ suc c → (suc c ≡ 15) × ((room < n) ⊎ (room_owns < n))
    by true q d f e = (sym e, inl (ltb-true room n d))
    by false true d f e = (sym e, inr (ltb-true room_owns n f))
    by false false d f e = absurd (omega arith)

room_long : (n room room_owns : ℕ) → room_refusal n room room_owns ≡ 0 → (n ≤ room) × (n ≤ room_owns)
room_long n room room_owns e = by (ltb room n) (ltb room_owns n) refl refl e
  where
    by : (p q : Bool) → ltb room n ≡ p → ltb room_owns n ≡ q → ◌≡◌ {A = ℕ} (cond (p || q) 15 0) 0 → (n ≤ room) × (n ≤ room_owns)
    by true q d f e = absurd (omega arith)
    by false true d f e = absurd (omega arith)
    by false false d f e = (ltb-false room n d, ltb-false room_owns n f)

is_short : (n room room_owns : ℕ) → (room < n) ⊎ (room_owns < n) → room_refusal n room room_owns ≡ 15
is_short n room room_owns (inl h) = rw (lt-ltb room n h)
is_short n room room_owns (inr h) = by (ltb room n) (lt-ltb room_owns n h)
  where
    by : (p : Bool) → ltb room_owns n ≡ true → ◌≡◌ {A = ℕ} (cond (p || ltb room_owns n) 15 0) 15
    by true e = refl
    by false e = rw e

is_long : (n room room_owns : ℕ) → n ≤ room → n ≤ room_owns → room_refusal n room room_owns ≡ 0
is_long n room room_owns h k = rw (le-ltb room n h, le-ltb room_owns n k)

fifteen : (n : ℕ) → n ≡ 15 → refusal_of n ≡ why.Buffer
unfolding refusal_of
fifteen n e = rw e

-- the tree's numbers, then 15
regroup : (a b c : ℕ) → or_else a (or_else b (or_else c 0)) ≡ or_else (or_else a (or_else b 0)) c
regroup zero zero c = or_zero c
regroup zero (suc b) c = refl
regroup (suc a) b c = refl

module _ (t s : List ℕ) (place line : ℕ) (ns owns : List ℕ) where
  abbrev planted : Nodes
  planted = planting_at t s place line (length ns) (length owns)

  abbrev Reads : Nodes → Type 0
  Reads x = ReadsTree t s place line ns owns (tree_answer x) (productions_after x ns) (owns_after x owns)

  module _ (sound : Sound t) where
    -- over a sound table
    passes : planted ≡ fitted t line (length ns) (length owns) (tree_at s place line)
    unfolding planting_at
    passes = rw ((sound_exactly t).1 sound)

    module _ (ps os : List ℕ) (end next : ℕ) where
      abbrev room : ℕ
      room = room_refusal (length ps) (length ns) (length owns)

      order : refusal_by (grown_order t ps os (length ns) (length owns)) ≡ or_else (tree_refusal t ps os) room
      unfolding tree_refusal refusal_by
      order = regroup (when (ltb 512 (length ps)) 8) (judge_tree t ps os 0) room ∙ (rw ((sound_exactly t).1 sound))

      fits : fitted t line (length ns) (length owns) (good ps os end next) ≡ unless (or_else (tree_refusal t ps os) room) line (good ps os end next)
      fits = ap (λ (n : ℕ). unless n line (good ps os end next)) order

      fits_to : LinesRead s place line (good ps os end next) → (g c : ℕ) → tree_refusal t ps os ≡ g → room ≡ c → Reads (unless (or_else g c) line (good ps os end next))
      fits_to l zero zero e f = let r = room_long (length ps) (length ns) (length owns) f in read l ((all_trees_exactly t ps os).sound.0 (sym e)) r.0 r.1
      fits_to l zero (suc c) e f = let r = room_short (length ps) (length ns) (length owns) c f in rw (fifteen (suc c) r.0) (by15 l ((all_trees_exactly t ps os).sound.0 (sym e)) r.1)
      fits_to l (suc g) c e f =
          by8or6or7 sound l (((all_trees_exactly t ps os).refused (refusal_of (suc g))).0 (numbered (suc g) (omega arith) (omega (arith, tree_most t ps os)) ∙ sym e))

    lines_to : (x : Nodes) → LinesRead s place line x → Reads (fitted t line (length ns) (length owns) x)
    lines_to (good ps os end next) l = rw (fits ps os end next) (fits_to ps os end next l (tree_refusal t ps os) (room ps os end next) refl refl)
    lines_to (bad r m) l = by13or14 sound l

  table_to : (n : ℕ) → judge_table t ≡ n → Reads (unless n line (fitted t line (length ns) (length owns) (tree_at s place line)))
  table_to zero e = lines_to ((sound_exactly t).0 e) (tree_at s place line) ((lines_exactly s place line (tree_at s place line)).0 refl)
  table_to (suc n) e =
      let k : number_of (refusal_of (suc n)) ≡ suc n = numbered (suc n) (omega arith) (omega (arith, five_numbers t)) in
      by1to5 {r = refusal_of (suc n)} (rw k ((refused_exactly t (suc n) (omega arith)).0 e))

  reads_to : Reads planted
  unfolding planting_at
  reads_to = table_to (judge_table t) refl

  -- and back
  found_good : {ps os : List ℕ} {end next : ℕ} → Sound t → LinesRead s place line (good ps os end next) → planted ≡ unless (or_else (tree_refusal t ps os) (room_refusal (length ps) (length ns) (length owns))) line (good ps os end next)
  found_good {ps} {os} {end} {next} k l =
      passes k ∙ ap (fitted t line (length ns) (length owns)) (sym ((lines_exactly s place line (good ps os end next)).1 l)) ∙ fits k ps os end next

  says : (x : Nodes) → planted ≡ x → ReadTreeSays t s place line ns owns (tree_answer x) (productions_after x ns) (owns_after x owns)
  says x e = rw e (refl, (refl, refl))

  reads_from : {a : Result ReadTree Misread} {ns' owns' : List ℕ} → ReadsTree t s place line ns owns a ns' owns' → ReadTreeSays t s place line ns owns a ns' owns'
  unfolding planting_at refusal_of
  reads_from (by1to5 {r} w) =
      says (bad r line) (rw ((refused_exactly t (number_of r) (number_low r)).1 w) (refused_nodes r (number_of r) line (fitted t line (length ns) (length owns) (tree_at s place line)) refl))
  reads_from (by13or14 {r} {l} k w) = says (bad r l) (passes k ∙ ap (fitted t line (length ns) (length owns)) (sym ((lines_exactly s place line (bad r l)).1 w)))
  reads_from (by8or6or7 {r} {ps} {os} {end} {next} k l w) =
      let e = sym (((all_trees_exactly t ps os).refused r).1 w) in
      says (bad r line) (found_good k l ∙ ap (λ (n : ℕ). unless n line (good ps os end next)) (or_left (tree_refusal t ps os) _ (omega (arith, number_low r)) ∙ e) ∙ refused_nodes r (number_of r) line (good ps os end next) refl)
  reads_from (by15 {ps} {os} {end} {next} l w h) =
      let e = sym ((all_trees_exactly t ps os).sound.1 w) in
      says (bad why.Buffer line) (found_good w.table l ∙ rw (e, is_short (length ps) (length ns) (length owns) h))
  reads_from (read {ps} {os} {end} {next} l w h k) =
      let e = sym ((all_trees_exactly t ps os).sound.1 w) in
      says (good ps os end next) (found_good w.table l ∙ rw (e, is_long (length ps) (length ns) (length owns) h k))

pub read_tree_exactly : ReadTreeExactly
read_tree_exactly t s place line ns owns a ns' owns' = (λ e. rw (e.0, e.1.0, e.1.1) (reads_to t s place line ns owns), reads_from t s place line ns owns)
