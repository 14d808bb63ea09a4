-- A tree that may be written is read again, and what is accepted may be written. Assumes nothing.
use mathlib.Core.Path.{◌≡◌, refl, sym, ◌∙◌}
use mathlib.Core.List.{List}
use Prim.Native.Nat.{ℕ, zero, suc, ◌^◌, ◌<◌}
use native.Mathlib.Omega.{arith}
use borrow.Author.Tests.{le-ltb}
use lib.Dec.{ltb}
use lib.ListN.{length}
use Rattle.refusal.specs.Orders.{or_else, when, refusal_by}
use Rattle.table.specs.Judge.{judge_table}
use Rattle.refusal.proofs.Orders.{or_none}
use Rattle.tree.specs.Tree.{judge_tree}
use Rattle.tree.specs.Refusals.{tree_refusal}
use Rattle.text_tree.specs.Planting.{Nodes, good, bad, tree_at}
use Rattle.text_tree.specs.Growing.{unless, room_refusal, grown_order, fitted, planting_at}
use Rattle.text_tree.specs.Laws.{GrownBack, GrownForthAll}
use Rattle.text_tree.proofs.Trees.{tree_back, tree_forth}
use Rattle.text_tree.proofs.Writing.{handed}

-- the parts of a tree's refusal
record Passed (t ps owns : List ℕ) : Type 0 where
  pub table : judge_table t ≡ 0
  pub size : when (ltb 512 (length ps)) 8 ≡ 0
  pub tree : judge_tree t ps owns 0 ≡ 0

passed : (t ps owns : List ℕ) → tree_refusal t ps owns ≡ 0 → Passed t ps owns
unfolding tree_refusal refusal_by
passed t ps owns e =
    let x = or_none (judge_table t) (or_else (when (ltb 512 (length ps)) 8) (or_else (judge_tree t ps owns 0) 0)) e in
    let y = or_none (when (ltb 512 (length ps)) 8) (or_else (judge_tree t ps owns 0) 0) x.1 in
    record { table = x.0; size = y.0; tree = (or_none (judge_tree t ps owns 0) 0 y.1).0 }

pub grown_back : GrownBack
unfolding planting_at refusal_by
grown_back t ps owns rest line room room_owns fit e h k =
    let p = passed t ps owns e in
    let n : length ps < 2 ^ 16 = omega (arith, (handed t ps owns e).few) in
    rw (p.table, tree_back ps owns rest line fit n, p.size, p.tree, le-ltb room (length ps) h, le-ltb room_owns (length ps) k)

-- what is not refused
record Kept (n start : ℕ) (x y : Nodes) : Type 0 where
  pub number : n ≡ 0
  pub same : x ≡ y

not_refused : (n start : ℕ) (x : Nodes) (ps owns : List ℕ) (end next : ℕ) → unless n start x ≡ good ps owns end next → Kept n start x (good ps owns end next)
not_refused zero start x ps owns end next e = record { number = refl; same = e }
not_refused (suc n) start x ps owns end next e = absurd (let z : ◌≡◌ {A = ℕ} 0 1 = cc in omega arith)

record Fitted (t : List ℕ) (room room_owns : ℕ) (x : Nodes) (ps owns : List ℕ) (end next : ℕ) : Type 0 where
  pub is : x ≡ good ps owns end next
  pub number : refusal_by (grown_order t ps owns room room_owns) ≡ 0

was_fitted : (t : List ℕ) (start room room_owns : ℕ) (x : Nodes) (ps owns : List ℕ) (end next : ℕ) → fitted t start room room_owns x ≡ good ps owns end next → Fitted t room room_owns x ps owns end next
was_fitted t start room room_owns (good qs os p l) ps owns end next e =
    let number : List ℕ → List ℕ → ℕ = λ a b. refusal_by (grown_order t a b room room_owns) in
    let k = not_refused (number qs os) start (good qs os p l) ps owns end next e in
    let a : qs ≡ ps = (parts qs os p l ps owns end next k.same).0 in
    let b : os ≡ owns = (parts qs os p l ps owns end next k.same).1 in
    record { is = k.same; number = (λ i. number (sym a i) (sym b i)) ∙ k.number }
  where
    parts : (qs os : List ℕ) (p l : ℕ) (ps owns : List ℕ) (end next : ℕ) → good qs os p l ≡ good ps owns end next → (qs ≡ ps) × (os ≡ owns)
    parts qs os p l ps owns end next e = (cc, cc)
was_fitted t start room room_owns (bad r l) ps owns end next e = absurd (let z : ◌≡◌ {A = ℕ} 0 1 = cc in omega arith)

pub grown_forth : GrownForthAll
unfolding planting_at tree_refusal refusal_by
grown_forth t s place line room room_owns ps owns end next e =
    let j = not_refused (judge_table t) line (fitted t line room room_owns (tree_at s place line)) ps owns end next e in
    let f = was_fitted t line room room_owns (tree_at s place line) ps owns end next j.same in
    let x = or_none (when (ltb 512 (length ps)) 8) (or_else (judge_tree t ps owns 0) (or_else (room_refusal (length ps) room room_owns) 0)) f.number in
    let y = or_none (judge_tree t ps owns 0) (or_else (room_refusal (length ps) room room_owns) 0) x.1 in
    record { tree = tree_forth s place line ps owns end next f.is; sound = rw (j.number, x.0, y.0) }
