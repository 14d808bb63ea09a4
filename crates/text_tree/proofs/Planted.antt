-- What a tree's lines are refused by once they are read, and what becomes of lent memory. Assumes nothing.
use mathlib.Core.Path.{◌≡◌, refl, ap, sym, ◌∙◌}
use mathlib.Core.Bool.{Bool, true, false, cond, ◌||◌}
use mathlib.Core.Logic.{⊎_elim}
use mathlib.Core.List.{List, [], ◌∷◌}
use Rattle.std.proofs.Common.{Ok}
use Prim.Native.Nat.{ℕ, zero, suc, ◌≤◌, ◌<◌}
use native.Mathlib.Omega.{arith}
use borrow.Author.Tests.{lt-ltb, eq-eqb}
use lib.Dec.{ltb}
use lib.ListN.{length, take}
use lib.Seq.{sets}
use Rattle.refusal.specs.Numbers.{number_of}
use Rattle.refusal.specs.declared.Refusal.{Refusal}
use Rattle.text_line.proofs.Values.{lt_or_ge}
use Rattle.refusal.specs.Orders.{or_else, when, refusal_by}
use Rattle.table.specs.Judge.{judge_table}
use Rattle.refusal.proofs.Orders.{or_none}
use Rattle.tree.specs.Tree.{judge_nodes, judge_tree}
use Rattle.refusal.proofs.Distinct.{number_low}
use Rattle.text_tree.specs.Written.{refusal_of}
use Rattle.text_tree.specs.Planting.{Nodes, good, bad, tree_at}
use Rattle.text_tree.specs.Growing.{unless, room_refusal, fitted, planting_at, tree_read, tree_answer, productions_after, owns_after, Stored, grown_order, kept_order}
use Rattle.text_tree.specs.Laws.{AllFit}
use Rattle.text_tree.specs.declared.ReadTree.{ReadTree}
use Rattle.text_tree.proofs.Numbers.{by_number}
use Rattle.text_tree.proofs.Copying.{front}
use Rattle.text_tree.proofs.Trees.{tree_forth}

some : (n start : ℕ) (x : Nodes) → 0 < n → unless n start x ≡ bad (refusal_of n) start
some zero start x h = absurd (omega arith)
some (suc n) start x h = refl

pub refused_nodes : (r : Refusal) (n start : ℕ) (x : Nodes) → number_of r ≡ n → unless n start x ≡ bad r start
refused_nodes r n start x e = ap (λ (m : ℕ). unless m start x) (sym e) ∙ some (number_of r) start x (number_low r) ∙ ap (λ (q : Refusal). bad q start) (by_number r)

-- nothing refuses: there are at most 512 nodes, and there is room
pub record Roomed (n room room_owns : ℕ) : Type 0 where
  pub few : n ≤ 512
  pub first : n ≤ room
  pub second : n ≤ room_owns

pub roomed : (t a : List ℕ) (n room room_owns : ℕ) → refusal_by (kept_order t a n room room_owns) ≡ 0 → Roomed n room room_owns
unfolding refusal_by
roomed t a n room room_owns e =
    let j = judge_nodes t (take n a) (0 ∷ []) in
    let x = or_none (when (ltb 512 n) 8) (or_else j (or_else (room_refusal n room room_owns) 0)) e in
    let y = or_none j (or_else (room_refusal n room room_owns) 0) x.1 in
    let z = (or_none (room_refusal n room room_owns) 0 y.1).0 in
    record {
      few = ⊎_elim (λ h. absurd (let q : when (ltb 512 n) 8 ≡ 8 = rw (lt-ltb 512 n h) in omega (arith, q, x.0))) (λ h. h) (lt_or_ge 512 n);
      first = ⊎_elim (λ h. absurd (let q : room_refusal n room room_owns ≡ 15 = rw (lt-ltb room n h) in omega (arith, q, z))) (λ h. h) (lt_or_ge room n);
      second = ⊎_elim (λ h. absurd (let q : room_refusal n room room_owns ≡ 15 = by_either (ltb room n) (ltb room_owns n) (lt-ltb room_owns n h) in omega (arith, q, z))) (λ h. h) (lt_or_ge room_owns n);
    }
  where
    by_either : (b c : Bool) → c ≡ true → ◌≡◌ {A = ℕ} (cond (b || c) 15 0) 15
    by_either true c e = refl
    by_either false c e = rw e

-- ---- what was read

-- an answer that there are c nodes
pub record Found (x : Nodes) (c place line : ℕ) : Type 0 where
  pub ps : List ℕ
  pub owns : List ℕ
  pub is : x ≡ good ps owns place line
  pub count : length ps ≡ c

pub found : (x : Nodes) (c place line : ℕ) → tree_answer x ≡ Ok (tree_read c place line) → Found x c place line
found (good ps owns p l) c place line e =
    let q : tree_read (length ps) p l ≡ tree_read c place line = cc in
    let u : p ≡ place = ap (λ (x : ReadTree). x.place) q in
    let v : l ≡ line = ap (λ (x : ReadTree). x.line) q in
    record { ps = ps; owns = owns; is = cc; count = ap (λ (x : ReadTree). x.count) q }
found (bad r l) c place line e = absurd (let z : ◌≡◌ {A = ℕ} 0 1 = cc in omega arith)

pub even : (ps owns : List ℕ) → AllFit ps owns → length ps ≡ length owns
even [] [] f = refl
even [] (o ∷ owns) f = absurd f
even (p ∷ ps) [] f = absurd f
even (p ∷ ps) (o ∷ owns) f = ap suc (even ps owns f.1.1)

-- the numbers of nodes in memory are those of the nodes
same_numbers : (t a ps owns : List ℕ) (n room room_owns : ℕ) → length ps ≡ n → length owns ≡ n → (n ≤ 512 → take n a ≡ ps)
    → refusal_by (kept_order t a n room room_owns) ≡ refusal_by (grown_order t ps owns room room_owns)
unfolding judge_tree refusal_by
same_numbers t a ps owns n room room_owns p o k =
    rw (p, o, eq-eqb n n refl)
    (⊎_elim (λ (h : 512 < n). rw (lt-ltb 512 n h)) (λ (h : n ≤ 512). ap (λ (l : List ℕ). or_else (when (ltb 512 n) 8) (or_else (judge_nodes t l (0 ∷ [])) (or_else (room_refusal n room room_owns) 0))) (k h)) (lt_or_ge 512 n))

-- the tree at a place was read into a and b of 512 places
module _ (t s : List ℕ) (place line : ℕ) (a b : List ℕ) (a-long : length a ≡ 512) (b-long : length b ≡ 512) (a' b' : List ℕ) (stored : Stored (tree_at s place line) a b a' b')
    (c end next : ℕ) (w : Found (tree_at s place line) c end next) (room room_owns : ℕ) where
  kept : (a' ≡ sets a 0 w.ps) × (b' ≡ sets b 0 w.owns)
  kept = rw w.is at stored

  alike : length w.ps ≡ length w.owns
  alike = even w.ps w.owns (tree_forth s place line w.ps w.owns end next w.is).fit

  productions_kept : c ≤ 512 → take c a' ≡ w.ps
  productions_kept h =
      let n : length w.ps ≤ length a = omega (arith, w.count) in
      (λ i. take (sym w.count i) (kept.0 i)) ∙ front a w.ps n

  owns_kept : c ≤ 512 → take c b' ≡ w.owns
  owns_kept h =
      let e : c ≡ length w.owns = omega (arith, w.count, alike) in
      let n : length w.owns ≤ length b = omega arith in
      (λ i. take (e i) (kept.1 i)) ∙ front b w.owns n

  numbers : refusal_by (kept_order t a' c room room_owns) ≡ refusal_by (grown_order t w.ps w.owns room room_owns)
  numbers = same_numbers t a' w.ps w.owns c room room_owns w.count (omega (arith, w.count, alike)) productions_kept

  abbrev whole : Nodes
  whole = fitted t line room room_owns (tree_at s place line)

  pub read_refused : (r : Refusal) → number_of r ≡ refusal_by (kept_order t a' c room room_owns) → whole ≡ bad r line
  read_refused r e = ap (fitted t line room room_owns) w.is ∙ refused_nodes r _ line (good w.ps w.owns end next) (e ∙ numbers)

  pub read_whole : 0 ≡ refusal_by (kept_order t a' c room room_owns) → whole ≡ good w.ps w.owns end next
  read_whole e = ap (fitted t line room room_owns) w.is ∙ ap (λ (m : ℕ). unless m line (good w.ps w.owns end next)) (sym (e ∙ numbers))

  -- the answer and the lent memory
  pub read_said : 0 ≡ refusal_by (kept_order t a' c room room_owns) → (ps owns ps' owns' : List ℕ) → ps' ≡ sets ps 0 (take c a') → owns' ≡ sets owns 0 (take c b')
      → (Ok (tree_read c end next) ≡ tree_answer whole) × ((ps' ≡ productions_after whole ps) × (owns' ≡ owns_after whole owns))
  read_said e ps owns ps' owns' f g =
      let k : c ≤ 512 = (roomed t a' c room room_owns (sym e)).few in
      rw (read_whole e) (ap (λ (m : ℕ). Ok (tree_read m end next)) (sym w.count), (f ∙ ap (sets ps 0) (productions_kept k), g ∙ ap (sets owns 0) (owns_kept k)))

-- the table comes first
module _ (t s : List ℕ) (place line room room_owns : ℕ) where
  pub table_sound : judge_table t ≡ 0 → planting_at t s place line room room_owns ≡ fitted t line room room_owns (tree_at s place line)
  unfolding planting_at
  table_sound e = rw e

  pub table_refused : (r : Refusal) → number_of r ≡ judge_table t → planting_at t s place line room room_owns ≡ bad r line
  unfolding planting_at
  table_refused r e = refused_nodes r (judge_table t) line (fitted t line room room_owns (tree_at s place line)) e
