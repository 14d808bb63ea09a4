-- The test for 21 over the arrays is the test over the tree. Assumes nothing.
use mathlib.Core.Path.{◌≡◌, refl, sym, ap, ◌∙◌}
use mathlib.Core.Bool.{Bool, true, false, cond, ◌&&◌, or-false}
use mathlib.Core.List.Memᴰ
use mathlib.Core.List.{List, [], ◌∷◌}
use mathlib.Core.Logic.{⊎_elim}
use Prim.Native.Nat.{ℕ, ◌*◌, ◌≤◌, ◌<◌}
use native.Mathlib.Omega.{arith}
use lib.Dec.{eqb, ltb}
use lib.ListN.{length, get_or, get_or-append}
use borrow.Author.Tests.{lt-ltb, le-ltb}
use Rattle.table.specs.Words.{head_at}
use Rattle.table.specs.Equations.{op_number}
use Rattle.table.specs.Judge.{judge_table}
use Rattle.tree.specs.Tree.{judge_nodes}
use Rattle.circles.specs.Graph.{◌∈◌}
use Rattle.circles.specs.Ranked.{any_of, up_from, labels_of, label_at}
use Rattle.circles.specs.Arrays.{over, graph_of}
use Rattle.circles.proofs.Lists.{in_slots}
use Rattle.circles.proofs.Least.{labels_long}
use Rattle.circles.proofs.Alike.{ranked_cong}
use Rattle.climb.proofs.Lists.{either, any_cong}
use Rattle.wire.specs.Instances.{declared, waived}
use Rattle.wire.specs.Arrays.{second_at, rule_in, Wired}
use Rattle.wire.specs.Inner.ArrayLaws.{waives_at, waives_in, WaivesWired}
use Rattle.wire.specs.Waivers.{graph, waives}
use Rattle.wire.proofs.Places.{declared_below}
use Rattle.wire.proofs.Lawful.{waived_declared}
use Rattle.wire.proofs.Waivers.{waived_wired, read_declared}
use Rattle.wire.proofs.Holding.{held_at, wired_alike}

and_middle : (p q : Bool) → (p && false && q) ≡ false
and_middle true q = refl
and_middle false q = refl

module _ (t ns a₀ b₀ left₀ rule₀ label₀ a b left rule label : List ℕ) (g : judge_table t ≡ 0) (e : judge_nodes t ns (0 ∷ []) ≡ 0) (few : length ns ≤ 512)
    (w : Wired t ns a₀ b₀ left₀ rule₀ a b left rule) (laid : label ≡ over (labels_of (graph_of (8 * length ns) a b)) label₀) where
  abbrev n : ℕ
  n = 8 * length ns

  -- the labels are the tree's
  label_at_lem : (x : ℕ) → x < n → label_at label x ≡ label_at (labels_of (graph t ns)) x
  label_at_lem x h =
      let G = graph_of (8 * length ns) a b in
      let s = wired_alike t ns [] a₀ b₀ left₀ rule₀ a b left rule g e few w in
      ap (λ (l : List ℕ). get_or l x 65535) laid ∙ get_or-append (labels_of G) _ 65535 x (omega (arith, labels_long G))
      ∙ ap (λ (l : List ℕ). get_or l x 65535) (ranked_cong G (graph t ns) refl (λ y k. s.declared y) s.args).labels

  abbrev nine : ℕ → Bool
  nine x = eqb (op_number (head_at t (rule_in t ns x))) 9

  here : ℕ → Bool
  here = waives_at n t b rule label

  abbrev there : ℕ → Bool
  there x = any_of (λ y. eqb (label_at (labels_of (graph t ns)) y) (label_at (labels_of (graph t ns)) x)) (waived t ns x)

  -- by what is wired at a slot
  abbrev wires : ℕ → Bool
  wires x = ltb (second_at t ns x) n && nine x && eqb (label_at label (second_at t ns x)) (label_at label x)

  here_is : (x : ℕ) → x < n → here x ≡ wires x
  unfolding here
  here_is x h = rw (held_at ns (second_at t ns) b₀ b w.seconds x 65534 h, held_at ns (rule_in t ns) rule₀ rule w.rules x 0 h)

  undeclared : (x : ℕ) → declared t ns x ≡ false → wires x ≡ there x
  unfolding second_at
  undeclared x d = rw (d, le-ltb 65534 n (omega arith))

  is_declared : (x : ℕ) → x < n → declared t ns x ≡ true → wires x ≡ there x
  is_declared x h d =
      let f : waived t ns x ≡ cond (nine x) (second_at t ns x ∷ []) [] = waived_declared t ns x d ∙ waived_wired t ns x d in
      ⊎_elim
      (λ (k : nine x ≡ true).
      let i : waived t ns x ≡ second_at t ns x ∷ [] = rw k at f in
      let m : second_at t ns x ∈ waived t ns x = rw i (Memᴰ.head refl) in
      let l : second_at t ns x < n = declared_below t ns (second_at t ns x) (read_declared t ns g e x (second_at t ns x) m) in
      rw (i, k, lt-ltb (second_at t ns x) n l, label_at_lem (second_at t ns x) l, label_at_lem x h) (sym (or-false (eqb (label_at (labels_of (graph t ns)) (second_at t ns x)) (label_at (labels_of (graph t ns)) x)))))
      (λ (k : nine x ≡ false).
      let i : waived t ns x ≡ [] = rw k at f in
      rw (i, k) (and_middle (ltb (second_at t ns x) n) (eqb (label_at label (second_at t ns x)) (label_at label x))))
      (either (nine x))

  same : (x : ℕ) → x < n → here x ≡ there x
  same x h = here_is x h ∙ ⊎_elim (is_declared x h) (undeclared x) (either (declared t ns x))

  whole : waives_in n t b rule label ≡ waives t ns
  unfolding waives_in waives here
  whole = any_cong here there (up_from 0 n) (λ x m. same x (in_slots n m))

pub waives_wired : WaivesWired
waives_wired t ns a₀ b₀ left₀ rule₀ label₀ a b left rule label g e few w laid = whole t ns a₀ b₀ left₀ rule₀ label₀ a b left rule label g e few w laid
