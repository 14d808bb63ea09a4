-- Which instances are declared, the place that defines each, and the equation there. Assumes nothing.
use Prim.Native.Nat.{ℕ, zero, suc, ◌+◌, ◌-◌, ◌*◌, ◌/◌, ◌%◌, ◌≤◌, ◌<◌}
use mathlib.Core.Path.{◌≡◌, refl, ap, ◌∙◌}
use mathlib.Core.Bool.{Bool, true, ◌&&◌}
use mathlib.Core.List.{List, [], ◌∷◌, map, Memᴰ}
use mathlib.Core.Logic.{⊎_elim}
use lib.ListN.{length, get_or}
use borrow.Author.Tests.{ltb-true, leb-true, lt-ltb, le-ltb}
use native.Mathlib.Decide.{dec_lt}
use native.Mathlib.Omega.{arith}
use Rattle.sets.specs.declared.Argument.{Argument}
use Rattle.sets.specs.declared.Op.{Op}
use Rattle.sets.specs.Arguments.{arguments_of, value_at}
use Rattle.table.specs.Words.{production_count, synthesized, inherited, left_of, child_count, symbol_at, has_set, occurs, rule_of}
use Rattle.table.specs.Equations.{equation_at}
use Rattle.table.specs.Judge.{judge_table}
use Rattle.table.specs.Same.{Has}
use Rattle.table.proofs.Limits.{limits, arguments_declared, has_left, has_child, has_set_lem, index_small}
use Rattle.tree.specs.Tree.{judge_nodes, size, child_at, Child}
use Rattle.tree.specs.Owner.{Owner, root, kid, owner}
use Rattle.tree.proofs.Size.{size_zero}
use Rattle.tree.proofs.Exchange.{sound_number}
use Rattle.tree.proofs.Owner.{owner_child, Owned, owned}
use Rattle.tree.proofs.Symbols.{child_below, child_symbol, root_symbol}
use Rattle.climb.specs.System.{Assignment}
use Rattle.climb.proofs.Lists.{and_is}
use Rattle.wire.specs.Instances.{declared, Place, as_child, place_of, rule_at, op_at, spot, named, args_at, eval_at}

pub and_both : {a b : Bool} → a ≡ true → b ≡ true → (a && b) ≡ true
and_both p q = rw (p, q)

-- ---- which sets a symbol has

pub has_synthesized : (t : List ℕ) (s i : ℕ) → i < 4 → i < synthesized t s → has_set t s i ≡ true
unfolding has_set
has_synthesized t s i h b = rw (lt-ltb i 4 h) (lt-ltb i (synthesized t s) b)

pub has_inherited : (t : List ℕ) (s i : ℕ) → i < inherited t s → has_set t s (4 + i) ≡ true
unfolding has_set
has_inherited t s i b =
    let e : 4 + i - 4 ≡ i = omega arith in
    rw (le-ltb (4 + i) 4 (omega arith), e) (lt-ltb i (inherited t s) b)

-- a symbol without inherited sets has none
has_none : (t : List ℕ) (s i : ℕ) → inherited t s ≡ 0 → 4 ≤ i → has_set t s i ≡ true → ⊥
has_none t s i e h d = ⊎_elim (λ (w : (i < 4) × (i < synthesized t s)). omega arith) (λ (w : (4 ≤ i) × (i - 4 < inherited t s)). omega arith) (has_set_lem t s i d)

pub occurs_is : (t : List ℕ) (p q i : ℕ) → occurs t p q i ≡ true → (q ≤ child_count t p) × (has_set t (symbol_at t p q) i ≡ true)
unfolding occurs
occurs_is t p q i d = let a = and_is d in (leb-true q (child_count t p) a.0, a.1)

pub occurs_index : (t : List ℕ) → judge_table t ≡ 0 → (p q i : ℕ) → p < production_count t → occurs t p q i ≡ true → i < 8
occurs_index t j p q i h d = let a = occurs_is t p q i d in index_small t j (symbol_at t p q) i ((limits t j).small p q h a.0) a.1

-- ---- declared instances

pub declared_is : (t ns : List ℕ) (x : ℕ) → declared t ns x ≡ true → (x / 8 < length ns) × (has_set t (left_of t (get_or ns (x / 8) 0)) (x % 8) ≡ true)
unfolding declared
declared_is t ns x h = let p = and_is h in (ltb-true (x / 8) (length ns) p.0, p.1)

pub declared_below : (t ns : List ℕ) (x : ℕ) → declared t ns x ≡ true → x < 8 * length ns
declared_below t ns x d = let h = (declared_is t ns x d).0 in omega arith

pub is_declared : (t ns : List ℕ) (n i : ℕ) → n < length ns → i < 8 → has_set t (left_of t (get_or ns n 0)) i ≡ true → declared t ns (8 * n + i) ≡ true
unfolding declared
is_declared t ns n i h b d =
    let e : (8 * n + i) / 8 ≡ n = omega arith in
    let f : (8 * n + i) % 8 ≡ i = omega arith in
    rw (e, f) (and_both (lt-ltb n (length ns) h) d)

-- ---- the place that defines an instance

-- instance x is defined at node q, for a position of its production
pub data Defined (t ns : List ℕ) (x q at : ℕ) : Type 0 where
  here : x % 8 < 4 → q ≡ x / 8 → at ≡ 0 → Defined t ns x q at
  parent : (k : ℕ) → 4 ≤ x % 8 → Child t ns q k (x / 8) → at ≡ suc k → Defined t ns x q at

-- the operation that production p has for equation k of a position
abbrev pub op_in : List ℕ → ℕ → ℕ → ℕ → Op
op_in t p at k = (equation_at t (rule_of p at k)).op

module _ (t ns : List ℕ) (s : ℕ) (e : judge_nodes t ns (s ∷ []) ≡ 0) {x q at : ℕ} (d : Defined t ns x q at) where
  place_is : Defined t ns x q at → place_of t ns x ≡ record { node = q; position = at }
  unfolding place_of
  place_is (here h f g) = rw (lt-ltb (x % 8) 4 h, f, g)
  place_is (parent k h c g) =
      let o : owner t ns (x / 8) ≡ kid q k = rw c.place (owner_child t ns (s ∷ []) e q k c.below c.within) in
      rw (le-ltb (x % 8) 4 h, o, g)

  pub defined_place : place_of t ns x ≡ record { node = q; position = at }
  defined_place = place_is d

  pub defined_node : (place_of t ns x).node ≡ q
  defined_node = ap (λ (p : Place). p.node) defined_place

  pub defined_rule : rule_at t ns x ≡ rule_of (get_or ns q 0) at (x % 8 % 4)
  unfolding rule_at
  defined_rule = ap (λ (p : Place). rule_of (get_or ns p.node 0) p.position (x % 8 % 4)) defined_place

  pub defined_op : op_at t ns x ≡ op_in t (get_or ns q 0) at (x % 8 % 4)
  unfolding op_at
  defined_op = ap (λ n. (equation_at t n).op) defined_rule

  pub defined_args : args_at t ns x ≡ map (named t ns q) (arguments_of (op_in t (get_or ns q 0) at (x % 8 % 4)))
  unfolding args_at
  defined_args = rw (defined_node, defined_op)

  pub defined_eval : (owns : List ℕ) (v : Assignment) → eval_at t ns owns v x ≡ value_at (op_in t (get_or ns q 0) at (x % 8 % 4)) (get_or owns q 0) (λ o. v (named t ns q o))
  unfolding eval_at
  defined_eval owns v = rw (defined_node, defined_op)

-- the start has no inherited sets: every declared instance has its place
module _ (t ns : List ℕ) (g : judge_table t ≡ 0) (e : judge_nodes t ns (0 ∷ []) ≡ 0) where
  as_child_lem : (x : ℕ) → declared t ns x ≡ true → 4 ≤ x % 8 → (o : Owner) → owner t ns (x / 8) ≡ o → Owned t ns (0 ∷ []) (x / 8) o
      → Defined t ns x (as_child o).node (as_child o).position
  as_child_lem x d h (root j) f w =
      let z : j ≡ 0 = omega (arith, w.0) in
      let n : x / 8 ≡ 0 = w.1 ∙ ap (size t ns) z ∙ size_zero t ns in
      absurd (has_none t 0 (x % 8) (limits t g).start h (rw (n, root_symbol t ns 0 e) at (declared_is t ns x d).1))
  as_child_lem x d h (kid q k) f w = parent k h w refl

  pub place_defined : (x : ℕ) → declared t ns x ≡ true → Defined t ns x (place_of t ns x).node (place_of t ns x).position
  unfolding place_of
  place_defined x d = elim (dec_lt (x % 8) 4) [
    | yes h ↦ rw (lt-ltb (x % 8) 4 h) (here h refl refl)
    | no h ↦
        let b : 4 ≤ x % 8 = omega arith in
        rw (le-ltb (x % 8) 4 b) (as_child_lem x d b (owner t ns (x / 8)) refl (owned t ns (0 ∷ []) e (x / 8) (declared_is t ns x d).0))
  ]

  -- the root has four sets at most
  pub root_undeclared : (x : ℕ) → x / 8 ≡ 0 → 4 ≤ x % 8 → declared t ns x ≡ true → ⊥
  root_undeclared x n h d = has_none t 0 (x % 8) (limits t g).start h (rw (n, root_symbol t ns 0 e) at (declared_is t ns x d).1)

  pub number_in : (q : ℕ) → q < length ns → get_or ns q 0 < production_count t
  number_in q h = sound_number t ns (0 ∷ []) e q h

  -- the table has the equation that defines an instance
  pub defined_has : {x q at : ℕ} → declared t ns x ≡ true → Defined t ns x q at → (q < length ns) × Has t (get_or ns q 0) at (x % 8 % 4)
  defined_has {x} {q} {at} d (here h f i) =
      let w = declared_is t ns x d in
      rw (i, f) (w.0, has_left t g (get_or ns (x / 8) 0) (x % 8) (number_in (x / 8) w.0) h w.1)
  defined_has {x} {q} {at} d (parent k h c i) =
      let w = declared_is t ns x d in
      rw i (c.below, has_child t g (get_or ns q 0) k (x % 8) (number_in q c.below) c.within h (rw (child_symbol t ns 0 e c) at w.1))

  -- every argument of an equation that the table has is an index declared at its position
  pub used : (q at k : ℕ) → q < length ns → Has t (get_or ns q 0) at k → (o : Argument) → Memᴰ o (arguments_of (op_in t (get_or ns q 0) at k))
      → (o.index < 8) × (occurs t (get_or ns q 0) o.position o.index ≡ true)
  used q at k h a o m =
      let u = arguments_declared t g (get_or ns q 0) at k a o m in
      (occurs_index t g (get_or ns q 0) o.position o.index (number_in q h) u, u)

  -- a declared occurrence of a node's production names a declared instance
  pub spot_declared : (q at i : ℕ) → q < length ns → i < 8 → occurs t (get_or ns q 0) at i ≡ true → declared t ns (8 * spot t ns q at + i) ≡ true
  spot_declared q zero i h b d = is_declared t ns q i h b (occurs_is t (get_or ns q 0) zero i d).1
  spot_declared q (suc k) i h b d =
      let a = occurs_is t (get_or ns q 0) (suc k) i d in
      let c : Child t ns q k (child_at t ns q k) = record { below = h; within = a.0; place = refl } in
      is_declared t ns (child_at t ns q k) i (child_below t ns 0 e c) b (rw (child_symbol t ns 0 e c) a.1)

  pub named_declared : (q at k : ℕ) → q < length ns → Has t (get_or ns q 0) at k → (o : Argument) → Memᴰ o (arguments_of (op_in t (get_or ns q 0) at k))
      → declared t ns (named t ns q o) ≡ true
  unfolding named
  named_declared q at k h a o m = let u = used q at k h a o m in spot_declared q o.position o.index h u.0 u.1
