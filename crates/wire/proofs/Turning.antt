-- Turn by turn, position by position, node by node: the wiring as it is made. Assumes nothing.
use Prim.Native.Nat.{ℕ, zero, suc, ◌+◌, ◌*◌, ◌/◌, ◌%◌, ◌≤◌, ◌<◌, zero-le}
use mathlib.Core.Path.{◌≡◌, refl, sym, ap, ◌∙◌}
use mathlib.Core.Bool.{true, true≢false}
use mathlib.Core.List.{List, map}
use mathlib.Core.Logic.{⊎_elim}
use lib.ListN.{length, get_or, set}
use lib.Seq.{get_or-set_same, get_or-set_other}
use native.Mathlib.Decide.{dec_lt, ℕ_discrete}
use native.Mathlib.Omega.{arith}
use Rattle.sets.specs.Arguments.{arguments_of}
use Rattle.table.specs.Words.{production_count, inherited, left_of, child_count, child_of, defined, rule_of, head_at}
use Rattle.table.specs.Shape.{Shaped}
use Rattle.table.specs.Same.{Has}
use Rattle.table.proofs.Limits.{limits}
use Rattle.tree.specs.Tree.{child_at, Child}
use Rattle.tree.proofs.Symbols.{child_below, child_symbol}
use Rattle.climb.proofs.Lists.{either}
use Rattle.wire.specs.Instances.{declared, place_of, rule_at, spot, named, args_at}
use Rattle.wire.specs.Arrays.{first_at, second_at, left_at, rule_in}
use Rattle.wire.specs.Inner.Turns.{Held, Room, first_index, Named, Sets, Wires, turn, Partly}
use Rattle.wire.proofs.Places.{Defined, here, parent, op_in, has_synthesized, has_inherited, declared_below, is_declared, place_defined, defined_has, defined_node, defined_rule, defined_args, number_in}

-- a place of the table defines one instance of a node
one_instance : (t ns : List ℕ) {x y q at : ℕ} → Defined t ns x q at → Defined t ns y q at → x % 8 % 4 ≡ y % 8 % 4 → x ≡ y
one_instance t ns (here a b c) (here d e f) g = omega arith
one_instance t ns (here a b c) (parent k d e f) g = absurd (omega arith)
one_instance t ns (parent k a b c) (here d e f) g = absurd (omega arith)
one_instance t ns {x} {y} {q} (parent k a b c) (parent i d e f) g =
    let z : k ≡ i = omega arith in
    let w : x / 8 ≡ y / 8 = b.place ∙ ap (child_at t ns q) z ∙ sym e.place in
    omega arith

module _ (t ns : List ℕ) (held : Held t ns) where
  abbrev at_place : (x : ℕ) → declared t ns x ≡ true → Defined t ns x (place_of t ns x).node (place_of t ns x).position
  at_place x d = place_defined t ns held.judged held.sound x d

  has_place : (x : ℕ) → declared t ns x ≡ true → ((place_of t ns x).node < length ns) × Has t (get_or ns (place_of t ns x).node 0) (place_of t ns x).position (x % 8 % 4)
  has_place x d = defined_has t ns held.judged held.sound d (at_place x d)

  position_few : (x : ℕ) → declared t ns x ≡ true → (place_of t ns x).position ≤ 4
  position_few x d =
      let h = has_place x d in
      omega (arith, h.1.position, (limits t held.judged).arity (get_or ns (place_of t ns x).node 0) h.1.production)

  -- the instance whose turn it is
  partly_set : (x q at n : ℕ) (a b l r : List ℕ) (va vb vl vr : ℕ) → declared t ns x ≡ true → Defined t ns x q at → at ≤ 4 → n ≡ 20 * q + 4 * at + x % 8 % 4
      → Room (8 * length ns) a b l r → Wires t ns x va vb vl vr → Partly t ns n a b l r → Partly t ns (n + 1) (set a x va) (set b x vb) (set l x vl) (set r x vr)
  partly_set x q at n a b l r va vb vl vr d f s e m w k = record {
    done = λ y c h. elim (ℕ_discrete y x) [
      | yes z ↦ rw z same
      | no z ↦ other y z (k.done y c (before y c h z))
    ];
    marked = λ y h c. elim (ℕ_discrete y x) [
      | yes z ↦ absurd (true≢false (sym d ∙ ap (declared t ns) (sym z) ∙ c))
      | no z ↦ other y z (k.marked y h c)
    ];
  }
    where
      in_tree : x < 8 * length ns
      in_tree = declared_below t ns x d

      same : Wires t ns x (get_or (set a x va) x 0) (get_or (set b x vb) x 0) (get_or (set l x vl) x 0) (get_or (set r x vr) x 0)
      same = rw (get_or-set_same a x va 0 (omega (arith, in_tree, m.firsts)), get_or-set_same b x vb 0 (omega (arith, in_tree, m.seconds)), get_or-set_same l x vl 0 (omega (arith, in_tree, m.lefts)), get_or-set_same r x vr 0 (omega (arith, in_tree, m.rules))) w

      other : (y : ℕ) → (y ≡ x → ⊥) → Wires t ns y (get_or a y 0) (get_or b y 0) (get_or l y 0) (get_or r y 0)
          → Wires t ns y (get_or (set a x va) y 0) (get_or (set b x vb) y 0) (get_or (set l x vl) y 0) (get_or (set r x vr) y 0)
      other y z w = rw (get_or-set_other a x y va 0 z, get_or-set_other b x y vb 0 z, get_or-set_other l x y vl 0 z, get_or-set_other r x y vr 0 z) w

      before : (y : ℕ) → declared t ns y ≡ true → turn t ns y < n + 1 → (y ≡ x → ⊥) → turn t ns y < n
      before y c h z = elim (dec_lt (turn t ns y) n) [
        | yes i ↦ i
        | no i ↦
            let u : (place_of t ns y).node ≡ q = omega (arith, position_few y c) in
            let v : (place_of t ns y).position ≡ at = omega (arith, position_few y c) in
            absurd (z (one_instance t ns (rw (u, v) at (at_place y c)) f (omega (arith, position_few y c))))
      ]

  -- turns that no instance has are passed over
  partly_skip : (n n' : ℕ) (a b l r : List ℕ) → ((x : ℕ) → declared t ns x ≡ true → n ≤ turn t ns x → n' ≤ turn t ns x) → Partly t ns n a b l r → Partly t ns n' a b l r
  partly_skip n n' a b l r h k = record {
    done = λ x d i. elim (dec_lt (turn t ns x) n) [
      | yes c ↦ k.done x d c
      | no c ↦ absurd (omega (arith, h x d (omega arith)))
    ];
    marked = k.marked;
  }

  -- at the end every slot is wired
  pub partly_all : (a b l r : List ℕ) → Partly t ns (20 * length ns) a b l r → (x : ℕ) → x < 8 * length ns → Wires t ns x (get_or a x 0) (get_or b x 0) (get_or l x 0) (get_or r x 0)
  partly_all a b l r k x h = ⊎_elim (λ d. k.done x d (omega (arith, position_few x d, (has_place x d).0))) (λ d. k.marked x h d) (either (declared t ns x))

  -- ---- one node

  pub number_small : (q : ℕ) → q < length ns → get_or ns q 0 < 64
  number_small q h = omega (arith, number_in t ns held.judged held.sound q h, (limits t held.judged).productions)

  module _ (q : ℕ) (h : q < length ns) where
    abbrev p : ℕ
    p = get_or ns q 0

    in_count : p < production_count t
    in_count = number_in t ns held.judged held.sound q h

    pub few_children : child_count t p ≤ 4
    few_children = (limits t held.judged).arity p in_count

    few_sets : (at : ℕ) → at ≤ child_count t p → defined t p at ≤ 4
    few_sets zero b = (limits t held.judged).synthesized (left_of t p) ((limits t held.judged).small p 0 in_count b)
    few_sets (suc k) b = (limits t held.judged).inherited (child_of t p k) ((limits t held.judged).small p (suc k) in_count b)

    pub shaped : Shaped t p
    shaped = record {
      arity = few_children;
      small = λ at b. omega (arith, (limits t held.judged).small p at in_count b, (limits t held.judged).symbols);
      few = few_sets;
    }

    -- behind a position's sets comes the next position, and behind the last child's the next node
    pub skip_position : (at : ℕ) (a b l r : List ℕ) → at ≤ child_count t p → Partly t ns (20 * q + 4 * at + defined t p at) a b l r → Partly t ns (20 * q + 4 * (at + 1)) a b l r
    skip_position at a b l r m = partly_skip _ _ a b l r (λ x d i. elim (dec_lt (turn t ns x) (20 * q + 4 * (at + 1))) [
      | no c ↦ omega arith
      | yes c ↦
          let e : (place_of t ns x).node ≡ q = omega (arith, position_few x d, few_children) in
          let f : (place_of t ns x).position ≡ at = omega (arith, position_few x d, few_children) in
          let g : x % 8 % 4 < defined t p at = rw (e, f) at (has_place x d).1.set in
          absurd (omega arith)
    ])

    pub skip_rest : (at : ℕ) (a b l r : List ℕ) → child_count t p < at → Partly t ns (20 * q + 4 * at) a b l r → Partly t ns (20 * (q + 1)) a b l r
    skip_rest at a b l r m = partly_skip _ _ a b l r (λ x d i. elim (dec_lt (turn t ns x) (20 * (q + 1))) [
      | no c ↦ omega arith
      | yes c ↦
          let e : (place_of t ns x).node ≡ q = omega (arith, position_few x d) in
          let g : (place_of t ns x).position ≤ child_count t p = rw e at (has_place x d).1.position in
          absurd (omega arith)
    ])

    -- ---- set i of a position

    kid_of : (k : ℕ) → suc k ≤ child_count t p → Child t ns q k (child_at t ns q k)
    kid_of k b = record { below = h; within = b; place = refl }

    pub spot_below : (at : ℕ) → at ≤ child_count t p → spot t ns q at < length ns
    spot_below zero b = h
    spot_below (suc k) b = child_below t ns 0 held.sound (kid_of k b)

    -- the symbol of the node at a child's position tells how many sets are defined there
    pub symbol_small : (at : ℕ) → at ≤ child_count t p → left_of t (get_or ns (spot t ns q at) 0) < 32
    symbol_small at b =
        let n = number_in t ns held.judged held.sound (spot t ns q at) (spot_below at b) in
        omega (arith, (limits t held.judged).small (get_or ns (spot t ns q at) 0) 0 n zero-le, (limits t held.judged).symbols)

    pub symbol_first : left_of t (get_or ns q 0) < 32
    symbol_first = symbol_small 0 zero-le

    pub child_sets : (at : ℕ) → 1 ≤ at → at ≤ child_count t p → inherited t (left_of t (get_or ns (spot t ns q at) 0)) ≡ defined t p at
    child_sets zero a b = absurd (omega arith)
    child_sets (suc k) a b = ap (inherited t) (child_symbol t ns 0 held.sound (kid_of k b))

    abbrev slot : ℕ → ℕ → ℕ
    slot at i = 8 * spot t ns q at + (first_index at + i)

    slot_declared : (at i : ℕ) → at ≤ child_count t p → i < defined t p at → declared t ns (slot at i) ≡ true
    slot_declared zero i b c =
        let f = few_sets zero b in
        let z : 0 + i ≡ i = omega arith in
        rw z (is_declared t ns q i h (omega arith) (has_synthesized t (left_of t p) i (omega arith) c))
    slot_declared (suc k) i b c =
        let f = few_sets (suc k) b in
        let s = child_symbol t ns 0 held.sound (kid_of k b) in
        is_declared t ns (child_at t ns q k) (4 + i) (spot_below (suc k) b) (omega arith) (rw s (has_inherited t (child_of t p k) i c))

    slot_defined : (at i : ℕ) → at ≤ child_count t p → i < defined t p at → Defined t ns (slot at i) q at
    slot_defined zero i b c = let f = few_sets zero b in here (omega arith) (omega arith) refl
    slot_defined (suc k) i b c =
        let f = few_sets (suc k) b in
        let e : (8 * child_at t ns q k + (4 + i)) / 8 ≡ child_at t ns q k = omega arith in
        parent k (omega arith) (rw e (kid_of k b)) refl

    slot_index : (at i : ℕ) → i < 4 → slot at i % 8 % 4 ≡ i
    slot_index zero i c = omega arith
    slot_index (suc k) i c = omega arith

    module _ (at i : ℕ) (b : at ≤ child_count t p) (c : i < defined t p at) where
      pub slot_has : Has t p at i
      slot_has = record { production = in_count; position = b; set = c }

      pub slot_below : slot at i < 8 * length ns
      slot_below = declared_below t ns (slot at i) (slot_declared at i b c)

      index_is : slot at i % 8 % 4 ≡ i
      index_is = slot_index at i (omega (arith, few_sets at b))

      slot_args : args_at t ns (slot at i) ≡ map (named t ns q) (arguments_of (op_in t p at i))
      slot_args = rw index_is at (defined_args t ns 0 held.sound (slot_defined at i b c))

      slot_wires : (va vb vl vr : ℕ) → va ≡ get_or (map (named t ns q) (arguments_of (op_in t p at i))) 0 65535 → vb ≡ get_or (map (named t ns q) (arguments_of (op_in t p at i))) 1 65535
          → vl ≡ q → vr ≡ rule_of p at i → Wires t ns (slot at i) va vb vl vr
      unfolding first_at second_at left_at rule_in
      slot_wires va vb vl vr ea eb el er =
          let d = slot_declared at i b c in
          let f = slot_defined at i b c in
          let n = defined_node t ns 0 held.sound f in
          let r : rule_at t ns (slot at i) ≡ rule_of p at i = rw index_is at (defined_rule t ns 0 held.sound f) in
          record { firsts = rw (d, slot_args) ea; seconds = rw (d, slot_args) eb; lefts = rw (d, n) el; rules = rw (d, r) er }

      pub slot_turn : (x : ℕ) (a b' l r : List ℕ) (va vb vl vr : ℕ) → x ≡ slot at i
          → va ≡ get_or (map (named t ns q) (arguments_of (op_in t p at i))) 0 65535 → vb ≡ get_or (map (named t ns q) (arguments_of (op_in t p at i))) 1 65535
          → vl ≡ q → vr ≡ rule_of p at i → Room (8 * length ns) a b' l r → Partly t ns (20 * q + 4 * at + i) a b' l r
          → Partly t ns (20 * q + 4 * at + (i + 1)) (set a x va) (set b' x vb) (set l x vl) (set r x vr)
      slot_turn x a b' l r va vb vl vr ex ea eb el er m k =
          let z : 20 * q + 4 * at + i + 1 ≡ 20 * q + 4 * at + (i + 1) = omega arith in
          rw (ex, ← z) (partly_set (slot at i) q at (20 * q + 4 * at + i) a b' l r va vb vl vr (slot_declared at i b c) (slot_defined at i b c)
          (omega (arith, few_children)) (omega (arith, index_is)) m (slot_wires va vb vl vr ea eb el er) k)

-- ---- the positions, one by one

-- a child's position has its name, which names the child, and the child's symbol
pub record ChildTurn (t ns named : List ℕ) (q at x : ℕ) : Type 0 where
  pub within : at ≤ child_count t (get_or ns q 0)
  pub few : at ≤ 4
  pub slot : x ≡ 8 * spot t ns q at
  pub node : x / 8 < length ns
  pub production : get_or ns (x / 8) 0 < 64
  pub symbol : left_of t (get_or ns (x / 8) 0) < 32
  pub every : inherited t (left_of t (get_or ns (x / 8) 0)) ≡ defined t (get_or ns q 0) at
  pub first : first_index at ≡ 4

first_is : (at : ℕ) → 1 ≤ at → first_index at ≡ 4
first_is zero h = absurd (omega arith)
first_is (suc k) h = omega arith

pub child_turn : {t ns named : List ℕ} {q : ℕ} → Held t ns → q < length ns → Named t ns q named → (at x : ℕ) → 1 ≤ at → at ≤ child_count t (get_or ns q 0) → x ≡ get_or named (256 * at) 0
    → ChildTurn t ns named q at x
child_turn {t} {ns} {named} {q} held b n at x h k e =
    let z : 256 * at + 0 ≡ 256 * at = omega arith in
    let w = n.names at 0 k (omega arith) in
    let s : x ≡ 8 * spot t ns q at = e ∙ omega (arith, rw z at w) in
    let o : x / 8 ≡ spot t ns q at = omega (arith, s) in
    let i : x / 8 < length ns = rw o (spot_below t ns held q b at k) in
    record {
      within = k;
      few = omega (arith, few_children t ns held q b);
      slot = s;
      node = i;
      production = number_small t ns held (x / 8) i;
      symbol = rw o (symbol_small t ns held q b at k);
      every = rw o (child_sets t ns held q b at h k);
      first = first_is at h;
    }

-- ---- the sets of a position, one by one

-- set i has its slot, its rule and that rule's head
pub record SetTurn (t ns : List ℕ) (q at number heads from i : ℕ) : Type 0 where
  pub within : i < defined t (get_or ns q 0) at
  pub has : Has t (get_or ns q 0) at i
  pub slot_is : from + i ≡ 8 * spot t ns q at + (first_index at + i)
  pub below : from + i < 8 * length ns
  pub small : from + i < 4096
  pub rule_is : number + i ≡ rule_of (get_or ns q 0) at i
  pub rule_small : number + i < 1280
  pub head_is : get_or t (heads + 2 * i) 0 ≡ head_at t (rule_of (get_or ns q 0) at i)

module _ (t ns : List ℕ) (held : Held t ns) (q : ℕ) (b : q < length ns) (at number heads from count : ℕ) (sets : Sets t ns q at number heads from count) where
  pub sets_few : count ≤ 4
  sets_few = omega (arith, sets.every, (shaped t ns held q b).few at sets.within)

  -- behind the last set comes the next position
  pub sets_end : (i : ℕ) (a b left rule : List ℕ) → i ≤ count → count ≤ i → Partly t ns (20 * q + 4 * at + i) a b left rule → Partly t ns (20 * q + 4 * (at + 1)) a b left rule
  sets_end i fa fb fl fr h k w =
      let e : i ≡ defined t (get_or ns q 0) at = omega (arith, sets.every) in
      skip_position t ns held q b at _ _ _ _ sets.within (rw e at w)

  pub set_turn : (i : ℕ) → i < count → SetTurn t ns q at number heads from i
  unfolding head_at rule_of
  set_turn i h =
      let w : i < defined t (get_or ns q 0) at = omega (arith, sets.every) in
      let s : from + i ≡ 8 * spot t ns q at + (first_index at + i) = omega (arith, sets.slots) in
      let l : from + i < 8 * length ns = rw s (slot_below t ns held q b at i sets.within w) in
      let z : heads + 2 * i ≡ 97 + 2 * (20 * get_or ns q 0 + (4 * at + i)) = omega (arith, sets.rules, sets.words) in
      record {
        within = w;
        has = slot_has t ns held q b at i sets.within w;
        slot_is = s;
        below = l;
        small = omega (arith, l, held.few);
        rule_is = omega (arith, sets.rules);
        rule_small = omega (arith, sets.rules, sets.within, sets_few, few_children t ns held q b, number_small t ns held q b);
        head_is = ap (λ n. get_or t n 0) z;
      }
