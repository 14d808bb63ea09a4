-- A list that has f x at each slot x, and the sets of a tree whose undeclared slots are empty. Assumes nothing.
use mathlib.Core.Path.{◌≡◌, refl, ap, sym, ◌∙◌}
use mathlib.Core.Logic.{◌⊎◌, inl, inr, ⊎_elim}
use mathlib.Core.Bool.{Bool, true, false, cond, not, ◌&&◌}
use mathlib.Core.List.{List, map}
use Prim.Native.Nat.{ℕ, ◌+◌, ◌-◌, ◌*◌, ◌/◌, ◌%◌, ◌≤◌, ◌<◌}
use native.Mathlib.Decide.{dec_lt}
use native.Mathlib.Omega.{arith}
use borrow.Author.Tests.{lt-ltb, le-ltb, le-leb, lt-leb}
use lib.Dec.{leb, ltb}
use lib.ListN.{length, get_or, replicate, length-replicate}
use lib.Seq.{ext_get_or, paste, length-paste}
use Rattle.circles.specs.Ranked.{up_from}
use Rattle.circles.proofs.Lists.{map_at, map_long}
use Rattle.table.specs.Words.{symbol_count, synthesized, inherited, left_of, has_set}
use Rattle.table.specs.Limits.{Limits}
use Rattle.tree.specs.Numbered.{Numbered}
use Rattle.wire.specs.Instances.{node_of, index_of, declared}
use Rattle.update_place.specs.Inner.Cleared.{among, cleared_at, cleared}
use Rattle.update_place.proofs.Pastes.{paste_before, paste_inside, paste_behind}
use Rattle.update_place.proofs.Placed.{get_d_zeros}

-- ---- a list by its slots

pub by_slots : (l : List ℕ) (f : ℕ → ℕ) (n : ℕ) → length l ≡ n → ((x : ℕ) → x < n → get_or l x 0 ≡ f x) → l ≡ map f (up_from 0 n)
by_slots l f n e h =
    ext_get_or 0 l (map f (up_from 0 n)) (e ∙ sym (map_long f 0 n))
    (λ x k. let k' : x < n = omega arith in h x k' ∙ sym (map_at f 0 n x k'))

-- ---- zeros that are pasted

module _ (d : List ℕ) (at n x : ℕ) (h : at + n ≤ length d) where
  room : n ≤ length (replicate {A = ℕ} n 0)
  room = omega (arith, length-replicate {A = ℕ} n 0)

  pub zeros_in : at ≤ x → x < at + n → get_or (paste d at (replicate n 0) n) x 0 ≡ 0
  zeros_in a b =
      let e : at + (x - at) ≡ x = omega arith in
      ap (λ k. get_or (paste d at (replicate n 0) n) k 0) (sym e)
      ∙ paste_inside d at (replicate n 0) n 0 (omega arith) room (x - at) (omega arith)
      ∙ get_d_zeros n (x - at)

  pub zeros_out : (x < at) ⊎ (at + n ≤ x) → get_or (paste d at (replicate n 0) n) x 0 ≡ get_or d x 0
  zeros_out (inl a) = paste_before d at (replicate n 0) n 0 (omega arith) room x a
  zeros_out (inr b) = paste_behind d at (replicate n 0) n 0 (omega arith) room x b

  pub zeros_long : length (paste d at (replicate n 0) n) ≡ length d
  zeros_long = length-paste d at (replicate n 0) n h room

-- ---- undeclared slots

other_way : (b : Bool) (v : ℕ) → cond (not b) 0 v ≡ cond b v 0
other_way true v = refl
other_way false v = refl

module _ (t ns : List ℕ) (a b : ℕ) (l : List ℕ) (x : ℕ) where
  pub cleared_in : a ≤ node_of x → node_of x < b → cleared_at t ns a b l x ≡ cond (declared t ns x) (get_or l x 0) 0
  unfolding cleared_at among
  cleared_in h k = rw (le-leb a (x / 8) h, lt-ltb (x / 8) b k) (other_way (declared t ns x) (get_or l x 0))

  pub cleared_out : (node_of x < a) ⊎ (b ≤ node_of x) → cleared_at t ns a b l x ≡ get_or l x 0
  unfolding cleared_at among
  cleared_out (inl h) = rw (lt-leb a (x / 8) h)
  cleared_out (inr h) = rw (le-ltb (x / 8) b h) (none (leb a (x / 8)))
    where
      none : (c : Bool) → cond (c && false && not (declared t ns x)) 0 (get_or l x 0) ≡ get_or l x 0
      none true = refl
      none false = refl

  pub get_d_cleared : x < length l → get_or (cleared t ns a b l) x 0 ≡ cleared_at t ns a b l x
  unfolding cleared
  get_d_cleared h = map_at (cleared_at t ns a b l) 0 (length l) x h

pub length_cleared : (t ns : List ℕ) (a b : ℕ) (l : List ℕ) → length (cleared t ns a b l) ≡ length l
unfolding cleared
length_cleared t ns a b l = map_long (cleared_at t ns a b l) 0 (length l)

-- no node yet
pub cleared_none : (t ns : List ℕ) (a : ℕ) (l : List ℕ) → l ≡ cleared t ns a 0 l
unfolding cleared
cleared_none t ns a l = by_slots l (cleared_at t ns a 0 l) (length l) refl (λ x h. sym (cleared_out t ns a 0 l x (inr (omega arith))))

module _ (t ns : List ℕ) (at : ℕ) (l : List ℕ) (x : ℕ) (h : x < length l) where
  -- what the nodes before left of slot x
  earlier : get_or (cleared t ns 0 at l) x 0 ≡ cleared_at t ns 0 at l x
  earlier = get_d_cleared t ns 0 at l x h

  next_slot : cleared_at t ns at (at + 1) (cleared t ns 0 at l) x ≡ cleared_at t ns 0 (at + 1) l x
  next_slot = elim (dec_lt (x / 8) at) [
    | yes p ↦
        cleared_out t ns at (at + 1) (cleared t ns 0 at l) x (inl p) ∙ earlier
        ∙ cleared_in t ns 0 at l x (omega arith) p ∙ sym (cleared_in t ns 0 (at + 1) l x (omega arith) (omega arith))
    | no p ↦ elim (dec_lt at (x / 8)) [
      | yes q ↦
          cleared_out t ns at (at + 1) (cleared t ns 0 at l) x (inr (omega arith)) ∙ earlier
          ∙ cleared_out t ns 0 at l x (inr (omega arith)) ∙ sym (cleared_out t ns 0 (at + 1) l x (inr (omega arith)))
      | no q ↦
          cleared_in t ns at (at + 1) (cleared t ns 0 at l) x (omega arith) (omega arith)
          ∙ ap (λ v. cond (declared t ns x) v 0) (earlier ∙ cleared_out t ns 0 at l x (inr (omega arith)))
          ∙ sym (cleared_in t ns 0 (at + 1) l x (omega arith) (omega arith))
    ]
  ]

-- one node more
pub cleared_next : (t ns : List ℕ) (at : ℕ) (l : List ℕ) → cleared t ns at (at + 1) (cleared t ns 0 at l) ≡ cleared t ns 0 (at + 1) l
unfolding cleared
cleared_next t ns at l =
    let m = cleared t ns 0 at l in
    let e = length_cleared t ns 0 at l in
    by_slots (cleared t ns at (at + 1) m) (cleared_at t ns 0 (at + 1) l) (length l) (length_cleared t ns at (at + 1) m ∙ e)
    (λ x h. get_d_cleared t ns at (at + 1) m x (omega arith) ∙ next_slot t ns at l x h)

-- ---- the slots of one node: its symbol's synthesized sets from 0 on, its inherited ones from 4 on

module _ (t ns : List ℕ) (x : ℕ) (h : node_of x < length ns) where
  symbol : ℕ
  symbol = left_of t (get_or ns (node_of x) 0)

  declared_low : index_of x < 4 → declared t ns x ≡ ltb (index_of x) (synthesized t symbol)
  unfolding declared has_set symbol
  declared_low k = rw (lt-ltb (x / 8) (length ns) h, lt-ltb (x % 8) 4 k)

  declared_high : 4 ≤ index_of x → declared t ns x ≡ ltb (index_of x - 4) (inherited t symbol)
  unfolding declared has_set symbol
  declared_high k = rw (lt-ltb (x / 8) (length ns) h, le-ltb (x % 8) 4 k)

-- a and b sets of the node stay, those between are emptied
abbrev emptied : List ℕ → ℕ → ℕ → ℕ → List ℕ
emptied l at a b = paste (paste l (8 * at + a) (replicate (4 - a) 0) (4 - a)) (8 * at + 4 + b) (replicate (4 - b) 0) (4 - b)

module _ (t ns : List ℕ) (at : ℕ) (l : List ℕ) (a b : ℕ) (ha : a ≤ 4) (hb : b ≤ 4) (inside : at < length ns) (fits : 8 * at + 8 ≤ length l)
    (ea : a ≡ synthesized t (left_of t (get_or ns at 0))) (eb : b ≡ inherited t (left_of t (get_or ns at 0))) where
  first_long : length (paste l (8 * at + a) (replicate (4 - a) 0) (4 - a)) ≡ length l
  first_long = zeros_long l (8 * at + a) (4 - a) 0 (omega arith)

  -- of slot x the two pastes leave what stood there
  stays_out : (x : ℕ) → (x < 8 * at + a) ⊎ (8 * at + 4 ≤ x) → (x < 8 * at + 4 + b) ⊎ (8 * at + 8 ≤ x) → get_or (emptied l at a b) x 0 ≡ get_or l x 0
  stays_out x p q =
      zeros_out (paste l (8 * at + a) (replicate (4 - a) 0) (4 - a)) (8 * at + 4 + b) (4 - b) x (omega (arith, first_long)) (⊎_elim inl (λ (k : 8 * at + 8 ≤ x). inr (omega arith)) q)
      ∙ zeros_out l (8 * at + a) (4 - a) x (omega arith) (⊎_elim inl (λ (k : 8 * at + 4 ≤ x). inr (omega arith)) p)

  -- slot x of the node itself
  module _ (x : ℕ) (e : node_of x ≡ at) where
    low : index_of x < 4 → declared t ns x ≡ ltb (index_of x) a
    unfolding symbol
    low k = declared_low t ns x (omega arith) k ∙ ap (λ n. ltb (x % 8) (synthesized t (left_of t (get_or ns n 0)))) e ∙ ap (ltb (x % 8)) (sym ea)

    high : 4 ≤ index_of x → declared t ns x ≡ ltb (index_of x - 4) b
    unfolding symbol
    high k = declared_high t ns x (omega arith) k ∙ ap (λ n. ltb (x % 8 - 4) (inherited t (left_of t (get_or ns n 0)))) e ∙ ap (ltb (x % 8 - 4)) (sym eb)

    told : (d : Bool) → declared t ns x ≡ d → get_or (emptied l at a b) x 0 ≡ cond d (get_or l x 0) 0 → get_or (emptied l at a b) x 0 ≡ cleared_at t ns at (at + 1) l x
    told d f g = g ∙ ap (λ c. cond c (get_or l x 0) 0) (sym f) ∙ sym (cleared_in t ns at (at + 1) l x (omega arith) (omega arith))

    own_slot : get_or (emptied l at a b) x 0 ≡ cleared_at t ns at (at + 1) l x
    own_slot = elim (dec_lt (x % 8) 4) [
      | yes p ↦ elim (dec_lt (x % 8) a) [
        | yes q ↦ told true (low p ∙ lt-ltb (x % 8) a q) (stays_out x (inl (omega arith)) (inl (omega arith)))
        | no q ↦
            told false (low p ∙ le-ltb (x % 8) a (omega arith))
            (zeros_out (paste l (8 * at + a) (replicate (4 - a) 0) (4 - a)) (8 * at + 4 + b) (4 - b) x (omega (arith, first_long)) (inl (omega arith))
            ∙ zeros_in l (8 * at + a) (4 - a) x (omega arith) (omega arith) (omega arith))
      ]
      | no p ↦ elim (dec_lt (x % 8 - 4) b) [
        | yes q ↦ told true (high (omega arith) ∙ lt-ltb (x % 8 - 4) b q) (stays_out x (inr (omega arith)) (inl (omega arith)))
        | no q ↦
            told false (high (omega arith) ∙ le-ltb (x % 8 - 4) b (omega arith))
            (zeros_in (paste l (8 * at + a) (replicate (4 - a) 0) (4 - a)) (8 * at + 4 + b) (4 - b) x (omega (arith, first_long)) (omega arith) (omega arith))
      ]
    ]

  any_slot : (x : ℕ) → get_or (emptied l at a b) x 0 ≡ cleared_at t ns at (at + 1) l x
  any_slot x = elim (dec_lt (x / 8) at) [
    | yes p ↦ stays_out x (inl (omega arith)) (inl (omega arith)) ∙ sym (cleared_out t ns at (at + 1) l x (inl p))
    | no p ↦ elim (dec_lt at (x / 8)) [
      | yes q ↦ stays_out x (inr (omega arith)) (inr (omega arith)) ∙ sym (cleared_out t ns at (at + 1) l x (inr (omega arith)))
      | no q ↦ own_slot x (omega arith)
    ]
  ]

  pub node_cleared : emptied l at a b ≡ cleared t ns at (at + 1) l
  unfolding cleared
  node_cleared =
      by_slots (emptied l at a b) (cleared_at t ns at (at + 1) l) (length l)
      (zeros_long (paste l (8 * at + a) (replicate (4 - a) 0) (4 - a)) (8 * at + 4 + b) (4 - b) 0 (omega (arith, first_long)) ∙ first_long)
      (λ x h. any_slot x)

-- ---- a node of a judged table

-- its production and its symbol, and how many sets the symbol declares each way
pub record Node (t : List ℕ) (p : ℕ) : Type 0 where
  pub production : p < 64
  pub symbol : left_of t p < 32
  pub synthesized : synthesized t (left_of t p) ≤ 4
  pub inherited : inherited t (left_of t p) ≤ 4

pub node_of_table : (t ns : List ℕ) (i : ℕ) → Limits t → Numbered t ns → i < length ns → Node t (get_or ns i 0)
node_of_table t ns i l n h =
    let p = n.below i h in
    let s : left_of t (get_or ns i 0) < symbol_count t = l.small (get_or ns i 0) 0 p (omega arith) in
    record { production = omega (arith, l.productions); symbol = omega (arith, l.symbols); synthesized = l.synthesized (left_of t (get_or ns i 0)) s; inherited = l.inherited (left_of t (get_or ns i 0)) s }

-- what clearing is proved by
pub ruleset clearing = (cleared_none, cleared_next)
