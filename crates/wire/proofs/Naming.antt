-- The names of a node's instances and of its children's, written one after the other. Assumes nothing.
use Prim.Native.Nat.{ℕ, suc, ◌+◌, ◌*◌, ◌≤◌, ◌<◌}
use mathlib.Core.Path.{◌≡◌, refl, sym, ap, ◌∙◌}
use mathlib.Core.List.{List}
use lib.ListN.{length, get_or, set, length-set}
use lib.Seq.{get_or-set_same, get_or-set_other}
use native.Mathlib.Decide.{ℕ_discrete}
use native.Mathlib.Numerals.{add-one}
use native.Mathlib.Omega.{arith}
use Rattle.table.specs.Words.{child_count}
use Rattle.tree.specs.Tree.{child_at}
use Rattle.tree.proofs.Size.{child_first, child_after, turn_in}
use Rattle.wire.specs.Instances.{spot}
use Rattle.wire.specs.Inner.Turns.{Held, Ends, Own, Row, Named}
use Rattle.wire.proofs.Turning.{few_children, spot_below}

-- ---- a row

pub row_none : (at node : ℕ) (l : List ℕ) → Row at node 0 l l
row_none at node l = record { long = refl; names = λ i h. absurd (omega arith); others = λ x h. refl }

pub row_more : (at node n : ℕ) (l l' : List ℕ) (v : ℕ) → 256 * at + n < length l' → v ≡ 8 * node + n → Row at node n l l' → Row at node (n + 1) l (set l' (256 * at + n) v)
row_more at node n l l' v h e r = record {
  long = length-set l' (256 * at + n) v ∙ r.long;
  names = λ i b. elim (ℕ_discrete i n) [
    | yes z ↦ rw z (get_or-set_same l' (256 * at + n) v 0 h ∙ e)
    | no z ↦ get_or-set_other l' (256 * at + n) (256 * at + i) v 0 (λ w. z (omega arith)) ∙ r.names i (omega arith)
  ];
  others = λ x b. get_or-set_other l' (256 * at + n) x v 0 (λ w. omega arith) ∙ r.others x b;
}

-- a row at a child leaves the node's own names
pub row_own : (q at node n : ℕ) (l l' : List ℕ) → 1 ≤ at → Own q l → Row at node n l l' → Own q l'
row_own q at node n l l' h o r = record {
  long = r.long ∙ o.long;
  none = r.others 8 (omega arith) ∙ o.none;
  names = λ i b. r.others i (omega arith) ∙ o.names i b;
}

-- ---- the root's names, and from a node's to the next node's

pub record Starting (n : ℕ) (l : List ℕ) : Type 0 where
  pub long : length l ≡ 1032
  pub none : get_or l 8 0 ≡ 65535
  pub names : (i : ℕ) → i < n → get_or l i 0 ≡ i

pub record Moving (q n : ℕ) (l : List ℕ) : Type 0 where
  pub long : length l ≡ 1032
  pub none : get_or l 8 0 ≡ 65535
  pub gone : (i : ℕ) → i < n → get_or l i 0 ≡ 8 * (q + 1) + i
  pub rest : (i : ℕ) → n ≤ i → i < 8 → get_or l i 0 ≡ 8 * q + i

-- ---- a node and its first k children

pub record Naming (t ns : List ℕ) (q : ℕ) (l : List ℕ) (count next k : ℕ) : Type 0 where
  pub counted : count ≡ child_count t (get_or ns q 0)
  pub within : k ≤ count
  pub place : next ≡ child_at t ns q k
  pub own : Own q l
  pub upto : (at i : ℕ) → at ≤ k → i < 8 → get_or l (256 * at + i) 0 ≡ 8 * spot t ns q at + i

pub naming_none : (t ns : List ℕ) (q : ℕ) (l : List ℕ) (count : ℕ) → Own q l → count ≡ child_count t (get_or ns q 0) → Naming t ns q l count (q + 1) 0
naming_none t ns q l count o c = record {
  counted = c;
  within = omega arith;
  place = add-one q ∙ sym (child_first t ns q);
  own = o;
  upto = λ at i h b.
      let z : at ≡ 0 = omega arith in
      let w : 256 * 0 + i ≡ i = omega arith in
      rw z (ap (λ n. get_or l n 0) w ∙ o.names i b);
}

module _ (t ns ends : List ℕ) (held : Held t ns) (en : Ends t ns ends) (q : ℕ) (h : q < length ns) (l : List ℕ) (count next k : ℕ) (kd : Naming t ns q l count next k) where
  pub naming_few : count ≤ 4
  naming_few = rw kd.counted (few_children t ns held q h)

  pub naming_in : k < count → next < length ns
  naming_in b = rw kd.place (spot_below t ns held q h (suc k) (omega (arith, kd.counted)))

  pub naming_after : q < next
  naming_after = rw kd.place (child_after t ns q k)

  pub naming_more : (l' : List ℕ) → k < count → Row (k + 1) next 8 l l' → Naming t ns q l' count (get_or ends next 0) (k + 1)
  naming_more l' b r = record {
    counted = kd.counted;
    within = omega arith;
    place = turn_in t ns ends q k next kd.place (λ n i j. en.ended n (omega arith) j) (naming_in b);
    own = row_own q (k + 1) next 8 l l' (omega arith) kd.own r;
    upto = λ at i c d. elim (ℕ_discrete at (k + 1)) [
      | yes z ↦
          let y : k + 1 ≡ suc k = add-one k in
          rw z (r.names i d ∙ ap (λ n. 8 * n + i) (kd.place ∙ sym (ap (spot t ns q) y)))
      | no z ↦ r.others (256 * at + i) (omega arith) ∙ kd.upto at i (omega arith) d
    ];
  }

  pub naming_all : count ≤ k → Named t ns q l
  naming_all e = record { own = kd.own; names = λ at i b c. kd.upto at i (omega (arith, kd.counted)) c }
