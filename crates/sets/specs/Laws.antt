-- What is promised of sets and operations; the proofs are in proofs/. Assumes nothing.
use Rattle.std.specs.Prelude.{◌≡◌, ℕ, ◌+◌, ◌-◌, ◌/◌, ◌<◌, ◌≤◌, ◌^◌}
use mathlib.Core.List.{Memᴰ}
use Rattle.std.specs.Int.Bits.{bit_and, bit_or}
use Rattle.sets.specs.declared.Argument.{Argument}
use Rattle.sets.specs.declared.Op.{Op}
use Rattle.sets.specs.declared.Op.TheVariants.{Constant, Own, JoinConstant, MeetConstant, Join, Meet, IfAll, IfMany, JoinOwn, Except}
use Rattle.sets.specs.Members.{digit, ◌⊑◌, members_of, count_of}
use Rattle.sets.specs.Operations.{without}
use Rattle.sets.specs.Arguments.{arguments_of, waived_of, value_at}

-- 1.3: ⊑ is a partial order with the empty set below all, of which what two sets share is the glb and the two joined are the lub
pub record Lattice : Type 0 where
  pub reflexive : (a : ℕ) → a ⊑ a
  pub transitive : {a b c : ℕ} → a ⊑ b → b ⊑ c → a ⊑ c
  pub antisymmetric : {a b : ℕ} → a ⊑ b → b ⊑ a → a ≡ b
  pub bottom : (a : ℕ) → 0 ⊑ a
  pub glb_left : (a b : ℕ) → bit_and a b ⊑ a
  pub glb_right : (a b : ℕ) → bit_and a b ⊑ b
  pub glb_greatest : {a b c : ℕ} → c ⊑ a → c ⊑ b → c ⊑ bit_and a b
  pub lub_left : (a b : ℕ) → a ⊑ bit_or a b
  pub lub_right : (a b : ℕ) → b ⊑ bit_or a b
  pub lub_least : {a b c : ℕ} → a ⊑ c → b ⊑ c → bit_or a b ⊑ c

-- 3.2: operation 9 gives each member of a that b hasn't, and no other
abbrev pub Without : Type 0
Without = (n a b : ℕ) → digit n (without a b) ≡ digit n a - digit n b

-- 1.5: the measure of a climb grows with a set, strictly where the set does; 64 at most
pub record Counted : Type 0 where
  pub grows : {a b : ℕ} → a ⊑ b → members_of a ≤ members_of b
  pub strictly : {a b : ℕ} → a ⊑ b → (a ≡ b → ⊥) → members_of a < members_of b
  pub most : (a : ℕ) → a < 2 ^ 64 → members_of a ≤ 64

-- 1.4, 1.5: what operation 7 compares grows with a set, though not strictly, so that it can't be the measure: a set may gain notes alone;
-- notes are what the measure has besides, and nothing else is; 56 at most, which the set of all codes that count has: every c up to 56 is reached, and none above
pub record Compared : Type 0 where
  pub grows : {a b : ℕ} → a ⊑ b → count_of a ≤ count_of b
  pub not_strict : ((a b : ℕ) → a ⊑ b → (a ≡ b → ⊥) → count_of a < count_of b) → ⊥
  pub notes : (a : ℕ) → members_of a ≡ count_of a + members_of (a / 2 ^ 56)
  pub most : (a : ℕ) → count_of a ≤ 56
  pub reached : count_of (2 ^ 56 - 1) ≡ 56

-- 3.8: an operation never loses members where what it reads gains some and what it waives stays
abbrev pub Gains : Type 0
Gains = (op : Op) (own : ℕ) (f g : Argument → ℕ) → ((x : Argument) → Memᴰ x (arguments_of op) → f x ⊑ g x)
    → ((x : Argument) → Memᴰ x (waived_of op) → f x ≡ g x) → value_at op own f ⊑ value_at op own g

-- 3.7: what it waives is among what it reads
abbrev pub WaivesRead : Type 0
WaivesRead = (op : Op) (x : Argument) → Memᴰ x (waived_of op) → Memᴰ x (arguments_of op)

-- 3.9: what it doesn't read makes no difference to its value
abbrev pub Local : Type 0
Local = (op : Op) (own : ℕ) (f g : Argument → ℕ) → ((x : Argument) → Memᴰ x (arguments_of op) → f x ≡ g x) → value_at op own f ≡ value_at op own g

-- 3.1: the constant of an operation, 0 where it uses none
abbrev pub constant_of : Op → ℕ
constant_of (Constant c) = c
constant_of Own = 0
constant_of (JoinConstant a c) = c
constant_of (MeetConstant a c) = c
constant_of (Join a b) = 0
constant_of (Meet a b) = 0
constant_of (IfAll a b c) = c
constant_of (IfMany a b c) = c
constant_of (JoinOwn a) = 0
constant_of (Except a b) = 0

-- 3.9: a value keeps to the 64 codes where the constant, the own set and what is read do
abbrev pub Fits : Type 0
Fits = (op : Op) (own : ℕ) (f : Argument → ℕ) → constant_of op < 2 ^ 64 → own < 2 ^ 64
    → ((x : Argument) → Memᴰ x (arguments_of op) → f x < 2 ^ 64) → value_at op own f < 2 ^ 64
