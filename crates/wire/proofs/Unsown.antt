-- The instances that a replacement doesn't sow, and where they were. Assumes nothing.
use Prim.Native.Nat.{ℕ, ◌+◌, ◌*◌, ◌/◌, ◌%◌, ◌≤◌, ◌<◌}
use mathlib.Core.Path.{◌≡◌, refl, sym}
use mathlib.Core.Bool.{Bool, true, false, ◌&&◌, ◌||◌, true≢false}
use lib.Dec.{ltb, eqb}
use borrow.Author.Tests.{lt-ltb, ltb-false, eq-eqb}
use native.Mathlib.Decide.{dec_lt, ℕ_discrete}
use native.Mathlib.Omega.{arith}
use Rattle.tree.specs.Moved.{Moved, stays, shifts, Outer, ahead, behind}
use Rattle.tree.specs.Replace.{formerly}
use Rattle.tree.proofs.Moved.{moved_back, moved_one}
use Rattle.tree.proofs.Replace.{formerly_stays, formerly_shifts, moved_formerly}
use Rattle.wire.specs.Replaced.{former_slot, sown_by, Survives, up_to, behind as further}

pub data Unsown (r s x : ℕ) : Type 0 where
  before : x / 8 < r → Unsown r s x
  point : x / 8 ≡ r → 4 ≤ x % 8 → Unsown r s x
  after : r + s ≤ x / 8 → Unsown r s x

-- what the two tests say of an instance that isn't sown
split : (a b c d : Bool) → ((a && b) || (c && d)) ≡ false → (a ≡ true → b ≡ false) × (c ≡ true → d ≡ false)
split true true c d h = absurd (true≢false h)
split true false c d h = (λ e. refl, λ e. rw e at h)
split false b c d h = (λ e. absurd (true≢false (sym e)), λ e. rw e at h)

pub unsown : (r s x : ℕ) → sown_by r s x ≡ false → Unsown r s x
unfolding sown_by
unsown r s x h =
    let t = split (eqb (x / 8) r) (ltb (x % 8) 4) (ltb r (x / 8)) (ltb (x / 8) (r + s)) h in
    elim (dec_lt (x / 8) r) [
      | yes a ↦ before a
      | no a ↦ elim (ℕ_discrete (x / 8) r) [
        | yes c ↦ point c (ltb-false (x % 8) 4 (t.0 (eq-eqb (x / 8) r c)))
        | no c ↦ after (ltb-false (x / 8) (r + s) (t.1 (lt-ltb r (x / 8) (omega arith))))
      ]
    ]

pub unsown_survives : {r s x : ℕ} → Unsown r s x → Survives r s x
unsown_survives (before h) = up_to (omega arith)
unsown_survives (point h i) = up_to (omega arith)
unsown_survives (after h) = further h

-- the node of a former slot, and its index
pub slot_node : (r k s x : ℕ) → former_slot r k s x / 8 ≡ formerly r k s (x / 8)
unfolding former_slot
slot_node r k s x = omega arith

pub slot_index : (r k s x : ℕ) → former_slot r k s x % 8 ≡ x % 8
unfolding former_slot
slot_index r k s x = omega arith

module _ {r k s : ℕ} where
  pub moved_slot : {m m' i : ℕ} → 0 < s → i < 8 → Moved r k s m m' → former_slot r k s (8 * m' + i) ≡ 8 * m + i
  unfolding former_slot
  moved_slot {m} {m'} {i} p b g =
      let e : (8 * m' + i) / 8 ≡ m' = omega arith in
      let f : (8 * m' + i) % 8 ≡ i = omega arith in
      rw (e, f, moved_formerly p g)

  -- a node that stays was where `formerly` says
  pub survivor_moved : {x : ℕ} → 0 < s → Survives r s x → Moved r k s (formerly r k s (x / 8)) (x / 8)
  survivor_moved {x} p (up_to h) = moved_back (formerly_stays r k s (x / 8) h)
  survivor_moved {x} p (further h) = moved_back (formerly_shifts r k s (x / 8) p h)

  pub moved_survives : {m x : ℕ} → Moved r k s m (x / 8) → Survives r s x
  moved_survives (stays h e) = up_to (omega arith)
  moved_survives (shifts h e) = further (omega arith)

  -- and is not r where the instance is a synthesized one that isn't sown
  pub unsown_outer : {x : ℕ} → 0 < s → x % 8 < 4 → Unsown r s x → Outer r k s (formerly r k s (x / 8)) (x / 8)
  unsown_outer {x} p i (before h) = go (formerly_stays r k s (x / 8) (omega arith))
    where
      go : {m : ℕ} → Moved r s k (x / 8) m → Outer r k s m (x / 8)
      go (stays a e) = ahead (omega arith) (sym e)
      go (shifts a e) = absurd (omega arith)
  unsown_outer {x} p i (point h f) = absurd (omega arith)
  unsown_outer {x} p i (after h) = go (formerly_shifts r k s (x / 8) p h)
    where
      go : {m : ℕ} → Moved r s k (x / 8) m → Outer r k s m (x / 8)
      go (stays a e) = absurd (omega arith)
      go (shifts a e) = behind (omega arith) (sym e)

  -- two survivors were never in one slot
  pub survivors_apart : (x y : ℕ) → 0 < k → 0 < s → Survives r s x → Survives r s y → former_slot r k s x ≡ former_slot r k s y → x ≡ y
  survivors_apart x y p q a b e =
      let f : formerly r k s (y / 8) ≡ formerly r k s (x / 8) = omega (arith, slot_node r k s x, slot_node r k s y, e) in
      let m : Moved r k s (formerly r k s (x / 8)) (y / 8) = rw f at (survivor_moved q b) in
      let n : x / 8 ≡ y / 8 = moved_one p (survivor_moved q a) m in
      let i : x % 8 ≡ y % 8 = omega (arith, slot_index r k s x, slot_index r k s y, e) in
      omega arith
