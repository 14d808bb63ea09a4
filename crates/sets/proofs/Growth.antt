-- How many members a set has grows with the set, and so does how many of them count. Assumes nothing.
use mathlib.Core.Path.{◌≡◌, sym, ap, ◌∙◌}
use mathlib.Core.Logic.{⊎_elim}
use Prim.Native.Nat.{ℕ, ◌+◌, ◌-◌, ◌/◌, ◌%◌, ◌^◌, ◌≤◌, ◌<◌, zero-le}
use native.Mathlib.Nat.{lt_irrefl, eq-or-lt_of_le, mod-lt, div-add-mod', add_comm}
use native.Mathlib.Omega.{arith}
use lib.Arith.{bin_ind}
use lib.Pow.{pow_pos}
use lib.Bits.{and_mask}
use lib.Count.{ones, ones_step, ones_cat, ones-ones, ones-le}
use Rattle.sets.specs.Members.{◌⊑◌}
use Rattle.sets.specs.Laws.{Counted, Compared}
use Rattle.sets.proofs.Order.{sub_refl, sub_half, sub_zero, zero_of_sub, and_mono}

ones_mono' : (a b : ℕ) → a ⊑ b → ones a ≤ ones b
unfolding ones
ones_mono' =
    bin_ind (λ (a : ℕ). (b : ℕ) → a ⊑ b → ones a ≤ ones b) (λ b p. zero-le)
    (λ a ih b p. omega (arith, ih (b / 2) (sub_half p), p.at 0, ones_step a, ones_step b))

pub ones_mono : {a b : ℕ} → a ⊑ b → ones a ≤ ones b
ones_mono {a} {b} p = ones_mono' a b p

ones_eq' : (b a : ℕ) → a ⊑ b → ones a ≡ ones b → a ≡ b
ones_eq' =
    bin_ind (λ (b : ℕ). (a : ℕ) → a ⊑ b → ones a ≡ ones b → a ≡ b) (λ a p e. sym (zero_of_sub a p))
    (λ b ih a p e. let m = ones_mono (sub_half p) in
    omega (arith, ih (a / 2) (sub_half p) (omega (arith, p.at 0, ones_step a, ones_step b)), p.at 0, ones_step a, ones_step b))

-- a set below another and with as many members is the same set
pub ones_eq : {a b : ℕ} → a ⊑ b → ones a ≡ ones b → a ≡ b
ones_eq {a} {b} p e = ones_eq' b a p e

-- a strict step adds a member
pub ones_lt : {a b : ℕ} → a ⊑ b → (a ≡ b → ⊥) → ones a < ones b
ones_lt {a} {b} p ne = ⊎_elim (λ e. absurd (ne (ones_eq p e))) (λ l. l) (eq-or-lt_of_le (ones_mono p))

pub counted : Counted
counted = record { grows = ones_mono; strictly = ones_lt; most = λ a h. ones-le 64 a h }

-- ---- the members below code k, as a remainder

sub_below : (k : ℕ) {a b : ℕ} → a ⊑ b → a % 2 ^ k ⊑ b % 2 ^ k
sub_below k {a} {b} p = rw (and_mask a k, and_mask b k) at (and_mono p (sub_refl (2 ^ k - 1)))

-- they and those from k on are all
ones_parts : (k a : ℕ) → ones a ≡ ones (a % 2 ^ k) + ones (a / 2 ^ k)
ones_parts k a = ap ones (sym (div-add-mod' a (2 ^ k))) ∙ ones_cat k (a / 2 ^ k) (a % 2 ^ k) (mod-lt a (pow_pos k)) ∙ add_comm _ _

pub compared : Compared
compared = record {
  grows = λ p. ones_mono (sub_below 56 p);
  not_strict = λ h. lt_irrefl (ones 0) (h 0 (2 ^ 56) (sub_zero (2 ^ 56)) (λ e. absurd (omega (arith, e))));
  notes = ones_parts 56;
  most = λ a. ones-le 56 (a % 2 ^ 56) (mod-lt a (pow_pos 56));
  reached = ones-ones 56;
}
