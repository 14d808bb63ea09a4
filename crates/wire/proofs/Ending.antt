-- The ends that are asked for, and the arrays once every node has had its turns. Assumes nothing.
use Prim.Native.Nat.{ℕ, ◌+◌, ◌-◌, ◌*◌, ◌≤◌, ◌<◌}
use mathlib.Core.Path.{◌≡◌, sym, ap, ◌∙◌}
use mathlib.Core.List.{List}
use lib.ListN.{length, get_or, drop, length-append, length-drop, get_or-append}
use lib.Seq.{get_or-append-add, get_or-drop, ext_get_or}
use native.Mathlib.Decide.{dec_lt}
use native.Mathlib.Omega.{arith}
use Rattle.circles.specs.Arrays.{over}
use Rattle.wire.specs.Arrays.{first_at, second_at, left_at, rule_in, by_slot, Wired}
use Rattle.wire.specs.Inner.Turns.{Held, Room, Partly, Behind, Stay}
use Rattle.wire.proofs.Holding.{slots_length, slot_at}
use Rattle.wire.proofs.Turning.{partly_all}

-- ---- the arrays at the end

over_is : (ns : List ℕ) (f : ℕ → ℕ) (l₀ l : List ℕ) → 8 * length ns ≤ length l₀ → Behind (8 * length ns) l₀ l → ((x : ℕ) → x < 8 * length ns → get_or l x 0 ≡ f x) → l ≡ over (by_slot ns f) l₀
over_is ns f l₀ l r s h = ext_get_or 0 l (over (by_slot ns f) l₀) long at
  where
    long : length l ≡ length (over (by_slot ns f) l₀)
    long = omega (arith, r, s.long, slots_length ns f, length-append (by_slot ns f) (drop (length (by_slot ns f)) l₀), length-drop (length (by_slot ns f)) l₀)

    at : (i : ℕ) → i < length l → get_or l i 0 ≡ get_or (over (by_slot ns f) l₀) i 0
    at i b = elim (dec_lt i (8 * length ns)) [
      | yes c ↦ h i c ∙ sym (slot_at ns f i 0 c) ∙ sym (get_or-append (by_slot ns f) _ 0 i (omega (arith, slots_length ns f)))
      | no c ↦
          let n = length (by_slot ns f) in
          let z : n + (i - n) ≡ i = omega (arith, slots_length ns f) in
          s.others i (omega arith) ∙ ap (λ j. get_or l₀ j 0) (sym z) ∙ sym (get_or-drop n l₀ (i - n) 0) ∙ sym (get_or-append-add (by_slot ns f) (drop n l₀) (i - n) 0) ∙ ap (λ j. get_or (over (by_slot ns f) l₀) j 0) z
    ]

pub wired_of : (t ns a₀ b₀ l₀ r₀ a b l r : List ℕ) → Held t ns → Room (8 * length ns) a₀ b₀ l₀ r₀ → Stay (8 * length ns) a₀ b₀ l₀ r₀ a b l r → Partly t ns (20 * length ns) a b l r
    → Wired t ns a₀ b₀ l₀ r₀ a b l r
wired_of t ns a₀ b₀ l₀ r₀ a b l r held m s k = record {
  firsts = over_is ns (first_at t ns) a₀ a m.firsts s.firsts (λ x h. (partly_all t ns held a b l r k x h).firsts);
  seconds = over_is ns (second_at t ns) b₀ b m.seconds s.seconds (λ x h. (partly_all t ns held a b l r k x h).seconds);
  lefts = over_is ns (left_at t ns) l₀ l m.lefts s.lefts (λ x h. (partly_all t ns held a b l r k x h).lefts);
  rules = over_is ns (rule_in t ns) r₀ r m.rules s.rules (λ x h. (partly_all t ns held a b l r k x h).rules);
}
