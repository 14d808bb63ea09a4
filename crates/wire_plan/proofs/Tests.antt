-- The arrays that are prepared are as the test asks, and it answers as the tree's definition does. Assumes nothing.
use mathlib.Core.Path.{◌≡◌, ap, ◌∙◌, subst, sym}
use mathlib.Core.Bool.{true, false}
use mathlib.Core.List.{List}
use mathlib.Core.Logic.{⊎_elim}
use Prim.Native.Nat.{ℕ, ◌*◌, ◌≤◌, ◌<◌}
use native.Mathlib.Omega.{arith}
use lib.ListN.{length, get_or, drop, length-append, length-drop}
use Rattle.circles.specs.Arrays.{graph_of, over}
use Rattle.circles.specs.Ranked.{labels_of}
use Rattle.circles.proofs.Least.{labels_long}
use Rattle.climb.proofs.Lists.{either}
use Rattle.wire.specs.Instances.{declared}
use Rattle.wire.specs.Arrays.{by_slot, first_at, second_at, rule_in}
use Rattle.wire.specs.Inner.ArrayLaws.{waives_in}
use Rattle.wire.specs.Inner.Turns.{Held}
use Rattle.wire.specs.Waivers.{waives}
use Rattle.wire.proofs.Holding.{held_at, slots_length, wired_alike, wired_whole}
use Rattle.wire.proofs.Testing.{waives_wired}
use Rattle.wire_plan.specs.Inner.Prepared.{Prepared, Tested, PreparedTested}

-- ---- the tree

module _ (t ns a₀ b₀ left₀ rule₀ label₀ members₀ ends₀ a b left rule label members ends : List ℕ) (count : ℕ) (h : Held t ns)
    (p : Prepared t ns a₀ b₀ left₀ rule₀ label₀ members₀ ends₀ a b left rule label members ends count) where
  ruled : (x : ℕ) → x < 8 * length ns → get_or rule x 0 < 1280
  unfolding rule_in
  ruled x l =
      let w = wired_whole t ns ns a₀ b₀ left₀ rule₀ a b left rule h.judged h.sound h.few (omega arith) p.wired in
      let s = wired_alike t ns ns a₀ b₀ left₀ rule₀ a b left rule h.judged h.sound h.few p.wired in
      ⊎_elim (λ (d : declared t ns x ≡ true). w.ruled x (s.declared x ∙ d))
      (λ (d : declared t ns x ≡ false). rw (held_at ns (rule_in t ns) rule₀ rule p.wired.rules x 0 l, d) (omega arith)) (either (declared t ns x))

  pub tested : Tested (8 * length ns) b rule label
  tested =
      let w = wired_whole t ns ns a₀ b₀ left₀ rule₀ a b left rule h.judged h.sound h.few (omega arith) p.wired in
      let G = graph_of (8 * length ns) a b in
      record {
        seconds = w.seconds;
        rules = w.rules;
        labels = subst (λ (l : List ℕ). 8 * length ns ≤ length l) (sym p.laid.labelled) (omega (arith, labels_long G, length-append (labels_of G) (drop (length (labels_of G)) label₀)));
        ruled = ruled;
      }

  -- the test over the arrays is the tree's
  pub tests : waives_in (8 * length ns) t b rule label ≡ waives t ns
  tests = waives_wired t ns a₀ b₀ left₀ rule₀ label₀ a b left rule label h.judged h.sound h.few p.wired p.laid.labelled

pub prepared_tested : PreparedTested
prepared_tested t ns a₀ b₀ left₀ rule₀ label₀ members₀ ends₀ a b left rule label members ends count h p = tested t ns a₀ b₀ left₀ rule₀ label₀ members₀ ends₀ a b left rule label members ends count h p

-- ---- lengths

over_long : (xs l : List ℕ) → length xs ≤ length l → length (over xs l) ≡ length l
over_long xs l h = omega (arith, length-append xs (drop (length xs) l), length-drop (length xs) l)

-- the two argument arrays are as long as they were
pub prepared_long : (t ns a₀ b₀ left₀ rule₀ label₀ members₀ ends₀ a b left rule label members ends : List ℕ) (count : ℕ) → length ns ≤ 512 → length a₀ ≡ 4096 → length b₀ ≡ 4096
    → Prepared t ns a₀ b₀ left₀ rule₀ label₀ members₀ ends₀ a b left rule label members ends count → (length a ≡ 4096) × (length b ≡ 4096)
prepared_long t ns a₀ b₀ left₀ rule₀ label₀ members₀ ends₀ a b left rule label members ends count h p q w = (
  ap length w.wired.firsts ∙ over_long (by_slot ns (first_at t ns)) a₀ (omega (arith, slots_length ns (first_at t ns))) ∙ p,
  ap length w.wired.seconds ∙ over_long (by_slot ns (second_at t ns)) b₀ (omega (arith, slots_length ns (second_at t ns))) ∙ q,
)
