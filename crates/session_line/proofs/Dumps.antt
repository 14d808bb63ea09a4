-- What a dump prints over a judged table and tree, and how long it is at the most. Assumes nothing.
use mathlib.Core.Path.{◌≡◌, ◌∙◌}
use mathlib.Core.Bool.{true, false}
use mathlib.Core.Logic.{⊎_elim}
use mathlib.Core.List.{List, ◌∷◌}
use Prim.Native.Nat.{ℕ, zero, suc, ◌+◌, ◌*◌, ◌≤◌}
use native.Mathlib.Omega.{arith}
use lib.ListN.{length, take, length-append}
use lib.Seq.{sets}
use Rattle.climb.proofs.Lists.{either}
use Rattle.climb.specs.Memory.{at}
use Rattle.wire.specs.Instances.{declared}
use Rattle.update.specs.declared.Record.{Record}
use Rattle.update.specs.Records.{is_open_kind}
use Rattle.update.specs.Memories.{Memory}
use Rattle.refusal.specs.Orders.{refusal_by}
use Rattle.update.specs.Refusals.{busy_check, held_order, look_order, ground_order}
use Rattle.update_judge.specs.Order.{Holding}
use Rattle.update_judge.proofs.Orders.{ground_none}
use Rattle.text_frame.specs.Out.{refusal_text}
use Rattle.text_frame.proofs.Printed.{refusal_length}
use Rattle.text_sets.specs.Telling.{told_from, slot_text}
use Rattle.text_sets.proofs.Slots.{set_length, slot_next, slot_none, slot_told, slot_empty, dump_told_lem}
use Rattle.session.specs.Session.{dump_told}
use Rattle.refusal.proofs.Orders.{past}

-- what is printed is the dump's text
pub told_refused : (n line printed place : ℕ) (out out' text : List ℕ) → text ≡ refusal_text n line → place ≡ printed + 13 → out' ≡ sets out printed (refusal_text n line)
    → (place ≡ printed + length text) × (out' ≡ sets out printed text)
told_refused n line printed place out out' text e f g = rw e (omega (arith, refusal_length n line), g)

-- ---- 10, then 16, then the sets
module _ (t : List ℕ) (m : Memory) (r : Record) (line : ℕ) (k : Holding t m r) where
  number : refusal_by (look_order t m r) ≡ refusal_by (busy_check r ∷ held_order t m.productions m.owns r)
  number = past (ground_order t m r) (busy_check r ∷ held_order t m.productions m.owns r) (ground_none t m r k.footing)

  pub dump_busy : is_open_kind r.«open» ≡ true → (dump_told line t r m).text ≡ refusal_text 10 line
  unfolding dump_told refusal_by
  dump_busy o = let e : refusal_by (look_order t m r) ≡ 10 = number ∙ rw o in rw e

  pub dump_absent : is_open_kind r.«open» ≡ false → r.held ≡ false → (dump_told line t r m).text ≡ refusal_text 16 line
  unfolding dump_told refusal_by
  dump_absent o h = let e : refusal_by (look_order t m r) ≡ 16 = number ∙ rw (o, h) in rw e

  pub dump_sets : is_open_kind r.«open» ≡ false → r.held ≡ true → told_from t (take r.nodes m.productions) m.sets 0 (8 * r.nodes) ≡ (dump_told line t r m).text
  unfolding dump_told refusal_by
  dump_sets o h = let e : refusal_by (look_order t m r) ≡ 0 = number ∙ rw (o, h, k.tree h) in rw e (dump_told_lem t m r)

-- ---- 23 bytes a slot at the most
module _ (t ns l : List ℕ) where
  slot_most : (x : ℕ) → length (slot_text t ns l x) ≤ 23
  slot_most x =
      ⊎_elim
      (λ (h : declared t ns x ≡ true). rw (slot_told t ns l x h) (omega (arith, set_length x (at l x))))
      (λ (h : declared t ns x ≡ false). rw (slot_empty t ns l x h) (omega arith))
      (either (declared t ns x))

  pub told_most : (n x : ℕ) → length (told_from t ns l x n) ≤ 23 * n
  told_most zero x = rw slot_none (omega arith)
  told_most (suc n) x =
      rw (slot_next t ns l x n, length-append) (omega (arith, slot_most x, told_most n (suc x)))
