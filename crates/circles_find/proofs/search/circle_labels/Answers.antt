-- Labels by a member, then by the least. Assumes nothing.
use Rattle.std.proofs.Common.{ℕ, List, ◌<◌, length, take, arith}
use Rattle.circles_find.specs.Inner.Search.{Stated, Marked, Roll}
use Rattle.circles_find.specs.Inner.Labels.{Reps}
use Rattle.circles.specs.Arrays.{Given}
use Rattle.circles_find.proofs.Rolls.{roll_same, roll_front}
use Rattle.circles_find.proofs.Lowering.{labelled_stated, lowered_cleared, labels_are, roll_labels, kin}
use Rattle.circles_find.proofs.search.circle_labels.Goals as goal

-- the list of the declared slots is that of the slots with a rep
rolled : {n : ℕ} {a b rep slots : List ℕ} {d : ℕ} → Given n a b → Reps n a b rep → ((y : ℕ) → y < n → Stated a y → Marked n rep y) → Roll (Stated a) n slots d → Roll (Marked n rep) n (take d slots) (length (take d slots))
rolled G R f L = roll_front (roll_same f (labelled_stated G R) L)

pub chain_members-requires : goal.chain_members-requires
chain_members-requires c =
    let p = c.requires in
    let r = c.label_circles.ensures in
    let w = c.leaving_order-from in
    (p.given.0.few, r.0.long, rolled p.given.0 r.0 r.1 w.ensures.1, p.blank.2, omega (arith, w.auto.order, p.given.5))

pub least_labels-requires-clause-n_le_slots_most : goal.least_labels-requires-clause-n_le_slots_most
least_labels-requires-clause-n_le_slots_most c =
    let p = c.requires.given in
    let r = c.label_circles.ensures in
    (p.0.few, omega (arith, c.clear.ensures.long, p.1), r.0.long, c.chain_members.ensures.firsts, rolled p.0 r.0 r.1 c.leaving_order-from.ensures.1)

pub returns-clause-label_after : goal.returns-clause-label_after
returns-clause-label_after c =
    let p = c.requires.given in
    let r = c.label_circles.ensures in
    let m = c.chain_members.ensures in
    let l = lowered_cleared c.clear.ensures c.least_labels.ensures in
    (labels_are p.0 r.0 r.1 m l p.1, kin p.0 r.0 r.1 m l p.1)

pub returns-clause-chained : goal.returns-clause-chained
returns-clause-chained c =
    let p = c.requires.given in
    let r = c.label_circles.ensures in
    let l = lowered_cleared c.clear.ensures c.least_labels.ensures in
    (c.chain_readers.ensures, roll_labels p.0 r.0 r.1 c.chain_members.ensures l p.1 c.leaving_order-from.ensures.1)
