-- A turn counts its slot's line, so what is left to count is the rest. Assumes nothing.
use Rattle.std.proofs.Common.{◌*◌, ◌<◌, length, take, ap, sym, ◌∙◌, arith}
use Rattle.climb.specs.Memory.{at}
use Rattle.text_sets.proofs.Slots.{rest_length, rest_none, slot_told, slot_empty, set_length}
use Rattle.text_sets.proofs.sets_length.Goals as goal
use Rattle.text_sets.proofs.sets_length.Goals.{then-is_declared, else-is_declared}

pub loop-x-preserved : goal.loop-x-preserved
loop-x-preserved c =
    let a = c.args in
    let l = c.loop-x in
    let ns = take a.nodes a.held.now in
    let h : l.x < 8 * a.nodes = omega arith in
    let r = rest_length a.table.now ns a.sets.now (8 * a.nodes) l.x h in
    let d = sym c.is_declared.ensures in
    elim c.if-is_declared.branch [
      | then-is_declared w ↦
          let e = ap length (slot_told a.table.now ns a.sets.now l.x (d ∙ w.if-is_declared.true)) ∙ set_length l.x (at a.sets.now l.x) in
          (omega arith, omega arith)
      | else-is_declared w ↦
          let e = ap length (slot_empty a.table.now ns a.sets.now l.x (d ∙ w.if-is_declared.false)) in
          (omega arith, omega arith)
    ]

pub returns : goal.returns
returns c =
    let a = c.args in
    let e = ap length (rest_none a.table.now (take a.nodes a.held.now) a.sets.now (8 * a.nodes) c.loop-x.x (omega arith)) in
    omega arith
