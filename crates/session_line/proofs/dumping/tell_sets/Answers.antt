-- 10, then 16, then the sets, each written by one call. Assumes nothing.
use Rattle.session_line.proofs.Dumps.{dump_busy, dump_absent, dump_sets, told_most, told_refused}
use Rattle.text_sets.proofs.Slots.{tellable}
use Rattle.session_line.specs.Lent.{memory_in}
use native.Mathlib.Omega.{arith}
use borrow.Author.Tests.{not-true, not-false}
use lib.Seq.{sets}
use lib.ListN.{length, take}
use Prim.Native.Nat.{◌+◌, ◌*◌}
use mathlib.Core.Path.{refl, ap, sym, ◌∙◌}
use Rattle.session_line.proofs.dumping.tell_sets.Goals as goal

pub returns-then-is_open : goal.returns-then-is_open
returns-then-is_open c =
    let a = c.args in
    let e = c.put_refusal-printed.ensures in
    let m = memory_in a.memory.now in
    let d = dump_busy a.table.now m a.«record» a.line c.requires.holding (sym c.is_open.ensures ∙ c.if-is_open.true) in
    let p = told_refused 10 a.line a.printed _ a.out.now _ _ d e.0 e.1 in
    (refl, refl, p.0, p.1)

pub returns-then-not-record : goal.returns-then-not-record
returns-then-not-record c =
    let a = c.args in
    let e = c.put_refusal.ensures in
    let m = memory_in a.memory.now in
    let d = dump_absent a.table.now m a.«record» a.line c.requires.holding (sym c.is_open.ensures ∙ c.if-is_open.false) (not-true a.«record».held c.if-not-record.true) in
    let p = told_refused 16 a.line a.printed _ a.out.now _ _ d e.0 e.1 in
    (refl, refl, p.0, p.1)

pub put_sets-requires : goal.put_sets-requires
put_sets-requires c =
    let a = c.args in
    let m = memory_in a.memory.now in
    let n = a.«record».nodes in
    let k = c.requires.holding in
    record {
      tellable = tellable a.table.now m a.«record» k.footing (k.tree (not-false a.«record».held c.if-not-record.false));
      text_in_bounds = omega (arith, told_most a.table.now (take n a.memory.now.held.now) a.memory.now.sets.now (8 * n) 0, k.footing.within.nodes, c.requires.spacious.room);
    }

pub returns-else-not-record : goal.returns-else-not-record
returns-else-not-record c =
    let a = c.args in
    let e = c.put_sets.ensures in
    let m = memory_in a.memory.now in
    let d = dump_sets a.table.now m a.«record» a.line c.requires.holding (sym c.is_open.ensures ∙ c.if-is_open.false) (not-false a.«record».held c.if-not-record.false) in
    (refl, refl, e.0 ∙ ap (λ l. a.printed + length l) d, e.1 ∙ ap (sets a.out.now a.printed) d)
