-- The table and the tree, then the room. Assumes nothing.
use native.Mathlib.Omega.{arith}
use mathlib.Core.Path.{◌≡◌, refl, ap, sym, ◌∙◌}
use mathlib.Core.Bool.{true, false}
use lib.Dec.{leb}
use Rattle.std.proofs.Common.{Ok}
use Rattle.std.proofs.lemmas.Result.{err_from_is_err_and}
use lib.ListN.{length}
use borrow.Author.Tests.{le-leb, lt-leb}
use Rattle.tree.specs.Refusals.{tree_refusal}
use Rattle.text_tree.specs.Text.{tree_text}
use Rattle.text_tree.proofs.Writing.{refused_answer, refused_buffer, tree_length, handed}
use Rattle.text_tree.proofs.plant.write_tree.Goals as goal

pub overflow_mul-productions : goal.overflow_mul-productions
overflow_mul-productions c =
    let a = c.args in
    let h = handed a.table.now a.productions.now a.owns.now (sym c.in_ok-judge_tree.ensures) in
    omega (arith, h.few)

pub overflow_add-productions : goal.overflow_add-productions
overflow_add-productions c =
    let a = c.args in
    let h = handed a.table.now a.productions.now a.owns.now (sym c.in_ok-judge_tree.ensures) in
    omega (arith, h.few)

pub returns-then-buffer-productions : goal.returns-then-buffer-productions
returns-then-buffer-productions c =
    let a = c.args in
    let z : tree_refusal a.table.now a.productions.now a.owns.now ≡ 0 = sym c.in_ok-judge_tree.ensures in
    let h = handed a.table.now a.productions.now a.owns.now z in
    let n = tree_length a.productions.now a.owns.now h.equal in
    let l : leb (length (tree_text a.productions.now a.owns.now)) (length a.buffer.now) ≡ false = lt-leb (length (tree_text a.productions.now a.owns.now)) (length a.buffer.now) (omega arith) in
    rw (z, l) (refl, refl)

pub put_tree-requires : goal.put_tree-requires
put_tree-requires c =
    let a = c.args in
    let h = handed a.table.now a.productions.now a.owns.now (sym c.in_ok-judge_tree.ensures) in
    (h.equal, (h.few, omega arith))

pub returns : goal.returns
returns c =
    let a = c.args in
    let z : tree_refusal a.table.now a.productions.now a.owns.now ≡ 0 = sym c.in_ok-judge_tree.ensures in
    let h = handed a.table.now a.productions.now a.owns.now z in
    let n = tree_length a.productions.now a.owns.now h.equal in
    let l : leb (length (tree_text a.productions.now a.owns.now)) (length a.buffer.now) ≡ true = le-leb (length (tree_text a.productions.now a.owns.now)) (length a.buffer.now) (omega arith) in
    rw (z, l) (ap Ok (c.put_tree.ensures.0 ∙ sym n), c.put_tree.ensures.1)

pub returns-in_err-judge_tree : goal.returns-in_err-judge_tree
returns-in_err-judge_tree c =
    let a = c.args in
    let e = c.in_err-judge_tree in
    let p = err_from_is_err_and c.from_residual.result c.from_residual.ensures.1 in
    rw (p.1, p.2, ← e.ensures) (refused_answer e.field-0.0 (length a.buffer.now) (tree_text a.productions.now a.owns.now), refused_buffer e.field-0.0 a.buffer.now (tree_text a.productions.now a.owns.now))
