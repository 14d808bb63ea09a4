-- A table that is refused. Assumes nothing.
use lib.ListN.{length}
use Rattle.std.proofs.lemmas.Result.{err_from_is_err_and}
use Rattle.text_table.specs.Text.{table_text}
use Rattle.text_tree.proofs.Writing.{refused_answer, refused_buffer}
use Rattle.text_table.proofs.write.write_table.Goals as goal

pub returns-in_err-judge_table : goal.returns-in_err-judge_table
returns-in_err-judge_table c =
    let a = c.args in
    let e = c.in_err-judge_table in
    let p = err_from_is_err_and c.from_residual.result c.from_residual.ensures.1 in
    rw (p.1, p.2, ← e.ensures) (refused_answer e.field-0.0 (length a.buffer.now) (table_text a.table.now), refused_buffer e.field-0.0 a.buffer.now (table_text a.table.now))
