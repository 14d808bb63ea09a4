-- No second answer, buffer or memory fits what the calls on a table's text say: each is an equation. Assumes nothing.
use lib.ListN.{length}
use Rattle.refusal.proofs.Fitting.{only_both}
use Rattle.table.specs.Judge.{judge_table}
use Rattle.text_tree.specs.Written.{written_of, buffer_after}
use Rattle.text_table.specs.Text.{table_text}
use Rattle.text_table.specs.Reading.{reading_at, table_answer, memory_after}
use Rattle.text_table.specs.Unique.{TextsOne}

pub texts_one : TextsOne
texts_one = record {
  write_table = λ t buffer. only_both (written_of (judge_table t) (length buffer) (table_text t)) (buffer_after (judge_table t) buffer (table_text t));
  read_table = λ s place line words. only_both (table_answer (reading_at s place line) (length words) line) (memory_after (reading_at s place line) words);
}
