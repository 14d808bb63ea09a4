-- What each public call on a table's text says: its contract cites the relation, and so does the theorem that no second answer fits it. Assumes nothing.
use Rattle.std.specs.Prelude.{◌≡◌, List, ℕ, length, Result}
use Rattle.table.specs.Judge.{judge_table}
use Rattle.refusal.specs.declared.Refusal.{Refusal}
use Rattle.text_frame.specs.declared.Misread.{Misread}
use Rattle.text_tree.specs.Written.{written_of, buffer_after}
use Rattle.text_table.specs.Text.{table_text}
use Rattle.text_table.specs.Reading.{reading_at, table_answer, memory_after}
use Rattle.text_table.specs.declared.ReadTable.{ReadTable}

-- 15.12, 21.1: `write_table`: the answer, and what the buffer holds then
abbrev pub WriteTableSays : List ℕ → List ℕ → Result ℕ Refusal → List ℕ → Type 0
WriteTableSays t buffer a buffer' = (a ≡ written_of (judge_table t) (length buffer) (table_text t)) × (buffer' ≡ buffer_after (judge_table t) buffer (table_text t))

-- 15.13, 21.3: `read_table`: the answer, and what the lent words are then
abbrev pub ReadTableSays : List ℕ → ℕ → ℕ → List ℕ → Result ReadTable Misread → List ℕ → Type 0
ReadTableSays s place line words a words' = (a ≡ table_answer (reading_at s place line) (length words) line) × (words' ≡ memory_after (reading_at s place line) words)
