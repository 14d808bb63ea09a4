-- What is promised of tables as text: what is written is read and what is read is written. Assumes nothing.
use Rattle.std.specs.Prelude.{◌≡◌, List, ◌++◌, ℕ, ◌+◌, ◌^◌, ◌<◌, length, get_or, take, drop}
use Rattle.table.specs.Judge.{frames, judge_table}
use Rattle.table.specs.Same.{Same}
use Rattle.text_frame.specs.Laws.{lines_after}
use Rattle.text_table.specs.Text.{table_text}
use Rattle.text_table.specs.Reading.{done, reading_at}
use Rattle.table.specs.Words.{table_words}

-- 21.8: a text that is read as a table is the table's text, and the table is sound
pub record TableForth (s : List ℕ) (place : ℕ) (t : List ℕ) (end : ℕ) : Type 0 where
  pub text : take (length (table_text t)) (drop place s) ≡ table_text t
  pub behind : end ≡ place + length (table_text t)
  pub sound : judge_table t ≡ 0
  pub size : length t ≡ table_words

-- 21.8: so is every text
abbrev pub TableForthAll : Type 0
TableForthAll = (s : List ℕ) (place line : ℕ) (t : List ℕ) (end next : ℕ) → reading_at s place line ≡ done t end next → TableForth s place t end

-- words as memory has them
abbrev pub AllWords : List ℕ → Type 0
AllWords t = (m : ℕ) → get_or t m 0 < 2 ^ 64

-- 2.9, 21.7: a sound table that is written reads back as the same table, whatever its other words are
pub record TableBack (t rest : List ℕ) (line : ℕ) : Type 0 where
  pub words : List ℕ
  pub read : reading_at (table_text t ++ rest) 0 line ≡ done words (length (table_text t)) (lines_after (length (frames t)) line)
  pub same : Same t words

-- 21.7: so does every sound table
abbrev pub TableBackAll : Type 0
TableBackAll = (t rest : List ℕ) (line : ℕ) → judge_table t ≡ 0 → AllWords t → TableBack t rest line
