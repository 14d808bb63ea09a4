-- Reading a whole table from text. Assumes nothing.
use Rattle.std.specs.Prelude.{ℕ, zero, suc, ◌≡◌, cond, List, leb, length, replicate, Result, Ok, Err}
use Rattle.std.proofs.Math.Seq.{paste}
use Rattle.refusal.specs.declared.Refusal.{Refusal}
use Rattle.refusal.specs.declared.Refusal.TheVariants as why
use Rattle.text_frame.specs.Frames.{frame_at}
use Rattle.text_frame.specs.Walk.{is_on}
use Rattle.text_table.specs.Read.{words_after, taken_at}
use Rattle.text_frame.specs.declared.Expected.{Expected}
use Rattle.text_frame.specs.declared.Expected.TheVariants.{AtHeader}
use Rattle.text_frame.specs.Calls.{misread}
use Rattle.text_frame.specs.declared.Misread.{Misread}
use Rattle.text_table.specs.declared.ReadTable.{ReadTable}
use Rattle.table.specs.Words.{table_words}

-- the words of a table and where the text behind it starts, or why there is none
pub data Reading : Type 0 where
  done : List ℕ → ℕ → ℕ → Reading
  stop : Refusal → ℕ → Reading

abbrev pub after : Result Expected Misread → (Expected → Reading) → Reading
after (Ok y) go = go y
after (Err e) go = stop e.refusal e.line

-- 15.13, 17.2: from the words so far and the expected frame on, one frame after the other, n at most; a text has no more frames than bytes, so where n was
-- its length and is used up, the text has ended
unfoldable pub read_on : ℕ → List ℕ → Expected → List ℕ → ℕ → ℕ → Reading
read_on zero t x s place line = cond (is_on x) (stop why.Frame line) (done t place line)
read_on (suc n) t x s place line =
    cond (is_on x)
    (after (taken_at t x (frame_at s place line).frame line) (λ y. read_on n (words_after t x (frame_at s place line).frame) y s (frame_at s place line).place (frame_at s place line).line))
    (done t place line)

-- 21.2, 21.3: the table that a text holds at a place; words that no count reaches are zero
unfoldable pub reading_at : List ℕ → ℕ → ℕ → Reading
reading_at s place line = read_on (length s) (replicate table_words 0) AtHeader s place line

-- 15.13, 21.3: what is answered where the memory has so many words: 15, at the line where the table starts, comes last
abbrev pub table_read : ℕ → ℕ → ReadTable
table_read place line = record { place = place; line = line }

abbrev pub table_answer : Reading → ℕ → ℕ → Result ReadTable Misread
table_answer (done t place line) room start = cond (leb table_words room) (Ok (table_read place line)) (Err (misread why.Buffer start))
table_answer (stop refusal line) room start = Err (misread refusal line)

-- 21.3, 21.5: and the memory then: all is judged before a word is written; words behind the table's are not touched
abbrev pub memory_after : Reading → List ℕ → List ℕ
memory_after (done t place line) memory = cond (leb table_words (length memory)) (paste memory 0 t table_words) memory
memory_after (stop refusal line) memory = memory

-- the answer and the words of a reading
abbrev pub Ends : Reading → Result ReadTable Misread → List ℕ → Type 0
Ends (done t place line) r words = (r ≡ Ok (table_read place line)) × (words ≡ t)
Ends (stop refusal line) r words = r ≡ Err (misread refusal line)
