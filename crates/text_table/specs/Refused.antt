-- When a table's text is written and read and when it is refused, number by number, said without the definitions that compute the answer. Assumes nothing.
use Rattle.std.specs.Prelude.{◌≡◌, true, false, ◌↔◌, List, ℕ, ◌+◌, ◌≤◌, ◌<◌, length, replicate, Result, Ok, Err}
use Rattle.std.proofs.Math.Seq.{paste}
use Rattle.refusal.specs.Numbers.{number_of}
use Rattle.refusal.specs.declared.Refusal.{Refusal}
use Rattle.refusal.specs.declared.Refusal.TheVariants as why
use Rattle.table.specs.Sound.{Sound}
use Rattle.table.specs.Refused.{breaks, Lowest, Refused}
use Rattle.text_line.specs.Exactly.{NoLine}
use Rattle.text_frame.specs.Frames.{line_after}
use Rattle.text_frame.specs.Walk.{entry_of, next_of, is_on}
use Rattle.text_frame.specs.Exactly.{IsFrame, Astray}
use Rattle.text_frame.specs.declared.Frame.{Frame}
use Rattle.text_frame.specs.declared.Expected.{Expected}
use Rattle.text_frame.specs.declared.Expected.TheVariants.{AtHeader, Ended}
use Rattle.text_tree.specs.Writes.{Writes}
use Rattle.text_table.specs.Text.{table_text}
use Rattle.text_table.specs.Read.{type_at, word_of, constant_of, store}
use Rattle.text_table.specs.Reading.{Reading, done, stop, reading_at, table_read}
use Rattle.text_table.specs.Calls.{WriteTableSays, ReadTableSays}
use Rattle.text_table.specs.declared.ReadTable.{ReadTable}
use Rattle.text_frame.specs.Calls.{misread}
use Rattle.text_frame.specs.declared.Misread.{Misread}
use Rattle.table.specs.Words.{table_words}

-- ---- writing

-- 15.12, 23.1: `write_table` answers and leaves exactly that
abbrev pub WriteTableExactly : Type 0
WriteTableExactly = (t buffer : List ℕ) (a : Result ℕ Refusal) (buffer' : List ℕ)
    → WriteTableSays t buffer a buffer' ↔ Writes (λ r. Refused t (number_of r)) (Sound t) buffer (table_text t) a buffer'

-- ---- the walk over a table's lines

-- the words with those of a frame stored where it is expected
abbrev pub storing : List ℕ → Expected → Frame → List ℕ
storing t x f = store t x (word_of f) (constant_of f)

-- 15.3, 17.2: from a place and a line on, the walk comes to where a frame is expected: the words so far, the frame that is expected, its place and its line. It
-- passes each frame that is of the expected type and that none of 1 to 5 refuses in the words with its own; what comes next follows from those words
pub data ReadTo (s : List ℕ) (place line : ℕ) : List ℕ → Expected → ℕ → ℕ → Type 0 where
  begin : ReadTo s place line (replicate table_words 0) AtHeader place line
  next : {t : List ℕ} {x : Expected} {at l n : ℕ} {f : Frame} → ReadTo s place line t x at l → IsFrame s at f (type_at x) n
      → ((m : ℕ) → breaks (storing t x f) (entry_of x) m ≡ false) → ReadTo s place line (storing t x f) (next_of (storing t x f) x) (at + (n + 1)) (line_after l)

-- 15.3, 15.13: what the text is read as: the words, where the walk comes to the table's end; else at the first frame that stops it 13, 14, or the lowest of
-- 1 to 5 that refuses it in the words with its own
pub data TableRead (s : List ℕ) (place line : ℕ) : Reading → Type 0 where
  all : {t : List ℕ} {end next : ℕ} → ReadTo s place line t Ended end next → TableRead s place line (done t end next)
  by13 : {t : List ℕ} {x : Expected} {at l : ℕ} → ReadTo s place line t x at l → is_on x ≡ true → NoLine s at → TableRead s place line (stop why.Line l)
  by14 : {t : List ℕ} {x : Expected} {at l : ℕ} → ReadTo s place line t x at l → is_on x ≡ true → Astray s at (type_at x) → TableRead s place line (stop why.Frame l)
  by1to5 : {t : List ℕ} {x : Expected} {at l n : ℕ} {f : Frame} {r : Refusal} → ReadTo s place line t x at l → IsFrame s at f (type_at x) n
      → Lowest (storing t x f) (entry_of x) (number_of r) → TableRead s place line (stop r l)

-- 15.13: it is read exactly so
abbrev pub TableExactly : Type 0
TableExactly = (s : List ℕ) (place line : ℕ) (x : Reading) → (x ≡ reading_at s place line) ↔ TableRead s place line x

-- ---- reading a table into lent memory

-- 15.13, 21.3, 21.5, 21.6: what is answered, and what the memory holds then: the number and the line that stopped the walk; else 15, at the line where the table
-- starts, where there is room for fewer than 2,657 words; where it is refused nothing is written
pub data ReadsTable (s : List ℕ) (place line : ℕ) (words : List ℕ) : Result ReadTable Misread → List ℕ → Type 0 where
  stopped : {r : Refusal} {l : ℕ} → TableRead s place line (stop r l) → ReadsTable s place line words (Err (misread r l)) words
  by15 : {t : List ℕ} {end next : ℕ} → TableRead s place line (done t end next) → length words < table_words → ReadsTable s place line words (Err (misread why.Buffer line)) words
  read : {t : List ℕ} {end next : ℕ} → TableRead s place line (done t end next) → table_words ≤ length words
      → ReadsTable s place line words (Ok (table_read end next)) (paste words 0 t table_words)

-- 15.13, 23.1: `read_table` answers and leaves exactly that
abbrev pub ReadTableExactly : Type 0
ReadTableExactly = (s : List ℕ) (place line : ℕ) (words : List ℕ) (a : Result ReadTable Misread) (words' : List ℕ)
    → ReadTableSays s place line words a words' ↔ ReadsTable s place line words a words'
