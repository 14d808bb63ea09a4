-- What each public call on a text's frames says: its contract cites the relation, and so does the theorem that no second answer fits it. Assumes nothing.
use Rattle.std.specs.Prelude.{◌≡◌, List, ℕ}
use Rattle.std.specs.Borrow.{Bor}
use Rattle.text_frame.specs.Frames.{frame_at}
use Rattle.text_frame.specs.declared.Step.{Step}
use Rattle.text_frame.specs.declared.Reader.{Reader}
use Rattle.text_frame.specs.declared.Misread.{Misread}
use Rattle.refusal.specs.declared.Refusal.{Refusal}

-- 16.4, 16.5: `frame_at` and `next_at`: the frame at a place of the text s, and where reading goes on, with that line's number
abbrev pub FrameAtSays : List ℕ → ℕ → ℕ → Step → Type 0
FrameAtSays s place line a = a ≡ frame_at s place line

-- 16.4: `reader_at`: a reader that holds the lent text, the place and the number of its line
abbrev pub ReaderAtSays : Bor (List ℕ) → ℕ → ℕ → Reader → Type 0
ReaderAtSays text place line a = (a.text ≡ text) × ((a.place ≡ place) × (a.line ≡ line))

-- 16.4, 16.5: `next`: the same as `frame_at`, where the reader stands
abbrev pub NextSays : Reader → Step → Type 0
NextSays r a = FrameAtSays r.text.now r.place r.line a

-- 21.6: a refusal at a line
abbrev pub misread : Refusal → ℕ → Misread
misread r line = record { refusal = r; line = line }
