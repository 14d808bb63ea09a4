-- Of all that a call on a text's frames could answer and leave, no two fit what it says. Assumes nothing.
use Rattle.std.specs.Prelude.{List, ℕ}
use Rattle.std.specs.Borrow.{Bor}
use Rattle.refusal.specs.Only.{Only}
use Rattle.text_frame.specs.Calls.{FrameAtSays, ReaderAtSays, NextSays}
use Rattle.text_frame.specs.declared.Step.{Step}
use Rattle.text_frame.specs.declared.Reader.{Reader}

-- 23.9: the statement of each call leaves nothing open
pub record FramesOne : Type 0 where
  pub frame_at : (s : List ℕ) (place line : ℕ) → Only (λ (a : Step). FrameAtSays s place line a)
  pub next_at : (s : List ℕ) (place line : ℕ) → Only (λ (a : Step). FrameAtSays s place line a)
  pub reader_at : (text : Bor (List ℕ)) (place line : ℕ) → Only (λ (a : Reader). ReaderAtSays text place line a)
  pub next : (r : Reader) → Only (λ (a : Step). NextSays r a)
