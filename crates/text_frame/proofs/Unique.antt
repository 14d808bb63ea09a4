-- No second frame, reader or place fits what the calls on a text's frames say: each is an equation. Assumes nothing.
use mathlib.Core.Path.{sym, ◌∙◌}
use mathlib.Core.List.{List}
use Prim.Native.Nat.{ℕ}
use denote.Ref.{Bor}
use Rattle.refusal.specs.Only.{Only}
use Rattle.refusal.proofs.Fitting.{only_equal}
use Rattle.text_frame.specs.Frames.{frame_at}
use Rattle.text_frame.specs.Calls.{ReaderAtSays}
use Rattle.text_frame.specs.Unique.{FramesOne}
use Rattle.text_frame.specs.declared.Reader.{Reader}

reader_one : (text : Bor (List ℕ)) (place line : ℕ) → Only (λ (a : Reader). ReaderAtSays text place line a)
reader_one text place line =
    record { one = λ a b p q. (λ i. record { text = (p.0 ∙ sym q.0) i; place = (p.1.0 ∙ sym q.1.0) i; line = (p.1.1 ∙ sym q.1.1) i }) }

pub frames_one : FramesOne
frames_one = record {
  frame_at = λ s place line. only_equal (frame_at s place line);
  next_at = λ s place line. only_equal (frame_at s place line);
  reader_at = reader_one;
  next = λ r. only_equal (frame_at r.text.now r.place r.line);
}
