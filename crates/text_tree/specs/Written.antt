-- Writing into a lent buffer: what is answered, and what the buffer holds then. Assumes nothing.
use Rattle.std.specs.Prelude.{ℕ, zero, suc, cond, List, [], ◌∷◌, leb, length, get_or, Result, Ok, Err}
use Rattle.std.proofs.lemmas.List.Edits.{sets}
use Rattle.refusal.specs.declared.Refusal.{Refusal}
use Rattle.refusal.specs.declared.Refusal.TheVariants.{Count, Symbol, Start, Form, Argument, Production, Shape, Size, Point, Busy, Fields, Undeclared, Line, Frame, Buffer, Absent, Idle, Waiver, Points, Overlap}

-- 14.1 to 14.17, 14.21 to 14.23: the refusal of a number
unfoldable pub refusal_of : ℕ → Refusal
refusal_of n = get_or (Idle ∷ Count ∷ Symbol ∷ Start ∷ Form ∷ Argument ∷ Production ∷ Shape ∷ Size ∷ Point ∷ Busy ∷ Fields ∷ Undeclared ∷ Line ∷ Frame ∷ Buffer ∷ Absent ∷ Idle ∷ Idle ∷ Idle ∷ Idle ∷ Waiver ∷ Points ∷ Overlap ∷ []) n Idle

-- 15.12, 21.1: what is answered where a text is to be written: the number that its table or tree is refused by, else 15 where the buffer is shorter than the
-- text, else its length
abbrev pub written_of : ℕ → ℕ → List ℕ → Result ℕ Refusal
written_of zero room text = cond (leb (length text) room) (Ok (length text)) (Err Buffer)
written_of (suc n) room text = Err (refusal_of (suc n))

-- 15.1, 16.6: and the buffer then: as it was where anything is refused, else with the text at its start and the rest not touched
abbrev pub buffer_after : ℕ → List ℕ → List ℕ → List ℕ
buffer_after zero buffer text = cond (leb (length text) (length buffer)) (sets buffer 0 text) buffer
buffer_after (suc n) buffer text = buffer
