-- The lines that a session prints, as the two numbers that are written. Assumes nothing.
use mathlib.Core.Path.{◌≡◌, ◌∙◌}
use mathlib.Core.List.{[], ◌∷◌}
use Prim.Native.Nat.{ℕ, ◌+◌, ◌*◌, ◌^◌, ◌<◌}
use lib.ListN.{length}
use Rattle.text_line.specs.Text.{field, byte, two, four, eight, line_text}
use Rattle.text_line.proofs.Fields.{fields_join, join_second, line_length}
use Rattle.text_frame.specs.Out.{round_text, done_text, set_text, refusal_text}

pub round_line : (least round size closed : ℕ) → round < 2 ^ 24 → size < 2 ^ 16 → closed < 2 ^ 8
    → line_text (field 2 0x11 ∷ field 16 (((least * 16777216 + round) * 65536 + size) * 256 + closed) ∷ []) ≡ round_text least round size closed
unfolding round_text
round_line least round size closed a b c =
    join_second (byte 0x11) 14 ((least * 16777216 + round) * 65536 + size) 2 closed [] c
    ∙ join_second (byte 0x11) 10 (least * 16777216 + round) 4 size (byte closed ∷ []) b
    ∙ join_second (byte 0x11) 4 least 6 round (two size ∷ byte closed ∷ []) a

pub done_line : (circles evaluations changed : ℕ) → evaluations < 2 ^ 32 → changed < 2 ^ 16
    → line_text (field 2 0x12 ∷ field 16 ((circles * 4294967296 + evaluations) * 65536 + changed) ∷ []) ≡ done_text circles evaluations changed
unfolding done_text
done_line circles evaluations changed a b =
    join_second (byte 0x12) 12 (circles * 4294967296 + evaluations) 4 changed [] b
    ∙ join_second (byte 0x12) 4 circles 8 evaluations (two changed ∷ []) a

pub set_line : (instance value : ℕ) → instance < 2 ^ 16 → line_text (field 6 (1245184 + instance) ∷ field 16 value ∷ []) ≡ set_text instance value
unfolding set_text
set_line instance value a = fields_join 2 0x13 4 instance (eight value ∷ []) a

pub refusal_line : (number line : ℕ) → line < 2 ^ 32 → line_text (field 2 0x1f ∷ field 10 (number * 4294967296 + line) ∷ []) ≡ refusal_text number line
unfolding refusal_text
refusal_line number line a = join_second (byte 0x1f) 2 number 8 line [] a

pub refusal_length : (n line : ℕ) → length (refusal_text n line) ≡ 13
unfolding refusal_text
refusal_length n line = line_length (byte 0x1f ∷ byte n ∷ four line ∷ [])
