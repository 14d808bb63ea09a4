-- The text of what a session prints, a frame a line. Assumes nothing.
use Rattle.std.specs.Prelude.{ℕ, List, [], ◌∷◌, ◌++◌}
use Rattle.text_line.specs.Text.{byte, two, three, four, eight, line_text}

-- 18.1: `11`, a round: by which instance its circle is named, its number, how large the circle is, and 1 if the circle closed
unfoldable pub round_text : ℕ → ℕ → ℕ → ℕ → List ℕ
round_text least round size closed = line_text (byte 0x11 ∷ two least ∷ three round ∷ two size ∷ byte closed ∷ [])

-- 18.1: `12`, done: the circles, the evaluations, the changed instances
unfoldable pub done_text : ℕ → ℕ → ℕ → List ℕ
done_text circles evaluations changed = line_text (byte 0x12 ∷ two circles ∷ four evaluations ∷ two changed ∷ [])

-- 18.1: `13`, an instance and its set
unfoldable pub set_text : ℕ → ℕ → List ℕ
set_text instance value = line_text (byte 0x13 ∷ two instance ∷ eight value ∷ [])

-- a set of a dump: the instance and its value
pub record Held : Type 0 where
  pub instance : ℕ
  pub value : ℕ

-- 13.2: the lines of a dump, one a set
unfoldable pub dump_text : List Held → List ℕ
dump_text [] = []
dump_text (x ∷ xs) = set_text x.instance x.value ++ dump_text xs

-- 18.1: `1f`, a refusal's number, and that of a line
unfoldable pub refusal_text : ℕ → ℕ → List ℕ
refusal_text number line = line_text (byte 0x1f ∷ byte number ∷ four line ∷ [])
