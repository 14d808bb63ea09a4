-- Session A of docs/RULES.md, and a session of refusals: the text, and all that is printed for it, a line a row. Assumes nothing.
use Rattle.std.specs.Prelude.{◌≡◌, List, [], ◌∷◌, ◌++◌, ℕ}
use Prim.Native.Char.{code}
use Prim.Native.String.{String, [] as []ˢ, ◌∷◌ as ◌∷ˢ◌}
use Rattle.session.specs.Session.{session}

-- a byte for each character, by its code
unfoldable pub bytes : String → List ℕ
bytes []ˢ = []
bytes (c ∷ˢ s) = code c ∷ bytes s

-- 16.1: a line's digits and LF, and behind them the rest of the text
infixr 67 ◌⏎◌
unfoldable pub ◌⏎◌ : String → List ℕ → List ℕ
line ⏎ rest = bytes line ++ (10 ∷ rest)

-- 26.2: the text of session A
unfoldable pub text_a : List ℕ
text_a =
    "010203" ⏎
    "020100" ⏎
    "020101" ⏎
    "0300020101" ⏎
    "0404010002000000000000000000" ⏎
    "0402020000000000000000000000" ⏎
    "0402010000000000000000000000" ⏎
    "030100" ⏎
    "0408000400000000000000000000" ⏎
    "030100" ⏎
    "0401000000000000000000000000" ⏎
    "060003" ⏎
    "05000000000000000000" ⏎
    "05010000000000000002" ⏎
    "05010000000000000000" ⏎
    "0700010001" ⏎
    "05010000000000000000" ⏎
    "08" ⏎ []

-- 26.3: what is printed for it
unfoldable pub printed_a : List ℕ
printed_a =
    "110008000001000400" ⏎
    "110008000002000400" ⏎
    "110008000003000400" ⏎
    "110008000004000400" ⏎
    "110008000005000401" ⏎
    "110000000001000101" ⏎
    "120002000000150000" ⏎
    "110008000001000401" ⏎
    "110000000001000101" ⏎
    "120002000000050005" ⏎
    "1300000000000000000000" ⏎
    "1300080000000000000000" ⏎
    "13000c0000000000000000" ⏎
    "1300100000000000000000" ⏎
    "1300140000000000000000" ⏎ []

-- 26.3: just that and no more
abbrev pub SessionA : Type 0
SessionA = session text_a ≡ printed_a

-- 19.4, 19.5: session A's table; then a dump with no tree, a load of the wrong symbol, a replacement at no point, a frame of unknown type, and a dump that is not
-- read any more
unfoldable pub refused_text : List ℕ
refused_text =
    "010203" ⏎
    "020100" ⏎
    "020101" ⏎
    "0300020101" ⏎
    "0404010002000000000000000000" ⏎
    "0402020000000000000000000000" ⏎
    "0402010000000000000000000000" ⏎
    "030100" ⏎
    "0408000400000000000000000000" ⏎
    "030100" ⏎
    "0401000000000000000000000000" ⏎
    "08" ⏎
    "060002" ⏎
    "05010000000000000000" ⏎
    "05010000000000000000" ⏎
    "0900" ⏎
    "0c00" ⏎
    "08" ⏎ []

-- 16, 7 and 22 at their commands' first lines, and each time the next command is read; 14 at its own, and nothing behind it is
unfoldable pub refused_printed : List ℕ
refused_printed =
    "1f100000000c" ⏎
    "1f070000000d" ⏎
    "1f1600000010" ⏎
    "1f0e00000011" ⏎ []

-- 19.4, 19.5: just these lines are printed for it
abbrev pub SessionRefused : Type 0
SessionRefused = session refused_text ≡ refused_printed

-- 19.8: of an empty text 14 at line 1
abbrev pub SessionEmpty : Type 0
SessionEmpty = session [] ≡ "1f0e00000001" ⏎ []
