-- The text of a frame. Assumes nothing.
use Rattle.std.specs.Prelude.{List, [], ◌∷◌, ℕ, take}
use Rattle.text_line.specs.Text.{Field, byte, two, eight, line_text}
use Rattle.text_frame.specs.declared.Frame.{Frame}
use Rattle.text_frame.specs.declared.Frame.TheVariants.{Rule, Node, Point, Change, Dump, Refused, Over}
use Rattle.text_frame.specs.declared.Rule as rule
use Rattle.text_frame.specs.declared.Rule.TheVariants.{Header, Symbol, Production, Equation}
use Rattle.text_frame.specs.declared.Change as change
use Rattle.text_frame.specs.declared.Change.TheVariants.{Load, Replace, Corrections}

-- 17.1: the types of a table's frames
abbrev pub rule_type : rule.Rule → ℕ
rule_type (Header a b) = 1
rule_type (Symbol a b) = 2
rule_type (Production a b c) = 3
rule_type (Equation a b c d) = 4

-- and of those that begin a change
abbrev pub change_type : change.Change → ℕ
change_type (Load a) = 6
change_type (Replace a b) = 7
change_type (Corrections a) = 9

-- the type of a frame, 0 where it has none
abbrev pub type_of : Frame → ℕ
type_of (Rule r) = rule_type r
type_of (Node a b) = 5
type_of (Point a b) = 11
type_of (Change c) = change_type c
type_of Dump = 8
type_of (Refused a b) = 0
type_of Over = 0

-- 16.2, 17.1: a frame's type and then its fields. A refusal, and no line, have none
unfoldable pub fields_of : Frame → List Field
fields_of (Rule (Header symbols productions)) = byte 1 ∷ byte symbols ∷ byte productions ∷ []
fields_of (Rule (Symbol synthesized inherited)) = byte 2 ∷ byte synthesized ∷ byte inherited ∷ []
fields_of (Rule (Production left count cs)) = byte 3 ∷ byte left ∷ byte count ∷ take count (byte cs.one ∷ byte cs.two ∷ byte cs.three ∷ byte cs.four ∷ [])
fields_of (Rule (Equation op a b c)) = byte 4 ∷ byte op ∷ byte a.position ∷ byte a.index ∷ byte b.position ∷ byte b.index ∷ eight c ∷ []
fields_of (Node production own) = byte 5 ∷ byte production ∷ eight own ∷ []
fields_of (Change (Load count)) = byte 6 ∷ two count ∷ []
fields_of (Change (Replace point count)) = byte 7 ∷ two point ∷ two count ∷ []
fields_of Dump = byte 8 ∷ []
fields_of (Change (Corrections count)) = byte 9 ∷ byte count ∷ []
fields_of (Point point count) = byte 11 ∷ two point ∷ two count ∷ []
fields_of (Refused refusal line) = []
fields_of Over = []

-- 16.2, 16.6: a frame as a line
unfoldable pub text_of : Frame → List ℕ
text_of f = line_text (fields_of f)
