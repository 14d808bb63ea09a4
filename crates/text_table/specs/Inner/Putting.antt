-- Writing a table frame by frame: the text of the expected frame, and the parts of it. Assumes nothing.
use Rattle.std.specs.Prelude.{ℕ, ◌/◌, ◌≤◌, List, [], ◌∷◌, get_or}
use Rattle.table.specs.Words.{rule_of, head_at, constant_at}
use Rattle.table.specs.Equations.{op_number, a_field, b_field, argument}
use Rattle.table.specs.Judge.{header, symbol, production, equation}
use Rattle.text_frame.specs.Text.{text_of}
use Rattle.text_frame.specs.declared.Frame.TheVariants.{Rule}
use Rattle.text_frame.specs.declared.Rule.TheVariants.{Equation}
use Rattle.text_frame.specs.declared.Expected.{Expected}
use Rattle.text_frame.specs.declared.Expected.TheVariants.{AtHeader, AtSymbol, AtProduction, AtEquation, Ended}
use Rattle.text_table.specs.Text.{shown}

-- 3.2: an equation's operation is one of the ten, and so its number is one byte
abbrev pub Shows : List ℕ → Expected → Type 0
Shows t AtHeader = Unit {0}
Shows t (AtSymbol s) = Unit {0}
Shows t (AtProduction p) = Unit {0}
Shows t (AtEquation p q k) = op_number (head_at t (rule_of p q k)) ≤ 9
Shows t Ended = Unit {0}

-- 17.2: the text of the frame that is expected
unfoldable pub text_at : List ℕ → Expected → List ℕ
text_at t AtHeader = text_of (shown t header)
text_at t (AtSymbol s) = text_of (shown t (symbol s))
text_at t (AtProduction p) = text_of (shown t (production p))
text_at t (AtEquation p q k) = text_of (shown t (equation p q k))
text_at t Ended = []

-- 2.10: the fields of a production's word, without the bytes of children that it has not
unfoldable pub reached_of : ℕ → ℕ → ℕ
reached_of word count = word / get_or (4294967296 ∷ 16777216 ∷ 65536 ∷ 256 ∷ []) count 1

-- 17.1: an equation's line, by its rule
unfoldable pub equation_text : List ℕ → ℕ → List ℕ
equation_text t rule = text_of (Rule (Equation (op_number (head_at t rule)) (argument (a_field (head_at t rule))) (argument (b_field (head_at t rule))) (constant_at t rule)))
