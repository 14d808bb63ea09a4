-- The text of a table. Assumes nothing.
use Rattle.std.specs.Prelude.{ℕ, cond, List, [], ◌∷◌, ◌++◌, ltb}
use Rattle.table.specs.Words.{symbol_count, production_count, synthesized, inherited, left_of, child_count, child_of, rule_of, head_at, constant_at}
use Rattle.table.specs.Equations.{op_number, a_field, b_field, argument}
use Rattle.table.specs.Judge as table
use Rattle.text_frame.specs.Text.{text_of}
use Rattle.text_frame.specs.declared.Frame.{Frame}
use Rattle.text_frame.specs.declared.Frame.TheVariants.{Rule}
use Rattle.text_frame.specs.declared.Rule.TheVariants.{Header, Symbol, Production, Equation}

-- child k of production p, 0 where there is none
abbrev pub child_in : List ℕ → ℕ → ℕ → ℕ
child_in t p k = cond (ltb k (child_count t p)) (child_of t p k) 0

-- 2.10, 17.1: a frame of a table, as its words have it
unfoldable pub shown : List ℕ → table.Frame → Frame
shown t table.header = Rule (Header (symbol_count t) (production_count t))
shown t (table.symbol s) = Rule (Symbol (synthesized t s) (inherited t s))
shown t (table.production p) = Rule (Production (left_of t p) (child_count t p) (record { one = child_in t p 0; two = child_in t p 1; three = child_in t p 2; four = child_in t p 3 }))
shown t (table.equation p q k) = Rule (Equation (op_number (head_at t (rule_of p q k))) (argument (a_field (head_at t (rule_of p q k)))) (argument (b_field (head_at t (rule_of p q k)))) (constant_at t (rule_of p q k)))

unfoldable pub texts : List ℕ → List table.Frame → List ℕ
texts t [] = []
texts t (x ∷ xs) = text_of (shown t x) ++ texts t xs

-- 17.2, 21.1: the text of a table: the lines of its frames, one behind the other
unfoldable pub table_text : List ℕ → List ℕ
table_text t = texts t (table.frames t)
