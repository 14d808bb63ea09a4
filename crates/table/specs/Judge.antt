-- The judgement of a table, by its frames one after the other. Assumes nothing.
use Rattle.std.specs.Prelude.{ℕ, suc, ◌/◌, ◌%◌, ◌≡◌, Bool, false, not, ◌&&◌, ◌||◌, List, [], ◌∷◌, ◌++◌, leb, ltb, eqb, Result}
use Rattle.refusal.specs.Numbers.{verdict_of}
use Rattle.refusal.specs.Orders.{Check, judged}
use Rattle.refusal.specs.declared.Refusal.{Refusal}
use Rattle.table.specs.First.{first, row, some_below, lowest}
use Rattle.table.specs.Words.{symbol_count, production_count, synthesized, inherited, child_count, symbol_at, defined, occurs, rule_of, head_at, constant_at}
use Rattle.table.specs.Equations.{op_number, a_field, b_field, uses_a, uses_b, misformed}

-- 17.2: the header, symbol s, production p, and of production p the equation k of position q
pub data Frame : Type 0 where
  header : Frame
  symbol : ℕ → Frame
  production : ℕ → Frame
  equation : ℕ → ℕ → ℕ → Frame

-- 2.5, 17.2: a production's frame, then its equations: each position's in a row, the left symbol's first
unfoldable pub part_of : List ℕ → ℕ → List Frame
part_of t p = production p ∷ row (λ (q : ℕ). row (λ (k : ℕ). equation p q k ∷ []) (defined t p q)) (suc (child_count t p))

-- 17.2: the header, the symbols, and the productions each with its equations
unfoldable pub frames : List ℕ → List Frame
frames t = header ∷ (row (λ (s : ℕ). symbol s ∷ []) (symbol_count t) ++ row (part_of t) (production_count t))

abbrev pub outside : ℕ → ℕ → ℕ → Bool
outside low high n = ltb n low || ltb high n

-- 14.1: a count out of bounds, at the header, a symbol or a production
abbrev pub count_wrong : List ℕ → Frame → Bool
count_wrong t header = outside 1 32 (symbol_count t) || outside 1 64 (production_count t)
count_wrong t (symbol s) = ltb 4 (synthesized t s) || ltb 4 (inherited t s)
count_wrong t (production p) = ltb 4 (child_count t p)
count_wrong t (equation p q k) = false

-- 14.2: one of a production's symbols doesn't exist
abbrev pub foreign_at : List ℕ → ℕ → ℕ → Bool
foreign_at t p q = leb (symbol_count t) (symbol_at t p q)

-- 14.2: that is so at the left symbol or at a child
abbrev pub symbol_wrong : List ℕ → Frame → Bool
symbol_wrong t header = false
symbol_wrong t (symbol s) = false
symbol_wrong t (production p) = some_below (foreign_at t p) (suc (child_count t p))
symbol_wrong t (equation p q k) = false

-- 14.3: symbol 0 inherits something
abbrev pub start_wrong : List ℕ → Frame → Bool
start_wrong t header = false
start_wrong t (symbol s) = eqb s 0 && ltb 0 (inherited t s)
start_wrong t (production p) = false
start_wrong t (equation p q k) = false

-- 14.4: an equation isn't well formed
abbrev pub form_wrong : List ℕ → Frame → Bool
form_wrong t header = false
form_wrong t (symbol s) = false
form_wrong t (production p) = false
form_wrong t (equation p q k) = misformed (head_at t (rule_of p q k)) (constant_at t (rule_of p q k))

-- 14.5: an argument that is used, but is nowhere declared
unfoldable pub misnamed : List ℕ → ℕ → Bool → ℕ → Bool
misnamed t p used x = used && not (occurs t p (x / 256) (x % 256))

-- 14.5: that is so of a or of b
abbrev pub argument_wrong : List ℕ → Frame → Bool
argument_wrong t header = false
argument_wrong t (symbol s) = false
argument_wrong t (production p) = false
argument_wrong t (equation p q k) =
    misnamed t p (uses_a (op_number (head_at t (rule_of p q k)))) (a_field (head_at t (rule_of p q k))) || misnamed t p (uses_b (op_number (head_at t (rule_of p q k)))) (b_field (head_at t (rule_of p q k)))

-- 14.1 to 14.5: which of them hold at a frame
abbrev pub conditions : List ℕ → Frame → List Bool
conditions t x = count_wrong t x ∷ symbol_wrong t x ∷ start_wrong t x ∷ form_wrong t x ∷ argument_wrong t x ∷ []

-- 15.3: the refusal number of a frame, the lowest that holds, and 0 where none does
unfoldable pub refusal_at : List ℕ → Frame → ℕ
refusal_at t x = lowest 1 (conditions t x)

-- 15.3: the refusal number of a table, that of the first frame which has one, and 0 where it is sound
unfoldable pub judge_table : List ℕ → ℕ
judge_table t = first (refusal_at t) (frames t)

-- as an entry of an order of refusals: 1 to 5
abbrev pub table_check : List ℕ → Check
table_check t = judged 1 5 (judge_table t)

-- 15.11: what `judge_table` promises: a verdict whose number is the table's
abbrev pub JudgeTableSays : List ℕ → Result (Unit {0}) Refusal → Type 0
JudgeTableSays t a = verdict_of a ≡ judge_table t
