-- The equation that a rule's head and constant stand for. Assumes nothing.
-- 2.11: the head is op · 2³² + a position · 2²⁴ + a index · 2¹⁶ + b position · 2⁸ + b index.
use Rattle.std.specs.Prelude.{ℕ, ◌/◌, ◌%◌, Bool, not, ◌&&◌, ◌||◌, List, [], ◌∷◌, leb, ltb, eqb, get_or}
use Rattle.sets.specs.declared.Argument.{Argument}
use Rattle.sets.specs.declared.Equation.{Equation}
use Rattle.sets.specs.declared.Op.{Op}
use Rattle.sets.specs.declared.Op.TheVariants.{Constant, Own, JoinConstant, MeetConstant, Join, Meet, IfAll, IfMany, JoinOwn, Except}
use Rattle.table.specs.Words.{head_at, constant_at}

-- 2.11: the operation's number, and the two arguments as one number each
unfoldable pub op_number : ℕ → ℕ
op_number h = h / 4294967296

unfoldable pub a_field : ℕ → ℕ
a_field h = h / 65536 % 65536

unfoldable pub b_field : ℕ → ℕ
b_field h = h % 65536

unfoldable pub argument : ℕ → Argument
argument x = record { position = x / 256; index = x % 256 }

-- 3.1, 3.2: the operations by number, each with those of a, b and c that it uses
abbrev pub operations : ℕ → ℕ → List Op
operations h c =
    let a = argument (a_field h) in
    let b = argument (b_field h) in
    Constant c ∷ Own ∷ JoinConstant a c ∷ MeetConstant a c ∷ Join a b ∷ Meet a b ∷ IfAll a b c ∷ IfMany a b c ∷ JoinOwn a ∷ Except a b ∷ []

-- 3.1: the operation of a head and a constant
unfoldable pub op_of : ℕ → ℕ → Op
op_of h c = get_or (operations h c) (op_number h) (Constant c)

-- 3.1: the equation of a rule
unfoldable pub equation_at : List ℕ → ℕ → Equation
equation_at t rule = record { op = op_of (head_at t rule) (constant_at t rule) }

-- 3.2: which of the three an operation uses
unfoldable pub uses_a : ℕ → Bool
uses_a op = leb 2 op && leb op 9

unfoldable pub uses_b : ℕ → Bool
uses_b op = leb 4 op && leb op 7 || eqb op 9

unfoldable pub uses_c : ℕ → Bool
uses_c op = eqb op 0 || eqb op 2 || eqb op 3 || eqb op 6 || eqb op 7

-- 14.4: an operation that there is not, a field in vain, or an operation 7 whose c no count comes to
unfoldable pub misformed : ℕ → ℕ → Bool
misformed h c =
    ltb 9 (op_number h)
    || not (uses_a (op_number h)) && ltb 0 (a_field h)
    || not (uses_b (op_number h)) && ltb 0 (b_field h)
    || not (uses_c (op_number h)) && ltb 0 c
    || eqb (op_number h) 7 && ltb 56 c
