-- The value of each operation: own is the left node's own set (3.3), a and b are the values of its arguments. Assumes nothing.
use Rattle.std.specs.Prelude.{◌≡◌, Bool, cond, ℕ, leb, eqb}
use Rattle.std.specs.Int.Bits.{bit_and, bit_or, bit_xor}
use Rattle.sets.specs.declared.Op.{Op}
use Rattle.sets.specs.declared.Op.TheVariants.{Constant, Own, JoinConstant, MeetConstant, Join, Meet, IfAll, IfMany, JoinOwn, Except}
use Rattle.sets.specs.declared.Equation.{Equation}
use Rattle.sets.specs.Members.{count_of}

-- 3.2: a has all of c, as operation 6 asks
abbrev pub within : ℕ → ℕ → Bool
within c a = eqb (bit_and c a) c

-- 3.2: a but for what it shares with b, as operation 9 gives it
abbrev pub without : ℕ → ℕ → ℕ
without a b = bit_xor a (bit_and a b)

-- 3.2, 3.5, 3.6: each operation's value, by the table there
unfoldable pub value_of : Op → ℕ → ℕ → ℕ → ℕ
value_of (Constant c) own a b = c
value_of Own own a b = own
value_of (JoinConstant _ c) own a b = bit_or a c
value_of (MeetConstant _ c) own a b = bit_and a c
value_of (Join _ _) own a b = bit_or a b
value_of (Meet _ _) own a b = bit_and a b
value_of (IfAll _ _ c) own a b = cond (within c a) b 0
value_of (IfMany _ _ c) own a b = cond (leb c (count_of a)) b 0
value_of (JoinOwn _) own a b = bit_or a own
value_of (Except _ _) own a b = without a b

-- 3.1: what `value` promises: of an equation, a node's own set and the values of its arguments, the equation's value
abbrev pub ValueSays : Equation → ℕ → ℕ → ℕ → ℕ → Type 0
ValueSays equation own a b v = v ≡ value_of equation.op own a b
