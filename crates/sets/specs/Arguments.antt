-- What an operation reads, and its value where each argument has a value. Assumes nothing.
use Rattle.std.specs.Prelude.{List, [], ◌∷◌, map, ℕ, get_or}
use Rattle.sets.specs.declared.Argument.{Argument}
use Rattle.sets.specs.declared.Op.{Op}
use Rattle.sets.specs.declared.Op.TheVariants.{Constant, Own, JoinConstant, MeetConstant, Join, Meet, IfAll, IfMany, JoinOwn, Except}
use Rattle.sets.specs.Operations.{value_of}

-- 3.2: the arguments that an operation uses, a before b
unfoldable pub arguments_of : Op → List Argument
arguments_of (Constant c) = []
arguments_of Own = []
arguments_of (JoinConstant a c) = a ∷ []
arguments_of (MeetConstant a c) = a ∷ []
arguments_of (Join a b) = a ∷ b ∷ []
arguments_of (Meet a b) = a ∷ b ∷ []
arguments_of (IfAll a b c) = a ∷ b ∷ []
arguments_of (IfMany a b c) = a ∷ b ∷ []
arguments_of (JoinOwn a) = a ∷ []
arguments_of (Except a b) = a ∷ b ∷ []

-- 3.7: the arguments that an operation waives, by which it may lose when they gain: operation 9 its b, and no other any
unfoldable pub waived_of : Op → List Argument
waived_of (Constant c) = []
waived_of Own = []
waived_of (JoinConstant a c) = []
waived_of (MeetConstant a c) = []
waived_of (Join a b) = []
waived_of (Meet a b) = []
waived_of (IfAll a b c) = []
waived_of (IfMany a b c) = []
waived_of (JoinOwn a) = []
waived_of (Except a b) = b ∷ []

-- 3.9: an operation's value from those of its arguments, in their order; a value that is missing counts as empty
abbrev pub value_from : Op → ℕ → List ℕ → ℕ
value_from op own values = value_of op own (get_or values 0 0) (get_or values 1 0)

-- 3.9: the same, where argument x has the value f x
abbrev pub value_at : Op → ℕ → (Argument → ℕ) → ℕ
value_at op own f = value_from op own (map f (arguments_of op))
