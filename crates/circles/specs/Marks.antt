-- How many slots have a place in the arrays, and their marks, which no slot has. Assumes nothing.
use Rattle.std.specs.Prelude.{ℕ}

abbrev pub slots_most : ℕ
slots_most = 4096

-- where an argument or a label is none
abbrev pub no_slot : ℕ
no_slot = 65535

-- for the arguments of a slot that is not declared
abbrev pub not_declared : ℕ
not_declared = 65534
