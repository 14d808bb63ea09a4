-- Chapter 14: the number of each refusal. Assumes nothing.
use Rattle.std.specs.Prelude.{◌≡◌, ℕ, Result, Ok, Err}
use Rattle.refusal.specs.declared.Refusal.{Refusal}
use Rattle.refusal.specs.declared.Refusal.TheVariants.{Count, Symbol, Start, Form, Argument, Production, Shape, Size, Point, Busy, Fields, Undeclared, Line, Frame, Buffer, Absent, Idle, Waiver, Points, Overlap}

abbrev pub number_of : Refusal → ℕ
number_of Count = 1
number_of Symbol = 2
number_of Start = 3
number_of Form = 4
number_of Argument = 5
number_of Production = 6
number_of Shape = 7
number_of Size = 8
number_of Point = 9
number_of Busy = 10
number_of Fields = 11
number_of Undeclared = 12
number_of Line = 13
number_of Frame = 14
number_of Buffer = 15
number_of Absent = 16
number_of Idle = 17
number_of Waiver = 21
number_of Points = 22
number_of Overlap = 23

-- 23.10: the number of what a call answers, 0 where nothing is refused
abbrev pub verdict_of : {A : Type 0} → Result A Refusal → ℕ
verdict_of (Ok a) = 0
verdict_of (Err r) = number_of r

-- ---- what `number` promises: of a refusal, its number
abbrev pub NumberSays : Refusal → ℕ → Type 0
NumberSays refusal a = a ≡ number_of refusal
