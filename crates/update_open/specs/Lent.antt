-- What a load or a replacement leaves as one value: the contracts equate it with the call's definition. Assumes nothing.
use Rattle.std.specs.Prelude.{◌≡◌, List, ℕ, Result, Ok, Err}
use Rattle.refusal.specs.Numbers.{number_of}
use Rattle.refusal.specs.declared.Refusal.{Refusal}
use Rattle.tree.specs.declared.Places.{Places}
use Rattle.tree.specs.Handed.{named_points, handed_row}
use Rattle.update.specs.declared.Record.{Record}
use Rattle.update.specs.Memories.{Memory}
use Rattle.update.specs.Calls.{Said, refused, said, Left, Opened, is_open, load_call, points_call, replace_call}

-- 8.5, 23.10: the number and the values of each answer of a load or a replacement
abbrev pub opened_says : Result Record Refusal → Said Opened
opened_says (Ok next) = said is_open
opened_says (Err r) = refused (number_of r)

-- 8.5, 15.1: the record to go on with: the one that the update opened with, or the caller's own where it is refused
abbrev pub record_after : Record → Result Record Refusal → Record
record_after r (Ok next) = next
record_after r (Err e) = r

-- 8.5: the answer of a load or a replacement over the record r and the record to go on with, with the memory that it left
abbrev pub begun : Record → Result Record Refusal → Memory → Left (Said Opened)
begun r a m = record { answer = opened_says a; next = record_after r a; memory = m }

-- 8.1, 8.3, 23.9: what a load of the nodes ns and the own sets owns promises, over the table t, the memory m and the record r:
-- its answer, the record and the memory together are the call's definition
abbrev pub LoadLeaves : List ℕ → Memory → Record → List ℕ → List ℕ → Result Record Refusal → Memory → Type 0
LoadLeaves t m r ns owns answer m' = begun r answer m' ≡ load_call t m r ns owns

-- 9.2, 9.10, 23.9: and a replacement at points, whose parts are handed in one behind the other
abbrev pub PointsLeave : List ℕ → Memory → Record → Places → List ℕ → List ℕ → Result Record Refusal → Memory → Type 0
PointsLeave t m r points new new_owns answer m' = begun r answer m' ≡ points_call t m r (handed_row (named_points points) new new_owns)

-- 9.12, 23.9: and at one point
abbrev pub ReplaceLeaves : List ℕ → Memory → Record → ℕ → List ℕ → List ℕ → Result Record Refusal → Memory → Type 0
ReplaceLeaves t m r point new new_owns answer m' = begun r answer m' ≡ replace_call t m r point new new_owns
