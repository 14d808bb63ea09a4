-- What is left of the walk gives the number of the whole. Assumes nothing.
use Rattle.std.proofs.Common.{◌≡◌, ℕ, ◌-◌, List}
use Rattle.text_table.specs.Read.{Sofar}
use Rattle.text_frame.specs.declared.Expected.{Expected}
use Rattle.session_memory.specs.Refusals.{walk_refusal, sofar_refusal}
use Rattle.session_memory.proofs.fitting.judge_so_far.Given as goal

-- the walk stands at x, and n frames are left to it
pub record Stands (t : List ℕ) (y x : Expected) (n : ℕ) : Type 0 where
  pub so : Sofar t x
  pub same : sofar_refusal t y ≡ walk_refusal n t x y

abbrev pub invariant-loop : goal.invariant-loop
invariant-loop l = Stands l.table l.expected l.x (2657 - l.counter)
