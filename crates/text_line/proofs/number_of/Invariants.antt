-- The invariant: the value so far is the number of the digits passed. Assumes nothing.
use Rattle.std.proofs.Common.{◌≡◌, ◌<◌, ◌+◌, ◌^◌, ℕ, List, get_or}
use Rattle.text_line.specs.Hex.{num_at}
use Rattle.text_line.proofs.number_of.Given as goal

abbrev pub invariant-loop-i : goal.invariant-loop-i
invariant-loop-i g l = record {
  small : l.v < 16 ^ l.i;
  value : (s : List ℕ) (place : ℕ) → ((i b : ℕ) → i < l.width → goal.F-post g l.byte i b → b ≡ get_or s (place + i) 0) → l.v ≡ num_at l.i s place;
}
