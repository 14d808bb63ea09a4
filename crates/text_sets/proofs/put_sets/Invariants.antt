-- The invariant: what is left to store are the lines from slot x on. Assumes nothing.
use Rattle.std.proofs.Common.{◌≡◌, ◌+◌, ◌*◌, length, take}
use Rattle.std.proofs.lemmas.List.Edits.{sets as sets_at}
use Rattle.text_sets.specs.Telling.{told_from}
use Rattle.text_sets.proofs.Slots.{rest}
use Rattle.text_sets.proofs.put_sets.Given as goal

abbrev pub invariant-loop-x : goal.invariant-loop-x
invariant-loop-x l = record {
  behind : l.at + length (rest l.table (take l.nodes l.held) l.sets (8 * l.nodes) l.x) ≡ l.place + length (told_from l.table (take l.nodes l.held) l.sets 0 (8 * l.nodes));
  stored : sets_at l.fn.buffer l.place (told_from l.table (take l.nodes l.held) l.sets 0 (8 * l.nodes)) ≡ sets_at l.buffer l.at (rest l.table (take l.nodes l.held) l.sets (8 * l.nodes) l.x);
}
