-- The invariant: what is left to store are the lines of the nodes that are left. Assumes nothing.
use Rattle.std.proofs.Common.{◌≡◌, ◌+◌, ◌*◌, length}
use Rattle.std.proofs.lemmas.List.Edits.{sets}
use Rattle.text_tree.specs.Text.{nodes_text}
use Rattle.text_tree.proofs.plant.put_tree.Given as goal

abbrev pub invariant-loop-production : goal.invariant-loop-production
invariant-loop-production l = record {
  even : length l.production-iterator.a.rest.now ≡ length l.production-iterator.b.rest.now;
  behind : l.place + 21 * length l.production-iterator.a.rest.now ≡ 7 + 21 * length l.productions;
  stored : sets l.initial.buffer 7 (nodes_text l.productions l.owns) ≡ sets l.buffer l.place (nodes_text l.production-iterator.a.rest.now l.production-iterator.b.rest.now);
}
