-- From the last digit to the first: what is left to store are the first digits of what is left of the number. Assumes nothing.
use Rattle.std.proofs.Common.{◌≡◌}
use Rattle.std.proofs.lemmas.List.Edits.{sets}
use Rattle.text_line.specs.Hex.{hex_digits}
use Rattle.text_line.proofs.put_hex.Given as goal

abbrev pub invariant-loop-i : goal.invariant-loop-i
invariant-loop-i l = sets l.initial.buffer l.place (hex_digits l.width l.v) ≡ sets l.buffer l.place (hex_digits l.i l.x)
