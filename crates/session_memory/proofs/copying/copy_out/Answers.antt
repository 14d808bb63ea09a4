-- `copy_out`: the words are as many as a table's. Assumes nothing.
use Rattle.std.proofs.Common.{arith, length-take}
use Rattle.session_memory.proofs.copying.copy_out.Goals as goal

pub copy_from_slice-requires : goal.copy_from_slice-requires
copy_from_slice-requires c = omega (arith, length-take 2657 c.args.words.now)
