-- The line has room, or it has not. Assumes nothing.
use native.Mathlib.Omega.{arith}
use Rattle.refusal.specs.Numbers.{number_of}
use Rattle.session_memory.proofs.Finishing.{put_short, put_whole}
use Rattle.session_memory.proofs.ending.put_last.Goals as goal

pub returns-then-out-lt-REFUSAL_LINE : goal.returns-then-out-lt-REFUSAL_LINE
returns-then-out-lt-REFUSAL_LINE c = put_short c.args.out.now (number_of c.args.refusal) c.args.line (omega arith)

pub returns : goal.returns
returns c =
    let p = c.put_refusal in
    put_whole c.args.out.now (number_of c.args.refusal) c.args.line (omega arith) p.result (omega (arith, p.ensures.0)) p.new.buffer p.ensures.1
