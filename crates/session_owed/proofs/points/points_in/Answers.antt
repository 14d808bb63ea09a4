use Prim.Native.Nat.{◌+◌}
use native.Mathlib.Omega.{arith}
use borrow.Author.Rules.{rules}
use lib.ListN.{get_or}
use Rattle.session_owed.specs.Owed.{word_point}
use Rattle.session_owed.proofs.Words.{made_at, all_points}
use Rattle.session_owed.proofs.points.points_in.Goals as goal

pub returns : goal.returns
returns c =
    let os = c.args.part_owns.now in
    let made = c.from_fn.ensures.items in
    all_points os c.from_fn.result c.requires made.long (λ i l. made_at _ _ (λ j. word_point (get_or os (513 + j) 0)) (λ j x q k. search rules) c.from_fn.result 0 8 i (record { node = 0; count = 0 }) made.each (omega arith) l)
