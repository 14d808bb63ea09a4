-- The nodes are spliced in memory of their own, and looked at there. Assumes nothing.
use Rattle.std.proofs.Common.{sym, ap, ◌∙◌, subst}
use Rattle.update_judge.proofs.Written.{spliced_there}
use Rattle.wire.specs.Inner.Turns.{Held}
use Rattle.wire.specs.Waivers.{waives}
use Rattle.update_judge.proofs.waivers.waives_then.Goals as goal

pub waives_wired-requires : goal.waives_wired-requires
waives_wired-requires c = subst (Held c.args.table.now) (sym (spliced_there c.args.cuts c.args.new.now c.args.tree.now _ _ _ c.splice-count.ensures.value c.splice-count.ensures.out_after)) c.requires.held

pub returns : goal.returns
returns c = c.waives_wired.ensures ∙ ap (waives c.args.table.now) (spliced_there c.args.cuts c.args.new.now c.args.tree.now _ _ _ c.splice-count.ensures.value c.splice-count.ensures.out_after)
