-- A frame of another kind, and one behind the end. Assumes nothing.
use mathlib.Core.Path.{ap, sym, ◌∙◌}
use Rattle.std.proofs.Common.{Err}
use Rattle.text_table.proofs.Taking.{no_type, no_rule, never_ended, other_taken, other_words}
use Rattle.text_frame.specs.Text.{type_of}
use Rattle.text_table.specs.Read.{strange_at}
use Rattle.text_frame.specs.declared.Frame.{Frame}
use Rattle.text_frame.specs.declared.Expected.TheVariants.{Ended}
use Rattle.text_table.proofs.read.take_frame.Goals as goal

pub returns-in_default : goal.returns-in_default
returns-in_default c =
    let a = c.args in
    let e = no_type a.expected (type_of a.frame) (no_rule a.frame c.in_default.not-Rule) in
    (ap Err c.strange.ensures ∙ other_taken a.table.now a.expected a.frame a.line e, other_words a.table.now a.expected a.frame a.line e)

pub returns-in-Ended : goal.returns-in-Ended
returns-in-Ended c =
    let a = c.args in
    let e = never_ended a.frame in
    rw c.in-Ended.is (ap Err c.misplaced.ensures ∙ ap (λ (f : Frame). Err (strange_at f a.line)) (sym c.in-Rule.is) ∙ other_taken a.table.now Ended a.frame a.line e, other_words a.table.now Ended a.frame a.line e)
