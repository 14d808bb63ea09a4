-- Another type stops; the expected one is stored and judged. Assumes nothing.
use mathlib.Core.Path.{ap, ◌∙◌}
use Rattle.text_frame.specs.declared.Frame.TheVariants.{Rule}
use Rattle.text_frame.specs.declared.Expected.TheVariants.{AtHeader}
use Rattle.std.proofs.Common.{Err, rules}
use Rattle.std.proofs.lemmas.Result.{MatchResult-weaker, err_from_is_err_and}
use Rattle.text_tree.proofs.Numbers.{named, passed}
use Rattle.text_table.proofs.Taking.{no_header, other_taken, other_words, sound_rule, refused_rule, header_stored}
use Rattle.text_table.proofs.read.take_header.Goals as goal

pub returns-in_default : goal.returns-in_default
returns-in_default c =
    let a = c.args in
    let e = no_header a.rule c.in_default.not-Header in
    (ap Err c.misplaced.ensures ∙ other_taken a.table.now AtHeader (Rule a.rule) a.line e, other_words a.table.now AtHeader (Rule a.rule) a.line e)

pub returns : goal.returns
returns c =
    let a = c.args in
    let g = c.in-Header in
    sound_rule a.line (header_stored a.table.now g.symbols g.productions g.is c.join.ensures) (passed _ c.in_ok-map_err.ensures.variant c.judge_header.ensures) c.next_of.ensures

pub returns-in_err-map_err : goal.returns-in_err-map_err
returns-in_err-map_err c =
    let a = c.args in
    let g = c.in-Header in
    let p = err_from_is_err_and c.from_residual.result c.from_residual.ensures.1 in
    rw (p.1, p.2)
    (refused_rule a.line (header_stored a.table.now g.symbols g.productions g.is c.join.ensures) (named _ (MatchResult-weaker c.judge_header.result c.in_err-map_err.ensures.cases (λ x p. p) (λ e p. search rules)) c.judge_header.ensures))
