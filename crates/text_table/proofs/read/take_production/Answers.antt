-- Another type stops; the expected one is stored and judged. Assumes nothing.
use mathlib.Core.Path.{ap, ◌∙◌}
use Rattle.text_frame.specs.declared.Frame.TheVariants.{Rule}
use Rattle.text_frame.specs.declared.Expected.TheVariants.{AtProduction}
use Rattle.std.proofs.Common.{Err, rules}
use Rattle.std.proofs.lemmas.Result.{MatchResult-weaker, err_from_is_err_and}
use Rattle.text_tree.proofs.Numbers.{named, passed}
use Rattle.text_table.proofs.Taking.{no_production, other_taken, other_words, sound_rule, refused_rule, production_stored, shaped_now}
use Rattle.text_table.proofs.read.take_production.Goals as goal

pub returns-in_default : goal.returns-in_default
returns-in_default c =
    let a = c.args in
    let e = no_production a.rule c.in_default.not-Production in
    (ap Err c.misplaced.ensures ∙ other_taken a.table.now (AtProduction a.p) (Rule a.rule) a.line e, other_words a.table.now (AtProduction a.p) (Rule a.rule) a.line e)

pub next_of-requires : goal.next_of-requires
next_of-requires c = (c.requires.1.0, shaped_now c.args.table.now c.args.p c.join-3.result c.requires.1.1 (passed _ c.in_ok-map_err.ensures.variant c.judge_production.ensures))

pub returns : goal.returns
returns c =
    let a = c.args in
    let g = c.in-Production in
    sound_rule a.line (production_stored a.table.now a.p g.left g.count g.children g.is c.join.ensures c.join-2.ensures c.join-3.ensures) (passed _ c.in_ok-map_err.ensures.variant c.judge_production.ensures) c.next_of.ensures

pub returns-in_err-map_err : goal.returns-in_err-map_err
returns-in_err-map_err c =
    let a = c.args in
    let g = c.in-Production in
    let p = err_from_is_err_and c.from_residual.result c.from_residual.ensures.1 in
    rw (p.1, p.2)
    (refused_rule a.line (production_stored a.table.now a.p g.left g.count g.children g.is c.join.ensures c.join-2.ensures c.join-3.ensures) (named _ (MatchResult-weaker c.judge_production.result c.in_err-map_err.ensures.cases (λ x p. p) (λ e p. search rules)) c.judge_production.ensures))
