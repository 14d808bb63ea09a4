-- Another type stops; the expected one is stored and judged. Assumes nothing.
use native.Mathlib.Omega.{arith}
use mathlib.Core.Path.{ap, ◌∙◌}
use Prim.Native.Nat.{◌+◌, ◌*◌}
use lib.ListN.{set}
use Rattle.text_frame.specs.declared.Frame.TheVariants.{Rule}
use Rattle.text_frame.specs.declared.Expected.TheVariants.{AtEquation}
use Rattle.std.proofs.Common.{Err, rules}
use Rattle.std.proofs.lemmas.Result.{MatchResult-weaker, err_from_is_err_and}
use Rattle.text_tree.proofs.Numbers.{named, passed}
use Rattle.text_table.proofs.Taking.{no_equation, other_taken, other_words, sound_rule, refused_rule, equation_stored, low_kept, shaped_kept, count_kept}
use Rattle.text_table.proofs.read.take_equation.Goals as goal

pub returns-in_default : goal.returns-in_default
returns-in_default c =
    let a = c.args in
    let e = no_equation a.rule c.in_default.not-Equation in
    (ap Err c.misplaced.ensures ∙ other_taken a.table.now (AtEquation a.p a.q a.k) (Rule a.rule) a.line e, other_words a.table.now (AtEquation a.p a.q a.k) (Rule a.rule) a.line e)

pub judge_equation-requires-clause-shaped : goal.judge_equation-requires-clause-shaped
judge_equation-requires-clause-shaped c =
    let a = c.args in
    let s = c.requires.1 in
    let m = 2 * (20 * a.p + (4 * a.q + a.k)) in
    let k = low_kept a.table.now m c.join-2.result c.in-Equation.c in
    let u = set (set a.table.now (97 + m) c.join-2.result) (98 + m) c.in-Equation.c in
    shaped_kept a.table.now u a.p s.0 k s.1.0

pub next_of-requires : goal.next_of-requires
next_of-requires c =
    let a = c.args in
    let s = c.requires.1 in
    let m = 2 * (20 * a.p + (4 * a.q + a.k)) in
    let k = low_kept a.table.now m c.join-2.result c.in-Equation.c in
    let u = set (set a.table.now (97 + m) c.join-2.result) (98 + m) c.in-Equation.c in
    let n = count_kept a.table.now u a.p s.0 k in
    (s.0, (shaped_kept a.table.now u a.p s.0 k s.1.0, (omega (arith, s.1.1), s.1.1.1)))

pub returns : goal.returns
returns c =
    let a = c.args in
    let g = c.in-Equation in
    sound_rule a.line (equation_stored a.table.now a.p a.q a.k g.op g.a g.b g.c g.is c.from.ensures c.join.ensures c.join-2.ensures) (passed _ c.in_ok-map_err.ensures.variant c.judge_equation.ensures) c.next_of.ensures

pub returns-in_err-map_err : goal.returns-in_err-map_err
returns-in_err-map_err c =
    let a = c.args in
    let g = c.in-Equation in
    let p = err_from_is_err_and c.from_residual.result c.from_residual.ensures.1 in
    rw (p.1, p.2)
    (refused_rule a.line (equation_stored a.table.now a.p a.q a.k g.op g.a g.b g.c g.is c.from.ensures c.join.ensures c.join-2.ensures) (named _ (MatchResult-weaker c.judge_equation.result c.in_err-map_err.ensures.cases (λ x p. p) (λ e p. search rules)) c.judge_equation.ensures))
