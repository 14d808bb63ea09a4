-- The table first. Assumes nothing.
use mathlib.Core.Path.{refl}
use Rattle.std.proofs.Common.{rules}
use Rattle.std.proofs.lemmas.Result.{MatchResult-weaker, err_from_is_err_and}
use lib.ListN.{length}
use Rattle.text_tree.proofs.Numbers.{named, passed}
use Rattle.text_tree.proofs.Planted.{table_sound, table_refused}
use Rattle.text_tree.proofs.grow.read_tree.Goals as goal

pub returns : goal.returns
returns c =
    let a = c.args in
    rw (table_sound a.table.now a.text.now a.place a.line (length a.productions.now) (length a.owns.now) (passed _ c.in_ok-map_err.ensures.variant c.judge_table.ensures)) c.read_judged.ensures

pub returns-in_err-map_err : goal.returns-in_err-map_err
returns-in_err-map_err c =
    let a = c.args in
    let p = err_from_is_err_and c.from_residual.result c.from_residual.ensures.1 in
    let k = named _ {line = a.line} (MatchResult-weaker c.judge_table.result c.in_err-map_err.ensures.cases (λ x p. p) (λ e p. search rules)) c.judge_table.ensures in
    rw (p.1, p.2, k.is) (rw (table_refused a.table.now a.text.now a.place a.line (length a.productions.now) (length a.owns.now) k.refusal k.by) (refl, (refl, refl)))
