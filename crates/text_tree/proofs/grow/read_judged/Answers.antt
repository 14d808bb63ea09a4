-- All lines, then the other numbers; only then the copy. Assumes nothing.
use Rattle.std.proofs.Common.{refl, sym, length, replicate, arith, rules}
use Rattle.std.proofs.lemmas.Result.{MatchResult-weaker, err_from_is_err_and}
use Rattle.text_tree.specs.Planting.{tree_at}
use Rattle.text_tree.proofs.Numbers.{named, passed}
use Rattle.text_tree.proofs.Planted.{roomed, found, read_refused, read_said}
use Rattle.text_tree.proofs.grow.read_judged.Goals as goal

pub copy_front-requires : goal.copy_front-requires
copy_front-requires c =
    let a = c.args in
    let k = roomed a.table.now c.read_lines.new.productions c.in_ok-read.read.count (length a.productions.now) (length a.owns.now) (passed _ c.in_ok-map_err.ensures.variant c.judge_read.ensures) in
    (omega (arith, k.few), omega (arith, k.first))

pub copy_front-requires-2 : goal.copy_front-requires-2
copy_front-requires-2 c =
    let a = c.args in
    let k = roomed a.table.now c.read_lines.new.productions c.in_ok-read.read.count (length a.productions.now) (length a.owns.now) (passed _ c.in_ok-map_err.ensures.variant c.judge_read.ensures) in
    (omega (arith, k.few), omega (arith, k.second))

pub returns : goal.returns
returns c =
    let a = c.args in
    let r = c.read_lines in
    let k = c.in_ok-read.read in
    read_said a.table.now a.text.now a.place a.line (replicate 512 0) (replicate 512 0) refl refl r.new.productions r.new.owns r.ensures.1 k.count k.place k.line (found (tree_at a.text.now a.place a.line) k.count k.place k.line (sym c.in_ok-read.ensures.0)) (length a.productions.now) (length a.owns.now) (sym (passed _ c.in_ok-map_err.ensures.variant c.judge_read.ensures)) a.productions.now a.owns.now _ _ c.copy_front.ensures c.copy_front-2.ensures

pub returns-in_err-map_err : goal.returns-in_err-map_err
returns-in_err-map_err c =
    let a = c.args in
    let r = c.read_lines in
    let k = c.in_ok-read.read in
    let p = err_from_is_err_and c.from_residual-in_err-map_err.result c.from_residual-in_err-map_err.ensures.1 in
    let e = named _ {line = a.line} (MatchResult-weaker c.judge_read.result c.in_err-map_err.ensures.cases (λ x p. p) (λ e p. search rules)) c.judge_read.ensures in
    rw (p.1, p.2, e.is)
    (rw (read_refused a.table.now a.text.now a.place a.line (replicate 512 0) (replicate 512 0) refl refl r.new.productions r.new.owns r.ensures.1 k.count k.place k.line (found (tree_at a.text.now a.place a.line) k.count k.place k.line (sym c.in_ok-read.ensures.0)) (length a.productions.now) (length a.owns.now) e.refusal e.by)
    (refl, (refl, refl)))
