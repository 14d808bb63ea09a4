-- One frame more, a stop, and the end. Assumes nothing.
use native.Mathlib.Omega.{arith}
use mathlib.Core.Path.{◌≡◌, refl, ap, sym, ◌∙◌}
use mathlib.Core.Bool.{true, false}
use Prim.Native.Nat.{ℕ, ◌≤◌}
use lib.ListN.{length}
use Rattle.refusal.specs.declared.Refusal.TheVariants as why
use Rattle.text_frame.specs.Walk.{is_on}
use Rattle.text_table.specs.Read.{taken_at}
use Rattle.text_table.specs.Reading.{done, stop, read_on, reading_at}
use Rattle.std.proofs.Common.{Ok, Err}
use Rattle.std.proofs.lemmas.Result.{err_from_is_err_and}
use Rattle.text_table.proofs.Sofar.{goes, awaits_so}
use Rattle.text_table.proofs.Readings.{words_length, reading_starts, read_out, read_goes, read_stops, read_ends}
use Rattle.text_table.proofs.whole.read_words.Goals as goal

pub returns-then-left-eq0 : goal.returns-then-left-eq0
returns-then-left-eq0 c =
    let l = c.loop-x in
    let a = c.args in
    let s = a.text.now in
    let on : is_on l.x ≡ true = sym c.is_on.ensures ∙ c.loop-x-test.true in
    let go : reading_at s a.place a.line ≡ read_on l.left l.words l.x s l.at l.l = reading_starts s a.words.now a.place a.line c.requires ∙ l.invariant.1.1 in
    let z : l.left ≡ 0 = omega arith in
    let e : reading_at s a.place a.line ≡ stop why.Frame l.l = go ∙ ap (λ (m : ℕ). read_on m l.words l.x s l.at l.l) z ∙ read_out s l.words l.x l.at l.l on in
    (l.invariant.0, rw e refl)

pub take_frame-requires : goal.take_frame-requires
take_frame-requires c = let l = c.loop-x in (l.invariant.0, awaits_so l.words l.x l.invariant.1.0)

pub loop-x-preserved : goal.loop-x-preserved
loop-x-preserved c =
    let l = c.loop-x in
    let a = c.args in
    let s = a.text.now in
    let on : is_on l.x ≡ true = sym c.is_on.ensures ∙ c.loop-x-test.true in
    let k : 1 ≤ l.left = omega arith in
    let n = c.next_at-step in
    let f = c.take_frame in
    let y = c.in_ok-x.x in
    let e : taken_at l.words l.x n.result.frame l.l ≡ Ok y = sym f.ensures.0 ∙ c.in_ok-x.was in
    rw f.ensures.1 (
      words_length l.words l.x n.result.frame ∙ l.invariant.0,
      (
        goes l.words l.x n.result.frame l.l y l.invariant.1.0 e,
        l.invariant.1.1 ∙ read_goes s l.words l.x l.at l.l on l.left k n.result n.ensures y e,
      ),
    )

pub returns-in_err-x : goal.returns-in_err-x
returns-in_err-x c =
    let l = c.loop-x in
    let a = c.args in
    let s = a.text.now in
    let on : is_on l.x ≡ true = sym c.is_on.ensures ∙ c.loop-x-test.true in
    let go : reading_at s a.place a.line ≡ read_on l.left l.words l.x s l.at l.l = reading_starts s a.words.now a.place a.line c.requires ∙ l.invariant.1.1 in
    let k : 1 ≤ l.left = omega arith in
    let n = c.next_at-step in
    let f = c.take_frame in
    let y = c.in_err-x.field-0.0 in
    let p = err_from_is_err_and c.from_residual.result c.from_residual.ensures.1 in
    let e : taken_at l.words l.x n.result.frame l.l ≡ Err y = sym f.ensures.0 ∙ c.in_err-x.was in
    let d : reading_at s a.place a.line ≡ stop y.refusal y.line = go ∙ read_stops s l.words l.x l.at l.l on l.left k n.result n.ensures y.refusal y.line e in
    (ap length f.ensures.1 ∙ words_length l.words l.x n.result.frame ∙ l.invariant.0, rw d (p.1 ∙ ap Err p.2))

pub returns : goal.returns
returns c =
    let l = c.loop-x in
    let a = c.args in
    let s = a.text.now in
    let on : is_on l.x ≡ false = sym c.is_on.ensures ∙ c.loop-x-test.false in
    let go : reading_at s a.place a.line ≡ read_on l.left l.words l.x s l.at l.l = reading_starts s a.words.now a.place a.line c.requires ∙ l.invariant.1.1 in
    let e : reading_at s a.place a.line ≡ done l.words l.at l.l = go ∙ read_ends l.left s l.words l.x l.at l.l on in
    (l.invariant.0, rw e (refl, refl))
