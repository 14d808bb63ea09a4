-- By what is waited for and whether a line has begun. Assumes nothing.
use mathlib.Core.Path.{◌≡◌, sym, ◌∙◌}
use mathlib.Core.Bool.{true, false, true≢false}
use native.Mathlib.Omega.{arith}
use borrow.Author.Tests.{eq-eqb, ne_eqb}
use lib.Dec.{eqb}
use Rattle.text_frame.specs.Out.{refusal_text}
use Rattle.session_memory.proofs.Finishing.{begun_text, inside_text, outside_text, stopped_text, busy, ends, ends_silent}
use Rattle.session_memory.proofs.ending.finish.Goals as goal

pub returns-then-is_working : goal.returns-then-is_working
returns-then-is_working c = busy c.args.state c.args.out.now (sym c.is_working.ensures ∙ c.if-is_working.true)

pub returns-then-is_stopped : goal.returns-then-is_stopped
returns-then-is_stopped c =
    let s = c.args.state in
    ends_silent s c.args.out.now (sym c.is_working.ensures ∙ c.if-is_working.false) (stopped_text s.awaited s.begun s.line (c.is_stopped.ensures.yes c.if-is_stopped.true))

-- a line has begun
pub returns-then-state-gt0 : goal.returns-then-state-gt0
returns-then-state-gt0 c =
    let p = c.put_last in
    let s = c.args.state in
    let b : eqb s.begun 0 ≡ false = ne_eqb s.begun 0 (λ z. omega arith) in
    let f = sym c.is_working.ensures ∙ c.if-is_working.false in
    let t = begun_text s.awaited s.begun s.line f (λ z. true≢false (sym (c.is_stopped.ensures.no z) ∙ c.if-is_stopped.false)) b in
    ends s c.args.out.now f (refusal_text 13 s.line) t p.result p.new.out p.ensures.0 p.ensures.1

-- none has, inside the table or a command
pub returns-then-is_inside : goal.returns-then-is_inside
returns-then-is_inside c =
    let p = c.put_last-then-is_inside in
    let s = c.args.state in
    let b : eqb s.begun 0 ≡ true = eq-eqb s.begun 0 (omega arith) in
    let f = sym c.is_working.ensures ∙ c.if-is_working.false in
    let t = inside_text s.awaited s.begun s.line (sym c.is_inside.ensures ∙ c.if-is_inside.true) b in
    ends s c.args.out.now f (refusal_text 14 s.line) t p.result p.new.out p.ensures.0 p.ensures.1

-- none has, and no more is waited for
pub returns : goal.returns
returns c =
    let s = c.args.state in
    let b : eqb s.begun 0 ≡ true = eq-eqb s.begun 0 (omega arith) in
    ends_silent s c.args.out.now (sym c.is_working.ensures ∙ c.if-is_working.false) (outside_text s.awaited s.begun s.line (sym c.is_inside.ensures ∙ c.if-is_inside.false) b)
