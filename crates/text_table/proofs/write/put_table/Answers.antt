-- One frame more is stored, and the end. Assumes nothing.
use native.Mathlib.Omega.{arith}
use mathlib.Core.Path.{◌≡◌, refl, ap, sym, ◌∙◌}
use mathlib.Core.List.{[]}
use lib.ListN.{length}
use lib.Seq.{sets, length-sets}
use Rattle.text_frame.specs.Walk.{next_of}
use Rattle.text_table.specs.Inner.Putting.{text_at}
use Rattle.text_table.proofs.Writing.{rest_text, ready_of, shows_of, still_valid, rest_less, rest_length, stored_next, rest_none, rest_all}
use Rattle.text_table.proofs.write.put_table.Goals as goal

pub loop-x-init : goal.loop-x-init
loop-x-init c = (tt, (refl, (ap (sets c.args.buffer.now 0) (sym (rest_all c.args.table.now)), omega (arith, ap length (rest_all c.args.table.now)))))

pub put_frame-place-requires : goal.put_frame-place-requires
put_frame-place-requires c =
    let l = c.loop-x in
    let t = c.args.table.now in
    (ready_of t c.requires.0 l.x l.invariant.0, (shows_of t c.requires.0 l.x l.invariant.0, omega (arith, c.requires.1, l.invariant.1.0, l.invariant.1.1.1, rest_length t l.x l.invariant.0)))

pub next_of-x-requires : goal.next_of-x-requires
next_of-x-requires c = ready_of c.args.table.now c.requires.0 c.loop-x.x c.loop-x.invariant.0

pub loop-x-smaller : goal.loop-x-smaller
loop-x-smaller c = rw c.next_of-x.ensures (rest_less c.args.table.now c.loop-x.x c.loop-x.invariant.0 (sym c.is_on.ensures ∙ c.loop-x-test.true))

pub loop-x-preserved : goal.loop-x-preserved
loop-x-preserved c =
    let l = c.loop-x in
    let t = c.args.table.now in
    let f = c.put_frame-place in
    rw c.next_of-x.ensures (
      still_valid t c.requires.0 l.x l.invariant.0,
      (
        ap length f.ensures.1 ∙ length-sets l.buffer l.place (text_at t l.x) ∙ l.invariant.1.0,
        (
          l.invariant.1.1.0 ∙ stored_next t l.x l.invariant.0 l.buffer l.place ∙ sym (λ i. sets (f.ensures.1 i) (f.ensures.0 i) (rest_text t (next_of t l.x))),
          omega (arith, f.ensures.0, l.invariant.1.1.1, rest_length t l.x l.invariant.0),
        ),
      ),
    )

pub returns : goal.returns
returns c =
    let l = c.loop-x in
    let t = c.args.table.now in
    let e : rest_text t l.x ≡ [] = rest_none t l.x (sym c.is_on.ensures ∙ c.loop-x-test.false) in
    let z : length (rest_text t l.x) ≡ 0 = ap length e in
    (omega (arith, l.invariant.1.1.1), sym (l.invariant.1.1.0 ∙ ap (sets l.buffer l.place) e))
