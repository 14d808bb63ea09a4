-- The text has room as far as the loop has come. Assumes nothing.
use native.Mathlib.Omega.{arith}
use mathlib.Core.Path.{ap, sym, ◌∙◌}
use mathlib.Core.List.{List}
use Prim.Native.Nat.{ℕ, ◌-◌, ◌≤◌, zero-le}
use borrow.Author.Tests.{le-leb}
use lib.Dec.{leb}
use lib.ListN.{length}
use Rattle.text_frame.specs.Walk.{next_of}
use Rattle.text_table.specs.Inner.Putting.{text_at}
use Rattle.text_table.proofs.Writing.{rest_text, ready_of, still_valid, rest_less, room_stops, room_goes, rest_none, rest_all}
use Rattle.text_table.proofs.write.has_room.Goals as goal

pub loop-x-init : goal.loop-x-init
loop-x-init c = (tt, ap (λ (l : List ℕ). leb (length l) c.args.room) (sym (rest_all c.args.table.now)))

pub length_of-n-requires : goal.length_of-n-requires
length_of-n-requires c = ready_of c.args.table.now c.requires c.loop-x.x c.loop-x.invariant.0

pub returns-then-left-n : goal.returns-then-left-n
returns-then-left-n c =
    let l = c.loop-x in
    sym (l.invariant.1 ∙ room_stops c.args.table.now l.x l.invariant.0 l.left (omega (arith, c.length_of-n.ensures)))

pub next_of-x-requires : goal.next_of-x-requires
next_of-x-requires c = ready_of c.args.table.now c.requires c.loop-x.x c.loop-x.invariant.0

pub loop-x-smaller : goal.loop-x-smaller
loop-x-smaller c = rw c.next_of-x.ensures (rest_less c.args.table.now c.loop-x.x c.loop-x.invariant.0 (sym c.is_on.ensures ∙ c.loop-x-test.true))

pub loop-x-preserved : goal.loop-x-preserved
loop-x-preserved c =
    let l = c.loop-x in
    let t = c.args.table.now in
    let n = c.length_of-n in
    let k : length (text_at t l.x) ≤ l.left = omega (arith, n.ensures) in
    rw c.next_of-x.ensures
    (still_valid t c.requires l.x l.invariant.0, l.invariant.1 ∙ room_goes t l.x l.invariant.0 l.left k ∙ ap (λ (m : ℕ). leb (length (rest_text t (next_of t l.x))) (l.left - m)) (sym n.ensures))

pub returns : goal.returns
returns c =
    let l = c.loop-x in
    sym (l.invariant.1 ∙ ap (λ (s : List ℕ). leb (length s) l.left) (rest_none c.args.table.now l.x (sym c.is_on.ensures ∙ c.loop-x-test.false)) ∙ le-leb 0 l.left zero-le)
