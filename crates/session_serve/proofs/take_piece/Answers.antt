-- `take_piece`: what each call leaves, and that the last leaves the piece taken whole. Assumes nothing.
use Rattle.std.proofs.lemmas.Bool.{not-true, not-false}
use Rattle.session_serve.proofs.Amid.{amid_first, amid_next, amid_last, owed_falls}
use Rattle.session_serve.proofs.take_piece.Goals as goal

pub loop-fed-init : goal.loop-fed-init
loop-fed-init g c = amid_first _ _ _

pub loop-fed-smaller : goal.loop-fed-smaller
loop-fed-smaller g c = owed_falls c.in_ok-fed.ensures (not-false _ c.if-not-fed.false)

pub loop-fed-preserved : goal.loop-fed-preserved
loop-fed-preserved g c = amid_next c.loop-fed.invariant c.in_ok-fed.ensures (not-false _ c.if-not-fed.false)

pub returns-then-not-fed : goal.returns-then-not-fed
returns-then-not-fed g c = amid_last c.loop-fed.invariant c.in_ok-fed.ensures (not-true _ c.if-not-fed.true)
