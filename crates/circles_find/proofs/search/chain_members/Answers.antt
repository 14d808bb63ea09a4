-- One link more. Assumes nothing.
use Rattle.std.proofs.Common.{ℕ, ◌≡◌, ◌-◌, length, [], ◌∷◌, ◌++◌, subst, arith, ◌∙◌}
use Rattle.std.proofs.lemmas.Iterator.Adapters.{YieldsList-from_rev_slice}
use Rattle.std.proofs.lemmas.Iterator.Consumers.{YieldsList-turn}
use Rattle.std.proofs.lemmas.List.{length_push}
use Rattle.circles_find.proofs.Rolls.{Members, by_label, down_none, members_more, from_end}
use Rattle.circles_find.proofs.search.chain_members.Goals as goal

pub loop-x-init : goal.loop-x-init
loop-x-init c =
    let s = c.args in
    subst (λ (u : ℕ). Members s.n s.rep.now s.listed.now s.low.now s.after.now u) (let e : length s.listed.now ≡ length s.listed.now - 0 = omega arith in e)
    (down_none (by_label s.n s.rep.now) c.requires.2 s.low.now s.after.now c.requires.0 (omega arith) c.requires.3 c.requires.4)

pub loop-x-preserved : goal.loop-x-preserved
loop-x-preserved c =
    let s = c.args in
    let l = c.loop-x in
    let w = from_end s.listed.now (length l.yielded) c.in-Some.x.now (YieldsList-turn (YieldsList-from_rev_slice s.listed.now cc) l.yielded _ l.yielded_by _ _ c.in-Some.x c.in-Some.is c.next.ensures.steps) in
    let j = length s.listed.now - 1 - length l.yielded in
    subst (λ (u : ℕ). Members s.n s.rep.now s.listed.now c.link.new.first c.link.new.next u) (let e : j ≡ length s.listed.now - length (l.yielded ++ c.in-Some.x ∷ []) = omega (arith, length_push l.yielded c.in-Some.x) in e)
    (members_more s.n s.rep.now c.requires.2 j c.from-x.result (omega (arith, w.0)) (omega arith) l.invariant (c.from-x.ensures ∙ w.1) c.link.new.first c.link.new.next c.link.ensures)
