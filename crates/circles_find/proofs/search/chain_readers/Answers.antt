-- None at first, two links more a turn, and all at the end. Assumes nothing.
use Rattle.std.proofs.Common.{ℕ, ◌≡◌, ◌-◌, length, [], ◌∷◌, ◌++◌, subst, arith, ◌∙◌}
use Rattle.std.proofs.lemmas.Iterator.Adapters.{YieldsList-from_rev_slice}
use Rattle.std.proofs.lemmas.Iterator.Consumers.{YieldsList-turn, YieldsList-end}
use Rattle.std.proofs.lemmas.List.{length-reverse, length_push}
use Rattle.circles_find.proofs.Rolls.{Readers, by_argument, readers_more, down_none, down_all, from_end}
use Rattle.circles_find.proofs.search.chain_readers.Goals as goal

pub loop-x-init : goal.loop-x-init
loop-x-init c =
    let s = c.args in
    let g = s.g in
    subst (λ (u : ℕ). Readers g.n g.a.now g.b.now s.listed.now s.first.now s.next.now u) (let e : length s.listed.now ≡ length s.listed.now - 0 = omega arith in e)
    (down_none (by_argument g.n g.a.now g.b.now c.requires.0) c.requires.1 s.first.now s.next.now c.requires.0 (omega arith) c.requires.2 c.requires.3)

pub loop-x-preserved : goal.loop-x-preserved
loop-x-preserved c =
    let s = c.args in
    let g = s.g in
    let l = c.loop-x in
    let m = c.link-in-loop-x in
    let w = from_end s.listed.now (length l.yielded) c.in-Some.x.now (YieldsList-turn (YieldsList-from_rev_slice s.listed.now cc) l.yielded _ l.yielded_by _ _ c.in-Some.x c.in-Some.is c.next.ensures.steps) in
    let j = length s.listed.now - 1 - length l.yielded in
    subst (λ (u : ℕ). Readers g.n g.a.now g.b.now s.listed.now m.new.first m.new.next u) (let e : j ≡ length s.listed.now - length (l.yielded ++ c.in-Some.x ∷ []) = omega (arith, length_push l.yielded c.in-Some.x) in e)
    (readers_more g.n g.a.now g.b.now c.requires.0 c.requires.1 j c.from-x.result (omega (arith, w.0)) (omega arith) l.invariant (c.from-x.ensures ∙ w.1) c.link.new.first c.link.new.next m.new.first m.new.next c.link.ensures m.ensures)

pub returns : goal.returns
returns c =
    let s = c.args in
    let g = s.g in
    let l = c.loop-x in
    let all = YieldsList-end (YieldsList-from_rev_slice s.listed.now cc) l.yielded _ l.yielded_by _ _ c.in-None.is c.next.ensures.steps in
    down_all (by_argument g.n g.a.now g.b.now c.requires.0) c.requires.1 l.first l.next _ (omega (arith, all.1, length-reverse s.listed.now)) l.invariant
