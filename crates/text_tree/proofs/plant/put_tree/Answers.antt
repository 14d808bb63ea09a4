-- The line of one node more, and the end. Assumes nothing.
use Rattle.std.proofs.Common.{◌≡◌, List, ℕ, length, refl, ap, sym, ◌∙◌, arith}
use Rattle.std.proofs.lemmas.List.Edits.{sets}
use mathlib.Core.Logic.{⊎_elim}
use Rattle.text_tree.specs.Text.{nodes_text}
use Rattle.text_tree.proofs.Writing.{load_shown, node_stored, nodes_none, tree_stored}
use Rattle.text_tree.proofs.plant.put_tree.Goals as goal

pub loop-production-init : goal.loop-production-init
loop-production-init c =
    let z = c.zip-production-items.ensures in
    rw (c.into_iter-production-iterator.ensures.into_iter_gives, z.first, z.second.0, c.iter.ensures.rest, c.put_line-place.ensures.0)
    (record { even = c.requires.0; behind = refl; stored = refl })

pub put_node-place-requires : goal.put_node-place-requires
put_node-place-requires c =
    omega (arith, ap length c.in-Some.ensures.steps.0, c.loop-production.invariant.behind, c.loop-production.auto.buffer, c.put_line-place.auto.buffer, c.requires.1.1)

pub loop-production-preserved : goal.loop-production-preserved
loop-production-preserved c =
    let l = c.loop-production in
    let x = c.in-Some.ensures.steps in
    let f = c.put_node-place.ensures in
    record {
      even = omega (arith, ap length x.0, ap length x.1, l.invariant.even);
      behind = omega (arith, ap length x.0, f.0, l.invariant.behind);
      stored = l.invariant.stored ∙ node_stored c.in-Some.production.now c.in-Some.own.now l.place l.buffer x.0 x.1 ∙ sym (λ i. sets (f.1 i) (f.0 i) (nodes_text c.next.new.self.a.rest.now c.next.new.self.b.rest.now));
    }

pub returns : goal.returns
returns c =
    let l = c.loop-production in
    let k = l.production-iterator in
    let none : length k.a.rest.now ≡ 0 = ⊎_elim (λ x. x.1.0) (λ x. l.invariant.even ∙ x.1.0) c.in-None.ensures.steps in
    let ps = c.args.productions.now in
    let b = c.put_line-place.ensures.1 ∙ ap (sets c.args.buffer.now 0) (load_shown (length ps)) in (
      omega (arith, none, l.invariant.behind),
      sym (tree_stored ps c.args.owns.now c.args.buffer.now ∙ ap (λ (s : List ℕ). sets s 7 (nodes_text ps c.args.owns.now)) (sym b) ∙ l.invariant.stored ∙ ap (sets l.buffer l.place) (nodes_none k.a.rest.now k.b.rest.now none)),
    )
