-- The arrays are made once; the steps over them are those of the table and the tree. Assumes nothing.
use mathlib.Core.Path.{◌≡◌, refl, ap, sym}
use mathlib.Core.List.{List}
use Prim.Native.Nat.{ℕ, ◌*◌, ◌≤◌}
use native.Mathlib.Omega.{arith}
use lib.ListN.{length, take}
use lib.Seq.{length-take-le}
use Rattle.wire.specs.Inner.Turns.{Held}
use Rattle.update.specs.declared.Record.{Record}
use Rattle.update.specs.Memories.{lent}
use Rattle.update_judge.specs.Order.{Going}
use Rattle.update_judge.proofs.Orders.{tree_sound}
use Rattle.engine.proofs.Preparing.{prepared_holds}
use Rattle.session_rounds.proofs.tell_rounds.Goals as goal

module _ {t held held_owns sets earlier : List ℕ} {r : Record} (s : Going t (lent held held_owns sets earlier) r) where
  tree_long : length (take r.nodes held) ≡ r.nodes
  tree_long = length-take-le r.nodes held (omega (arith, s.footing.room.productions, s.footing.within.nodes))

  owns_long : length (take r.nodes held_owns) ≡ r.nodes
  owns_long = length-take-le r.nodes held_owns (omega (arith, s.footing.room.owns, s.footing.within.nodes))

  sound : Held t (take r.nodes held)
  sound = record {
    judged = s.footing.table;
    sound = tree_sound t (take r.nodes held) (take r.nodes held_owns) 0 s.tree;
    few = omega (arith, tree_long, s.footing.within.nodes);
  }

  owned : length (take r.nodes held) ≤ length (take r.nodes held_owns)
  owned = omega (arith, tree_long, owns_long)

  slots : 8 * r.nodes ≡ 8 * length (take r.nodes held)
  slots = ap (λ n. 8 * n) (sym tree_long)

pub prepare-count-requires-clause-held : goal.prepare-count-requires-clause-held
prepare-count-requires-clause-held c = sound c.requires.going

pub tell_steps-requires-clause-wiring : goal.tell_steps-requires-clause-wiring
tell_steps-requires-clause-wiring c =
    let s = c.requires.going in
    (prepared_holds c.args.table.now (take c.args.«record».nodes c.args.held.now) (take c.args.«record».nodes c.args.held_owns.now) _ _ _ _ _ _ _ _ _ _ _ _ _ _ _ (8 * c.args.«record».nodes) (sound s) (owned s) (slots s) c.prepare-count.ensures).wiring

pub tell_steps-requires-clause-circles : goal.tell_steps-requires-clause-circles
tell_steps-requires-clause-circles c =
    let s = c.requires.going in
    (prepared_holds c.args.table.now (take c.args.«record».nodes c.args.held.now) (take c.args.«record».nodes c.args.held_owns.now) _ _ _ _ _ _ _ _ _ _ _ _ _ _ _ (8 * c.args.«record».nodes) (sound s) (owned s) (slots s) c.prepare-count.ensures).circles

pub returns-clause-rounds_told : goal.returns-clause-rounds_told
returns-clause-rounds_told c =
    let s = c.requires.going in
    let h = prepared_holds c.args.table.now (take c.args.«record».nodes c.args.held.now) (take c.args.«record».nodes c.args.held_owns.now) _ _ _ _ _ _ _ _ _ _ _ _ _ _ _ (8 * c.args.«record».nodes) (sound s) (owned s) (slots s) c.prepare-count.ensures in
    c.tell_steps.ensures.rounds c.args.held.now c.args.held_owns.now s refl h
