-- The arrays of the held tree, and what is made over their views. Assumes nothing.
use Rattle.std.specs.Prelude.{Ok}
use mathlib.Core.Path.{◌≡◌, sym}
use mathlib.Core.List.{List}
use Prim.Native.Nat.{ℕ, ◌*◌, ◌≤◌}
use native.Mathlib.Omega.{arith}
use lib.ListN.{length}
use lib.Seq.{length-take-le}
use Rattle.climb.specs.declared.Wires.{Wires}
use Rattle.climb.specs.Inner.Wires.{wired_by, WiringBy}
use Rattle.wire.specs.Inner.Turns.{Held}
use Rattle.update.specs.declared.Record.{Record}
use Rattle.update.specs.Memories.{Memory, nodes_of, owns_of}
use Rattle.update.specs.Refusals.{step_refusal}
use Rattle.update.specs.Steps.{step_of, run_of}
use Rattle.update.specs.Calls.{with_sets, step_call, run_call}
use Rattle.update_judge.specs.Order.{Going}
use Rattle.update_judge.proofs.Orders.{going}
use Rattle.update_round.specs.declared.Ranked.{Ranked}
use Rattle.update_round.specs.Inner.Arranged.{Lent}
use Rattle.update_round.specs.Inner.Wires.{circles_by, CirclesBy}
use Rattle.update_step.specs.declared.step.Stepped.{Stepped}
use Rattle.update_step.specs.declared.run.Ran.{Ran}
use Rattle.update_step.specs.Inner.Says.{StepSays, RunSays}
use Rattle.engine.specs.declared.arranging.Arrays.{Arrays}
use Rattle.engine.specs.Lent.{stepped, ran}
use Rattle.engine.specs.Inner.Prepared.{Prepared, ArraysHold}
use Rattle.engine.specs.Inner.Arrays.{ArraysLaid, Ready, Viewed}
use Rattle.engine.proofs.Arrays.{sound, arrays, owns_long as owns_are}
use Rattle.engine.proofs.Stepping.{step_carried, run_carried}

module _ (t : List ℕ) (m : Memory) (r : Record) (e : 0 ≡ step_refusal t m r) where
  open_to : Going t m r
  open_to = going t m r (sym e)

  pub few : r.nodes ≤ 512
  few = open_to.footing.within.nodes

  pub owns_long : r.nodes ≡ length (owns_of m r.nodes)
  owns_long = sym (owns_are t m r open_to)

  pub tree_long : r.nodes ≡ length (nodes_of m r.nodes)
  tree_long = sym (length-take-le r.nodes m.productions (omega (arith, few, open_to.footing.room.productions)))

  pub holds_tree : Held t (nodes_of m r.nodes)
  holds_tree = sound t m r open_to

  pub ready : (x : Arrays) {a₀ b₀ left₀ rule₀ label₀ members₀ ends₀ : List ℕ} → x.n ≡ 8 * r.nodes
      → Prepared t (nodes_of m r.nodes) a₀ b₀ left₀ rule₀ label₀ members₀ ends₀ x.a x.b x.left x.rule x.label x.members x.ends x.count → Ready t m r x
  ready x {a₀} {b₀} {left₀} {rule₀} {label₀} {members₀} {ends₀} n p = record {
    going = open_to;
    slots = n;
    holds = rw n (arrays t m r open_to a₀ b₀ left₀ rule₀ label₀ members₀ ends₀ x.a x.b x.left x.rule x.label x.members x.ends x.count p);
  }

  pub ready_laid : {x y : Arrays} → ArraysLaid t (nodes_of m r.nodes) x y → Ready t m r y
  ready_laid {y = y} h = ready y (omega (arith, h.slots, tree_long)) h.prepared

module _ {t : List ℕ} {m : Memory} {r : Record} {x : Arrays} {w : Wires} {k : Ranked} (z : Ready t m r x) (v : Viewed x w k) where
  held : ArraysHold t (nodes_of m r.nodes) (owns_of m r.nodes) w.n w.a.now w.b.now w.left.now w.rule.now k.label.now k.members.now k.ends.now k.count
  held = rw (v.n, v.a, v.b, v.left, v.rule, v.label, v.members, v.ends, v.count) z.holds

  pub wiring : WiringBy (owns_of m r.nodes) w
  wiring = held.wiring

  pub circles : CirclesBy w k
  circles = held.circles

  pub sets_lent : (values : List ℕ) → length values ≡ 4096 → Lent w.n m.earlier m.sets values
  sets_lent values l =
      let g = z.going.footing in
      record {
        limit = omega (arith, v.n, z.slots, g.within.nodes);
        olds = omega (arith, v.n, z.slots, g.within.nodes, g.room.earlier);
        sets_room = omega (arith, v.n, z.slots, g.within.nodes, g.room.sets);
        values_room = omega (arith, v.n, z.slots, g.within.nodes, l);
      }

  pub step_over : (d : Stepped) (s : List ℕ) → StepSays (step_of (wired_by t (owns_of m r.nodes) w) (circles_by w) r m.earlier m.sets) d.answer d.«record» s
      → stepped r (Ok d) (with_sets m s) ≡ step_call t m r
  step_over d s = step_carried t m r z.going w.n w.a.now w.b.now w.left.now w.rule.now k.label.now k.members.now k.ends.now k.count held d s

  pub run_over : (budget : ℕ) (d : Ran) (s : List ℕ) → RunSays (run_of (wired_by t (owns_of m r.nodes) w) (circles_by w) m.earlier budget r m.sets) d.answer d.«record» s
      → ran (Ok d.answer) d.«record» (with_sets m s) ≡ run_call t m r budget
  run_over budget d s = run_carried t m r z.going w.n w.a.now w.b.now w.left.now w.rule.now k.label.now k.members.now k.ends.now k.count held budget d.answer d.«record» s
