-- The line first, and then what each awaited goes with. Assumes nothing.
use mathlib.Core.Path.{◌≡◌, refl, sym, ◌∙◌}
use mathlib.Core.Bool.{Bool, true, false}
use mathlib.Core.List.{List}
use mathlib.Core.Logic.{⊎_elim}
use Prim.Native.Nat.{ℕ, ◌≤◌, ◌<◌}
use native.Mathlib.Omega.{arith}
use borrow.Author.Tests.{le-leb, lt-leb}
use lib.ListN.{take}
use Rattle.refusal.specs.Orders.{refusal_by}
use Rattle.climb.proofs.Lists.{either}
use Rattle.update.specs.declared.Record.{Record}
use Rattle.update.specs.Memories.{lent, Memory}
use Rattle.update.specs.Refusals.{step_refusal}
use Rattle.text_frame.specs.declared.Expected.{Expected}
use Rattle.session_owed.specs.Owed.{Begun}
use Rattle.session_owed.specs.declared.Coming.{Coming}
use Rattle.session_owed.specs.declared.Awaited.{Awaited}
use Rattle.session_owed.specs.declared.Awaited.TheVariants.{Table, Command, Naming, Nodes, Working, Stopped}
use Rattle.session_memory.specs.Suspended.{Tests}
use Rattle.session_memory.specs.Refusals.{overrun, misnamed, sofar_refusal, kept_order, awaited_order, settled_order}
use Rattle.session_memory.specs.declared.State.{State}
use Rattle.session_memory.proofs.Deciding.{tested_not}
use Rattle.session_memory.proofs.Meaning.{overrun_means}
use Rattle.session_memory.proofs.Refusing.{walk_number}
use Rattle.session_memory.proofs.fitting.judge_state.Goals as goal

module _ (s : State) (t window os : List ℕ) (m : Memory) (b : Bool) (begun : Tests b ((s.begun ≤ 28) × Begun (take s.begun window))) where
  no_line : b ≡ false → 11 ≡ refusal_by (settled_order s t window os m)
  unfolding refusal_by
  no_line h = ⊎_elim
      (λ (o : overrun s.begun window ≡ true). rw o)
      (λ (o : overrun s.begun window ≡ false). absurd (tested_not begun h ((overrun_means s.begun window).0 o)))
      (either (overrun s.begun window))

  -- where the line is begun, what is waited for decides
  settles : (awaited : Awaited) (n : ℕ) → b ≡ true → s.awaited ≡ awaited → n ≡ refusal_by (awaited_order awaited t os m s.«record») → n ≡ refusal_by (settled_order s t window os m)
  unfolding refusal_by
  settles awaited n h e k = rw ((overrun_means s.begun window).1 (begun.yes h), e) k

module _ (t os : List ℕ) (m : Memory) (r : Record) where
  table : (x : Expected) → sofar_refusal t x ≡ refusal_by (awaited_order (Table x) t os m r)
  table x = sym (walk_number t x)

  working : (turns : ℕ) → step_refusal t m r ≡ refusal_by (awaited_order (Working turns) t os m r)
  unfolding step_refusal
  working turns = refl

  over : 0 ≡ refusal_by (awaited_order Stopped t os m r)
  unfolding refusal_by
  over = refl

  command : refusal_by (kept_order t m r) ≡ refusal_by (awaited_order Command t os m r)
  command = refl

  module _ (count taken line : ℕ) where
    no_point : misnamed count taken os ≡ true → 11 ≡ refusal_by (awaited_order (Naming count taken line) t os m r)
    unfolding refusal_by
    no_point h = rw h

    point : misnamed count taken os ≡ false → refusal_by (kept_order t m r) ≡ refusal_by (awaited_order (Naming count taken line) t os m r)
    unfolding refusal_by
    point h = rw h

  module _ (coming : Coming) (count taken line : ℕ) where
    no_room : count ≤ taken → 11 ≡ refusal_by (awaited_order (Nodes coming count taken line) t os m r)
    unfolding refusal_by
    no_room h = rw (le-leb count taken h)

    node : taken < count → refusal_by (kept_order t m r) ≡ refusal_by (awaited_order (Nodes coming count taken line) t os m r)
    unfolding refusal_by
    node h = rw (lt-leb count taken h)

pub returns-then-not-is_begun : goal.returns-then-not-is_begun
returns-then-not-is_begun c =
    let a = c.args in
    no_line a.state a.table.now a.window.now a.part_owns.now (lent c.args.held.now c.args.held_owns.now c.args.sets.now c.args.earlier.now) _ c.is_begun.ensures c.if-not-is_begun.true

pub returns-then-is_misnamed : goal.returns-then-is_misnamed
returns-then-is_misnamed c =
    let a = c.args in
    let g = c.in-Naming in
    settles a.state a.table.now a.window.now a.part_owns.now (lent c.args.held.now c.args.held_owns.now c.args.sets.now c.args.earlier.now) _ c.is_begun.ensures (Naming g.count g.taken g.line) _ c.if-not-is_begun.false g.is (no_point a.table.now a.part_owns.now (lent c.args.held.now c.args.held_owns.now c.args.sets.now c.args.earlier.now) a.state.«record» g.count g.taken g.line (sym c.is_misnamed.ensures ∙ c.if-is_misnamed.true))

pub returns-then-count-taken : goal.returns-then-count-taken
returns-then-count-taken c =
    let a = c.args in
    let g = c.in-Nodes in
    settles a.state a.table.now a.window.now a.part_owns.now (lent c.args.held.now c.args.held_owns.now c.args.sets.now c.args.earlier.now) _ c.is_begun.ensures (Nodes g.coming g.count g.taken g.line) _ c.if-not-is_begun.false g.is (no_room a.table.now a.part_owns.now (lent c.args.held.now c.args.held_owns.now c.args.sets.now c.args.earlier.now) a.state.«record» g.coming g.count g.taken g.line (omega (arith, c.if-count-taken.true)))

pub returns-in-Table : goal.returns-in-Table
returns-in-Table c =
    let a = c.args in
    let g = c.in-Table in
    settles a.state a.table.now a.window.now a.part_owns.now (lent c.args.held.now c.args.held_owns.now c.args.sets.now c.args.earlier.now) _ c.is_begun.ensures (Table g.expected) _ c.if-not-is_begun.false g.is (c.judge_so_far.ensures ∙ table a.table.now a.part_owns.now (lent c.args.held.now c.args.held_owns.now c.args.sets.now c.args.earlier.now) a.state.«record» g.expected)

pub returns-in-Command : goal.returns-in-Command
returns-in-Command c =
    let a = c.args in
    settles a.state a.table.now a.window.now a.part_owns.now (lent c.args.held.now c.args.held_owns.now c.args.sets.now c.args.earlier.now) _ c.is_begun.ensures Command _ c.if-not-is_begun.false c.in-Command.is (c.judge_kept.ensures ∙ command a.table.now a.part_owns.now (lent c.args.held.now c.args.held_owns.now c.args.sets.now c.args.earlier.now) a.state.«record»)

pub returns-else-is_misnamed : goal.returns-else-is_misnamed
returns-else-is_misnamed c =
    let a = c.args in
    let g = c.in-Naming in
    settles a.state a.table.now a.window.now a.part_owns.now (lent c.args.held.now c.args.held_owns.now c.args.sets.now c.args.earlier.now) _ c.is_begun.ensures (Naming g.count g.taken g.line) _ c.if-not-is_begun.false g.is (c.judge_kept-in-Naming.ensures ∙ point a.table.now a.part_owns.now (lent c.args.held.now c.args.held_owns.now c.args.sets.now c.args.earlier.now) a.state.«record» g.count g.taken g.line (sym c.is_misnamed.ensures ∙ c.if-is_misnamed.false))

pub returns-else-count-taken : goal.returns-else-count-taken
returns-else-count-taken c =
    let a = c.args in
    let g = c.in-Nodes in
    settles a.state a.table.now a.window.now a.part_owns.now (lent c.args.held.now c.args.held_owns.now c.args.sets.now c.args.earlier.now) _ c.is_begun.ensures (Nodes g.coming g.count g.taken g.line) _ c.if-not-is_begun.false g.is (c.judge_kept-in-Nodes.ensures ∙ node a.table.now a.part_owns.now (lent c.args.held.now c.args.held_owns.now c.args.sets.now c.args.earlier.now) a.state.«record» g.coming g.count g.taken g.line (omega (arith, c.if-count-taken.false)))

pub returns-in-Working : goal.returns-in-Working
returns-in-Working c =
    let a = c.args in
    let g = c.in-Working in
    settles a.state a.table.now a.window.now a.part_owns.now (lent c.args.held.now c.args.held_owns.now c.args.sets.now c.args.earlier.now) _ c.is_begun.ensures (Working g.turns) _ c.if-not-is_begun.false g.is (c.judge_step.ensures ∙ working a.table.now a.part_owns.now (lent c.args.held.now c.args.held_owns.now c.args.sets.now c.args.earlier.now) a.state.«record» g.turns)

pub returns-in-Stopped : goal.returns-in-Stopped
returns-in-Stopped c =
    let a = c.args in
    settles a.state a.table.now a.window.now a.part_owns.now (lent c.args.held.now c.args.held_owns.now c.args.sets.now c.args.earlier.now) _ c.is_begun.ensures Stopped _ c.if-not-is_begun.false c.in-Stopped.is (over a.table.now a.part_owns.now (lent c.args.held.now c.args.held_owns.now c.args.sets.now c.args.earlier.now) a.state.«record»)
