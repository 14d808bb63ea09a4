-- A day of two clerks on which ours takes both orders, by computation. Assumes nothing.
use mathlib.Core.Path.{◌≡◌, refl, ap}
use mathlib.Core.Bool.{false}
use mathlib.Core.List.{List, [], ◌∷◌}
use Prim.Native.Nat.{ℕ}
use native.Mathlib.Omega.{arith}
use lib.Count.{ones}
use lib.ListN.{take}
use Rattle.sets.specs.Operations.{value_of}
use Rattle.sets.specs.Arguments.{arguments_of, waived_of}
use Rattle.refusal.specs.Orders.{refusal_by}
use Rattle.table.specs.First.{first, row, some_below}
use Rattle.table.specs.Words.{symbol_count, production_count, synthesized, inherited, left_of, child_count, child_of, children_from, has_set, occurs, rule_of, head_at, constant_at}
use Rattle.table.specs.Equations.{op_number, a_field, b_field, argument, op_of, equation_at, uses_a, uses_b, uses_c, misformed}
use Rattle.table.specs.Judge.{part_of, frames, misnamed, refusal_at, judge_table}
use Rattle.table.specs.Example.{put, table_a}
use Rattle.tree.specs.Tree.{judge_nodes, judge_tree, size, child_at}
use Rattle.tree.specs.Owner.{owner}
use Rattle.tree.specs.Replace.{exchanged, part, formerly}
use Rattle.tree.specs.Points.{Part, nodes_row, owns_row, leaving_row, coming_row, shifted_row, new_at, survives_at, former_row, overlaps}
use Rattle.tree.specs.EitherOrder.{moved_by, made_after, nodes_then, owns_then}
use Rattle.tree.specs.Handed.{places_from}
use Rattle.circles.specs.Ranked.{keep, first_of, up_from, has, wider, widened, reaching, reachings, label_in, labels_by, labels_of, circle_of, settled, ready, takeable, ranking, ranked_by, ranked, lone_of}
use Rattle.climb.specs.Climb.{least_from}
use Rattle.climb.specs.Circuit.{due_of}
use Rattle.climb.specs.Memory.{stores}
use Rattle.wire.specs.Instances.{declared, place_of, rule_at, op_at, named, args_at, waived_at, eval_at}
use Rattle.wire.specs.Laws.{Words}
use Rattle.wire.specs.Waivers.{waives}
use Rattle.wire.specs.Replaced.{sown_by}
use Rattle.wire.specs.Points.{slot_row}
use Rattle.update.specs.Records.{padded, astray, beyond, shut, empty_record, opened}
use Rattle.update.specs.Memories.{filled, loaded, arranged_row, replaced_row}
use Rattle.update.specs.Refusals.{short, load_refusal, miscounted, missing, nodes_left, parts_refusal, points_refusal, step_refusal}
use Rattle.update.specs.Steps.{sown_of, survives, changed_of, round_number, from_of, to_of, closed_of, round_record, round_made, done_made, due_from, step_of, finished, run_of}
use Rattle.update.specs.Calls.{Said, said, Left, Opened, RunOutcome, run_outcome, is_open, load_call, points_call, step_call, run_call}
use Rattle.update.specs.Cases.{blank}
use Rattle.demands.specs.Engine.{ours}
use Rattle.demands.specs.History.{at_start, by_run}
use Rattle.demands.specs.InTurn.{begun, next}
use Rattle.demands.specs.TwoClerks.{OneThenOther}
use Rattle.demands.specs.ClerksDay.{evaluations_of, table_n, nodes_n, owns_n, clerk_one, clerk_two, end_n, BothTaken}
use Rattle.demands.proofs.Trials.{words, whole, load_of, tried, load_run, change_of, change_run}
use Rattle.demands.proofs.Beside.{loaded_history}

-- ---- the table and the tree

pub words_n : Words table_n
unfolding table_n table_a put
words_n = words table_n refl

pub words_own : Words owns_n
words_own = words owns_n refl

pub sound_n : judge_table table_n ≡ 0
unfolding table_n table_a put judge_table first row some_below symbol_count production_count synthesized inherited left_of child_count child_of children_from has_set occurs rule_of head_at constant_at op_number a_field b_field uses_a uses_b uses_c misformed part_of frames misnamed refusal_at judge_tree judge_nodes waives waived_of waived_at declared arguments_of args_at op_at named place_of rule_at argument op_of equation_at size child_at owner keep first_of up_from has wider widened reaching reachings label_in labels_by labels_of
sound_n = refl

tree_n : (judge_tree table_n nodes_n owns_n 0 ≡ 0) × (waives table_n nodes_n ≡ false) × (part table_n nodes_n 1 ≡ 1)
unfolding table_n table_a put judge_table first row some_below symbol_count production_count synthesized inherited left_of child_count child_of children_from has_set occurs rule_of head_at constant_at op_number a_field b_field uses_a uses_b uses_c misformed part_of frames misnamed refusal_at judge_tree judge_nodes waives waived_of waived_at declared arguments_of args_at op_at named place_of rule_at argument op_of equation_at size child_at owner keep first_of up_from has wider widened reaching reachings label_in labels_by labels_of part
tree_n = (refl, refl, refl)

-- ---- what ours answers

-- behind the load a correction and up to 100 rounds, then another correction and up to 100 rounds
abbrev opens : Part → Left (Said Opened)
opens p = change_of ours table_n nodes_n owns_n (p ∷ [])

abbrev runs : Part → Left (Said RunOutcome)
runs p = change_run ours table_n nodes_n owns_n (p ∷ [])

abbrev opens_then : Part → Part → Left (Said Opened)
opens_then p q = points_call table_n (runs p).memory (runs p).next (q ∷ [])

abbrev runs_then : Part → Part → Left (Said RunOutcome)
runs_then p q = run_call table_n (opens_then p q).memory (opens_then p q).next 100

-- all that they answer and the sets at the end, in one equation, so that each is computed once
abbrev told : Part → Part → Said Opened × Said RunOutcome × Said Opened × Said RunOutcome × List ℕ
told p q =
    let c = opens p in
    let r = run_call table_n c.memory c.next 100 in
    let d = points_call table_n r.memory r.next (q ∷ []) in
    let e = run_call table_n d.memory d.next 100 in
    (c.answer, r.answer, d.answer, e.answer, take 40 e.memory.sets)

abbrev two_after : Part
two_after = made_after table_n nodes_n clerk_one clerk_two

abbrev one_after : Part
one_after = made_after table_n nodes_n clerk_two clerk_one

load : (load_run ours table_n nodes_n owns_n).answer ≡ said (run_outcome 5 (finished 5 5 0))
unfolding table_n ones value_of arguments_of refusal_by first row some_below symbol_count production_count synthesized inherited left_of child_count child_of children_from has_set occurs rule_of head_at constant_at op_number a_field b_field argument op_of equation_at uses_a uses_b uses_c misformed part_of frames misnamed refusal_at judge_table table_a put judge_nodes judge_tree size child_at owner exchanged part formerly miscounted missing overlaps nodes_left parts_refusal leaving_row coming_row nodes_row owns_row shifted_row former_row new_at survives_at keep first_of up_from has wider widened reaching reachings label_in labels_by labels_of circle_of settled ready takeable ranking ranked_by ranked lone_of least_from declared place_of rule_at op_at named args_at waived_of waived_at waives eval_at slot_row sown_by places_from padded astray beyond shut empty_record opened filled loaded arranged_row replaced_row short load_refusal points_refusal step_refusal sown_of due_of stores survives changed_of round_number from_of to_of closed_of round_record round_made done_made due_from step_of run_of load_call points_call step_call run_call blank moved_by
load = refl

told_one : told clerk_one two_after ≡ (said is_open, said (run_outcome 5 (finished 5 5 3)), said is_open, said (run_outcome 7 (finished 7 7 5)), end_n)
unfolding table_n ones value_of arguments_of refusal_by first row some_below symbol_count production_count synthesized inherited left_of child_count child_of children_from has_set occurs rule_of head_at constant_at op_number a_field b_field argument op_of equation_at uses_a uses_b uses_c misformed part_of frames misnamed refusal_at judge_table table_a put judge_nodes judge_tree size child_at owner exchanged part formerly miscounted missing overlaps nodes_left parts_refusal leaving_row coming_row nodes_row owns_row shifted_row former_row new_at survives_at keep first_of up_from has wider widened reaching reachings label_in labels_by labels_of circle_of settled ready takeable ranking ranked_by ranked lone_of least_from declared place_of rule_at op_at named args_at waived_of waived_at waives eval_at slot_row sown_by places_from padded astray beyond shut empty_record opened filled loaded arranged_row replaced_row short load_refusal points_refusal step_refusal sown_of due_of stores survives changed_of round_number from_of to_of closed_of round_record round_made done_made due_from step_of run_of load_call points_call step_call run_call blank moved_by
told_one = refl

told_other : told clerk_two one_after ≡ (said is_open, said (run_outcome 5 (finished 5 5 3)), said is_open, said (run_outcome 3 (finished 3 3 0)), end_n)
unfolding table_n ones value_of arguments_of refusal_by first row some_below symbol_count production_count synthesized inherited left_of child_count child_of children_from has_set occurs rule_of head_at constant_at op_number a_field b_field argument op_of equation_at uses_a uses_b uses_c misformed part_of frames misnamed refusal_at judge_table table_a put judge_nodes judge_tree size child_at owner exchanged part formerly miscounted missing overlaps nodes_left parts_refusal leaving_row coming_row nodes_row owns_row shifted_row former_row new_at survives_at keep first_of up_from has wider widened reaching reachings label_in labels_by labels_of circle_of settled ready takeable ranking ranked_by ranked lone_of least_from declared place_of rule_at op_at named args_at waived_of waived_at waives eval_at slot_row sown_by places_from padded astray beyond shut empty_record opened filled loaded arranged_row replaced_row short load_refusal points_refusal step_refusal sown_of due_of stores survives changed_of round_number from_of to_of closed_of round_record round_made done_made due_from step_of run_of load_call points_call step_call run_call blank moved_by
told_other = refl

trees :
    (nodes_then table_n nodes_n clerk_one clerk_two ≡ 0 ∷ 3 ∷ 2 ∷ 4 ∷ 2 ∷ [])
    × (nodes_then table_n nodes_n clerk_two clerk_one ≡ 0 ∷ 3 ∷ 2 ∷ 4 ∷ 2 ∷ [])
    × (owns_then table_n nodes_n owns_n clerk_one clerk_two ≡ 0 ∷ 0 ∷ 5 ∷ 0 ∷ 4 ∷ [])
    × (owns_then table_n nodes_n owns_n clerk_two clerk_one ≡ 0 ∷ 0 ∷ 5 ∷ 0 ∷ 4 ∷ [])
unfolding table_n table_a put moved_by nodes_row owns_row exchanged part size child_count
trees = (refl, refl, refl, refl)

-- ---- as histories

unfoldable order_of : (p q : Part) {k e x k' e' x' : ℕ} {sets : List ℕ} → told p q ≡ (said is_open, said (run_outcome k (finished k e x)), said is_open, said (run_outcome k' (finished k' e' x')), sets)
    → OneThenOther ours table_n (load_run ours table_n nodes_n owns_n).next (load_run ours table_n nodes_n owns_n).memory p q (runs_then p q).next (runs_then p q).memory
order_of p q {k} {e} {x} {k'} {e'} {x'} h =
    next {circles = k'} {evaluations = e'} {changed = x'}
    (next {circles = k} {evaluations = e} {changed = x} begun (whole (opens p) _ (ap (λ z. z.0) h)) (by_run 100 at_start (whole (runs p) _ (ap (λ z. z.1) h))))
    (whole (opens_then p q) _ (ap (λ z. z.2) h)) (by_run 100 at_start (whole (runs_then p q) _ (ap (λ z. z.3) h)))

pub both_taken : BothTaken
unfolding order_of evaluations_of
both_taken = record {
  r = (load_run ours table_n nodes_n owns_n).next;
  r₁ = (runs_then clerk_one two_after).next;
  r₂ = (runs_then clerk_two one_after).next;
  m = (load_run ours table_n nodes_n owns_n).memory;
  m₁ = (runs_then clerk_one two_after).memory;
  m₂ = (runs_then clerk_two one_after).memory;
  history = loaded_history words_n words_own (record { load = load_of (tried table_n nodes_n owns_n sound_n tree_n.0 (omega arith) tree_n.1); run = load });
  neither = record { second = λ i. omega (arith, i.before, tree_n.2); first = λ i. omega (arith, i.from) };
  one = order_of clerk_one two_after told_one;
  other = order_of clerk_two one_after told_other;
  nodes = (trees.0, trees.1);
  owns = (trees.2, trees.3);
  sets = (ap (λ z. z.4) told_one, ap (λ z. z.4) told_other);
  evaluations = (refl, refl);
}
