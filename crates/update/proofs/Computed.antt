-- The table of cases holds, by computation on the definitions. Assumes nothing.
use mathlib.Core.Path.{refl}
use lib.Count.{ones}
use Rattle.sets.specs.Operations.{value_of}
use Rattle.sets.specs.Arguments.{arguments_of, waived_of}
use Rattle.refusal.specs.Orders.{refusal_by}
use Rattle.table.specs.First.{first, row, some_below}
use Rattle.table.specs.Words.{symbol_count, production_count, synthesized, inherited, left_of, child_count, child_of, children_from, has_set, occurs, rule_of, head_at, constant_at}
use Rattle.table.specs.Equations.{op_number, a_field, b_field, argument, op_of, equation_at, uses_a, uses_b, uses_c, misformed}
use Rattle.table.specs.Judge.{part_of, frames, misnamed, refusal_at, judge_table}
use Rattle.table.specs.Example.{table_a}
use Rattle.tree.specs.Tree.{judge_nodes, judge_tree, size, child_at}
use Rattle.tree.specs.Owner.{owner}
use Rattle.tree.specs.Replace.{exchanged, part, formerly}
use Rattle.circles.specs.Ranked.{keep, first_of, up_from, has, wider, widened, reaching, reachings, label_in, labels_by, labels_of, circle_of, settled, ready, takeable, ranking, ranked_by, ranked, lone_of}
use Rattle.climb.specs.Climb.{least_from}
use Rattle.climb.specs.Circuit.{due_of}
use Rattle.climb.specs.Memory.{stores}
use Rattle.wire.specs.Instances.{declared, place_of, rule_at, op_at, named, args_at, waived_at, eval_at}
use Rattle.wire.specs.Waivers.{waives}
use Rattle.tree.specs.Points.{survives_at}
use Rattle.wire.specs.Replaced.{sown_by}
use Rattle.tree.specs.Handed.{places_from}
use Rattle.update.specs.Records.{padded, astray, beyond, shut, empty_record, opened}
use Rattle.update.specs.Memories.{filled, loaded, below_point, arranged, replaced}
use Rattle.update.specs.Refusals.{short, load_refusal, replace_refusal, step_refusal}
use Rattle.update.specs.Steps.{sown_of, survives, changed_of, round_number, from_of, to_of, closed_of, round_record, round_made, done_made, due_from, step_of}
use Rattle.update.specs.Calls.{load_call, replace_call, step_call}
use Rattle.update.specs.Cases.{walk, blank, load_a, replace_a, cases, EveryCase}

pub every_case : EveryCase
unfolding ones value_of arguments_of waived_of waived_at waives refusal_by first row some_below symbol_count production_count synthesized inherited left_of child_count child_of children_from has_set occurs rule_of head_at constant_at op_number a_field b_field argument op_of equation_at uses_a uses_b uses_c misformed part_of frames misnamed refusal_at judge_table table_a judge_nodes judge_tree size child_at owner exchanged part formerly keep first_of up_from has wider widened reaching reachings label_in labels_by labels_of circle_of settled ready takeable ranking ranked_by ranked lone_of least_from declared place_of rule_at op_at named args_at eval_at padded places_from astray beyond shut empty_record opened filled loaded below_point arranged replaced short load_refusal replace_refusal step_refusal sown_by survives_at sown_of due_of stores survives changed_of round_number from_of to_of closed_of round_record round_made done_made due_from step_of load_call replace_call step_call walk blank load_a replace_a cases
every_case = refl
