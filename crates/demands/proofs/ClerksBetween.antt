-- Days of two clerks on which only one order is taken, for whatever engine meets the demands. Assumes nothing.
use mathlib.Core.Path.{◌≡◌, refl}
use mathlib.Core.Bool.{true, false}
use mathlib.Core.List.{List, [], ◌∷◌}
use Prim.Native.Nat.{ℕ, zero, suc}
use native.Mathlib.Omega.{arith}
use lib.ListN.{length, get_or}
use Rattle.sets.specs.Arguments.{arguments_of, waived_of}
use Rattle.table.specs.First.{first, row, some_below}
use Rattle.table.specs.Words.{symbol_count, production_count, synthesized, inherited, left_of, child_count, child_of, children_from, has_set, occurs, rule_of, head_at, constant_at}
use Rattle.table.specs.Equations.{op_number, a_field, b_field, argument, op_of, equation_at, uses_a, uses_b, uses_c, misformed}
use Rattle.table.specs.Judge.{part_of, frames, misnamed, refusal_at, judge_table}
use Rattle.table.specs.Example.{put, table_a}
use Rattle.tree.specs.Tree.{judge_nodes, judge_tree, size, child_at}
use Rattle.tree.specs.Owner.{owner}
use Rattle.tree.specs.Replace.{exchanged, part}
use Rattle.tree.specs.Points.{nodes_row, FitsPart}
use Rattle.tree.specs.PointExample.{table_b}
use Rattle.tree.specs.EitherOrder.{NeitherInside, moved_by, nodes_then}
use Rattle.circles.specs.Ranked.{keep, first_of, up_from, has, wider, widened, reaching, reachings, label_in, labels_by, labels_of}
use Rattle.wire.specs.Instances.{declared, place_of, rule_at, op_at, named, args_at, waived_at}
use Rattle.wire.specs.Laws.{Words}
use Rattle.wire.specs.Waivers.{Waiver, Free, waives, Plain}
use Rattle.wire.proofs.Waivers.{every_tree_waives, plain_lawful}
use Rattle.update.specs.Records.{empty_record}
use Rattle.update.specs.Cases.{blank}
use Rattle.update.proofs.Ready.{tree_sound}
use Rattle.demands.specs.ClerksDay.{table_n, nodes_w, owns_n, clerk_one, clerk_two, EveryWaiverBetween, nodes_r, owns_r, clears, grows, EveryRoomBetween}
use Rattle.demands.proofs.Ours.{every_tree_ends}
use Rattle.demands.proofs.TwoClerks.{takes_both, between_alone}
use Rattle.demands.proofs.Trials.{words, tried, long_blank, empty_within, empty_closed}
use Rattle.demands.proofs.ClerksDay.{words_n, words_own, sound_n}

-- ---- a waiver between them

record ComputedW : Type 0 where
  tree : (judge_tree table_n nodes_w owns_n 0 ≡ 0) × (waives table_n nodes_w ≡ false)
  sizes : part table_n nodes_w 1 ≡ 1
  -- the parts are sound, each for its point's symbol
  one : judge_nodes table_n clerk_one.nodes (left_of table_n (get_or nodes_w 1 0) ∷ []) ≡ 0
  two : judge_nodes table_n clerk_two.nodes (left_of table_n (get_or nodes_w 2 0) ∷ []) ≡ 0
  -- the trees that they leave, each alone and both
  one_left : nodes_row table_n nodes_w (clerk_one ∷ []) ≡ 0 ∷ 3 ∷ 2 ∷ 1 ∷ []
  one_waives : (judge_nodes table_n (0 ∷ 3 ∷ 2 ∷ 1 ∷ []) (0 ∷ []) ≡ 0) × (waives table_n (0 ∷ 3 ∷ 2 ∷ 1 ∷ []) ≡ true)
  two_left : nodes_row table_n nodes_w (clerk_two ∷ []) ≡ 0 ∷ 2 ∷ 4 ∷ 2 ∷ []
  two_free : (judge_nodes table_n (0 ∷ 2 ∷ 4 ∷ 2 ∷ []) (0 ∷ []) ≡ 0) × (waives table_n (0 ∷ 2 ∷ 4 ∷ 2 ∷ []) ≡ false)
  both_left : nodes_then table_n nodes_w clerk_two clerk_one ≡ 0 ∷ 3 ∷ 2 ∷ 4 ∷ 2 ∷ []
  both_free : (judge_nodes table_n (0 ∷ 3 ∷ 2 ∷ 4 ∷ 2 ∷ []) (0 ∷ []) ≡ 0) × (waives table_n (0 ∷ 3 ∷ 2 ∷ 4 ∷ 2 ∷ []) ≡ false)

computed_w : ComputedW
unfolding table_n table_a put judge_table first row some_below symbol_count production_count synthesized inherited left_of child_count child_of children_from has_set occurs rule_of head_at constant_at op_number a_field b_field uses_a uses_b uses_c misformed part_of frames misnamed refusal_at judge_tree judge_nodes waives waived_of waived_at declared arguments_of args_at op_at named place_of rule_at argument op_of equation_at size child_at owner keep first_of up_from has wider widened reaching reachings label_in labels_by labels_of exchanged part nodes_row moved_by
computed_w = record {
  tree = (refl, refl);
  sizes = refl;
  one = refl;
  two = refl;
  one_left = refl;
  one_waives = (refl, refl);
  two_left = refl;
  two_free = (refl, refl);
  both_left = refl;
  both_free = (refl, refl);
}

neither_w : NeitherInside table_n nodes_w 2 1
neither_w = record { second = λ i. omega (arith, i.from); first = λ i. omega (arith, i.before, computed_w.sizes) }

free_w : (ns : List ℕ) → judge_nodes table_n ns (0 ∷ []) ≡ 0 → waives table_n ns ≡ false → Free table_n ns
free_w ns tree h = (every_tree_waives table_n ns sound_n tree).none.0 h

pub every_waiver_between : EveryWaiverBetween
every_waiver_between E d₁ d₂ =
    let k = computed_w in
    let h = every_tree_ends E d₂ table_n nodes_w owns_n empty_record blank words_n words_own (tried table_n nodes_w owns_n sound_n k.tree.0 (omega arith) k.tree.1)
    long_blank empty_within empty_closed in
    let w = words (0 ∷ 5 ∷ []) refl in
    let v = words (0 ∷ 4 ∷ []) refl in
    let a = k.one_left in
    let b = k.two_left in
    let c = k.both_left in
    let i = takes_both E d₂ h.2 clerk_two clerk_one v w (record { inside = omega arith; sound = k.two; owned = refl }) (record { inside = omega arith; sound = k.one; owned = refl })
    neither_w (rw b (omega arith)) (rw b (free_w _ k.two_free.0 k.two_free.1)) (rw c (omega arith)) (rw c (free_w _ k.both_free.0 k.both_free.1)) in
    let waiver : Waiver table_n (nodes_row table_n nodes_w (clerk_one ∷ [])) = rw a ((every_tree_waives table_n (0 ∷ 3 ∷ 2 ∷ 1 ∷ []) sound_n k.one_waives.0).some.0 k.one_waives.1) in
    record {
      r = h.0;
      r₁ = i.0;
      m = h.1;
      m₁ = i.1;
      history = h.2;
      first = (between_alone E d₁ d₂ table_n nodes_w owns_n h.0 i.0 h.1 i.1 h.2 clerk_two clerk_one v w neither_w i.2).by21 (rw a (omega arith)) waiver;
      other = i.2;
    }

-- ---- no room between them

plain_r : Plain table_b
unfolding table_b put production_count child_count child_of left_of synthesized inherited
plain_r zero zero k h e = omega (arith, h.set)
plain_r zero (suc zero) k h e = omega (arith, h.set)
plain_r zero (suc (suc zero)) k h e = omega (arith, h.set)
plain_r zero (suc (suc (suc q))) k h e = omega (arith, h.position)
plain_r (suc zero) zero k h e = omega (arith, h.set)
plain_r (suc zero) (suc q) k h e = omega (arith, h.position)
plain_r (suc (suc p)) q k h e = omega (arith, h.production)

record ComputedR : Type 0 where
  table : judge_table table_b ≡ 0
  tree : judge_tree table_b nodes_r owns_r 0 ≡ 0
  many : length nodes_r ≡ 511
  old : part table_b nodes_r 1 ≡ 509
  cleared : nodes_row table_b nodes_r (clears ∷ []) ≡ 0 ∷ 1 ∷ 1 ∷ []
  both : nodes_then table_b nodes_r clears grows ≡ 0 ∷ 1 ∷ 0 ∷ 1 ∷ 1 ∷ []
  over : length (nodes_row table_b nodes_r (grows ∷ [])) ≡ 513
  -- the parts are sound, each for its point's symbol, and so are the trees that are left
  clearing : judge_nodes table_b clears.nodes (left_of table_b (get_or nodes_r 1 0) ∷ []) ≡ 0
  growing : judge_nodes table_b grows.nodes (left_of table_b (get_or nodes_r 510 0) ∷ []) ≡ 0
  small : judge_nodes table_b (0 ∷ 1 ∷ 1 ∷ []) (0 ∷ []) ≡ 0
  grown : judge_nodes table_b (0 ∷ 1 ∷ 0 ∷ 1 ∷ 1 ∷ []) (0 ∷ []) ≡ 0

computed_r : ComputedR
unfolding table_b put judge_table first row some_below symbol_count production_count synthesized inherited left_of child_count child_of children_from has_set occurs rule_of head_at constant_at op_number a_field b_field uses_a uses_b uses_c misformed part_of frames misnamed refusal_at judge_tree judge_nodes size exchanged part nodes_row moved_by
computed_r = record { table = refl; tree = refl; many = refl; old = refl; cleared = refl; both = refl; over = refl; clearing = refl; growing = refl; small = refl; grown = refl }

words_table : Words table_b
unfolding table_b put
words_table = words table_b refl

words_none : Words owns_r
words_none = words owns_r refl

-- no tree of it has a waiver
free_r : (ns : List ℕ) → judge_nodes table_b ns (0 ∷ []) ≡ 0 → Free table_b ns
free_r ns tree = (plain_lawful table_b ns [] computed_r.table tree words_table (words [] refl) plain_r).free

fits_clears : FitsPart table_b nodes_r clears
fits_clears = record { inside = omega (arith, computed_r.many); sound = computed_r.clearing; owned = refl }

fits_grows : FitsPart table_b nodes_r grows
fits_grows = record { inside = omega (arith, computed_r.many); sound = computed_r.growing; owned = refl }

neither_r : NeitherInside table_b nodes_r 1 510
neither_r = record { second = λ i. omega (arith, i.before, computed_r.old); first = λ i. omega (arith, i.from) }

pub every_room_between : EveryRoomBetween
every_room_between E d₁ d₂ =
    let k = computed_r in
    let h = every_tree_ends E d₂ table_b nodes_r owns_r empty_record blank words_table words_none
    (record { table = k.table; tree = k.tree; few = omega (arith, k.many); free = free_r nodes_r (tree_sound table_b nodes_r owns_r 0 k.tree) }) long_blank empty_within empty_closed in
    let w = words (0 ∷ []) refl in
    let v = words (0 ∷ 0 ∷ 0 ∷ []) refl in
    let c = k.cleared in
    let b = k.both in
    let i = takes_both E d₂ h.2 clears grows w v fits_clears fits_grows neither_r (rw c (omega arith)) (rw c (free_r _ k.small)) (rw b (omega arith)) (rw b (free_r _ k.grown)) in
    record {
      r = h.0;
      r₁ = i.0;
      m = h.1;
      m₁ = i.1;
      history = h.2;
      first = (between_alone E d₁ d₂ table_b nodes_r owns_r h.0 i.0 h.1 i.1 h.2 clears grows w v neither_r i.2).by8 (omega (arith, k.over));
      one = i.2;
    }
