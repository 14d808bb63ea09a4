-- The sets of the tree of specs/Unless: by rank there are least ones, of all consistent assignments there is none. Assumes nothing.
use mathlib.Core.Path.{◌≡◌, refl, sym, ap, ◌∙◌}
use mathlib.Core.Bool.{Bool, true, false, not, ◌&&◌}
use mathlib.Core.List.{List, [], ◌∷◌}
use Prim.Native.Nat.{ℕ}
use native.Mathlib.Omega.{arith}
use lib.Dec.{eqb}
use lib.ListN.{get_or}
use borrow.Author.Tests.{not-false, eqb-true}
use Rattle.sets.specs.Operations.{without, value_of}
use Rattle.sets.specs.Arguments.{arguments_of}
use Rattle.sets.specs.Members.{◌⊑◌}
use Rattle.sets.proofs.Order.{sub_zero, sub_antisym}
use Rattle.table.specs.First.{some_below}
use Rattle.table.specs.Words.{synthesized, inherited, left_of, has_set, rule_of, head_at, constant_at, child_count}
use Rattle.table.specs.Equations.{op_number, a_field, b_field, argument, op_of, equation_at}
use Rattle.table.specs.Example.{put}
use Rattle.table.proofs.FirstLaws.{some_none}
use Rattle.tree.specs.Tree.{size, child_at}
use Rattle.tree.specs.Owner.{owner}
use Rattle.climb.specs.System.{Assignment, Consistent}
use Rattle.climb.specs.Memory.{at}
use Rattle.wire.specs.Instances.{declared, place_of, rule_at, op_at, named, args_at, eval_at, system}
use Rattle.wire.proofs.Places.{declared_below}
use Rattle.demands.specs.Engine.{ours}
use Rattle.demands.specs.Unless.{table_e, node_e, own_e, HeldLoadable, HeldByRank, NoneLeast, NotOfAll}
use Rattle.update.specs.Records.{empty_record}
use Rattle.update.specs.Cases.{blank}
use Rattle.demands.proofs.Updating.{one_least}
use Rattle.demands.proofs.Ours.{ours_2, every_tree_ends}
use Rattle.demands.proofs.Trials.{load_run, words_e, words_none, tree_e, long_blank, empty_within, empty_closed}
use Rattle.demands.proofs.Beside.{loaded_history}
use Rattle.demands.proofs.Computed.{others}

pub held_loadable : HeldLoadable
held_loadable = tree_e

-- ours comes to them
pub held_by_rank : HeldByRank
held_by_rank v L =
    let l = load_run ours table_e node_e own_e in
    let h = ours_2.holds table_e node_e own_e l.next l.memory (loaded_history words_e words_none others.ours_e) in
    let e = one_least (system table_e node_e own_e) v (at l.memory.sets) L h.sets in
    record { first = ap (λ (u : Assignment). u 0) e ∙ others.firstly; second = ap (λ (u : Assignment). u 1) e ∙ others.secondly; third = ap (λ (u : Assignment). u 2) e ∙ others.unless }

-- ---- two consistent assignments

-- where a declared set is not what its equation gives
abbrev off : List ℕ → ℕ → Bool
off sets x = declared table_e node_e x && not (eqb (get_or sets x 0) ((system table_e node_e own_e).eval (at sets) x))

record Evened : Type 0 where
  third : some_below (off (0 ∷ 1 ∷ 1 ∷ [])) 8 ≡ false
  first : some_below (off (1 ∷ 1 ∷ 0 ∷ [])) 8 ≡ false
  second : (v : Assignment) → (system table_e node_e own_e).eval v 1 ≡ 1
  unless : (v : Assignment) → (system table_e node_e own_e).eval v 2 ≡ without (v 1) (v 0)
  declares : (declared table_e node_e 0 ≡ true) × (declared table_e node_e 1 ≡ true) × (declared table_e node_e 2 ≡ true)

evened : Evened
unfolding table_e put some_below value_of arguments_of declared args_at eval_at op_at named place_of rule_at rule_of head_at constant_at op_number a_field b_field argument op_of equation_at size child_at owner child_count synthesized inherited left_of has_set
evened = record { third = refl; first = refl; second = λ v. refl; unless = λ v. refl; declares = (refl, refl, refl) }

rest : (a b : Bool) → a ≡ true → (a && b) ≡ false → b ≡ false
rest a b h k = rw h at k

consistent : (sets : List ℕ) → some_below (off sets) 8 ≡ false → Consistent (system table_e node_e own_e) (at sets)
consistent sets h = record { holds = λ x d. eqb-true (get_or sets x 0) ((system table_e node_e own_e).eval (at sets) x) (not-false _ (rest (declared table_e node_e x) _ d (some_none (off sets) 8 h x (declared_below table_e node_e x d)))) }

none : {a : ℕ} → a ⊑ 0 → a ≡ 0
none {a} h = sub_antisym h (sub_zero a)

pub none_least : NoneLeast
none_least v L =
    let l = L.least in
    let d = evened.declares in
    let first : v 0 ≡ 0 = none (l.least (at (0 ∷ 1 ∷ 1 ∷ [])) (consistent (0 ∷ 1 ∷ 1 ∷ []) evened.third) 0 d.0) in
    let third : v 2 ≡ 0 = none (l.least (at (1 ∷ 1 ∷ 0 ∷ [])) (consistent (1 ∷ 1 ∷ 0 ∷ []) evened.first) 2 d.2) in
    let second : v 1 ≡ 1 = l.consistent.holds 1 d.1 ∙ evened.second v in
    let unless : v 2 ≡ without 1 0 = l.consistent.holds 2 d.2 ∙ evened.unless v ∙ ap (λ (a : ℕ). without a (v 0)) second ∙ ap (without 1) first in
    let z : ◌≡◌ {A = ℕ} 1 0 = sym unless ∙ third in
    absurd (omega arith)

pub not_of_all : NotOfAll
not_of_all E d all =
    let h = every_tree_ends E d table_e node_e own_e empty_record blank words_e words_none tree_e long_blank empty_within empty_closed in
    none_least (at h.1.sets) (all table_e node_e own_e h.0 h.1 h.2)
