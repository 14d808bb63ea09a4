-- What is known of an update just opened, and that it begins as the laws of one update ask. Assumes nothing.
use mathlib.Core.Path.{◌≡◌, sym}
use mathlib.Core.Bool.{true, false}
use mathlib.Core.Logic.{⊎_elim}
use mathlib.Core.List.{List, [], ◌∷◌}
use Prim.Native.Nat.{ℕ, ◌≤◌}
use native.Mathlib.Nat.{le_trans}
use native.Mathlib.Omega.{arith}
use lib.Dec.{eqb}
use lib.ListN.{length, get_or, take}
use borrow.Author.Tests.{eqb-true}
use Rattle.table.specs.Judge.{judge_table}
use Rattle.tree.specs.Tree.{judge_nodes, judge_tree}
use Rattle.circles.specs.Ranked.{ranked}
use Rattle.circles.specs.Laws.{Ordered}
use Rattle.circles.specs.Laws.{declared_count}
use Rattle.circles.proofs.Sequence.{ordered}
use Rattle.climb.specs.System.{graph_of}
use Rattle.climb.specs.Inside.{Small}
use Rattle.climb.specs.Circuit.{Ranked, Few, LawfulCircles, Kept}
use Rattle.climb.specs.ByRank.{LeastByRank}
use Rattle.climb.specs.Restrict.{Solved}
use Rattle.climb.specs.Waived.{LawfulBut}
use Rattle.climb.specs.Memory.{at}
use Rattle.climb.proofs.Lists.{either}
use Rattle.wire.specs.Instances.{declared, system, waived}
use Rattle.wire.specs.Laws.{Words}
use Rattle.wire.specs.Waivers.{Free}
use Rattle.wire.proofs.Lawful.{tree_lawful, few_instances}
use Rattle.wire.proofs.Waivers.{circles_lawful}
use Rattle.update.specs.declared.Record.{Record}
use Rattle.update.specs.Records.{is_open_kind, beyond, shut}
use Rattle.update.specs.Memories.{Memory}
use Rattle.update.specs.Within.{Roomy, Fresh}
use Rattle.update.specs.Steps.{sown_of}
use Rattle.update.specs.Course.{Begins}

-- ---- a tree that passes

pub tree_equal : (t ns owns : List ℕ) (s : ℕ) → judge_tree t ns owns s ≡ 0 → length owns ≡ length ns
unfolding judge_tree
tree_equal t ns owns s h = ⊎_elim
    (λ (e : eqb (length ns) (length owns) ≡ true). sym (eqb-true (length ns) (length owns) e))
    (λ (e : eqb (length ns) (length owns) ≡ false). let z : 7 ≡ 0 = rw e at h in absurd (omega arith))
    (either (eqb (length ns) (length owns)))

pub tree_sound : (t ns owns : List ℕ) (s : ℕ) → judge_tree t ns owns s ≡ 0 → judge_nodes t ns (s ∷ []) ≡ 0
unfolding judge_tree
tree_sound t ns owns s h = ⊎_elim
    (λ (e : eqb (length ns) (length owns) ≡ true). rw e at h)
    (λ (e : eqb (length ns) (length owns) ≡ false). let z : 7 ≡ 0 = rw e at h in absurd (omega arith))
    (either (eqb (length ns) (length owns)))

-- the circles of its system, by rank
abbrev pub circles : List ℕ → List ℕ → List ℕ → List (List ℕ)
circles t ns owns = ranked (graph_of (system t ns owns))

-- a sound table and a sound tree without a waiver inside a circle, with their words
pub record Sound (t ns owns : List ℕ) : Type 0 where
  pub words : Words t
  pub owned : Words owns
  pub table : judge_table t ≡ 0
  pub tree : judge_tree t ns owns 0 ≡ 0
  pub few : length ns ≤ 512
  pub free : Free t ns

module _ {t ns owns : List ℕ} (q : Sound t ns owns) where
  pub but_waived : LawfulBut (system t ns owns) (waived t ns)
  but_waived = tree_lawful t ns owns q.table (tree_sound t ns owns 0 q.tree) q.words q.owned

  pub lawful : LawfulCircles (system t ns owns) (circles t ns owns)
  lawful = circles_lawful t ns owns q.table (tree_sound t ns owns 0 q.tree) q.few q.words q.owned q.free

  counted : declared_count (graph_of (system t ns owns)) ≤ 4092
  unfolding declared_count
  counted = few_instances t ns q.table (tree_sound t ns owns 0 q.tree) q.few

  sequence : Ordered (graph_of (system t ns owns)) (circles t ns owns)
  sequence = ordered (graph_of (system t ns owns)) (record { bound = but_waived.bound; closed = but_waived.closed }) (omega (arith, q.few))

  pub in_rank : Ranked (system t ns owns) (circles t ns owns)
  in_rank = record { apart = sequence.apart; reads = sequence.reads; declared = sequence.declared; covers = sequence.covers }

  pub few_circles : Few (circles t ns owns)
  few_circles = record {
    count = le_trans sequence.count counted;
    total = omega (arith, sequence.total, counted);
  }

-- an update just opened: sets and before values are the same
pub record Ready (t ns owns : List ℕ) (r : Record) (m : Memory) : Type 0 where
  pub sound : Sound t ns owns
  pub count : r.nodes ≡ length ns
  pub held : r.held ≡ true
  pub isopen : is_open_kind r.«open» ≡ true
  pub fresh : Fresh r
  pub within : beyond r ≡ false
  pub roomy : Roomy m
  pub nodes : take (length ns) m.productions ≡ ns
  pub owns' : take (length ns) m.owns ≡ owns
  pub behind : (i : ℕ) → length ns ≤ i → (get_or m.productions i 0 ≡ 0) × (get_or m.owns i 0 ≡ 0)
  pub earlier : at m.earlier ≡ at m.sets
  pub small : Small (at m.sets)
  pub empty : (x : ℕ) → declared t ns x ≡ false → at m.sets x ≡ 0
  pub kept : Kept (system t ns owns) (circles t ns owns) (sown_of r) (at m.sets)

pub begins : {t ns owns : List ℕ} {r : Record} {m : Memory} → Ready t ns owns r m → Begins (system t ns owns) (circles t ns owns) r m.sets
begins q = record {
  lawful = lawful q.sound;
  ranked = in_rank q.sound;
  few = few_circles q.sound;
  fresh = q.fresh;
  small = q.small;
  room = λ x d. omega (arith, (but_waived q.sound).bound x d, q.sound.few, q.roomy.sets);
}

-- a finished update: the sets are the least by rank
pub record Settled (t ns owns : List ℕ) (r : Record) (m : Memory) : Type 0 where
  pub sound : Sound t ns owns
  pub closed : r ≡ shut true (length ns)
  pub roomy : Roomy m
  pub nodes : take (length ns) m.productions ≡ ns
  pub owns' : take (length ns) m.owns ≡ owns
  pub behind : (i : ℕ) → length ns ≤ i → (get_or m.productions i 0 ≡ 0) × (get_or m.owns i 0 ≡ 0)
  pub small : Small (at m.sets)
  pub empty : (x : ℕ) → declared t ns x ≡ false → at m.sets x ≡ 0
  pub emptied : (x : ℕ) → declared t ns x ≡ false → at m.earlier x ≡ 0
  pub least : LeastByRank (system t ns owns) (circles t ns owns) (at m.sets)

pub solved : {t ns owns : List ℕ} {r : Record} {m : Memory} → Settled t ns owns r m → Solved (system t ns owns) (circles t ns owns) (at m.sets)
solved q = record { lawful = lawful q.sound; ranked = in_rank q.sound; small = q.small; least = q.least }
