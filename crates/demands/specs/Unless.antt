-- Why demand 2 goes by rank: a table with a waiver and a tree that a load takes, of whose consistent assignments none is the least. Assumes nothing.
use Rattle.std.specs.Prelude.{◌≡◌, List, [], ◌∷◌, ℕ, replicate}
use Rattle.table.specs.Example.{put}
use Rattle.climb.specs.System.{Assignment}
use Rattle.climb.specs.Memory.{at}
use Rattle.wire.specs.Instances.{system}
use Rattle.update.specs.declared.Record.{Record}
use Rattle.update.specs.Memories.{Memory}
use Rattle.demands.specs.Engine.{Engine}
use Rattle.demands.specs.History.{History}
use Rattle.demands.specs.Asked.{Loadable, LeastSets, LeastOfAll}
use Rattle.demands.specs.Demands.{Demand2}

-- a symbol with three sets and one production without children: the first set is its own argument, the second is reason 0, and the third has what is in the
-- second unless it is in the first
unfoldable pub table_e : List ℕ
unfolding put
table_e = put (put (put (put (put (replicate 180 0) 0 257) 1 768) 97 8589934592) 100 1) 101 38654771200

-- one node, without own reasons
abbrev pub node_e : List ℕ
node_e = 0 ∷ []

abbrev pub own_e : List ℕ
own_e = 0 ∷ []

-- 15.5: a load takes it
abbrev pub HeldLoadable : Type 0
HeldLoadable = Loadable table_e node_e own_e

-- 6.3: by rank nothing is in the first set, so that the third has reason 0
pub record HeldSets (v : Assignment) : Type 0 where
  pub first : v 0 ≡ 0
  pub second : v 1 ≡ 1
  pub third : v 2 ≡ 1

abbrev pub HeldByRank : Type 0
HeldByRank = (v : Assignment) → LeastSets (system table_e node_e own_e) v → HeldSets v

-- 5.6: with reason 0 in the first set and an empty third all is consistent too, and nothing consistent is below both
abbrev pub NoneLeast : Type 0
NoneLeast = (v : Assignment) → LeastOfAll (system table_e node_e own_e) v → ⊥

-- 23.3: so demand 2 without ranks would be wrong: whoever meets it as it stands has a history whose sets are not the least of all
abbrev pub NotOfAll : Type 0
NotOfAll = (E : Engine) → Demand2 E
    → ((t ns owns : List ℕ) (r : Record) (m : Memory) → History E t ns owns r m → LeastOfAll (system t ns owns) (at m.sets)) → ⊥
