-- The ten cases of 25.1, as one table with one claim. Assumes nothing.
use Rattle.std.specs.Prelude.{◌≡◌, Bool, true, false, cond, ◌&&◌, List, [], ◌∷◌, ◌++◌, map, ℕ, zero, suc, ◌+◌, ◌^◌, eqb, replicate}
use Rattle.sets.specs.declared.Argument.{Argument}
use Rattle.sets.specs.declared.Op.TheVariants.{MeetConstant, IfAll, IfMany, JoinOwn}
use Rattle.sets.specs.Operations.{value_of}
use Rattle.table.specs.Example.{table_a}
use Rattle.climb.specs.System.{weight}
use Rattle.climb.specs.Memory.{at}
use Rattle.update.specs.declared.Record.{Record}
use Rattle.update.specs.Records.{empty_record}
use Rattle.update.specs.Memories.{Memory}
use Rattle.update.specs.Steps.{Outcome, round, done}
use Rattle.update.specs.Calls.{Said, refused, said, load_call, replace_call, step_call}
use Rattle.circles.specs.Marks.{slots_most}
use Rattle.tree.specs.Tree.{nodes_most}

-- 25.1: a case: what the definitions give, and what they are to give
pub record Case : Type 0 where
  pub number : ℕ
  pub given : List ℕ
  pub wanted : List ℕ

abbrev pub same : List ℕ → List ℕ → Bool
same [] [] = true
same [] (y ∷ l) = false
same (x ∷ k) [] = false
same (x ∷ k) (y ∷ l) = eqb x y && same k l

abbrev pub holds : Case → Bool
holds c = same c.given c.wanted

abbrev pub every_holds : List Case → Bool
every_holds [] = true
every_holds (c ∷ l) = holds c && every_holds l

-- ---- session A through the definitions of load, replacement and step

-- 18.1: an outcome as frames 11 and 12 number it: least, round, size and closed, or circles, evaluations and changed
abbrev pub numbers : Outcome → List ℕ
numbers (round least k size closed) = 17 ∷ least ∷ k ∷ size ∷ cond closed 1 0 ∷ []
numbers (done circles evaluations changed) = 18 ∷ circles ∷ evaluations ∷ changed ∷ []

-- what is left in the end, and the numbers on the way
pub record Walk : Type 0 where
  pub told : List ℕ
  pub next : Record
  pub memory : Memory

-- a step's answer before those of the steps behind it; done and a refusal end the walk
abbrev pub told_first : List ℕ → Walk → Walk
told_first l w = record { told = l ++ w.told; next = w.next; memory = w.memory }

abbrev pub walk_on : Said Outcome → Record → Memory → (Record → Memory → Walk) → Walk
walk_on (refused n) r m go = record { told = 31 ∷ n ∷ []; next = r; memory = m }
walk_on (said (round least k size closed)) r m go = told_first (numbers (round least k size closed)) (go r m)
walk_on (said (done circles evaluations changed)) r m go = record { told = numbers (done circles evaluations changed); next = r; memory = m }

-- n steps at the most
unfoldable pub walk : ℕ → Record → Memory → Walk
walk zero r m = record { told = []; next = r; memory = m }
walk (suc n) r m = let l = step_call table_a m r in walk_on l.answer l.next l.memory (walk n)

-- 7.2: buffers of the shortest length that is taken
unfoldable pub blank : Memory
blank = record { productions = replicate nodes_most 0; owns = replicate nodes_most 0; sets = replicate slots_most 0; earlier = replicate slots_most 0 }

-- 26.2: after the load of session A's tree: production 0 over two of production 1, of which the first has the own set 2
unfoldable pub load_a : Walk
load_a = let l = load_call table_a blank empty_record (0 ∷ 1 ∷ 1 ∷ []) (0 ∷ 2 ∷ 0 ∷ []) in walk 10 l.next l.memory

-- 26.2: and after a replacement of node 1 by one node of production p with an empty own set
unfoldable pub replace_a : ℕ → Walk
replace_a p = let l = replace_call table_a load_a.memory load_a.next 1 (p ∷ []) (0 ∷ []) in walk 10 l.next l.memory

-- the five sets of session A
abbrev pub sets_a : Walk → List ℕ
sets_a w = map (at w.memory.sets) (0 ∷ 8 ∷ 12 ∷ 16 ∷ 20 ∷ [])

-- ---- the table

abbrev pub some : Argument
some = record { position = 0; index = 0 }

-- 25.1: the ten, by their numbers
unfoldable pub cases : List Case
cases =
    -- operation 6 asks for nothing: b, whatever a is
    record { number = 1; given = value_of (IfAll some some 0) 0 0 6 ∷ value_of (IfAll some some 0) 0 9 6 ∷ []; wanted = 6 ∷ 6 ∷ [] }
    -- operation 6 asks for two members: one is too few
    ∷ record { number = 2; given = value_of (IfAll some some 3) 0 1 6 ∷ value_of (IfAll some some 3) 0 3 6 ∷ []; wanted = 0 ∷ 6 ∷ [] }
    -- operation 7 asks for none
    ∷ record { number = 3; given = value_of (IfMany some some 0) 0 0 6 ∷ []; wanted = 6 ∷ [] }
    -- operation 7 asks for two members: one is too few
    ∷ record { number = 4; given = value_of (IfMany some some 2) 0 5 6 ∷ value_of (IfMany some some 2) 0 4 6 ∷ []; wanted = 6 ∷ 0 ∷ [] }
    -- operation 3
    ∷ record { number = 5; given = value_of (MeetConstant some 5) 0 7 0 ∷ []; wanted = 5 ∷ [] }
    -- operation 8
    ∷ record { number = 6; given = value_of (JoinOwn some) 2 1 0 ∷ []; wanted = 3 ∷ [] }
    -- the load of session A: five rounds of the circle with 8 in it, which has four members in the end
    ∷ record {
      number = 7;
      given = load_a.told ++ (weight (8 ∷ 12 ∷ 16 ∷ 20 ∷ []) (at load_a.memory.sets) ∷ []);
      wanted = 17 ∷ 8 ∷ 1 ∷ 4 ∷ 0 ∷ 17 ∷ 8 ∷ 2 ∷ 4 ∷ 0 ∷ 17 ∷ 8 ∷ 3 ∷ 4 ∷ 0 ∷ 17 ∷ 8 ∷ 4 ∷ 4 ∷ 0 ∷ 17 ∷ 8 ∷ 5 ∷ 4 ∷ 1 ∷ 17 ∷ 0 ∷ 1 ∷ 1 ∷ 1 ∷ 18 ∷ 2 ∷ 21 ∷ 0 ∷ 4 ∷ [];
    }
    -- its replacement leaves nothing in any of the five
    ∷ record {
      number = 8;
      given = (replace_a 1).told ++ sets_a (replace_a 1);
      wanted = 17 ∷ 8 ∷ 1 ∷ 4 ∷ 1 ∷ 17 ∷ 0 ∷ 1 ∷ 1 ∷ 1 ∷ 18 ∷ 2 ∷ 5 ∷ 5 ∷ 0 ∷ 0 ∷ 0 ∷ 0 ∷ 0 ∷ [];
    }
    -- with production 2 instead every circle is lone; they come in this order, and each counts once
    ∷ record {
      number = 9;
      given = (replace_a 2).told;
      wanted = 17 ∷ 8 ∷ 1 ∷ 1 ∷ 1 ∷ 17 ∷ 20 ∷ 1 ∷ 1 ∷ 1 ∷ 17 ∷ 16 ∷ 1 ∷ 1 ∷ 1 ∷ 17 ∷ 0 ∷ 1 ∷ 1 ∷ 1 ∷ 17 ∷ 12 ∷ 1 ∷ 1 ∷ 1 ∷ 18 ∷ 5 ∷ 5 ∷ 5 ∷ [];
    }
    -- operation 7 asks for two members, and a note is none
    ∷ record { number = 10; given = value_of (IfMany some some 2) 0 (3 + 2 ^ 56) 6 ∷ value_of (IfMany some some 2) 0 (1 + 2 ^ 56) 6 ∷ []; wanted = 6 ∷ 0 ∷ [] }
    ∷ []

-- 25.1: the claim
abbrev pub EveryCase : Type 0
EveryCase = every_holds cases ≡ true
