-- The numbers that the record has in the midst of an update are counts, and none was ever cut off at a limit. Assumes nothing.
use Rattle.std.specs.Prelude.{◌≡◌, Bool, true, cond, ◌↔◌, List, ℕ, suc, ◌+◌, ◌*◌, eqb, length}
use Rattle.climb.specs.System.{Assignment, graph_of}
use Rattle.wire.specs.Instances.{system}
use Rattle.update.specs.declared.Record.{Record}
use Rattle.update.specs.Records.{working}
use Rattle.update.specs.Memories.{Memory}
use Rattle.demands.specs.Engine.{Engine}
use Rattle.demands.specs.History.{Working, Opening}
use Rattle.demands.specs.Asked.{LeastSets, ByRank}
use Rattle.demands.specs.Work.{climb_by, over_due, RoundTurn}
use Rattle.demands.specs.Demands.{WorkedOn}
use Rattle.circles.specs.Ranked.{circle_at}

-- 7.11: the record of the update r at rank i with k rounds of circle i made, where nothing has a limit: the circles worked are the due ones below i, and the
-- evaluations are the size of each of these times its rounds, added up, and the size of circle i for each of the k rounds
abbrev pub counted_at : Record → List (List ℕ) → (ℕ → Bool) → (ℕ → ℕ) → ℕ → ℕ → Record
counted_at r R due climb i k = working r i k (over_due due (λ j. 1) i) (over_due due (λ j. length (circle_at R j) * climb j) i + length (circle_at R i) * k)

-- 7.11, 10.9: behind round k of circle i: if it was the circle's last, the rank is one past the circle's and no round of the next is made
abbrev pub counted_behind : Record → List (List ℕ) → (ℕ → Bool) → (ℕ → ℕ) → ℕ → ℕ → Record
counted_behind r R due climb i k = cond (eqb k (climb i)) (counted_at r R due climb (suc i) 0) (counted_at r R due climb i k)

-- 7.11: whatever row of steps and runs made its rounds from the opening on, the record is this one
pub record Uncut (E : Engine) (t : List ℕ) (R : List (List ℕ)) (due : ℕ → Bool) (climb : ℕ → ℕ) (r : Record) (m : Memory) : Type 0 where
  pub opening : {next : Record} {memory : Memory} → Working E t r m 0 next memory → next ≡ counted_at r R due climb 0 0
  pub behind : {n : ℕ} {next : Record} {memory : Memory} → Working E t r m (suc n) next memory → (i k : ℕ) → RoundTurn (length R) due climb i k n
      → next ≡ counted_behind r R due climb i k

-- 7.11: in every update that E opens, of the circles R by rank and the least sets v, the due circles being those worked on. A program that holds a round,
-- circles or evaluations number to a limit that some update passes is shut out; that a number stays within its limit would not shut it out, since holding it
-- there sees to that
abbrev pub NeverCut : Engine → Type 0
NeverCut E = (t ns owns : List ℕ) (r : Record) (m : Memory) → Opening E t ns owns r m → (v : Assignment) → LeastSets (system t ns owns) v
    → (R : List (List ℕ)) → ByRank (graph_of (system t ns owns)) R → (due : ℕ → Bool) → ((i : ℕ) → (due i ≡ true) ↔ WorkedOn E t r m (circle_at R i))
    → Uncut E t R due (climb_by (system t ns owns) R v) r m
