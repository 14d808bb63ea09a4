-- The tests of a step as the arrays give them. Assumes nothing.
use Rattle.std.specs.Prelude.{Bool, cond, not, ◌&&◌, ◌||◌, List, [], ℕ, eqb, ltb, get_or}
use Rattle.circles.specs.Arrays.{given}
use Rattle.circles.specs.Ranked.{circle_at, any_of}
use Rattle.climb.specs.System.{Assignment, System}
use Rattle.climb.specs.Circuit.{due_of}
use Rattle.climb.specs.Memory.{at}
use Rattle.climb.specs.Inner.Wired.{wired}
use Rattle.update.specs.declared.Record.{Record}
use Rattle.update.specs.Steps.{sown_of, survives}
use Rattle.circles.specs.Marks.{not_declared}

-- 10.2: the argument y lies outside the circle with the least instance l, and its value differs from its before value
abbrev pub moved_in : List ℕ → Assignment → Assignment → ℕ → ℕ → Bool
moved_in label b v l y = not (eqb (get_or label y 0) l) && not (eqb (v y) (b y))

-- 10.2: an instance of C, the circle with the least instance l, is sown or reads such an argument
unfoldable pub due_in : ℕ → List ℕ → List ℕ → List ℕ → Record → Assignment → Assignment → ℕ → List ℕ → Bool
due_in n a b label r bv sv l C = any_of (λ x. sown_of r x || any_of (moved_in label bv sv l) (given n (get_or a x not_declared) (get_or b x not_declared))) C

-- 10.2: whether circle i is due
abbrev pub due_at : System → List (List ℕ) → Record → List ℕ → List ℕ → ℕ → Bool
due_at S R r earlier sets i = due_of S (sown_of r) (at earlier) (at sets) (circle_at R i)

-- the system of a due test: who reads whom is all that it needs
abbrev pub reading : ℕ → List ℕ → List ℕ → System
reading n a b = wired n [] [] a b [] []

-- 11.4: slot x is declared, survives and has another set than before
abbrev pub counted_in : ℕ → List ℕ → Record → List ℕ → List ℕ → ℕ → Bool
counted_in n a r earlier sets x = (ltb x n && not (eqb (get_or a x not_declared) not_declared)) && survives r x && not (eqb (at sets x) (at earlier x))

abbrev pub one_if : Bool → ℕ
one_if t = cond t 1 0
