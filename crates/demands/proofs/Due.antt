-- The test for a due circle is what it is meant to be. Assumes nothing.
use mathlib.Core.Path.{◌≡◌}
use mathlib.Core.Bool.{Bool, true, not, ◌&&◌, ◌||◌, or-true}
use mathlib.Core.Logic.{⊎_elim}
use mathlib.Core.List.{List}
use Prim.Native.Nat.{ℕ}
use lib.Dec.{eqb}
use borrow.Author.Tests.{eqb-false, ne_eqb, not-true}
use Rattle.circles.specs.Ranked.{member, any_of}
use Rattle.circles.proofs.Lists.{or_parts, any_of_lem, of_any}
use Rattle.climb.specs.System.{Assignment, System}
use Rattle.climb.specs.Circuit.{due_of}
use Rattle.climb.proofs.Lists.{and_is, member_in, member_of}
use Rattle.demands.specs.Work.{Due, by_fresh, by_argument, DueExactly}

module _ (S : System) (fresh : ℕ → Bool) (before v : Assignment) (C : List ℕ) where
  abbrev differs : ℕ → Bool
  differs y = not (member C y) && not (eqb (v y) (before y))

  abbrev calls : ℕ → Bool
  calls x = fresh x || any_of differs (S.args x)

  due_to : due_of S fresh before v C ≡ true → Due S fresh before v C
  unfolding due_of
  due_to h =
      let s = any_of_lem calls C h in
      let x = s.0 in
      let m = member_of C x s.1 in
      ⊎_elim (by_fresh x m)
      (λ p. let a = any_of_lem differs (S.args x) p in
      let y = a.0 in
      let q = and_is a.2 in
      by_argument x y m a.1 (not-true (member C y) q.0) (eqb-false (v y) (before y) (not-true (eqb (v y) (before y)) q.1)))
      (or_parts (fresh x) (any_of differs (S.args x)) s.2)

  due_from : Due S fresh before v C → due_of S fresh before v C ≡ true
  unfolding due_of
  due_from (by_fresh x m h) = of_any calls (member_in C x m) (rw h)
  due_from (by_argument x y m a o d) = of_any calls (member_in C x m) (rw (of_any differs a (rw (o, ne_eqb (v y) (before y) d))) (or-true (fresh x)))

pub due_exactly : DueExactly
due_exactly S fresh before v C = (due_to S fresh before v C, due_from S fresh before v C)
