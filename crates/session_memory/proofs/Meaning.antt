-- What the tests of a state say: long enough buffers, a line that is begun, and points that can have been named. Assumes nothing.
use mathlib.Core.Path.{◌≡◌, sym, ◌∙◌}
use mathlib.Core.Bool.{false, true≢false}
use mathlib.Core.List.{List}
use mathlib.Core.Logic.{⊎_elim}
use Prim.Native.Nat.{ℕ, ◌*◌, ◌≤◌, ◌<◌}
use native.Mathlib.Omega.{arith}
use borrow.Author.Tests.{ltb-false, leb-false, le-ltb, lt-leb, eq-eqb, ne_eqb}
use lib.Dec.{eqb}
use lib.ListN.{length, take, get_or, length-take, get_or-eq_default}
use lib.Seq.{get_or-take}
use Rattle.text_line.proofs.Values.{lt_or_ge}
use Rattle.table.proofs.FirstLaws.{some_none, some_all}
use Rattle.climb.proofs.Lists.{or_false_is}
use Rattle.update.proofs.Within.{short_means}
use Rattle.tree.specs.Handed.{announced}
use Rattle.session_owed.specs.Owed.{Begun, NamedSoFar, named_in}
use Rattle.session_memory.specs.Suspended.{Suspended, Wide}
use Rattle.session_memory.specs.Refusals.{narrow, overrun, misnamed}
use Rattle.session_memory.specs.Refused.{NarrowMeans, OverrunMeans, MisnamedMeans}

wide : (d : Suspended) (out : List ℕ) → narrow d out ≡ false → Wide d.words d.window d.parts d.part_owns d.memory out
unfolding narrow
wide d out h =
    let a = or_false_is h in
    let b = or_false_is a.0 in
    let c = or_false_is b.0 in
    let e = or_false_is c.0 in
    let f = or_false_is e.0 in
    record {
      words_room = ltb-false (length d.words) 2657 f.0;
      window_room = ltb-false (length d.window) 29 f.1;
      parts_room = ltb-false (length d.parts) 513 e.1;
      owns_room = ltb-false (length d.part_owns) 521 c.1;
      room = (short_means d.memory).0 b.1;
      print_room = ltb-false (length out) 131072 a.1;
    }

not_narrow : (d : Suspended) (out : List ℕ) → Wide d.words d.window d.parts d.part_owns d.memory out → narrow d out ≡ false
unfolding narrow
not_narrow d out w = rw (
  le-ltb (length d.words) 2657 w.words_room,
  le-ltb (length d.window) 29 w.window_room,
  le-ltb (length d.parts) 513 w.parts_room,
  le-ltb (length d.part_owns) 521 w.owns_room,
  (short_means d.memory).1 w.room,
  le-ltb (length out) 131072 w.print_room,
)

pub narrow_means : NarrowMeans
narrow_means d out = (wide d out, not_narrow d out)

-- ---- the begun line

module _ (begun : ℕ) (window : List ℕ) where
  line : overrun begun window ≡ false → (begun ≤ 28) × Begun (take begun window)
  unfolding overrun
  line h =
      let a = or_false_is h in
      let n = length-take begun window in
      let l : begun ≤ 28 = ltb-false 28 begun a.0 in (
        l,
        record {
          few = omega arith;
          no_end = λ i k e. true≢false (sym (eq-eqb (get_or window i 0) 10 (sym (get_or-take begun window i 0 (omega arith)) ∙ e)) ∙ some_none (λ (j : ℕ). eqb (get_or window j 0) 10) begun a.1 i (omega arith));
        },
      )

  -- past the window's end there is no LF
  no_end : Begun (take begun window) → (i : ℕ) → i < begun → get_or window i 0 ≡ 10 → ⊥
  no_end b i l e = let n = length-take begun window in ⊎_elim
      (λ (k : i < length window). b.no_end i (omega arith) (get_or-take begun window i 0 l ∙ e))
      (λ (k : length window ≤ i). let z : get_or window i 0 ≡ 0 = get_or-eq_default window 0 k in omega arith)
      (lt_or_ge i (length window))

  not_overrun : (begun ≤ 28) × Begun (take begun window) → overrun begun window ≡ false
  unfolding overrun
  not_overrun w = rw (le-ltb 28 begun w.0) (some_all (λ (j : ℕ). eqb (get_or window j 0) 10) begun (λ i l. ne_eqb (get_or window i 0) 10 (no_end w.1 i l)))

pub overrun_means : OverrunMeans
overrun_means begun window = (line begun window, not_overrun begun window)

-- ---- the points that have come

module _ (count taken : ℕ) (os : List ℕ) where
  named_so_far : misnamed count taken os ≡ false → NamedSoFar count taken os
  unfolding misnamed
  named_so_far h =
      let a = or_false_is h in
      let b = or_false_is a.0 in
      record { more = leb-false count taken b.0; few = ltb-false 255 count b.1; nodes = ltb-false (65535 * taken) (announced (named_in taken os)) a.1 }

  not_misnamed : NamedSoFar count taken os → misnamed count taken os ≡ false
  unfolding misnamed
  not_misnamed n = rw (lt-leb count taken n.more, le-ltb 255 count n.few, le-ltb (65535 * taken) (announced (named_in taken os)) n.nodes)

pub misnamed_means : MisnamedMeans
misnamed_means count taken os = (named_so_far count taken os, not_misnamed count taken os)
