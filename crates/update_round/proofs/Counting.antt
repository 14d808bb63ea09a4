-- What changed, counted slot by slot. Assumes nothing.
use mathlib.Core.Path.{◌≡◌, refl, ap, ◌∙◌}
use mathlib.Core.Bool.{Bool, true, false, cond}
use mathlib.Core.List.{List, [], ◌∷◌}
use Prim.Native.Nat.{ℕ}
use lib.ListN.{length}
use Rattle.std.specs.List.{filter, range_with_len}
use Rattle.circles.specs.Ranked.{keep}
use Rattle.climb.proofs.Lists.{up_is}
use Rattle.update.specs.declared.Record.{Record}
use Rattle.update.specs.Records.{is_load}
use Rattle.update.specs.Steps.{changed_of}
use Rattle.update_round.specs.Inner.Tests.{counted_in, reading}

pub changed_load : (n : ℕ) (a : List ℕ) (r : Record) (earlier sets : List ℕ) → is_load r.«open» ≡ true → 0 ≡ changed_of (reading n a a) r earlier sets
unfolding changed_of
changed_load n a r earlier sets h = rw h

-- what the library keeps of a list
kept : (p : ℕ → Bool) (l : List ℕ) → filter p l ≡ keep p l
unfolding keep
kept p [] = refl
kept p (x ∷ l) = ap (λ (k : List ℕ). cond (p x) (x ∷ k) k) (kept p l)

pub changed_is : (n : ℕ) (a : List ℕ) (r : Record) (earlier sets : List ℕ) → is_load r.«open» ≡ false
    → length (filter (counted_in n a r earlier sets) (range_with_len 0 n)) ≡ changed_of (reading n a a) r earlier sets
unfolding changed_of
changed_is n a r earlier sets h =
    let p = counted_in n a r earlier sets in
    rw h (ap length (kept p (range_with_len 0 n) ∙ ap (keep p) (up_is n 0)))
