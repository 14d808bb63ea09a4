-- What a round of a circle is, wholly as it is defined. Assumes nothing.
use Rattle.std.specs.Prelude.{◌≡◌, Bool, List, ℕ}
use Rattle.climb.specs.System.{System}
use Rattle.update.specs.Steps.{from_of, to_of, closed_of}

-- 10.5, 10.6, 10.7: round k of the circle C: its sets, and whether it closes
pub record RoundSays (S : System) (C : List ℕ) (k : ℕ) (s s' : List ℕ) (t : Bool) : Type 0 where
  pub sets : s' ≡ to_of S C (from_of S C k s)
  pub closed : t ≡ closed_of S C (from_of S C k s) (to_of S C (from_of S C k s))
