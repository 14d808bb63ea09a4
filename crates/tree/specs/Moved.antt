-- Where the places of a list go when a part of it is exchanged, as a relation. Assumes nothing.
use Rattle.std.specs.Prelude.{ℕ, ◌+◌, ◌≤◌, ◌<◌, ◌≡◌}

-- 9.4: place x of a list from whose place r on k places are exchanged for s: at r and before it x stays, behind the k places it shifts
pub data Moved (r k s x y : ℕ) : Type 0 where
  stays : x ≤ r → y ≡ x → Moved r k s x y
  shifts : r + k ≤ x → x + s ≡ y + k → Moved r k s x y

-- 9.4: the same for places other than r
pub data Outer (r k s x y : ℕ) : Type 0 where
  ahead : x < r → y ≡ x → Outer r k s x y
  behind : r + k ≤ x → x + s ≡ y + k → Outer r k s x y
