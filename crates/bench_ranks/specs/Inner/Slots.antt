-- What is asked of each slot of a graph, so that declared slots read only declared ones. Assumes nothing.
use Rattle.std.specs.Prelude.{ℕ, ◌<◌, ◌≡◌, List, get_or}

-- 4.5: the argument y is no slot or a declared one
abbrev pub Stands : ℕ → List ℕ → ℕ → Type 0
Stands n a y = y < n → get_or a y 0 ≡ 65534 → ⊥

-- 4.5: slot x is not declared, or both its arguments stand
abbrev pub Sure : ℕ → List ℕ → List ℕ → ℕ → Type 0
Sure n a b x = (get_or a x 0 ≡ 65534 → ⊥) → Stands n a (get_or a x 0) × Stands n a (get_or b x 0)
