-- Slots that aren't declared become zero, node by node. Assumes nothing.
use Rattle.std.specs.Prelude.{ℕ, Bool, cond, not, ◌&&◌, List, map, leb, ltb, length, get_or}
use Rattle.circles.specs.Ranked.{up_from}
use Rattle.wire.specs.Instances.{node_of, declared}

-- node n is one of those from a to below b
unfoldable pub among : ℕ → ℕ → ℕ → Bool
among a b n = leb a n && ltb n b

-- 9.8: slot x of the sets l, where the undeclared slots of the nodes from a to below b are empty
unfoldable pub cleared_at : List ℕ → List ℕ → ℕ → ℕ → List ℕ → ℕ → ℕ
cleared_at t ns a b l x = cond (among a b (node_of x) && not (declared t ns x)) 0 (get_or l x 0)

unfoldable pub cleared : List ℕ → List ℕ → ℕ → ℕ → List ℕ → List ℕ
cleared t ns a b l = map (cleared_at t ns a b l) (up_from 0 (length l))
