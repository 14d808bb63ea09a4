-- Whether a table has an operation 9 at all: by the heads of all its rules' places. Assumes nothing.
use Rattle.std.specs.Prelude.{◌≡◌, Bool, false, List, ℕ, ◌*◌, eqb}
use Rattle.table.specs.Words.{production_count, head_at}
use Rattle.table.specs.Equations.{op_number}
use Rattle.table.specs.Judge.{judge_table}
use Rattle.circles.specs.Ranked.{any_of, up_from}
use Rattle.wire.specs.Waivers.{Plain}

abbrev pub is_nine : List ℕ → ℕ → Bool
is_nine t rule = eqb (op_number (head_at t rule)) 9

-- of twenty places a production; a word at a place without an equation may only make it say yes
unfoldable pub nine_in : List ℕ → Bool
nine_in t = any_of (is_nine t) (up_from 0 (20 * production_count t))

-- 5.7: where it says no, the table is without, and no tree over it has a waiver
abbrev pub NoneNine : Type 0
NoneNine = (t : List ℕ) → judge_table t ≡ 0 → nine_in t ≡ false → Plain t
