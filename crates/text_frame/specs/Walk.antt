-- A table frame by frame: which frame comes next. Assumes nothing.
use Rattle.std.specs.Prelude.{ℕ, zero, suc, ◌+◌, ◌-◌, ◌≤◌, ◌<◌, ◌≡◌, Bool, true, false, cond, List, [], ◌∷◌, ltb, length}
use Rattle.table.specs.Words.{symbol_count, production_count, child_count, defined}
use Rattle.table.specs.Judge.{Frame, header, symbol, production, equation, frames, judge_table}
use Rattle.table.specs.Shape.{Shaped}
use Rattle.text_frame.specs.declared.Expected.{Expected}
use Rattle.text_frame.specs.declared.Expected.TheVariants.{AtHeader, AtSymbol, AtProduction, AtEquation, Ended}

-- the frame that is expected; at the end there is none, and this one is not looked at
abbrev pub entry_of : Expected → Frame
entry_of AtHeader = header
entry_of (AtSymbol s) = symbol s
entry_of (AtProduction p) = production p
entry_of (AtEquation p q k) = equation p q k
entry_of Ended = header

-- 17.2: behind the last equation of production p: the next one's frame, or the end
abbrev pub after_part : List ℕ → ℕ → Expected
after_part t p = cond (ltb (p + 1) (production_count t)) (AtProduction (p + 1)) Ended

-- 2.5, 17.2: the first equation of production p at n positions from q on, or what comes behind them
unfoldable pub seek_from : ℕ → List ℕ → ℕ → ℕ → Expected
seek_from zero t p q = after_part t p
seek_from (suc n) t p q = cond (ltb 0 (defined t p q)) (AtEquation p q 0) (seek_from n t p (q + 1))

-- 17.2: what comes behind a frame, by the words of that frame and those before it
unfoldable pub next_of : List ℕ → Expected → Expected
next_of t AtHeader = AtSymbol 0
next_of t (AtSymbol s) = cond (ltb (s + 1) (symbol_count t)) (AtSymbol (s + 1)) (AtProduction 0)
next_of t (AtProduction p) = seek_from (suc (child_count t p)) t p 0
next_of t (AtEquation p q k) = cond (ltb (k + 1) (defined t p q)) (AtEquation p q (k + 1)) (seek_from (child_count t p - q) t p (q + 1))
next_of t Ended = Ended

-- what the words say of the frame that was expected, for what comes behind it to be known
abbrev pub Ready : List ℕ → Expected → Type 0
Ready t AtHeader = Unit {0}
Ready t (AtSymbol s) = s < 32
Ready t (AtProduction p) = (p < 64) × Shaped t p
Ready t (AtEquation p q k) = (p < 64) × (Shaped t p × ((q ≤ child_count t p) × (k < 4)))
Ready t Ended = Unit {0}

-- a frame is expected
abbrev pub is_on : Expected → Bool
is_on AtHeader = true
is_on (AtSymbol s) = true
is_on (AtProduction p) = true
is_on (AtEquation p q k) = true
is_on Ended = false

-- the frames that are passed from an expected one on, n at most
unfoldable pub walk_from : ℕ → List ℕ → Expected → List Frame
walk_from zero t x = []
walk_from (suc n) t x = cond (is_on x) (entry_of x ∷ walk_from n t (next_of t x)) []

-- 17.2: going from frame to frame passes the frames of a sound table, in their order
abbrev pub Walks : Type 0
Walks = (t : List ℕ) → judge_table t ≡ 0 → walk_from (length (frames t)) t AtHeader ≡ frames t
