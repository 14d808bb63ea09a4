-- The judgement in parts, as the checker goes. Assumes nothing.
use Rattle.std.specs.Prelude.{ℕ, suc, List}
use Rattle.refusal.specs.Orders.{or_else}
use Rattle.table.specs.First.{scan}
use Rattle.table.specs.Words.{symbol_count, production_count, child_count, defined}
use Rattle.table.specs.Judge.{symbol, production, equation, refusal_at}

-- the symbols' frames; of a production the equations of a position, all equations, and all frames; the productions' frames
abbrev pub symbol_number : List ℕ → ℕ → ℕ
symbol_number t s = refusal_at t (symbol s)

abbrev pub equation_number : List ℕ → ℕ → ℕ → ℕ → ℕ
equation_number t p q k = refusal_at t (equation p q k)

abbrev pub symbols_of : List ℕ → ℕ
symbols_of t = scan (symbol_number t) (symbol_count t)

abbrev pub position_of : List ℕ → ℕ → ℕ → ℕ
position_of t p q = scan (equation_number t p q) (defined t p q)

abbrev pub equations_of : List ℕ → ℕ → ℕ
equations_of t p = scan (position_of t p) (suc (child_count t p))

abbrev pub part_number : List ℕ → ℕ → ℕ
part_number t p = or_else (refusal_at t (production p)) (equations_of t p)

abbrev pub productions_of : List ℕ → ℕ
productions_of t = scan (part_number t) (production_count t)
