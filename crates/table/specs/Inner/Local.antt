-- A frame's number depends on the words of that frame and of those before it: what a reader writes behind them does not matter. Assumes nothing.
use Rattle.std.specs.Prelude.{ℕ, ◌+◌, ◌<◌, ◌≡◌, List, get_or}
use Rattle.table.specs.Words.{rule_of, head_at, constant_at}
use Rattle.table.specs.Judge.{header, symbol, production, equation, refusal_at}
use Rattle.table.specs.Shape.{Shaped}

pub record Local : Type 0 where
  pub header : (t u : List ℕ) → get_or t 0 0 ≡ get_or u 0 0 → refusal_at t header ≡ refusal_at u header
  pub symbol : (t u : List ℕ) (s : ℕ) → get_or t (1 + s) 0 ≡ get_or u (1 + s) 0 → refusal_at t (symbol s) ≡ refusal_at u (symbol s)
  pub production : (t u : List ℕ) (p : ℕ) → get_or t 0 0 ≡ get_or u 0 0 → get_or t (33 + p) 0 ≡ get_or u (33 + p) 0
      → refusal_at t (production p) ≡ refusal_at u (production p)
  pub equation : (t u : List ℕ) (p : ℕ) → Shaped t p → get_or t (33 + p) 0 ≡ get_or u (33 + p) 0
      → ((s : ℕ) → s < 32 → get_or t (1 + s) 0 ≡ get_or u (1 + s) 0)
      → (q k : ℕ) → head_at t (rule_of p q k) ≡ head_at u (rule_of p q k) → constant_at t (rule_of p q k) ≡ constant_at u (rule_of p q k)
      → refusal_at t (equation p q k) ≡ refusal_at u (equation p q k)
