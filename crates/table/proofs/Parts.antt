-- The judgement of a table is the judgement of its parts, one behind the other. Assumes nothing.
use Prim.Native.Nat.{ℕ, suc}
use mathlib.Core.Path.{◌≡◌, ap, ◌∙◌}
use mathlib.Core.List.{List, [], ◌∷◌}
use Rattle.refusal.specs.Orders.{or_else}
use Rattle.table.specs.First.{first, row}
use Rattle.table.specs.Words.{symbol_count, production_count, child_count, defined}
use Rattle.table.specs.Judge.{header, symbol, production, equation, part_of, frames, refusal_at, judge_table}
use Rattle.table.specs.Inner.Parts.{symbol_number, equation_number, symbols_of, position_of, part_number, productions_of}
use Rattle.table.proofs.FirstLaws.{first_append, first_row, first_one}

part_first : (t : List ℕ) (p : ℕ) → first (refusal_at t) (part_of t p) ≡ part_number t p
unfolding first part_of
part_first t p =
    ap (or_else (refusal_at t (production p)))
    (first_row (refusal_at t) _ (position_of t p) (λ q. first_row (refusal_at t) _ (equation_number t p q) (λ k. first_one (refusal_at t) (equation p q k)) (defined t p q)) (suc (child_count t p)))

pub judge_parts : (t : List ℕ) → judge_table t ≡ or_else (refusal_at t header) (or_else (symbols_of t) (productions_of t))
unfolding judge_table first frames
judge_parts t =
    let e = first_row (refusal_at t) (λ (s : ℕ). symbol s ∷ []) (symbol_number t) (λ s. first_one (refusal_at t) (symbol s)) (symbol_count t) in
    let d = first_row (refusal_at t) (part_of t) (part_number t) (part_first t) (production_count t) in
    let a = first_append (refusal_at t) (row (λ (s : ℕ). symbol s ∷ []) (symbol_count t)) (row (part_of t) (production_count t)) in
    ap (or_else (refusal_at t header)) (a ∙ rw (e, d))
