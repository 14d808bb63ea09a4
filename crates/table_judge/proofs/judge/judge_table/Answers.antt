-- What is judged first gives the shape that the next needs. Assumes nothing.
use Rattle.std.proofs.Common.{sym}
use Rattle.table.specs.Words.{symbol_count}
use Rattle.table.specs.Judge.{header, symbol}
use Rattle.table.specs.Inner.Parts.{symbol_number}
use Rattle.table.proofs.FirstLaws.{scan_none}
use Rattle.table.proofs.Holds.{holds, symbols_of_lem, few_symbols}
use Rattle.table_judge.proofs.judge.judge_table.Goals as goal

pub judge_symbols-requires : goal.judge_symbols-requires
judge_symbols-requires c = few_symbols c.args.table.now (holds c.args.table.now header (sym c.in_ok-judge_header.ensures))

pub judge_productions-requires : goal.judge_productions-requires
judge_productions-requires c =
    let t = c.args.table.now in
    symbols_of_lem t (holds t header (sym c.in_ok-judge_header.ensures)) (λ s l. holds t (symbol s) (scan_none (symbol_number t) (symbol_count t) (sym c.in_ok-judge_symbols.ensures) s l))
