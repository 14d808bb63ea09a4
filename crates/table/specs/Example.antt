-- Session A's table (26.1), and tables that are refused. Assumes nothing.
use Rattle.std.specs.Prelude.{ℕ, ◌≡◌, refl, List, replicate, set}
use Rattle.table.specs.First.{first, row, some_below}
use Rattle.table.specs.Words.{symbol_count, production_count, synthesized, inherited, left_of, child_count, child_of, has_set, occurs, rule_of, head_at, constant_at}
use Rattle.table.specs.Equations.{op_number, a_field, b_field, uses_a, uses_b, uses_c, misformed}
use Rattle.table.specs.Judge.{part_of, frames, misnamed, refusal_at, judge_table}

unfoldable pub put : List ℕ → ℕ → ℕ → List ℕ
put t i v = set t i v

-- 26.1: two symbols, three productions; what lies behind the last equation is no part of the table
unfoldable pub table_a : List ℕ
unfolding put
table_a =
    let counts = put (put (put (replicate 180 0) 0 515) 1 256) 2 257 in
    let productions = put (put (put counts 33 8606777344) 34 1099511627776) 35 1099511627776 in
    let first = put (put (put productions 97 17196646912) 105 8623489024) 113 8606711808 in
    put (put first 137 34360000512) 177 4294967296

a_sound : judge_table table_a ≡ 0
unfolding table_a put judge_table first row some_below symbol_count production_count synthesized inherited left_of child_count child_of has_set occurs rule_of head_at constant_at op_number a_field b_field uses_a uses_b uses_c misformed part_of frames misnamed refusal_at
a_sound = refl

-- no symbol; 33 symbols; symbol 0 with an inherited set; a child that is no symbol; an operation 10; an argument without a set; 4 and 5 at one frame
a_refused :
    (judge_table (put table_a 0 3) ≡ 1)
    × (judge_table (put table_a 0 8451) ≡ 1)
    × (judge_table (put table_a 1 257) ≡ 3)
    × (judge_table (put table_a 33 8607039488) ≡ 2)
    × (judge_table (put table_a 137 42949935104) ≡ 4)
    × (judge_table (put table_a 137 34360066048) ≡ 5)
    × (judge_table (put table_a 137 34360066049) ≡ 4)
unfolding table_a put judge_table first row some_below symbol_count production_count synthesized inherited left_of child_count child_of has_set occurs rule_of head_at constant_at op_number a_field b_field uses_a uses_b uses_c misformed part_of frames misnamed refusal_at
a_refused = (refl, refl, refl, refl, refl, refl, refl)

-- 25.2: an operation 7 with c 56 is sound, with c 57 it is not
a_counts :
    let counting = put table_a 137 30065033220 in
    (judge_table (put counting 138 56) ≡ 0)
    × (judge_table (put counting 138 57) ≡ 4)
unfolding table_a put judge_table first row some_below symbol_count production_count synthesized inherited left_of child_count child_of has_set occurs rule_of head_at constant_at op_number a_field b_field uses_a uses_b uses_c misformed part_of frames misnamed refusal_at
a_counts = (refl, refl)
