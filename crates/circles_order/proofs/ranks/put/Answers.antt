-- The two words that change. Assumes nothing.
use Rattle.std.proofs.Common.{ℕ, ◌/◌, ◌%◌, ◌*◌, ◌^◌, ◌<◌, List, get_or, set, arith}
use lib.Bits.{bit_or}
use lib.Seq.{get_or-set_other}
use Rattle.circles_order.proofs.Words.{put_law, two_words, word_small}
use Rattle.circles_order.specs.Inner.Turns.{Put, Bits}
use Rattle.circles_order.proofs.ranks.put.Goals as goal

put_words : (ready : List ℕ) (l : ℕ) → l < 4096 → Bits ready → (
    let w : List ℕ = set ready (l / 64) (bit_or (get_or ready (l / 64) 0) (1 * 2 ^ (l % 64) % 18446744073709551616)) in
    Put l ready (set w 64 (bit_or (get_or w 64 0) (1 * 2 ^ (l / 64) % 18446744073709551616)))
    )
put_words ready l ll B =
    rw (word_small (l % 64) (omega arith), word_small (l / 64) (omega arith), get_or-set_other ready (l / 64) 64 (bit_or (get_or ready (l / 64) 0) (2 ^ (l % 64))) 0 (λ e. omega (arith, e)))
    (put_law ready _ l ll B (two_words ready (l / 64) (bit_or (get_or ready (l / 64) 0) (2 ^ (l % 64))) (bit_or (get_or ready 64 0) (2 ^ (l / 64))) (omega arith) B.long))

pub returns : goal.returns
returns c = put_words c.args.ready.now c.args.l c.requires.0 c.requires.1
