-- The least word that is not 0, and its least bit. Assumes nothing.
use Rattle.std.proofs.Common.{◌+◌, ◌*◌, ◌-◌, ◌<◌, get_or, set, refl, sym, subst, inl, inr, arith}
use lib.Count.{count_trailing_zeros}
use lib.Bits.{bit_and}
use Rattle.circles_order.specs.Inner.Turns.{Pulled}
use Rattle.circles_order.proofs.Words.{low_word, word_some, low_bit, pull_none, pull_law, one_word, two_words}
use Rattle.circles_order.proofs.ranks.pull.Goals as goal
use Rattle.circles_order.proofs.ranks.pull.Goals.{then-rest-eq0, else-rest-eq0}

pub returns-then-s-eq0 : goal.returns-then-s-eq0
returns-then-s-eq0 c = pull_none c.args.ready.now c.requires c.if-s-eq0.true

pub overflow_sub-rest : goal.overflow_sub-rest
overflow_sub-rest c = word_some c.args.ready.now c.requires _ refl (omega (arith, c.if-s-eq0.false))

pub returns : goal.returns
returns c =
    let r = c.args.ready.now in
    let t = get_or r 64 0 in
    let k = count_trailing_zeros 64 t in
    let w = get_or r k 0 in
    let i = count_trailing_zeros 64 w in
    let some : 0 < t = omega (arith, c.if-s-eq0.false) in
    let block = low_word r c.requires t refl some in
    let bit = low_bit r c.requires t refl some in (
      omega (arith, block.small, bit.small),
      elim c.if-rest-eq0.branch [
        | then-rest-eq0 u ↦ subst (λ x. Pulled r x (64 * k + i)) (sym u.ready-is)
            (pull_law r c.requires t refl some k w i (64 * k + i) (bit_and t (t - 1)) (set (set r k (bit_and w (w - 1))) 64 (bit_and t (t - 1))) refl refl refl refl
            (two_words r k (bit_and w (w - 1)) (bit_and t (t - 1)) block.small c.requires.long) (inr (u.if-rest-eq0.true, refl)))
        | else-rest-eq0 u ↦ subst (λ x. Pulled r x (64 * k + i)) (sym u.ready-is)
            (pull_law r c.requires t refl some k w i (64 * k + i) t (set r k (bit_and w (w - 1))) refl refl refl refl
            (one_word r k (bit_and w (w - 1)) block.small c.requires.long) (inl (omega (arith, u.if-rest-eq0.false), refl)))
      ],
    )
