-- One digit more leaves room for the next. Assumes nothing.
use Rattle.std.proofs.Common.{◌≡◌, ◌+◌, get_or, arith, refl, ap, ◌∙◌}
use Rattle.text_line.specs.Hex.{digit_value, num_at}
use Rattle.text_line.proofs.Values.{num_more, room_left, one_more, value_small}
use Rattle.text_line.proofs.number_of.Goals as goal

pub loop-i-init : goal.loop-i-init
unfolding num_at
loop-i-init g c = record { small = omega arith; value = λ s place h. refl }

pub overflow_mul-v : goal.overflow_mul-v
overflow_mul-v g c = omega (arith, room_left c.loop-i.v c.loop-i.i (omega (arith, c.requires.few)) c.loop-i.invariant.small)

pub overflow_add-v : goal.overflow_add-v
overflow_add-v g c = omega (arith, room_left c.loop-i.v c.loop-i.i (omega (arith, c.requires.few)) c.loop-i.invariant.small, c.digit_value-d.ensures, value_small c.byte.result)

pub loop-i-preserved : goal.loop-i-preserved
loop-i-preserved g c =
    let l = c.loop-i in
    let d = c.digit_value-d in
    record {
      small = one_more l.v l.i d.result (omega (arith, d.ensures, value_small c.byte.result)) l.invariant.small;
      value = λ s place h.
          let b : c.byte.result ≡ get_or s (place + l.i) 0 = h l.i c.byte.result (omega arith) c.byte.ensures in
          omega (arith, l.invariant.value s place h, d.ensures ∙ ap digit_value b, num_more l.i s place);
    }
