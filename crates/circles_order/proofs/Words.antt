-- Words of bits: setting one, the least one, clearing it; and the ready circles in them. Assumes nothing.
use Prim.Native.Nat.{ℕ, zero, suc, ◌+◌, ◌*◌, ◌-◌, ◌/◌, ◌%◌, ◌^◌, ◌<◌}
use native.Mathlib.Omega.{arith}
use native.Mathlib.Nat.{mod-eq_of_lt, one-mul, pow-succ'}
use native.Mathlib.Decide.{ℕ_discrete, dec_lt}
use mathlib.Core.Path.{◌≡◌, refl, sym, ap, subst, ◌∙◌}
use mathlib.Core.List.{List}
use mathlib.Core.Logic.{◌⊎◌, ⊎_elim, dite}
use lib.ListN.{length, get_or, set, length-set}
use lib.Seq.{get_or-set_same, get_or-set_other}
use lib.Bits.{bit_and, bit_or, and_step, and_self, or_lt, and_le_l}
use lib.Count.{count_trailing_zeros, under}
use lib.Pow.{pow-lt}
use Rattle.sets.proofs.Order.{digit_zero, digit_or}
use Rattle.circles_order.specs.Inner.Turns.{In, Bits, Put, Pulled}
use Rattle.sets.specs.Members.{digit}

-- ---- digits

digit_some : (j w : ℕ) → digit j w ≡ 1 → 0 < w
digit_some j w e = dite (dec_lt 0 w) (λ c. c) (λ c. absurd (omega (arith, e, ap (digit j) (let q : w ≡ 0 = omega (arith, c) in q), digit_zero j)))

digit_small : (j w : ℕ) → digit j w < 2
digit_small zero w = omega arith
digit_small (suc j) w = digit_small j (w / 2)

power_half : (i : ℕ) → 2 ^ suc i / 2 ≡ 2 ^ i
power_half i = omega (arith, pow-succ' 2 i)

power_same : (i : ℕ) → digit i (2 ^ i) ≡ 1
power_same zero = refl
power_same (suc i) = ap (digit i) (power_half i) ∙ power_same i

power_other : (j i : ℕ) → (j ≡ i → ⊥) → digit j (2 ^ i) ≡ 0
power_other zero zero ne = absurd (ne refl)
power_other zero (suc i) ne = omega (arith, pow-succ' 2 i)
power_other (suc j) zero ne = digit_zero j
power_other (suc j) (suc i) ne = ap (digit j) (power_half i) ∙ power_other j i (λ e. ne (ap suc e))

or_same : (w i : ℕ) → digit i (bit_or w (2 ^ i)) ≡ 1
or_same w i = omega (arith, digit_or i w (2 ^ i), power_same i, digit_small i w)

or_other : (w j i : ℕ) → (j ≡ i → ⊥) → digit j (bit_or w (2 ^ i)) ≡ digit j w
or_other w j i ne = omega (arith, digit_or j w (2 ^ i), power_other j i ne)

-- ---- the least digit

module _ (d w : ℕ) where
  tz_odd : w % 2 ≡ 1 → count_trailing_zeros (suc d) w ≡ 0
  unfolding count_trailing_zeros
  tz_odd e = ap (λ (u : ℕ). under u (count_trailing_zeros d (w / 2))) e

  tz_even : w % 2 ≡ 0 → count_trailing_zeros (suc d) w ≡ suc (count_trailing_zeros d (w / 2))
  unfolding count_trailing_zeros
  tz_even e = ap (λ (u : ℕ). under u (count_trailing_zeros d (w / 2))) e

pub record Lowest (d w : ℕ) : Type 0 where
  pub small : count_trailing_zeros d w < d
  pub set_there : digit (count_trailing_zeros d w) w ≡ 1
  pub below : (j : ℕ) → j < count_trailing_zeros d w → digit j w ≡ 0
  pub cleared : digit (count_trailing_zeros d w) (bit_and w (w - 1)) ≡ 0
  pub others : (j : ℕ) → (j ≡ count_trailing_zeros d w → ⊥) → digit j (bit_and w (w - 1)) ≡ digit j w

lowest_odd : (d w : ℕ) → w % 2 ≡ 1 → Lowest (suc d) w
lowest_odd d w e =
    let t : count_trailing_zeros (suc d) w ≡ 0 = tz_odd d w e in
    let h : bit_and w (w - 1) ≡ w / 2 * 2 = omega (arith, and_step w (w - 1), and_self (w / 2), ap (bit_and (w / 2)) (let q : (w - 1) / 2 ≡ w / 2 = omega arith in q)) in
    record {
      small = omega (arith, t);
      set_there = ap (λ (u : ℕ). digit u w) t ∙ e;
      below = λ j l. absurd (omega (arith, t, l));
      cleared = ap (λ (u : ℕ). digit u (bit_and w (w - 1))) t ∙ (let q : bit_and w (w - 1) % 2 ≡ 0 = omega (arith, h) in q);
      others = λ j ne. at j w d ne t h;
    }
  where
    at : (j w d : ℕ) → (j ≡ count_trailing_zeros (suc d) w → ⊥) → count_trailing_zeros (suc d) w ≡ 0 → bit_and w (w - 1) ≡ w / 2 * 2 → digit j (bit_and w (w - 1)) ≡ digit j w
    at zero w d ne t h = absurd (ne (sym t))
    at (suc j) w d ne t h = ap (digit j) (let q : bit_and w (w - 1) / 2 ≡ w / 2 = omega (arith, h) in q)

lowest_even : (d w : ℕ) → 0 < w → w % 2 ≡ 0 → Lowest d (w / 2) → Lowest (suc d) w
lowest_even d w p e L =
    let t : count_trailing_zeros (suc d) w ≡ suc (count_trailing_zeros d (w / 2)) = tz_even d w e in
    let m : bit_and w (w - 1) ≡ bit_and (w / 2) (w / 2 - 1) * 2 = omega (arith, and_step w (w - 1), ap (bit_and (w / 2)) (let q : (w - 1) / 2 ≡ w / 2 - 1 = omega arith in q)) in
    let h : bit_and w (w - 1) / 2 ≡ bit_and (w / 2) (w / 2 - 1) = omega (arith, m) in
    record {
      small = omega (arith, t, L.small);
      set_there = ap (λ (u : ℕ). digit u w) t ∙ L.set_there;
      below = λ j l. low j (omega (arith, l, t));
      cleared = ap (λ (u : ℕ). digit u (bit_and w (w - 1))) t ∙ ap (digit (count_trailing_zeros d (w / 2))) h ∙ L.cleared;
      others = λ j ne. other j ne t m h;
    }
  where
    low : (j : ℕ) → j < suc (count_trailing_zeros d (w / 2)) → digit j w ≡ 0
    low zero l = e
    low (suc j) l = L.below j (omega arith)

    other : (j : ℕ) → (j ≡ count_trailing_zeros (suc d) w → ⊥) → count_trailing_zeros (suc d) w ≡ suc (count_trailing_zeros d (w / 2)) → bit_and w (w - 1) ≡ bit_and (w / 2) (w / 2 - 1) * 2 → bit_and w (w - 1) / 2 ≡ bit_and (w / 2) (w / 2 - 1) → digit j (bit_and w (w - 1)) ≡ digit j w
    other zero ne t m h = omega (arith, m, e)
    other (suc j) ne t m h = ap (digit j) h ∙ L.others j (λ q. ne (ap suc q ∙ sym t))

pub lowest : (d w : ℕ) → 0 < w → w < 2 ^ d → Lowest d w
lowest zero w p l = absurd (omega arith)
lowest (suc d) w p l =
    dite (ℕ_discrete (w % 2) 1)
    (λ c. lowest_odd d w c)
    (λ c. lowest_even d w p (omega (arith, c)) (lowest d (w / 2) (omega (arith, c)) (omega (arith, l, pow-succ' 2 d))))

-- ---- the ready circles

pub word_small : (i : ℕ) → i < 64 → 1 * 2 ^ i % 18446744073709551616 ≡ 2 ^ i
word_small i h = ap (λ (u : ℕ). u % 18446744073709551616) (one-mul (2 ^ i)) ∙ mod-eq_of_lt (power_fits i h)
  where
    power_fits : (i : ℕ) → i < 64 → 2 ^ i < 2 ^ 64
    power_fits i h = pow-lt h

-- the word k becomes v, and the summary t
pub record Words (ready : List ℕ) (k v t : ℕ) (ready' : List ℕ) : Type 0 where
  pub long : length ready' ≡ 65
  pub at_k : get_or ready' k 0 ≡ v
  pub at_sum : get_or ready' 64 0 ≡ t
  pub other : (j : ℕ) → (j ≡ k → ⊥) → (j ≡ 64 → ⊥) → get_or ready' j 0 ≡ get_or ready j 0

pub two_words : (ready : List ℕ) (k v t : ℕ) → k < 64 → length ready ≡ 65 → Words ready k v t (set (set ready k v) 64 t)
two_words ready k v t kl le = record {
  long = length-set (set ready k v) 64 t ∙ length-set ready k v ∙ le;
  at_k = get_or-set_other (set ready k v) 64 k t 0 (λ e. omega (arith, e)) ∙ get_or-set_same ready k v 0 (omega arith);
  at_sum = get_or-set_same (set ready k v) 64 t 0 (omega (arith, length-set ready k v));
  other = λ j h₁ h₂. get_or-set_other (set ready k v) 64 j t 0 h₂ ∙ get_or-set_other ready k j v 0 h₁;
}

pub one_word : (ready : List ℕ) (k v : ℕ) → k < 64 → length ready ≡ 65 → Words ready k v (get_or ready 64 0) (set ready k v)
one_word ready k v kl le = record {
  long = length-set ready k v ∙ le;
  at_k = get_or-set_same ready k v 0 (omega arith);
  at_sum = get_or-set_other ready k 64 v 0 (λ e. omega (arith, e));
  other = λ j h₁ h₂. get_or-set_other ready k j v 0 h₁;
}

fits_then : (ready : List ℕ) (k v t : ℕ) (ready' : List ℕ) → Bits ready → Words ready k v t ready' → v < 18446744073709551616 → t < 18446744073709551616 → (j : ℕ) → get_or ready' j 0 < 18446744073709551616
fits_then ready k v t ready' B W vl tl j =
    dite (ℕ_discrete j 64)
    (λ c. omega (arith, tl, W.at_sum, ap (λ (u : ℕ). get_or ready' u 0) c))
    (λ c. dite (ℕ_discrete j k) (λ d. omega (arith, vl, W.at_k, ap (λ (u : ℕ). get_or ready' u 0) d)) (λ d. omega (arith, B.fits j, W.other j d c)))

or_fits : (w i : ℕ) → w < 18446744073709551616 → i < 64 → bit_or w (2 ^ i) < 18446744073709551616
or_fits w i h l = or_lt 64 w (2 ^ i) h (pow-lt l)

module _ (ready ready' : List ℕ) (l : ℕ) (ll : l < 4096) (B : Bits ready) (W : Words ready (l / 64) (bit_or (get_or ready (l / 64) 0) (2 ^ (l % 64))) (bit_or (get_or ready 64 0) (2 ^ (l / 64))) ready') where
  in_word : (j : ℕ) → j / 64 ≡ l / 64 → digit (j % 64) (get_or ready' (j / 64) 0) ≡ digit (j % 64) (bit_or (get_or ready (l / 64) 0) (2 ^ (l % 64)))
  in_word j e = ap (digit (j % 64)) (ap (λ (u : ℕ). get_or ready' u 0) e ∙ W.at_k)

  off_word : (j : ℕ) → j < 4096 → (j / 64 ≡ l / 64 → ⊥) → digit (j % 64) (get_or ready' (j / 64) 0) ≡ digit (j % 64) (get_or ready (j / 64) 0)
  off_word j jl ne = ap (digit (j % 64)) (W.other (j / 64) ne (λ e. omega (arith, e, jl)))

  same_word : (j : ℕ) → j / 64 ≡ l / 64 → (j ≡ l → ⊥) → digit (j % 64) (get_or ready' (j / 64) 0) ≡ digit (j % 64) (get_or ready (j / 64) 0)
  same_word j e ne = in_word j e ∙ or_other (get_or ready (l / 64) 0) (j % 64) (l % 64) (λ q. ne (omega (arith, q, e))) ∙ ap (λ (u : ℕ). digit (j % 64) (get_or ready u 0)) (sym e)

  put_here : In ready' l
  put_here = in_word l refl ∙ or_same (get_or ready (l / 64) 0) (l % 64)

  pub put_law : Put l ready ready'
  put_law = record {
    bits = record {
      long = W.long;
      fits = fits_then ready (l / 64) _ _ ready' B W (or_fits _ _ (B.fits (l / 64)) (omega arith)) (or_fits _ _ (B.fits 64) (omega arith));
      told = λ k kl h. ap (digit k) W.at_sum ∙ dite (ℕ_discrete k (l / 64))
          (λ c. ap (λ (u : ℕ). digit u (bit_or (get_or ready 64 0) (2 ^ (l / 64)))) c ∙ or_same (get_or ready 64 0) (l / 64))
          (λ c. or_other (get_or ready 64 0) k (l / 64) c ∙ B.told k kl (omega (arith, h, W.other k c (λ e. omega (arith, e, kl)))));
      true = λ k kl h. dite (ℕ_discrete k (l / 64))
          (λ c. omega (arith, ap (λ (u : ℕ). get_or ready' u 0) c, digit_some (l % 64) (get_or ready' (l / 64) 0) put_here))
          (λ c. omega (arith, W.other k c (λ e. omega (arith, e, kl)), B.true k kl (sym (or_other (get_or ready 64 0) k (l / 64) c) ∙ ap (digit k) (sym W.at_sum) ∙ h)));
    };
    here = put_here;
    stays = λ j jl h. dite (ℕ_discrete j l)
        (λ c. subst (λ (u : ℕ). In ready' u) (sym c) put_here)
        (λ c. dite (ℕ_discrete (j / 64) (l / 64)) (λ e. same_word j e c ∙ h) (λ e. off_word j jl e ∙ h));
    only = λ j jl c h. dite (ℕ_discrete (j / 64) (l / 64)) (λ e. sym (same_word j e c) ∙ h) (λ e. sym (off_word j jl e) ∙ h);
  }

pub pull_none : (ready : List ℕ) → Bits ready → get_or ready 64 0 ≡ 0 → Pulled ready ready 4096
pull_none ready B e = record {
  bits = B;
  none = λ j h₁ h₂ h. omega (arith, digit_zero (j / 64), ap (digit (j / 64)) e, B.told (j / 64) (omega arith) (digit_some (j % 64) (get_or ready (j / 64) 0) h));
  hit = λ h. absurd (omega arith);
  gone = λ _ h. omega arith;
  only = λ j _ h. h;
  stays = λ j _ _ h. h;
}

module _ (ready : List ℕ) (B : Bits ready) (s : ℕ) (es : get_or ready 64 0 ≡ s) (sp : 0 < s) where
  pub low_word : Lowest 64 s
  low_word = lowest 64 s sp (omega (arith, es, B.fits 64))

  pub word_some : 0 < get_or ready (count_trailing_zeros 64 s) 0
  word_some = B.true (count_trailing_zeros 64 s) low_word.small (ap (digit (count_trailing_zeros 64 s)) es ∙ low_word.set_there)

  pub low_bit : Lowest 64 (get_or ready (count_trailing_zeros 64 s) 0)
  low_bit = lowest 64 (get_or ready (count_trailing_zeros 64 s) 0) word_some (B.fits (count_trailing_zeros 64 s))

  module _ (k w i r t : ℕ) (ready' : List ℕ) (ek : count_trailing_zeros 64 s ≡ k) (ew : get_or ready k 0 ≡ w) (ei : count_trailing_zeros 64 w ≡ i) (er : r ≡ 64 * k + i)
      (W : Words ready k (bit_and w (w - 1)) t ready') (S : ((0 < bit_and w (w - 1)) × (t ≡ s)) ⊎ ((bit_and w (w - 1) ≡ 0) × (t ≡ bit_and s (s - 1)))) where
    K : Lowest 64 s
    K = low_word

    I : Lowest 64 w
    I = subst (λ (u : ℕ). Lowest 64 u) (ap (λ (u : ℕ). get_or ready u 0) ek ∙ ew) low_bit

    kl : k < 64
    kl = omega (arith, ek, K.small)

    il : i < 64
    il = omega (arith, ei, I.small)

    at : (j : ℕ) → j / 64 ≡ k → digit (j % 64) (get_or ready' (j / 64) 0) ≡ digit (j % 64) (bit_and w (w - 1))
    at j e = ap (digit (j % 64)) (ap (λ (u : ℕ). get_or ready' u 0) e ∙ W.at_k)

    was : (j : ℕ) → j / 64 ≡ k → digit (j % 64) (get_or ready (j / 64) 0) ≡ digit (j % 64) w
    was j e = ap (digit (j % 64)) (ap (λ (u : ℕ). get_or ready u 0) e ∙ ew)

    off : (j : ℕ) → j < 4096 → (j / 64 ≡ k → ⊥) → digit (j % 64) (get_or ready' (j / 64) 0) ≡ digit (j % 64) (get_or ready (j / 64) 0)
    off j jl ne = ap (digit (j % 64)) (W.other (j / 64) ne (λ e. omega (arith, e, jl)))

    same : (j : ℕ) → j < 4096 → (j ≡ r → ⊥) → digit (j % 64) (get_or ready' (j / 64) 0) ≡ digit (j % 64) (get_or ready (j / 64) 0)
    same j jl ne =
        dite (ℕ_discrete (j / 64) k)
        (λ e. at j e ∙ I.others (j % 64) (λ q. ne (omega (arith, q, e, er, ei))) ∙ sym (was j e))
        (λ e. off j jl e)

    hit : In ready r
    hit = was r (omega (arith, er, il)) ∙ ap (λ (u : ℕ). digit u w) (let q : r % 64 ≡ count_trailing_zeros 64 w = omega (arith, er, il, ei) in q) ∙ I.set_there

    gone : In ready' r → ⊥
    gone h = omega (arith, h, at r (omega (arith, er, il)), ap (λ (u : ℕ). digit u (bit_and w (w - 1))) (let q : r % 64 ≡ count_trailing_zeros 64 w = omega (arith, er, il, ei) in q), I.cleared)

    clear_fits : (v : ℕ) → v < 18446744073709551616 → bit_and v (v - 1) < 18446744073709551616
    clear_fits v h = omega (arith, and_le_l v (v - 1))

    sum_fits : t < 18446744073709551616
    sum_fits = ⊎_elim (λ h. omega (arith, h.1, es, B.fits 64)) (λ h. omega (arith, h.1, clear_fits s (omega (arith, es, B.fits 64)))) S

    sum_same : (j : ℕ) → (j ≡ k → ⊥) → digit j t ≡ digit j s
    sum_same j ne = ⊎_elim (λ h. ap (digit j) h.1) (λ h. ap (digit j) h.1 ∙ K.others j (λ q. ne (q ∙ ek))) S

    pub pull_law : Pulled ready ready' r
    pull_law = record {
      bits = record {
        long = W.long;
        fits = fits_then ready k _ t ready' B W (clear_fits w (omega (arith, ew, B.fits k))) sum_fits;
        told = λ j jl h. ap (digit j) W.at_sum ∙ dite (ℕ_discrete j k)
            (λ c. ⊎_elim
            (λ u. ap (digit j) u.1 ∙ ap (λ (v : ℕ). digit v s) (c ∙ sym ek) ∙ K.set_there)
            (λ u. absurd (omega (arith, h, u.0, W.at_k, ap (λ (v : ℕ). get_or ready' v 0) c)))
            S)
            (λ c. sum_same j c ∙ ap (digit j) (sym es) ∙ B.told j jl (omega (arith, h, W.other j c (λ e. omega (arith, e, jl)))));
        true = λ j jl h. dite (ℕ_discrete j k)
            (λ c. ⊎_elim
            (λ u. omega (arith, u.0, W.at_k, ap (λ (v : ℕ). get_or ready' v 0) c))
            (λ u. absurd (omega (arith, h, ap (digit j) W.at_sum, ap (digit j) u.1, ap (λ (v : ℕ). digit v (bit_and s (s - 1))) (c ∙ sym ek), K.cleared)))
            S)
            (λ c. omega (arith, W.other j c (λ e. omega (arith, e, jl)), B.true j jl (ap (digit j) es ∙ sym (sum_same j c) ∙ ap (digit j) (sym W.at_sum) ∙ h)));
      };
      none = λ j h₁ h₂ h. dite (ℕ_discrete (j / 64) k)
          (λ e. omega (arith, h, was j e, I.below (j % 64) (omega (arith, e, h₂, er, ei, il))))
          (λ e. omega (arith, ap (digit (j / 64)) es, B.told (j / 64) (omega arith) (digit_some (j % 64) (get_or ready (j / 64) 0) h), K.below (j / 64) (omega (arith, e, h₂, er, ek, il))));
      hit = λ _. hit;
      gone = λ h _. gone h;
      only = λ j jl h. dite (ℕ_discrete j r) (λ c. subst (λ (u : ℕ). In ready u) (sym c) hit) (λ c. sym (same j jl c) ∙ h);
      stays = λ j jl ne h. same j jl ne ∙ h;
    }
