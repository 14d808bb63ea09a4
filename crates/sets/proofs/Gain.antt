-- Each operation gains with what it reads, looks at nothing else, and stays within 64 bits. Assumes nothing.
use mathlib.Core.Path.{refl, sym}
use mathlib.Core.Bool.{Bool, true, false, cond}
use mathlib.Core.List.Memᴰ
use mathlib.Core.List.{List, ◌∷◌, Memᴰ}
use Prim.Native.Nat.{ℕ, ◌<◌, ◌^◌}
use native.Mathlib.Nat.{le_trans}
use lib.Dec.{T, leb, leb→le, le→leb, eqb→eq, eqb_refl, lit<}
use lib.Bits.{bit_and, and_lt, or_lt, xor_lt}
use Rattle.sets.specs.declared.Argument.{Argument}
use Rattle.sets.specs.declared.Op.TheVariants.{Constant, Own, JoinConstant, MeetConstant, Join, Meet, IfAll, IfMany, JoinOwn, Except}
use Rattle.sets.specs.Members.{◌⊑◌, count_of}
use Rattle.sets.specs.Operations.{within, value_of}
use Rattle.sets.specs.Arguments.{arguments_of, waived_of}
use Rattle.sets.specs.Laws.{Gains, WaivesRead, Local, Fits}
use Rattle.sets.proofs.Order.{sub_refl, sub_trans, sub_zero, sub_of_eq, sub_antisym, and_mono, or_mono, without_mono, sub_test, test_sub}
use Rattle.sets.proofs.Growth.{compared}

-- ---- the gates of operations 6 and 7

gate_mono : (p q : Bool) {b b' : ℕ} → (T p → T q) → b ⊑ b' → cond p b 0 ⊑ cond q b' 0
gate_mono true true h s = s
gate_mono true false h s = absurd (h tt)
gate_mono false q {b' = b'} h s = sub_zero (cond q b' 0)

within_sub : (c a : ℕ) → T (within c a) → c ⊑ a
within_sub c a t = test_sub c a (eqb→eq (bit_and c a) c t)

sub_within : {c a : ℕ} → c ⊑ a → T (within c a)
sub_within {c} {a} s = rw (sub_test s) (eqb_refl c)

all_mono : (c : ℕ) {a a' b b' : ℕ} → a ⊑ a' → b ⊑ b' → cond (within c a) b 0 ⊑ cond (within c a') b' 0
all_mono c {a} {a'} p q = gate_mono (within c a) (within c a') (λ t. sub_within (sub_trans (within_sub c a t) p)) q

many_mono : (c : ℕ) {a a' b b' : ℕ} → a ⊑ a' → b ⊑ b' → cond (leb c (count_of a)) b 0 ⊑ cond (leb c (count_of a')) b' 0
many_mono c {a} {a'} p q =
    gate_mono (leb c (count_of a)) (leb c (count_of a')) (λ t. le→leb c (count_of a') (le_trans (leb→le c (count_of a) t) (compared.grows p))) q

gate_lt : (p : Bool) {b : ℕ} → b < 2 ^ 64 → cond p b 0 < 2 ^ 64
gate_lt true h = h
gate_lt false h = lit< tt

-- ---- the arguments of a list

pub here : {x : Argument} {l : List Argument} → Memᴰ x (x ∷ l)
here = Memᴰ.head refl

pub next : {x y : Argument} {l : List Argument} → Memᴰ x (y ∷ x ∷ l)
next = Memᴰ.tail here

-- ---- the laws

pub gains : Gains
unfolding arguments_of waived_of value_of
gains (Constant c) own f g h e = sub_refl c
gains Own own f g h e = sub_refl own
gains (JoinConstant a c) own f g h e = or_mono (h a here) (sub_refl c)
gains (MeetConstant a c) own f g h e = and_mono (h a here) (sub_refl c)
gains (Join a b) own f g h e = or_mono (h a here) (h b next)
gains (Meet a b) own f g h e = and_mono (h a here) (h b next)
gains (IfAll a b c) own f g h e = all_mono c (h a here) (h b next)
gains (IfMany a b c) own f g h e = many_mono c (h a here) (h b next)
gains (JoinOwn a) own f g h e = or_mono (h a here) (sub_refl own)
gains (Except a b) own f g h e = rw (e b here) (without_mono (g b) (h a here))

pub waives_read : WaivesRead
unfolding arguments_of waived_of
waives_read (Constant c) x m = absurd (Memᴰ.not-nil m)
waives_read Own x m = absurd (Memᴰ.not-nil m)
waives_read (JoinConstant a c) x m = absurd (Memᴰ.not-nil m)
waives_read (MeetConstant a c) x m = absurd (Memᴰ.not-nil m)
waives_read (Join a b) x m = absurd (Memᴰ.not-nil m)
waives_read (Meet a b) x m = absurd (Memᴰ.not-nil m)
waives_read (IfAll a b c) x m = absurd (Memᴰ.not-nil m)
waives_read (IfMany a b c) x m = absurd (Memᴰ.not-nil m)
waives_read (JoinOwn a) x m = absurd (Memᴰ.not-nil m)
waives_read (Except a b) x m = Memᴰ.tail m

pub local : Local
local op own f g h = sub_antisym
    (gains op own f g (λ x m. sub_of_eq (h x m)) (λ x m. h x (waives_read op x m)))
    (gains op own g f (λ x m. sub_of_eq (sym (h x m))) (λ x m. sym (h x (waives_read op x m))))

pub fits : Fits
unfolding arguments_of value_of
fits (Constant c) own f hc ho h = hc
fits Own own f hc ho h = ho
fits (JoinConstant a c) own f hc ho h = or_lt 64 (f a) c (h a here) hc
fits (MeetConstant a c) own f hc ho h = and_lt 64 (f a) c (h a here) hc
fits (Join a b) own f hc ho h = or_lt 64 (f a) (f b) (h a here) (h b next)
fits (Meet a b) own f hc ho h = and_lt 64 (f a) (f b) (h a here) (h b next)
fits (IfAll a b c) own f hc ho h = gate_lt (within c (f a)) (h b next)
fits (IfMany a b c) own f hc ho h = gate_lt (leb c (count_of (f a))) (h b next)
fits (JoinOwn a) own f hc ho h = or_lt 64 (f a) own (h a here) ho
fits (Except a b) own f hc ho h = xor_lt 64 (f a) (bit_and (f a) (f b)) (h a here) (and_lt 64 (f a) (f b) (h a here) (h b next))
