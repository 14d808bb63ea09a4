-- The four arrays: room that stays, what lies behind, and the marks. Assumes nothing.
use Prim.Native.Nat.{ℕ, ◌*◌, ◌<◌}
use mathlib.Core.Path.{◌≡◌, refl, ◌∙◌}
use mathlib.Core.Bool.{false}
use mathlib.Core.List.{List}
use lib.ListN.{length, set, length-set}
use lib.Seq.{get_or-set_other}
use native.Mathlib.Omega.{arith}
use Rattle.wire.specs.Instances.{declared}
use Rattle.wire.specs.Arrays.{first_at, second_at, left_at, rule_in}
use Rattle.wire.specs.Inner.Turns.{Room, Wires, Partly, Blank, Behind, Stay}

behind_trans : {n : ℕ} {a b c : List ℕ} → Behind n a b → Behind n b c → Behind n a c
behind_trans f g = record { long = g.long ∙ f.long; others = λ x h. g.others x h ∙ f.others x h }

behind_refl : (n : ℕ) (a : List ℕ) → Behind n a a
behind_refl n a = record { long = refl; others = λ x h. refl }

behind_set : (n : ℕ) (a b : List ℕ) (x v : ℕ) → x < n → Behind n a b → Behind n a (set b x v)
behind_set n a b x v h k = record { long = length-set b x v ∙ k.long; others = λ i l. get_or-set_other b x i v 0 (λ e. omega arith) ∙ k.others i l }

pub stay_refl : (n : ℕ) (a b l r : List ℕ) → Stay n a b l r a b l r
stay_refl n a b l r = record { firsts = behind_refl n a; seconds = behind_refl n b; lefts = behind_refl n l; rules = behind_refl n r }

pub stay_trans : {n : ℕ} {a b l r a' b' l' r' a'' b'' l'' r'' : List ℕ} → Stay n a b l r a' b' l' r' → Stay n a' b' l' r' a'' b'' l'' r'' → Stay n a b l r a'' b'' l'' r''
stay_trans f g = record {
  firsts = behind_trans f.firsts g.firsts;
  seconds = behind_trans f.seconds g.seconds;
  lefts = behind_trans f.lefts g.lefts;
  rules = behind_trans f.rules g.rules;
}

pub stay_set : (n : ℕ) (a b l r a' b' l' r' : List ℕ) (x va vb vl vr : ℕ) → x < n → Stay n a b l r a' b' l' r' → Stay n a b l r (set a' x va) (set b' x vb) (set l' x vl) (set r' x vr)
stay_set n a b l r a' b' l' r' x va vb vl vr h s = record {
  firsts = behind_set n a a' x va h s.firsts;
  seconds = behind_set n b b' x vb h s.seconds;
  lefts = behind_set n l l' x vl h s.lefts;
  rules = behind_set n r r' x vr h s.rules;
}

pub stay_room : {n : ℕ} {a b l r a' b' l' r' : List ℕ} → Stay n a b l r a' b' l' r' → Room n a b l r → Room n a' b' l' r'
stay_room s m = record {
  firsts = omega (arith, s.firsts.long, m.firsts);
  seconds = omega (arith, s.seconds.long, m.seconds);
  lefts = omega (arith, s.lefts.long, m.lefts);
  rules = omega (arith, s.rules.long, m.rules);
}

-- ---- marks

wires_none : (t ns : List ℕ) (x : ℕ) → declared t ns x ≡ false → Wires t ns x 65534 65534 0 0
unfolding first_at second_at left_at rule_in
wires_none t ns x d = record { firsts = rw d; seconds = rw d; lefts = rw d; rules = rw d }

pub blank_partly : (t ns a b l r : List ℕ) → Blank (8 * length ns) a b l r → Partly t ns 0 a b l r
blank_partly t ns a b l r k = record {
  done = λ x d h. absurd (omega arith);
  marked = λ x h d. rw (k.firsts x h, k.seconds x h, k.lefts x h, k.rules x h) (wires_none t ns x d);
}
