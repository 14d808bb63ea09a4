-- The law of orders: each number exactly when its check holds and none before it. Checks that agree with their words, and orders in parts. Assumes nothing.
use mathlib.Core.Path.{◌≡◌, refl, sym, ap, ◌∙◌, subst}
use mathlib.Core.Bool.{Bool, true, false, not, ◌&&◌, ◌||◌, true≢false}
use mathlib.Core.Logic.{◌⊎◌, inl, inr, ◌↔◌}
use mathlib.Core.List.{[], ◌∷◌, ◌++◌}
use Prim.Native.Nat.{ℕ, zero, suc, ◌≤◌, ◌<◌}
use native.Mathlib.Omega.{arith}
use lib.Dec.{ltb, leb}
use borrow.Author.Tests.{ltb-true, ltb-false, leb-true, leb-false, lt-ltb, le-ltb, le-leb, lt-leb}
use Rattle.refusal.specs.declared.Refusal.{Refusal}
use Rattle.refusal.specs.Numbers.{number_of}
use Rattle.refusal.specs.Orders.{or_else, Check, meant, test, unless, above, outside, judged, Order, refusal_by, may_give, lists, choose, Given, AllSilent, Agrees, Right, EveryOrderGives, OneRefusal}
use Rattle.refusal.proofs.Distinct.{number_low}

-- ---- the first of two

pub or_left : (a b : ℕ) → 0 < a → or_else a b ≡ a
or_left zero b h = absurd (omega arith)
or_left (suc a) b h = refl

pub or_right : (a b : ℕ) → a ≡ 0 → or_else a b ≡ b
or_right zero b h = refl
or_right (suc a) b h = absurd (omega arith)

pub or_none : (a b : ℕ) → or_else a b ≡ 0 → (a ≡ 0) × (b ≡ 0)
or_none zero b h = (refl, h)
or_none (suc a) b h = absurd (omega arith)

pub or_assoc : (a b c : ℕ) → or_else (or_else a b) c ≡ or_else a (or_else b c)
or_assoc zero b c = refl
or_assoc (suc a) b c = refl

pub or_zero : (n : ℕ) → or_else n 0 ≡ n
or_zero zero = refl
or_zero (suc n) = refl

pub or_some : (a b : ℕ) → 0 < b → 0 < or_else a b
or_some zero b h = h
or_some (suc a) b h = omega arith

-- ---- checks that agree with their words

-- k is one of k to k
within_one : (k n : ℕ) → n ≡ k → leb k n && leb n k ≡ true
within_one k n e = rw (le-leb k n (omega arith), le-leb n k (omega arith))

and_true : (a b : Bool) → a && b ≡ true → (a ≡ true) × (b ≡ true)
and_true true b h = (refl, h)
and_true false b h = absurd (true≢false (sym h))

one_within : (k n : ℕ) → leb k n && leb n k ≡ true → n ≡ k
one_within k n h = let p = and_true (leb k n) (leb n k) h in omega (arith, leb-true k n p.0, leb-true n k p.1)

pub agree_meant : {Holds Fails : Type 0} (k : ℕ) (b : Bool) → 0 < k → (b ≡ true) ↔ Holds → (b ≡ false) ↔ Fails → Agrees (meant k b Holds Fails)
agree_meant k true z h f = record {
  some = λ n l. (λ e. (within_one k n (sym e), h.0 refl), λ p. sym (one_within k n p.0));
  none = (λ e. absurd (omega arith), λ p. absurd (true≢false (f.1 p)));
}
agree_meant k false z h f = record {
  some = λ n l. (λ e. absurd (omega arith), λ p. absurd (true≢false (sym (h.1 p.1))));
  none = (λ e. f.0 refl, λ p. refl);
}

pub agree_test : (k : ℕ) (b : Bool) → 0 < k → Agrees (test k b)
agree_test k b z = agree_meant k b z (λ h. h, λ h. h) (λ h. h, λ h. h)

not_true : (b : Bool) → (not b ≡ true) ↔ (b ≡ false)
not_true true = (λ h. sym h, λ h. sym h)
not_true false = (λ h. refl, λ h. refl)

not_false : (b : Bool) → (not b ≡ false) ↔ (b ≡ true)
not_false true = (λ h. refl, λ h. refl)
not_false false = (λ h. sym h, λ h. sym h)

pub agree_unless : (k : ℕ) (b : Bool) → 0 < k → Agrees (unless k b)
agree_unless k b z = agree_meant k (not b) z (not_true b) (not_false b)

pub agree_above : (k limit n : ℕ) → 0 < k → Agrees (above k limit n)
agree_above k limit n z = agree_meant k (ltb limit n) z (ltb-true limit n, lt-ltb limit n) (ltb-false limit n, le-ltb limit n)

pub agree_outside : (k count n : ℕ) → 0 < k → Agrees (outside k count n)
agree_outside k count n z = agree_meant k (leb count n) z (leb-true count n, le-leb count n) (leb-false count n, lt-leb count n)

-- a number that is 0, or from low to high
pub agree_judged : (low high given : ℕ) → (given ≡ 0) ⊎ ((low ≤ given) × (given ≤ high)) → Agrees (judged low high given)
agree_judged low high given (inl e) = record { some = λ n l. (λ h. absurd (omega arith), λ p. p.1); none = (λ h. h, λ h. h) }
agree_judged low high given (inr w) = record {
  some = λ n l. (λ h. (rw (le-leb low n (omega (arith, w.0)), le-leb n high (omega (arith, w.1))), h), λ p. p.1);
  none = (λ h. h, λ h. h);
}

-- ---- the law

-- one check before the others
check_to : {A N G : Type 0} (a b : Bool) (m f n : ℕ) → (m ≡ 0 → N) → (m ≡ n → (a ≡ true) × A) → (N → f ≡ n → G) → (b ≡ false → G → ⊥) → or_else m f ≡ n → choose a b A N G
check_to true true zero f n s c g o h = inr (s refl, g (s refl) h)
check_to true false zero f n s c g o h = absurd (o refl (g (s refl) h))
check_to false b zero f n s c g o h = (s refl, g (s refl) h)
check_to true true (suc m) f n s c g o h = inl (c h).1
check_to true false (suc m) f n s c g o h = (c h).1
check_to false b (suc m) f n s c g o h = absurd (true≢false (sym (c h).0))

check_from : {A N G : Type 0} (a b : Bool) (m f n : ℕ) → 0 < n → (N → m ≡ 0) → (a ≡ true → A → m ≡ n) → (N → G → f ≡ n) → choose a b A N G → or_else m f ≡ n
check_from true true m f n z s c g (inl p) = let e = c refl p in or_left m f (omega arith) ∙ e
check_from true true m f n z s c g (inr p) = or_right m f (s p.0) ∙ g p.0 p.1
check_from true false m f n z s c g p = let e = c refl p in or_left m f (omega arith) ∙ e
check_from false b m f n z s c g p = or_right m f (s p.0) ∙ g p.0 p.1

-- what is given is listed
given_listed : (o : Order) (n : ℕ) → lists o n ≡ false → Given o n → ⊥
given_listed [] n h g = g
given_listed (c ∷ o) n h g = go (may_give c n) (lists o n) (given_listed o n) h g
  where
    go : (a b : Bool) → (b ≡ false → Given o n → ⊥) → (a || b) ≡ false → choose a b (c.By n) c.Silent (Given o n) → ⊥
    go true b f h g = true≢false h
    go false b f h g = f h g.1

module _ (n : ℕ) (z : 0 < n) where
  some_to : (o : Order) → Right o → refusal_by o ≡ n → Given o n
  unfolding refusal_by
  some_to [] r h = absurd (omega arith)
  some_to (c ∷ o) r h =
      check_to (may_give c n) (lists o n) c.given (refusal_by o) n r.0.none.0 (r.0.some n z).0 (λ s. some_to o (r.1 s)) (given_listed o n) h

  some_from : (o : Order) → Right o → Given o n → refusal_by o ≡ n
  unfolding refusal_by
  some_from [] r g = absurd g
  some_from (c ∷ o) r g =
      check_from (may_give c n) (lists o n) c.given (refusal_by o) n z r.0.none.1 (λ a p. (r.0.some n z).1 (a, p)) (λ s. some_from o (r.1 s)) g

none_to : (o : Order) → Right o → refusal_by o ≡ 0 → AllSilent o
unfolding refusal_by
none_to [] r h = tt
none_to (c ∷ []) r h = r.0.none.0 (or_none c.given 0 h).0
none_to (c ∷ (d ∷ o)) r h =
    let e = or_none c.given (refusal_by (d ∷ o)) h in
    let s = r.0.none.0 e.0 in
    (s, none_to (d ∷ o) (r.1 s) e.1)

none_from : (o : Order) → Right o → AllSilent o → refusal_by o ≡ 0
unfolding refusal_by
none_from [] r h = refl
none_from (c ∷ []) r h = or_right c.given 0 (r.0.none.1 h)
none_from (c ∷ (d ∷ o)) r h = or_right c.given (refusal_by (d ∷ o)) (r.0.none.1 h.0) ∙ none_from (d ∷ o) (r.1 h.0) h.1

-- a number above 0 is listed
some_listed : (o : Order) → Right o → (n : ℕ) → refusal_by o ≡ n → (n ≡ 0) ⊎ (lists o n ≡ true)
some_listed o r zero h = inl refl
some_listed o r (suc n) h = go (lists o (suc n)) refl
  where
    go : (b : Bool) → lists o (suc n) ≡ b → (suc n ≡ 0) ⊎ (b ≡ true)
    go true e = inr refl
    go false e = absurd (given_listed o (suc n) e (some_to (suc n) (omega arith) o r h))

pub order_gives : EveryOrderGives
order_gives o r = record { some = λ n z. (some_to n z o r, some_from n z o r); none = (none_to o r, none_from o r); among = some_listed o r (refusal_by o) refl }

pub one_refusal : OneRefusal
one_refusal o r m n y z g h = sym (some_from m y o r g) ∙ some_from n z o r h

-- ---- an order of two parts

pub order_joined : (o p : Order) → refusal_by (o ++ p) ≡ or_else (refusal_by o) (refusal_by p)
unfolding refusal_by
order_joined [] p = refl
order_joined (c ∷ o) p = ap (or_else c.given) (order_joined o p) ∙ sym (or_assoc c.given (refusal_by o) (refusal_by p))

-- the second is right where the first is silent
pub right_joined : (o p : Order) → Right o → (AllSilent o → Right p) → Right (o ++ p)
right_joined [] p r s = s tt
right_joined (c ∷ []) p r s = (r.0, s)
right_joined (c ∷ (d ∷ o)) p r s = (r.0, λ q. right_joined (d ∷ o) p (r.1 q) (λ h. s (q, h)))

module _ (o p : Order) where
  -- where the first part refuses nothing the second decides
  pub past : refusal_by o ≡ 0 → refusal_by (o ++ p) ≡ refusal_by p
  past h = order_joined o p ∙ or_right (refusal_by o) (refusal_by p) h

  -- what the first part refuses by stays
  pub stopped : (q : Refusal) → number_of q ≡ refusal_by o → number_of q ≡ refusal_by (o ++ p)
  stopped q e = e ∙ sym (order_joined o p ∙ or_left (refusal_by o) (refusal_by p) (subst (λ (m : ℕ). 0 < m) e (number_low q)))

  -- where the whole refuses nothing the first part does not
  pub front : refusal_by (o ++ p) ≡ 0 → refusal_by o ≡ 0
  front h = (or_none (refusal_by o) (refusal_by p) (sym (order_joined o p) ∙ h)).0

-- of one check
pub alone : (c : Check) → refusal_by (c ∷ []) ≡ c.given
unfolding refusal_by
alone c = or_zero c.given
