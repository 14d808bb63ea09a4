-- Chains of the places of each number, as they are built from the end. Assumes nothing.
use Prim.Native.Nat.{ℕ, ◌+◌, ◌*◌, ◌/◌, ◌%◌, ◌<◌, ◌≤◌}
use native.Mathlib.Decide.{ℕ_discrete, dec_lt}
use native.Mathlib.Omega.{arith}
use mathlib.Core.Path.{◌≡◌, refl, sym, ap, subst, subst₂, ◌∙◌}
use mathlib.Core.Bool.{Bool, cond}
use mathlib.Core.List.{List}
use mathlib.Core.Logic.{inl, inr, dite}
use lib.ListN.{get_or, length, set, length-set, replicate, length-replicate, get_or-replicate}
use lib.Seq.{get_or-set_same, get_or-set_other}
use lib.Dec.{eqb}
use borrow.Author.Tests.{eq-eqb, ne_eqb}
use Rattle.circles_find.specs.Inner.Search.{Next, Chained, Blank, Linked, off, on, arg_of, Arg, Stated}

-- the chains of the places from i on
pub record Partly (f : ℕ → ℕ) (m n : ℕ) (first next : List ℕ) (i : ℕ) : Type 0 where
  pub lenf : n ≤ length first
  pub lenn : m ≤ length next
  pub small : i ≤ m
  pub start : (y : ℕ) → y < n → Next f m y i (get_or first y 0)
  pub step : (x : ℕ) → i ≤ x → x < m → f x < n → Next f m (f x) (x + 1) (get_or next x 0)

module _ (f : ℕ → ℕ) (m n : ℕ) where
  pub partly_none : (first next : List ℕ) → n ≤ 4096 → m ≤ 8192 → Blank n first → m ≤ length next → Partly f m n first next m
  partly_none first next nl ml b l = record {
    lenf = b.long;
    lenn = l;
    small = omega arith;
    start = λ y yl. record {
      from = omega (arith, b.blank y yl);
      hit = λ h. absurd (omega (arith, b.blank y yl));
      skip = λ x h₁ h₂ h₃ e. omega arith;
    };
    step = λ x h₁ h₂ h₃. absurd (omega arith);
  }

  -- further down, where nothing is to be chained on the way
  pub partly_down : (first next : List ℕ) (i j : ℕ) → j ≤ i → ((x : ℕ) → j ≤ x → x < i → f x < n → ⊥) → Partly f m n first next i → Partly f m n first next j
  partly_down first next i j le none p = record {
    lenf = p.lenf;
    lenn = p.lenn;
    small = omega (arith, p.small);
    start = λ y yl. record {
      from = omega (arith, (p.start y yl).from);
      hit = (p.start y yl).hit;
      skip = λ x h₁ h₂ h₃ h. dite (dec_lt x i) (λ c. none x h₁ c (omega (arith, h, yl))) (λ c. (p.start y yl).skip x (omega (arith, c)) h₂ h₃ h);
    };
    step = λ x h₁ h₂ h₃. dite (dec_lt x i) (λ c. absurd (none x h₁ c h₃)) (λ c. p.step x (omega (arith, c)) h₂ h₃);
  }

  module _ (first next : List ℕ) (i j : ℕ) (e : i ≡ j + 1) (p : Partly f m n first next i) where
    -- one place lower, for another number than the one that stands there
    lower : (y z : ℕ) → (f j ≡ y → ⊥) → Next f m y i z → Next f m y j z
    lower y z ne t = record {
      from = omega (arith, t.from);
      hit = t.hit;
      skip = λ x h₁ h₂ h₃ h. dite (ℕ_discrete x j)
          (λ c. ne (ap f (sym c) ∙ h))
          (λ c. t.skip x (omega (arith, c)) h₂ h₃ h);
    }

    partly_skip : n ≤ f j → Partly f m n first next j
    partly_skip big = record {
      lenf = p.lenf;
      lenn = p.lenn;
      small = omega (arith, p.small);
      start = λ y yl. lower y (get_or first y 0) (λ h. omega arith) (p.start y yl);
      step = λ x h₁ h₂ h₃. dite (ℕ_discrete x j)
          (λ c. absurd (omega (arith, ap f c)))
          (λ c. p.step x (omega (arith, c)) h₂ h₃);
    }

    partly_put : f j < n → Partly f m n (set first (f j) j) (set next j (get_or first (f j) 0)) j
    partly_put yl =
        let jl : j < m = omega (arith, p.small) in
        let y : ℕ = f j in
        record {
          lenf = omega (arith, length-set first y j, p.lenf);
          lenn = omega (arith, length-set next j (get_or first y 0), p.lenn);
          small = omega arith;
          start = λ z zl. dite (ℕ_discrete z (f j))
              (λ c. subst (λ (u : ℕ). Next f m z j u) (sym (ap (λ (u : ℕ). get_or (set first (f j) j) u 0) c ∙ get_or-set_same first (f j) j 0 (omega (arith, p.lenf))))
              (record { from = omega arith; hit = λ _. sym c; skip = λ x h₁ h₂ h₃ h. omega arith }))
              (λ c. subst (λ (u : ℕ). Next f m z j u) (sym (get_or-set_other first (f j) z j 0 c))
              (lower z (get_or first z 0) (λ h. c (sym h)) (p.start z zl)));
          step = λ x h₁ h₂ h₃. dite (ℕ_discrete x j)
              (λ c. subst (λ (u : ℕ). Next f m (f x) (x + 1) u)
              (sym (ap (λ (u : ℕ). get_or (set next j (get_or first (f j) 0)) u 0) c ∙ get_or-set_same next j (get_or first (f j) 0) 0 (omega (arith, p.lenn))))
              (subst (λ (u : ℕ). Next f m u (x + 1) (get_or first (f j) 0)) (sym (ap f c))
              (subst (λ (u : ℕ). Next f m (f j) u (get_or first (f j) 0)) (let q : i ≡ x + 1 = omega (arith, c) in q) (p.start (f j) yl))))
              (λ c. subst (λ (u : ℕ). Next f m (f x) (x + 1) u) (sym (get_or-set_other next j x (get_or first (f j) 0) 0 c))
              (p.step x (omega (arith, c)) h₂ h₃));
        }

    -- the place j is linked
    pub partly_more : (y : ℕ) (first' next' : List ℕ) → f j ≡ y → Linked n y j first next first' next' → Partly f m n first' next' j
    partly_more y first' next' q (off h e₁ e₂) = subst₂ (λ u v. Partly f m n u v j) (sym e₁) (sym e₂) (partly_skip (omega arith))
    partly_more y first' next' q (on h e₁ e₂) =
        subst₂ (λ u v. Partly f m n u v j) (ap (λ (u : ℕ). set first u j) q ∙ sym e₁) (ap (λ (u : ℕ). set next j (get_or first u 0)) q ∙ sym e₂) (partly_put (omega arith))

  pub partly_all : (first next : List ℕ) (i : ℕ) → i ≡ 0 → Partly f m n first next i → Chained f m n first next
  partly_all first next i z p =
      let q : Partly f m n first next 0 = subst (λ (u : ℕ). Partly f m n first next u) z p in
      record { firsts = q.lenf; nexts = q.lenn; start = q.start; step = λ x h₁ h₂. q.step x (omega arith) h₁ h₂ }

-- ---- along a chain

-- e is on y's chain, and P holds at the places before e
pub record Upto (f : ℕ → ℕ) (m y : ℕ) (P : ℕ → Type 0) (e : ℕ) : Type 0 where
  pub hit : e < m → f e ≡ y
  pub past : (i : ℕ) → i < e → i < m → f i ≡ y → P i

pub upto_start : {f : ℕ → ℕ} {m y : ℕ} (P : ℕ → Type 0) {e : ℕ} → Next f m y 0 e → Upto f m y P e
upto_start P t = record { hit = t.hit; past = λ i h₁ h₂ h₃. absurd (t.skip i (omega arith) h₁ h₂ h₃) }

-- where Q holds at e, and of what P held of
pub upto_more : {f : ℕ → ℕ} {m y : ℕ} {P : ℕ → Type 0} (Q : ℕ → Type 0) {e : ℕ} (e' : ℕ) → Upto f m y P e → ((i : ℕ) → i < m → P i → Q i) → Q e → Next f m y (e + 1) e' → Upto f m y Q e'
upto_more Q {e} e' u keeps q t = record {
  hit = t.hit;
  past = λ i h₁ h₂ h₃. dite (ℕ_discrete i e)
      (λ c. subst Q (sym c) q)
      (λ c. dite (dec_lt i e) (λ d. keeps i h₂ (u.past i d h₂ h₃)) (λ d. absurd (t.skip i (omega (arith, c, d)) h₁ h₂ h₃)));
}

-- the least place of y on its chain, and the one behind the place e
pub chain_first : {f : ℕ → ℕ} {m n : ℕ} {first next : List ℕ} {y e : ℕ} → Chained f m n first next → y < n → e ≡ get_or first y 0 → Next f m y 0 e
chain_first {f} {m} {y} C yl q = subst (λ (u : ℕ). Next f m y 0 u) (sym q) (C.start y yl)

pub chain_next : {f : ℕ → ℕ} {m n : ℕ} {first next : List ℕ} {y e e' : ℕ} → Chained f m n first next → y < n → e < m → f e ≡ y → e' ≡ get_or next e 0 → Next f m y (e + 1) e'
chain_next {f} {m} {e} C yl el h q = subst₂ (λ u v. Next f m u (e + 1) v) h (sym q) (C.step e el (omega (arith, h)))

-- ---- the row of the arguments

module _ (a b : List ℕ) (x e : ℕ) where
  -- of a slot that is not declared the row has nothing
  pub arg_off : get_or a x 0 ≡ 65534 → e / 2 ≡ x → arg_of a b e ≡ 65534
  unfolding arg_of
  arg_off d h = ap (λ (t : Bool). cond t 65534 (cond (eqb (e % 2) 0) (get_or a (e / 2) 0) (get_or b (e / 2) 0))) (eq-eqb (get_or a (e / 2) 0) 65534 (ap (λ (u : ℕ). get_or a u 0) h ∙ d))

  arg_on : Stated a x → e / 2 ≡ x → arg_of a b e ≡ cond (eqb (e % 2) 0) (get_or a (e / 2) 0) (get_or b (e / 2) 0)
  unfolding arg_of
  arg_on d h = ap (λ (t : Bool). cond t 65534 (cond (eqb (e % 2) 0) (get_or a (e / 2) 0) (get_or b (e / 2) 0))) (ne_eqb (get_or a (e / 2) 0) 65534 (λ z. d (ap (λ (u : ℕ). get_or a u 0) (sym h) ∙ z)))

  pub arg_even : Stated a x → e ≡ 2 * x → arg_of a b e ≡ get_or a x 0
  arg_even d h =
      let q : e / 2 ≡ x = omega arith in
      arg_on d q ∙ ap (λ (t : Bool). cond t (get_or a (e / 2) 0) (get_or b (e / 2) 0)) (eq-eqb (e % 2) 0 (omega arith)) ∙ ap (λ (u : ℕ). get_or a u 0) q

  pub arg_odd : Stated a x → e ≡ 2 * x + 1 → arg_of a b e ≡ get_or b x 0
  arg_odd d h =
      let q : e / 2 ≡ x = omega arith in
      arg_on d q ∙ ap (λ (t : Bool). cond t (get_or a (e / 2) 0) (get_or b (e / 2) 0)) (ne_eqb (e % 2) 0 (λ z. omega arith)) ∙ ap (λ (u : ℕ). get_or b u 0) q

-- what the row has at e is an argument of the slot e / 2
pub arg_of_lem : (n : ℕ) (a b : List ℕ) (e v : ℕ) → n ≤ 4096 → e < 2 * n → v < n → arg_of a b e ≡ v → Arg n a b (e / 2) v
arg_of_lem n a b e v nl el vl h =
    let d : Stated a (e / 2) = λ z. omega (arith, nl, vl, h, arg_off a b (e / 2) e z refl) in (
      omega arith,
      vl,
      d,
      dite (ℕ_discrete (e % 2) 0)
          (λ c. inl (sym (arg_even a b (e / 2) e d (omega (arith, c))) ∙ h))
          (λ c. inr (sym (arg_odd a b (e / 2) e d (omega (arith, c))) ∙ h)),
    )

-- what holds at each place of v in the row holds of each slot that reads v
pub at_readers : (P : ℕ → Type 0) (n : ℕ) (a b : List ℕ) (v : ℕ) → ((e : ℕ) → e < 2 * n → arg_of a b e ≡ v → P (e / 2)) → (y : ℕ) → Arg n a b y v → P y
at_readers P n a b v f y (yl, vl, d, inl h) = subst P (let q : 2 * y / 2 ≡ y = omega arith in q) (f (2 * y) (omega arith) (arg_even a b y (2 * y) d refl ∙ h))
at_readers P n a b v f y (yl, vl, d, inr h) = subst P (let q : (2 * y + 1) / 2 ≡ y = omega arith in q) (f (2 * y + 1) (omega arith) (arg_odd a b y (2 * y + 1) d refl ∙ h))

-- new memory of k places is blank
pub blank_new : (n k : ℕ) → n ≤ k → Blank n (replicate {A = ℕ} k 65533)
blank_new n k h = record { long = omega (arith, h, length-replicate {A = ℕ} k 65533); blank = λ y yl. get_or-replicate {A = ℕ} k y 65533 0 (omega arith) }
