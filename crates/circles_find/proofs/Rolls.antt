-- The list of the slots of a kind, as it grows and as it is gone through. Assumes nothing.
use Prim.Native.Nat.{ℕ, ◌+◌, ◌-◌, ◌*◌, ◌/◌, ◌≤◌, ◌<◌}
use native.Mathlib.Omega.{arith}
use native.Mathlib.Decide.{ℕ_discrete}
use mathlib.Core.Path.{◌≡◌, refl, sym, ap, subst, ◌∙◌}
use mathlib.Core.List.{List, reverse}
use mathlib.Core.Logic.{dite}
use lib.ListN.{length, get_or, set, take, length-set}
use lib.Seq.{get_or-set_same, get_or-set_other, get_or-take, length-take-le}
use Rattle.std.proofs.lemmas.List.{length-reverse, get_or-reverse}
use Rattle.circles.proofs.Lists.{default_is}
use Rattle.circles_find.specs.Inner.Search.{Roll, Marked, Stated, Blank, Chained, Linked, value_in, arg_of}
use Rattle.circles_find.proofs.Chains.{Partly, partly_none, partly_down, partly_more, partly_all, arg_off, arg_even, arg_odd}

module _ {P : ℕ → Type 0} where
  module _ {slots : List ℕ} {i d : ℕ} (R : Roll P i slots d) where
    pub roll_more : P i → d < length slots → Roll P (i + 1) (set slots d i) (d + 1)
    roll_more p dl =
        let at-d : get_or (set slots d i) d 0 ≡ i = get_or-set_same slots d i 0 dl in
        let old : (k : ℕ) → k < d → get_or (set slots d i) k 0 ≡ get_or slots k 0 = λ k h. get_or-set_other slots d k i 0 (λ c. omega (arith, c)) in
        let cases : (Q : ℕ → Type 0) → Q i → ((k : ℕ) → k < d → Q (get_or slots k 0)) → (k : ℕ) → k < d + 1 → Q (get_or (set slots d i) k 0) = λ Q q f k h. dite (ℕ_discrete k d)
        (λ c. subst Q (sym (ap (λ (u : ℕ). get_or (set slots d i) u 0) c ∙ at-d)) q)
        (λ c. subst Q (sym (old k (omega (arith, c)))) (f k (omega (arith, c)))) in
        record {
          few = omega (arith, R.few);
          long = omega (arith, dl, length-set slots d i);
          within = cases (λ v. v < i + 1) (omega arith) (λ k h. omega (arith, R.within k h));
          is = cases P p R.is;
          rises = λ j k h₁ h₂. dite (ℕ_discrete k d)
              (λ c. omega (arith, at-d, ap (λ (u : ℕ). get_or (set slots d i) u 0) c, old j (omega (arith, c)), R.within j (omega (arith, c))))
              (λ c. omega (arith, old j (omega (arith, c)), old k (omega (arith, c)), R.rises j k h₁ (omega (arith, c))));
          all = λ y h q. dite (ℕ_discrete y i)
              (λ c. (d, omega arith, at-d ∙ sym c))
              (λ c. let w = R.all y (omega (arith, c)) q in (w.0, omega (arith, w.1), old w.0 w.1 ∙ w.2));
        }

pub roll_same : {P Q : ℕ → Type 0} {n d : ℕ} {slots : List ℕ} → ((y : ℕ) → y < n → P y → Q y) → ((y : ℕ) → y < n → Q y → P y) → Roll P n slots d → Roll Q n slots d
roll_same {slots} to of R = record {
  few = R.few;
  long = R.long;
  within = R.within;
  is = λ k h. to (get_or slots k 0) (R.within k h) (R.is k h);
  rises = R.rises;
  all = λ y h q. R.all y h (of y h q);
}

-- the list alone, without what stands behind it
pub roll_front : {P : ℕ → Type 0} {n d : ℕ} {slots : List ℕ} → Roll P n slots d → Roll P n (take d slots) (length (take d slots))
roll_front {P} {d} {slots} R =
    let all : length (take d slots) ≡ d = length-take-le d slots R.long in
    let at : (k : ℕ) → k < d → get_or (take d slots) k 0 ≡ get_or slots k 0 = λ k h. get_or-take d slots k 0 h in
    let below : (k : ℕ) → k < length (take d slots) → k < d = λ k h. omega arith in
    record {
      few = omega (arith, all, R.few);
      long = omega arith;
      within = λ k h. omega (arith, at k (below k h), R.within k (below k h));
      is = λ k h. subst P (sym (at k (below k h))) (R.is k (below k h));
      rises = λ j k h₁ h₂. let kd = below k h₂ in let jd : j < d = omega arith in omega (arith, at j jd, at k kd, R.rises j k h₁ kd);
      all = λ y h p. let w = R.all y h p in (w.0, omega (arith, w.1), at w.0 w.1 ∙ w.2);
    }

-- ---- chains along a list, from its end

-- what comes after n others from the end of the list
pub from_end : (xs : List ℕ) (n x : ℕ) → (n < length (reverse xs)) × (x ≡ get_or (reverse xs) n x) → (n < length xs) × (x ≡ get_or xs (length xs - 1 - n) 0)
from_end xs n x w =
    let h : n < length xs = omega (arith, w.0, length-reverse xs) in
    (h, w.1 ∙ get_or-reverse xs n x h ∙ default_is xs (length xs - 1 - n) x 0 (omega arith))

-- the row f has its places slot by slot, those of x from top x on, and what it has at those is a slot only where P holds of x
pub record Rows (P : ℕ → Type 0) (f top : ℕ → ℕ) (m n : ℕ) : Type 0 where
  pub begins : top 0 ≡ 0
  pub ends : top n ≡ m
  pub rises : (x z : ℕ) → x ≤ z → top x ≤ top z
  pub owner : (x z e : ℕ) → top x ≤ e → e < top z → f e < n → (y : ℕ) × (x ≤ y) × (y < z) × P y

-- the chains of the places of the slots from `at` on; the first k of the list are still to come
pub record Down (P : ℕ → Type 0) (f top : ℕ → ℕ) (m n : ℕ) (slots first next : List ℕ) (k : ℕ) : Type 0 where
  pub at : ℕ
  pub chains : Partly f m n first next (top at)
  pub before : (j : ℕ) → j < k → get_or slots j 0 < at
  pub left : (y : ℕ) → y < at → P y → (j : ℕ) × (j < k) × (get_or slots j 0 ≡ y)

module _ {P : ℕ → Type 0} {f top : ℕ → ℕ} {m n d : ℕ} {slots : List ℕ} (W : Rows P f top m n) (R : Roll P n slots d) where
  pub down_none : (first next : List ℕ) → n ≤ 4096 → m ≤ 8192 → Blank n first → m ≤ length next → Down P f top m n slots first next d
  down_none first next nl ml b l = record {
    at = n;
    chains = subst (Partly f m n first next) (sym W.ends) (partly_none f m n first next nl ml b l);
    before = R.within;
    left = R.all;
  }

  module _ {first next : List ℕ} {k : ℕ} (j x : ℕ) (e : k ≡ j + 1) (kd : k ≤ d) (D : Down P f top m n slots first next k) (is : x ≡ get_or slots j 0) where
    -- between x, which comes next, and what is chained the row has no slots
    pub down_next : Partly f m n first next (top (x + 1))
    down_next = partly_down f m n first next (top D.at) (top (x + 1)) (W.rises (x + 1) D.at (omega (arith, is, D.before j (omega arith)))) none D.chains
      where
        none : (p : ℕ) → top (x + 1) ≤ p → p < top D.at → f p < n → ⊥
        none p h₁ h₂ h₃ =
            let o = W.owner (x + 1) D.at p h₁ h₂ h₃ in
            let w = D.left o.0 o.2 o.3 in
            dite (ℕ_discrete w.0 j)
            (λ c. omega (arith, is, o.1, w.2, ap (λ (u : ℕ). get_or slots u 0) c))
            (λ c. omega (arith, is, o.1, w.2, R.rises w.0 j (omega (arith, c, w.1)) (omega arith)))

    -- the places of x are chained
    pub down_put : (first' next' : List ℕ) → Partly f m n first' next' (top x) → Down P f top m n slots first' next' j
    down_put first' next' p = record {
      at = x;
      chains = p;
      before = λ i h. omega (arith, is, R.rises i j h (omega arith));
      left = λ y h q. let w = D.left y (omega (arith, is, h, D.before j (omega arith))) q in
          (w.0, dite (ℕ_discrete w.0 j) (λ c. absurd (omega (arith, is, h, w.2, ap (λ (u : ℕ). get_or slots u 0) c))) (λ c. omega (arith, c, w.1)), w.2);
    }

  pub down_all : (first next : List ℕ) (k : ℕ) → k ≡ 0 → Down P f top m n slots first next k → Chained f m n first next
  down_all first next k e D =
      partly_all f m n first next (top 0) W.begins
      (partly_down f m n first next (top D.at) (top 0) (W.rises 0 D.at (omega arith)) none D.chains)
    where
      none : (p : ℕ) → top 0 ≤ p → p < top D.at → f p < n → ⊥
      none p h₁ h₂ h₃ = let o = W.owner 0 D.at p h₁ h₂ h₃ in omega (arith, e, (D.left o.0 o.2 o.3).1)

-- the row of the labels has one place a slot
abbrev pub one : ℕ → ℕ
one x = x

abbrev pub Members : ℕ → List ℕ → List ℕ → List ℕ → List ℕ → ℕ → Type 0
Members n rep = Down (Marked n rep) (value_in rep) one n n

pub by_label : (n : ℕ) (rep : List ℕ) → Rows (Marked n rep) (value_in rep) one n n
by_label n rep = record { begins = refl; ends = refl; rises = λ x z h. h; owner = λ x z e h₁ h₂ h₃. (e, h₁, h₂, h₃) }

pub members_more : (n : ℕ) (rep : List ℕ) {d : ℕ} {slots low after : List ℕ} {k : ℕ} → Roll (Marked n rep) n slots d → (j x : ℕ) → k ≡ j + 1 → k ≤ d → Members n rep slots low after k → x ≡ get_or slots j 0 → (low' after' : List ℕ) → Linked n (get_or rep x 0) x low after low' after' → Members n rep slots low' after' j
members_more n rep {low} {after} R j x e kd D is low' after' ln =
    let W = by_label n rep in
    down_put W R j x e kd D is low' after' (partly_more (value_in rep) n n low after (x + 1) x refl (down_next W R j x e kd D is) (get_or rep x 0) low' after' refl ln)

-- the row of the arguments has two
abbrev pub two : ℕ → ℕ
two x = 2 * x

abbrev pub Readers : ℕ → List ℕ → List ℕ → List ℕ → List ℕ → List ℕ → ℕ → Type 0
Readers n a b = Down (Stated a) (arg_of a b) two (2 * n) n

pub by_argument : (n : ℕ) (a b : List ℕ) → n ≤ 4096 → Rows (Stated a) (arg_of a b) two (2 * n) n
by_argument n a b nl = record {
  begins = refl;
  ends = refl;
  rises = λ x z h. omega arith;
  owner = λ x z e h₁ h₂ h₃. (e / 2, omega arith, omega arith, λ q. omega (arith, nl, h₃, arg_off a b (e / 2) e q refl));
}

pub readers_more : (n : ℕ) (a b : List ℕ) {d : ℕ} {slots first next : List ℕ} {k : ℕ} → n ≤ 4096 → Roll (Stated a) n slots d → (j x : ℕ) → k ≡ j + 1 → k ≤ d → Readers n a b slots first next k → x ≡ get_or slots j 0
    → (first₁ next₁ first₂ next₂ : List ℕ) → Linked n (get_or b x 0) (2 * x + 1) first next first₁ next₁ → Linked n (get_or a x 0) (2 * x) first₁ next₁ first₂ next₂ → Readers n a b slots first₂ next₂ j
readers_more n a b {slots} {first} {next} nl R j x e kd D is first₁ next₁ first₂ next₂ l₁ l₂ =
    let W = by_argument n a b nl in
    let s : Stated a x = subst (Stated a) (sym is) (R.is j (omega arith)) in
    let p = partly_more (arg_of a b) (2 * n) n first next (2 * (x + 1)) (2 * x + 1) (omega arith) (down_next W R j x e kd D is) (get_or b x 0) first₁ next₁ (arg_odd a b x (2 * x + 1) s refl) l₁ in
    down_put W R j x e kd D is first₂ next₂ (partly_more (arg_of a b) (2 * n) n first₁ next₁ (2 * x + 1) (2 * x) refl p (get_or a x 0) first₂ next₂ (arg_even a b x (2 * x) s refl) l₂)
