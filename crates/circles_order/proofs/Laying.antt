-- The members of a circle, by its chain. Assumes nothing.
use Prim.Native.Nat.{ℕ, zero, suc, ◌+◌, ◌-◌, ◌≤◌, ◌<◌}
use native.Mathlib.Omega.{arith}
use native.Mathlib.Decide.{dec_lt}
use native.Mathlib.Numerals.{add-one}
use mathlib.Core.Path.{◌≡◌, refl, sym, ap, ◌∙◌}
use mathlib.Core.Bool.{Bool, false}
use mathlib.Core.List.{List, [], ◌∷◌}
use mathlib.Core.Logic.{dite}
use lib.ListN.{length, get_or, set, length-set}
use lib.Seq.{sets}
use lib.Dec.{eqb}
use borrow.Author.Tests.{eq-eqb, ne_eqb}
use Rattle.circles.specs.Ranked.{keep, up_from}
use Rattle.circles_find.specs.Inner.Search.{Next, value_in}
use Rattle.circles_find.specs.Inner.Labels.{Kin}
use Rattle.circles_order.specs.Inner.Turns.{members_from}
use Rattle.circles.proofs.Lists.{keep_step, keep_here, keep_none, up_step, up_none}

keep_skip : (p : ℕ → Bool) (k n m : ℕ) → ((j : ℕ) → k ≤ j → j < k + n → p j ≡ false) → keep p (up_from k (n + m)) ≡ keep p (up_from (k + n) m)
keep_skip p k zero m nn = ap (λ (u : ℕ). keep p (up_from k u)) (let q : 0 + m ≡ m = omega arith in q) ∙ ap (λ (u : ℕ). keep p (up_from u m)) (let q : k ≡ k + 0 = omega arith in q)
keep_skip p k (suc n) m nn =
    ap (λ (u : ℕ). keep p (up_from k u)) (let q : suc n + m ≡ suc (n + m) = omega arith in q)
    ∙ ap (keep p) (up_step k (n + m)) ∙ keep_step p k (up_from (suc k) (n + m)) (nn k (omega arith) (omega arith))
    ∙ keep_skip p (suc k) n m (λ j h₁ h₂. nn j (omega arith) (omega arith))
    ∙ ap (λ (u : ℕ). keep p (up_from u m)) (let q : suc k + n ≡ k + suc n = omega arith in q)

module _ (n : ℕ) (label : List ℕ) (l : ℕ) where
  pub from_past : (k : ℕ) → n ≤ k → members_from n label l k ≡ []
  unfolding members_from
  from_past k h = ap (λ (u : ℕ). keep (λ x. eqb (get_or label x 0) l) (up_from k u)) (let q : n - k ≡ 0 = omega arith in q) ∙ ap (keep (λ x. eqb (get_or label x 0) l)) (up_none k) ∙ keep_none (λ x. eqb (get_or label x 0) l)

  pub from_next : (k e : ℕ) → k ≤ n → Next (value_in label) n l k e → members_from n label l k ≡ members_from n label l e
  unfolding members_from
  from_next k e kl t =
      let p : ℕ → Bool = λ x. eqb (get_or label x 0) l in
      let off : (j : ℕ) → k ≤ j → j < e → j < n → p j ≡ false = λ j h₁ h₂ h₃. ne_eqb (get_or label j 0) l (t.skip j h₁ h₂ h₃) in
      dite (dec_lt e n)
      (λ c. ap (λ (u : ℕ). keep p (up_from k u)) (let q : n - k ≡ (e - k) + (n - e) = omega (arith, t.from) in q)
      ∙ keep_skip p k (e - k) (n - e) (λ j h₁ h₂. off j h₁ (omega (arith, t.from)) (omega (arith, t.from)))
      ∙ ap (λ (u : ℕ). keep p (up_from u (n - e))) (let q : k + (e - k) ≡ e = omega (arith, t.from) in q))
      (λ c. ap (λ (u : ℕ). keep p (up_from k u)) (let q : n - k ≡ (n - k) + 0 = omega arith in q)
      ∙ keep_skip p k (n - k) 0 (λ j h₁ h₂. off j h₁ (omega (arith, c)) (omega arith))
      ∙ ap (keep p) (up_none (k + (n - k))) ∙ keep_none p ∙ sym (from_past e (omega (arith, c))))

  pub from_here : (k : ℕ) → k < n → get_or label k 0 ≡ l → members_from n label l k ≡ k ∷ members_from n label l (k + 1)
  unfolding members_from
  from_here k kl e =
      let p : ℕ → Bool = λ x. eqb (get_or label x 0) l in
      ap (λ (u : ℕ). keep p (up_from k u)) (let q : n - k ≡ suc (n - (k + 1)) = omega arith in q)
      ∙ ap (keep p) (up_step k (n - (k + 1)))
      ∙ keep_here p k (up_from (suc k) (n - (k + 1))) (eq-eqb (get_or label k 0) l e)
      ∙ ap (λ (u : ℕ). k ∷ keep p (up_from u (n - (k + 1)))) (sym (add-one k))

-- p is where the next member goes, and y is the next member or past the end
pub record Laying (n : ℕ) (label : List ℕ) (l : ℕ) (m₀ : List ℕ) (pos : ℕ) (m : List ℕ) (y p : ℕ) : Type 0 where
  pub hit : y < n → get_or label y 0 ≡ l
  pub whole : sets m p (members_from n label l y) ≡ sets m₀ pos (members_from n label l 0)
  pub sum : p + length (members_from n label l y) ≡ pos + length (members_from n label l 0)
  pub long : length m ≡ length m₀

pub laying_start : {n : ℕ} {label after : List ℕ} {l : ℕ} {m₀ : List ℕ} {pos : ℕ} → Kin n label after → l < n → get_or label l 0 ≡ l → Laying n label l m₀ pos m₀ l pos
laying_start {n} {label} {l} {m₀} {pos} K ll e =
    let q : members_from n label l 0 ≡ members_from n label l l = from_next n label l 0 l (omega arith) (record {
      from = omega arith;
      hit = λ _. e;
      skip = λ x h₁ h₂ h₃ h₄. omega (arith, K.least x h₃ (omega (arith, h₄, ll)), h₄);
    }) in
    record { hit = λ _. e; whole = ap (λ (u : List ℕ). sets m₀ pos u) (sym q); sum = ap (λ (u : List ℕ). pos + length u) (sym q); long = refl }

module _ {n : ℕ} {label : List ℕ} {l : ℕ} {m₀ : List ℕ} {pos : ℕ} {m : List ℕ} {y p : ℕ} (L : Laying n label l m₀ pos m y p) where
  pub laying_room : pos + length (members_from n label l 0) ≤ length m₀ → y < n → p < length m
  laying_room h yl = omega (arith, L.sum, L.long, ap length (from_here n label l y yl (L.hit yl)))

  pub laying_more : (y' : ℕ) → y < n → Next (value_in label) n l (y + 1) y' → Laying n label l m₀ pos (set m p y) y' (p + 1)
  laying_more y' yl t =
      let q : members_from n label l y ≡ y ∷ members_from n label l y' = from_here n label l y yl (L.hit yl) ∙ ap (λ (u : List ℕ). y ∷ u) (from_next n label l (y + 1) y' (omega arith) t) in
      record {
        hit = t.hit;
        whole = ap (λ (u : ℕ). sets (set m p y) u (members_from n label l y')) (add-one p) ∙ ap (λ (u : List ℕ). sets m p u) (sym q) ∙ L.whole;
        sum = omega (arith, L.sum, ap length q);
        long = length-set m p y ∙ L.long;
      }

  pub laying_end : n ≤ y → (m ≡ sets m₀ pos (members_from n label l 0)) × (p ≡ pos + length (members_from n label l 0))
  laying_end h = (ap (λ (u : List ℕ). sets m p u) (sym (from_past n label l y h)) ∙ L.whole, omega (arith, L.sum, ap length (from_past n label l y h)))
