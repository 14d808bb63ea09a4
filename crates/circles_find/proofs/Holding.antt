-- The graph that two arrays hold. Assumes nothing.
use Prim.Native.Nat.{ℕ, ◌≤◌, ◌<◌}
use native.Mathlib.Omega.{arith}
use mathlib.Core.Path.{◌≡◌, refl, sym, subst, ◌∙◌}
use mathlib.Core.Bool.{Bool, true, false, cond, not, false≢true}
use mathlib.Core.List.Memᴰ
use mathlib.Core.List.{List, [], ◌∷◌}
use mathlib.Core.Logic.{◌⊎◌, inl, inr, ⊎_elim}
use lib.ListN.{length, get_or}
use lib.Dec.{eqb, ltb}
use borrow.Author.Tests.{ne_eqb, eqb-false, lt-ltb, ltb-true}
use Rattle.circles.specs.Graph.{Reads, Reaches, Together, Path⁺, here, there, Closed, ◌∈◌}
use Rattle.circles.specs.Arrays.{given, graph_of}
use Rattle.circles_find.specs.Inner.Search.{Arg, Stated}
use Rattle.circles_find.specs.Inner.Labels.{Round}
use Rattle.circles.proofs.Paths.{mapped}
use Rattle.circles.proofs.Least.{reached_declared}
use Rattle.circles.proofs.Lists.{and_parts, and_of, not_was, not_of, default_is}

held_case : (n p q y : ℕ) (s t : Bool) → ltb p n ≡ s → ltb q n ≡ t → y ∈ cond s (p ∷ cond t (q ∷ []) []) (cond t (q ∷ []) []) → (y < n) × ((p ≡ y) ⊎ (q ≡ y))
held_case n p q y true true e f h =
    ⊎_elim (λ u. (omega (arith, u, ltb-true p n e), inl (sym u)))
    (λ v. ⊎_elim (λ u. (omega (arith, u, ltb-true q n f), inr (sym u))) (λ u. absurd (Memᴰ.not-nil u)) (Memᴰ.cases_cons v))
    (Memᴰ.cases_cons h)
held_case n p q y true false e f h = ⊎_elim (λ u. (omega (arith, u, ltb-true p n e), inl (sym u))) (λ u. absurd (Memᴰ.not-nil u)) (Memᴰ.cases_cons h)
held_case n p q y false true e f h = ⊎_elim (λ u. (omega (arith, u, ltb-true q n f), inr (sym u))) (λ u. absurd (Memᴰ.not-nil u)) (Memᴰ.cases_cons h)
held_case n p q y false false e f h = absurd (Memᴰ.not-nil h)

pub in_given : (n p q y : ℕ) → y ∈ given n p q → (y < n) × ((p ≡ y) ⊎ (q ≡ y))
in_given n p q y h = held_case n p q y (ltb p n) (ltb q n) refl refl h

one_given : (n p q : ℕ) (s t : Bool) → s ≡ true → p ∈ cond s (p ∷ cond t (q ∷ []) []) (cond t (q ∷ []) [])
one_given n p q true t e = Memᴰ.head refl
one_given n p q false t e = absurd (false≢true e)

two_given : (n p q : ℕ) (s t : Bool) → t ≡ true → q ∈ cond s (p ∷ cond t (q ∷ []) []) (cond t (q ∷ []) [])
two_given n p q true true e = Memᴰ.tail (Memᴰ.head refl)
two_given n p q false true e = Memᴰ.head refl
two_given n p q s false e = absurd (false≢true e)

pub of_given : (n p q y : ℕ) → y < n → (p ≡ y) ⊎ (q ≡ y) → y ∈ given n p q
of_given n p q y h (inl e) = subst (λ (u : ℕ). u ∈ given n p q) e (one_given n p q (ltb p n) (ltb q n) (lt-ltb p n (omega arith)))
of_given n p q y h (inr e) = subst (λ (u : ℕ). u ∈ given n p q) e (two_given n p q (ltb p n) (ltb q n) (lt-ltb q n (omega arith)))

module _ (n : ℕ) (a b : List ℕ) (la : n ≤ length a) (lb : n ≤ length b) where
  at_a : (x : ℕ) → x < n → get_or a x 65534 ≡ get_or a x 0
  at_a x h = default_is a x 65534 0 (omega arith)

  at_b : (x : ℕ) → x < n → get_or b x 65534 ≡ get_or b x 0
  at_b x h = default_is b x 65534 0 (omega arith)

  pub is_declared : (x : ℕ) → x < n → (get_or a x 0 ≡ 65534 → ⊥) → (graph_of n a b).declared x ≡ true
  is_declared x h d = and_of (ltb x n) _ (lt-ltb x n h) (not_of (eqb (get_or a x 65534) 65534) (ne_eqb (get_or a x 65534) 65534 (λ e. d (sym (at_a x h) ∙ e))))

  pub was_declared : (x : ℕ) → (graph_of n a b).declared x ≡ true → (x < n) × (get_or a x 0 ≡ 65534 → ⊥)
  was_declared x e =
      let p = and_parts (ltb x n) (not (eqb (get_or a x 65534) 65534)) e in
      let h : x < n = ltb-true x n p.0 in
      (h, λ q. eqb-false (get_or a x 65534) 65534 (not_was _ p.1) (at_a x h ∙ q))

  pub arg_reads : (x y : ℕ) → Arg n a b x y → Reads (graph_of n a b) x y
  arg_reads x y (xl, yl, d, h) = record {
    from = xl;
    to = yl;
    argument = of_given n (get_or a x 65534) (get_or b x 65534) y yl (⊎_elim (λ e. inl (at_a x xl ∙ e)) (λ e. inr (at_b x xl ∙ e)) h);
  }

  pub reads_arg : (x y : ℕ) → Stated a x → Reads (graph_of n a b) x y → Arg n a b x y
  reads_arg x y d r =
      let w = in_given n (get_or a x 65534) (get_or b x 65534) y r.argument in
      (r.from, r.to, d, ⊎_elim (λ e. inl (sym (at_a x r.from) ∙ e)) (λ e. inr (sym (at_b x r.from) ∙ e)) w.1)

  pub round_together : (x y : ℕ) → Round n a b x y → Together (graph_of n a b) x y
  round_together x y r = (mapped arg_reads r.0, mapped arg_reads r.1)

  -- where what a declared slot reads is declared, a way from one is a way by arguments
  module _ (C : Closed (graph_of n a b)) where
    reaches_args : {x y : ℕ} → (graph_of n a b).declared x ≡ true → Reaches (graph_of n a b) x y → Path⁺ (Arg n a b) x y
    reaches_args d here = here
    reaches_args d (there p e) = there (reaches_args d p) (reads_arg _ _ (was_declared _ (reached_declared C d p)).1 e)

    pub together_round : (x y : ℕ) → (graph_of n a b).declared x ≡ true → Together (graph_of n a b) x y → Round n a b x y
    together_round x y d r = (reaches_args d r.0, reaches_args (reached_declared C d r.0) r.1)
