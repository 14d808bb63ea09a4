-- Two lists of words that are the same table: what lies beyond the counts is not looked at. Assumes nothing.
use Prim.Native.Nat.{ℕ, zero, suc, ◌/◌, ◌%◌, ◌≤◌, ◌<◌}
use mathlib.Core.Path.{◌≡◌, refl, ap, sym, ◌∙◌, subst}
use mathlib.Core.Bool.{Bool, true, false, ◌&&◌}
use mathlib.Core.List.{List}
use borrow.Author.Tests.{leb-true}
use lib.Dec.{leb}
use Rattle.table.specs.Words.{symbol_count, production_count, synthesized, inherited, left_of, child_of, child_count, symbol_at, defined, has_set, occurs, rule_of, head_at}
use Rattle.table.specs.Equations.{a_field, b_field, equation_at}
use Rattle.table.specs.Same.{Has, Same}
use Rattle.table.specs.Sound.{Sound, Named}
use Rattle.table.specs.Limits.{SameJudged}
use Rattle.table.proofs.Sound.{sound, sound_back}

module _ (t u : List ℕ) (e : Same t u) (x : Sound t) where
  -- the same symbols have the same sets
  set_same : (s i : ℕ) → s < symbol_count t → has_set t s i ≡ has_set u s i
  unfolding has_set
  set_same s i l = rw (e.synthesized s l, e.inherited s l)

  defined_at : (p q : ℕ) → symbol_at t p q < symbol_count t → symbol_at t p q ≡ symbol_at u p q → defined t p q ≡ defined u p q
  defined_at p zero l h = e.synthesized (left_of t p) l ∙ ap (synthesized u) h
  defined_at p (suc k) l h = e.inherited (child_of t p k) l ∙ ap (inherited u) h

  pub defined_same : (p q : ℕ) → p < production_count t → q ≤ child_count t p → defined t p q ≡ defined u p q
  defined_same p q l m = defined_at p q (x.below p q l m) (e.symbol p q l m)

  occurs_by : (p q i : ℕ) (b : Bool) → leb q (child_count t p) ≡ b → p < production_count t → (b && has_set t (symbol_at t p q) i) ≡ (b && has_set u (symbol_at u p q) i)
  occurs_by p q i true h l =
      let m = leb-true q (child_count t p) h in
      set_same (symbol_at t p q) i (x.below p q l m) ∙ ap (λ (s : ℕ). has_set u s i) (e.symbol p q l m)
  occurs_by p q i false h l = refl

  pub occurs_same : (p q i : ℕ) → p < production_count t → occurs t p q i ≡ occurs u p q i
  unfolding occurs
  occurs_same p q i l = occurs_by p q i (leb q (child_count t p)) refl l ∙ rw (e.children p l)

  -- an equation of u is one of t
  has_back : (p q k : ℕ) → Has u p q k → Has t p q k
  has_back p q k h =
      let l : p < production_count t = subst (λ (n : ℕ). p < n) (sym e.productions) h.production in
      let m : q ≤ child_count t p = subst (λ (n : ℕ). q ≤ n) (sym (e.children p l)) h.position in
      record { production = l; position = m; set = subst (λ (n : ℕ). k < n) (sym (defined_same p q l m)) h.set }

  named_same : (p h : ℕ) → p < production_count t → Named t p h → Named u p h
  named_same p h l n = record {
    a = λ w. sym (occurs_same p (a_field h / 256) (a_field h % 256) l) ∙ n.a w;
    b = λ w. sym (occurs_same p (b_field h / 256) (b_field h % 256) l) ∙ n.b w;
  }

  pub sound_same : Sound u
  sound_same = record {
    symbols = subst (λ (n : ℕ). (1 ≤ n) × (n ≤ 32)) e.symbols x.symbols;
    productions = subst (λ (n : ℕ). (1 ≤ n) × (n ≤ 64)) e.productions x.productions;
    sets = λ s l. let m : s < symbol_count t = subst (λ (n : ℕ). s < n) (sym e.symbols) l in
        (subst (λ (n : ℕ). n ≤ 4) (e.synthesized s m) (x.sets s m).0, subst (λ (n : ℕ). n ≤ 4) (e.inherited s m) (x.sets s m).1);
    children = λ p l. let m : p < production_count t = subst (λ (n : ℕ). p < n) (sym e.productions) l in subst (λ (n : ℕ). n ≤ 4) (e.children p m) (x.children p m);
    below = λ p q l m.
        let l' : p < production_count t = subst (λ (n : ℕ). p < n) (sym e.productions) l in
        let m' : q ≤ child_count t p = subst (λ (n : ℕ). q ≤ n) (sym (e.children p l')) m in
        let b = x.below p q l' m' in rw (← e.symbol p q l' m', ← e.symbols) b;
    start = sym (e.inherited 0 x.symbols.0) ∙ x.start;
    formed = λ p q k h. let g = has_back p q k h in rw (← e.head p q k g, ← e.constant p q k g) (x.formed p q k g);
    named = λ p q k h. let g = has_back p q k h in rw (← e.head p q k g) (named_same p (head_at t (rule_of p q k)) g.production (x.named p q k g));
  }

  pub equation_same : (p q k : ℕ) → Has t p q k → equation_at t (rule_of p q k) ≡ equation_at u (rule_of p q k)
  unfolding equation_at
  equation_same p q k h = rw (e.head p q k h, e.constant p q k h)

-- the same table is judged sound, and has the same equations
pub judge_same : SameJudged
judge_same t u e j = let x = sound t j in record { sound = sound_back u (sound_same t u e x); equation = equation_same t u e x }
