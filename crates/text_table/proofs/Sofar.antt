-- What holds between two frames of a table's text goes on from frame to frame. Assumes nothing.
use mathlib.Core.Path.{◌≡◌, refl, ap, sym, ◌∙◌}
use mathlib.Core.Bool.{Bool, true, false, cond}
use mathlib.Core.List.{List}
use mathlib.Core.Logic.{◌⊎◌, inl, inr, ⊎_elim}
use Rattle.std.proofs.Common.{Ok, Err}
use Prim.Native.Nat.{ℕ, zero, suc, ◌+◌, ◌*◌, ◌-◌, ◌≤◌, ◌<◌}
use native.Mathlib.Omega.{arith}
use borrow.Author.Tests.{lt-ltb, le-ltb}
use lib.Dec.{eqb}
use lib.ListN.{get_or, set}
use lib.Seq.{get_or-set_other}
use Rattle.text_line.proofs.Values.{lt_or_ge}
use Rattle.table.specs.Words.{symbol_count, production_count, synthesized, inherited, left_of, child_of, child_count, symbol_at, defined, rule_of, head_at, constant_at}
use Rattle.table.specs.Judge.{header, symbol, production, equation, outside, refusal_at, judge_table}
use Rattle.table.specs.Shape.{Symbols, Shaped}
use Rattle.table.proofs.FirstLaws.{or_false}
use Rattle.table.proofs.Holds.{holds, outside_false, symbols_of_lem, shaped_of}
use Rattle.table.proofs.Sound.{hold_all}
use Rattle.table.proofs.Local.{header_local, symbol_local, production_local, equation_local}
use Rattle.text_frame.specs.Walk.{entry_of, after_part, seek_from, next_of, is_on}
use Rattle.text_frame.specs.Text.{type_of}
use Rattle.text_table.specs.Read.{type_at, word_of, constant_of, store, words_after, strange_at, judged_at, taken_at, Awaits, Top, Part, Sofar, Goes}
use Rattle.text_frame.specs.declared.Frame as text
use Rattle.text_frame.specs.declared.Expected.{Expected}
use Rattle.text_frame.specs.declared.Expected.TheVariants.{AtHeader, AtSymbol, AtProduction, AtEquation, Ended}
use Rattle.text_table.proofs.Taking.{never_ended}

-- u has the words of t but those from a to b - 1
abbrev pub Only : List ℕ → List ℕ → ℕ → ℕ → Type 0
Only t u a b = (n : ℕ) → (n < a) ⊎ (b ≤ n) → get_or t n 0 ≡ get_or u n 0

pub one_only : (t : List ℕ) (a v : ℕ) → Only t (set t a v) a (a + 1)
one_only t a v n h = sym (get_or-set_other t a n v 0 (λ e. ⊎_elim (λ k. omega arith) (λ k. omega arith) h))

pub two_only : (t : List ℕ) (m v c : ℕ) → Only t (set (set t (97 + m) v) (98 + m) c) (97 + m) (99 + m)
two_only t m v c n h =
    sym (get_or-set_other (set t (97 + m) v) (98 + m) n c 0 (λ e. ⊎_elim (λ k. omega arith) (λ k. omega arith) h)
    ∙ get_or-set_other t (97 + m) n v 0 (λ e. ⊎_elim (λ k. omega arith) (λ k. omega arith) h))

pub symbols_so : (t : List ℕ) → Top t → Symbols t
symbols_so t o = symbols_of_lem t (holds t header o.header) (λ s h. holds t (symbol s) (o.symbols s h))

pub shaped_so : (t : List ℕ) (p : ℕ) → Top t → refusal_at t (production p) ≡ 0 → Shaped t p
shaped_so t p o z = shaped_of t p (symbols_so t o) (holds t (production p) z)

-- the counts of a header that is not refused
pub some_counts : (t : List ℕ) → refusal_at t header ≡ 0 → ((1 ≤ symbol_count t) × (symbol_count t ≤ 32)) × ((1 ≤ production_count t) × (production_count t ≤ 64))
some_counts t z =
    let o = or_false (outside 1 32 (symbol_count t)) (outside 1 64 (production_count t)) (holds t header z).counts in
    (outside_false 1 32 (symbol_count t) o.0, outside_false 1 64 (production_count t) o.1)

module _ (t u : List ℕ) (a b : ℕ) (only : Only t u a b) where
  count_same : 0 < a → symbol_count t ≡ symbol_count u
  unfolding symbol_count
  count_same h = rw (only 0 (inl h))

  top_kept : 33 ≤ a → Top t → Top u
  top_kept h o =
      let c : symbol_count t ≡ symbol_count u = count_same (omega arith) in
      let l = (some_counts t o.header).0.1 in
      record {
        header = sym (header_local t u (only 0 (inl (omega arith)))) ∙ o.header;
        symbols = λ s k. sym (symbol_local t u s (only (1 + s) (inl (omega arith)))) ∙ o.symbols s (omega arith);
      }

  -- a production before the stored words
  module _ (i : ℕ) (below : 33 + i < a) (top : Top t) where
    arity_same : child_count t i ≡ child_count u i
    unfolding child_count
    arity_same = rw (only (33 + i) (inl below))

    at_same : (q : ℕ) → symbol_at t i q ≡ symbol_at u i q
    unfolding left_of child_of
    at_same zero = rw (only (33 + i) (inl below))
    at_same (suc q) = rw (only (33 + i) (inl below))

    defined_same : 33 ≤ a → (q : ℕ) → symbol_at t i q < 32 → defined t i q ≡ defined u i q
    unfolding synthesized inherited
    defined_same h zero k = rw (only (1 + left_of t i) (inl (omega arith))) (ap (synthesized u) (at_same zero))
    defined_same h (suc q) k = rw (only (1 + child_of t i q) (inl (omega arith))) (ap (inherited u) (at_same (suc q)))

    production_same : refusal_at t (production i) ≡ 0 → refusal_at u (production i) ≡ 0
    production_same z = sym (production_local t u i (only 0 (inl (omega arith))) (only (33 + i) (inl below))) ∙ z

    -- an equation whose words are not stored
    equation_same : 33 ≤ a → refusal_at t (production i) ≡ 0 → (q k : ℕ) → (98 + 2 * rule_of i q k < a) ⊎ (b ≤ 97) → refusal_at t (equation i q k) ≡ 0 → refusal_at u (equation i q k) ≡ 0
    unfolding head_at constant_at
    equation_same h z q k o e =
        let first : get_or t (97 + 2 * rule_of i q k) 0 ≡ get_or u (97 + 2 * rule_of i q k) 0 = only (97 + 2 * rule_of i q k) (⊎_elim (λ l. inl (omega arith)) (λ l. inr (omega arith)) o) in
        let second : get_or t (98 + 2 * rule_of i q k) 0 ≡ get_or u (98 + 2 * rule_of i q k) 0 = only (98 + 2 * rule_of i q k) (⊎_elim (λ l. inl (omega arith)) (λ l. inr (omega arith)) o) in
        sym (equation_local t u i (shaped_so t i top z) (only (33 + i) (inl below)) (λ s l. only (1 + s) (inl (omega arith))) q k first second) ∙ e

    part_kept : 33 ≤ a → ((q k : ℕ) → q ≤ 4 → k < 4 → (98 + 2 * rule_of i q k < a) ⊎ (b ≤ 97)) → Part t i → Part u i
    part_kept h o p =
        let s = shaped_so t i top p.production in
        record {
          production = production_same p.production;
          equations = λ q k l m.
              let l' : q ≤ child_count t i = omega (arith, arity_same) in
              let m' : k < defined t i q = omega (arith, defined_same h q (s.small q l')) in
              equation_same h p.production q k (o q k (omega (arith, s.arity)) (omega (arith, s.few q l'))) (p.equations q k l' m');
        }

-- the whole table
whole : (t : List ℕ) → Top t → ((i : ℕ) → i < production_count t → Part t i) → judge_table t ≡ 0
whole t o parts =
    hold_all t (record {
      header = holds t header o.header;
      symbols = λ s h. holds t (symbol s) (o.symbols s h);
      productions = λ p h. holds t (production p) (parts p h).production;
      equations = λ p q k h. holds t (equation p q k) ((parts p h.production).equations q k h.position h.set);
    })

less_or_same : (i p : ℕ) → i < p + 1 → (i < p) ⊎ (i ≡ p)
less_or_same i p h = ⊎_elim (λ k. inl k) (λ k. inr (omega arith)) (lt_or_ge i p)

-- behind production p's frame: the first equation from a position on, or what comes behind the production
module _ (t : List ℕ) (p : ℕ) (b : p < production_count t) (top : Top t) (parts : (i : ℕ) → i < p → Part t i) (own : refusal_at t (production p) ≡ 0) where
  parts_next : Part t p → (i : ℕ) → i < p + 1 → Part t i
  parts_next d i h = ⊎_elim (λ k. parts i k) (λ (k : i ≡ p). rw k d) (less_or_same i p h)

  after_sofar : Part t p → Sofar t (after_part t p)
  after_sofar d =
      ⊎_elim (λ h. rw (lt-ltb (p + 1) (production_count t) h) (h, (top, parts_next d)))
      (λ h. rw (le-ltb (p + 1) (production_count t) h) (whole t top (λ i k. parts_next d i (omega arith)))) (lt_or_ge (p + 1) (production_count t))

  abbrev Passed : ℕ → Type 0
  Passed q = (j l : ℕ) → j < q → j ≤ child_count t p → l < defined t p j → refusal_at t (equation p j l) ≡ 0

  seek_sofar : (n q : ℕ) → q + n ≡ suc (child_count t p) → Passed q → Sofar t (seek_from n t p q)
  unfolding seek_from
  seek_sofar zero q e d = after_sofar (record { production = own; equations = λ j l h k. d j l (omega arith) h k })
  seek_sofar (suc n) q e d =
      ⊎_elim
      (λ h. rw (lt-ltb 0 (defined t p q) h)
      (record { production = b; position = omega arith; set = h }, (top, (parts, record { production = own; positions = d; sets = λ l k m. absurd (omega arith) }))))
      (λ h. rw (le-ltb 0 (defined t p q) h)
      (seek_sofar n (q + 1) (omega arith) (λ j l k m i. ⊎_elim (λ o. d j l o m i) (λ (o : j ≡ q). absurd (let z : defined t p j ≤ 0 = rw o h in omega arith)) (less_or_same j q k))))
      (lt_or_ge 0 (defined t p q))

-- each step
module _ (t : List ℕ) (w c : ℕ) where
  header_goes : refusal_at (set t 0 w) header ≡ 0 → Sofar (set t 0 w) (AtSymbol 0)
  header_goes z = ((some_counts (set t 0 w) z).0.0, (z, λ i h. absurd (omega arith)))

  module _ (s : ℕ) where
    abbrev tₛ : List ℕ
    tₛ = set t (1 + s) w

    symbol_goes : Sofar t (AtSymbol s) → refusal_at tₛ (symbol s) ≡ 0 → Sofar tₛ (next_of tₛ (AtSymbol s))
    unfolding next_of
    symbol_goes f z =
        let only : Only t tₛ (1 + s) (1 + s + 1) = one_only t (1 + s) w in
        let h : refusal_at tₛ header ≡ 0 = sym (header_local t tₛ (only 0 (inl (omega arith)))) ∙ f.1.0 in
        let all : (i : ℕ) → i < s + 1 → refusal_at tₛ (symbol i) ≡ 0 =
        λ i k. ⊎_elim (λ l. sym (symbol_local t tₛ i (only (1 + i) (inl (omega arith)))) ∙ f.1.1 i l) (λ (l : i ≡ s). rw l z) (less_or_same i s k) in
        ⊎_elim (λ k. rw (lt-ltb (s + 1) (symbol_count tₛ) k) (k, (h, all)))
        (λ k. rw (le-ltb (s + 1) (symbol_count tₛ) k) ((some_counts tₛ h).1.0, (record { header = h; symbols = λ i l. all i (omega arith) }, λ i l. absurd (omega arith))))
        (lt_or_ge (s + 1) (symbol_count tₛ))

  module _ (p : ℕ) where
    abbrev tₚ : List ℕ
    tₚ = set t (33 + p) w

    production_goes : Sofar t (AtProduction p) → refusal_at tₚ (production p) ≡ 0 → Sofar tₚ (next_of tₚ (AtProduction p))
    unfolding next_of production_count
    production_goes f z =
        let only : Only t tₚ (33 + p) (33 + p + 1) = one_only t (33 + p) w in
        let same : get_or t 0 0 ≡ get_or tₚ 0 0 = only 0 (inl (omega arith)) in
        let low : production_count t ≤ 64 = (some_counts t f.1.0.header).1.1 in
        let b : p < production_count tₚ = rw (← same) f.0 in
        seek_sofar tₚ p b (top_kept t tₚ (33 + p) (33 + p + 1) only (omega arith) f.1.0)
        (λ i h. part_kept t tₚ (33 + p) (33 + p + 1) only i (omega arith) f.1.0 (omega arith) (λ q k m n. inr (omega (arith, low, f.0))) (f.1.1 i h))
        z (suc (child_count tₚ p)) 0 (omega arith) (λ j l h m n. absurd (omega arith))

  module _ (p q k : ℕ) where
    abbrev m : ℕ
    m = 2 * (20 * p + (4 * q + k))

    abbrev u : List ℕ
    u = set (set t (97 + m) w) (98 + m) c

    equation_goes : Sofar t (AtEquation p q k) → refusal_at u (equation p q k) ≡ 0 → Sofar u (next_of u (AtEquation p q k))
    unfolding next_of production_count rule_of
    equation_goes f z =
        let only : Only t u (97 + m) (99 + m) = two_only t m w c in
        let has = f.0 in
        let top = f.1.0 in
        let in' = f.1.1.1 in
        let own : refusal_at t (production p) ≡ 0 = in'.production in
        let low : production_count t ≤ 64 = (some_counts t top.header).1.1 in
        let p-low : p < 64 = omega (arith, has.production) in
        let s = shaped_so t p top own in
        let same : get_or t 0 0 ≡ get_or u 0 0 = only 0 (inl (omega arith)) in
        let b : p < production_count u = rw (← same) has.production in
        let top' : Top u = top_kept t u (97 + m) (99 + m) only (omega arith) top in
        let parts' : (i : ℕ) → i < p → Part u i =
        λ i h. part_kept t u (97 + m) (99 + m) only i (omega arith) top (omega arith) (λ j l x y. inl (omega arith)) (f.1.1.0 i h) in
        let own' : refusal_at u (production p) ≡ 0 = production_same t u (97 + m) (99 + m) only p (omega arith) top own in
        let arity : child_count t p ≡ child_count u p = arity_same t u (97 + m) (99 + m) only p (omega arith) top in
        let sizes : (j : ℕ) → j ≤ child_count t p → defined t p j ≡ defined u p j = λ j h. defined_same t u (97 + m) (99 + m) only p (omega arith) top (omega arith) j (s.small j h) in
        let old : (j l : ℕ) → 4 * j + l < 4 * q + k → refusal_at t (equation p j l) ≡ 0 → refusal_at u (equation p j l) ≡ 0 =
        λ j l h e. equation_same t u (97 + m) (99 + m) only p (omega arith) top (omega arith) own j l (inl (omega arith)) e in
        let before : (j l : ℕ) → j < q → j ≤ child_count u p → l < defined u p j → refusal_at u (equation p j l) ≡ 0 =
        λ j l h i o. let i' : j ≤ child_count t p = omega arith in let o' : l < defined t p j = omega (arith, sizes j i') in old j l (omega (arith, s.few j i')) (in'.positions j l h i' o') in
        let here : (l : ℕ) → l < k + 1 → refusal_at u (equation p q l) ≡ 0 =
        λ l h. ⊎_elim (λ i. old q l (omega arith) (in'.sets l i (omega (arith, has.set)))) (λ (i : l ≡ k). rw i z) (less_or_same l k h) in
        let place : q ≤ child_count u p = omega (arith, has.position) in
        ⊎_elim
        (λ h. rw (lt-ltb (k + 1) (defined u p q) h)
        (record { production = b; position = place; set = h }, (top', (parts', record { production = own'; positions = before; sets = λ l i o. here l i }))))
        (λ h. rw (le-ltb (k + 1) (defined u p q) h)
        (seek_sofar u p b top' parts' own' (child_count u p - q) (q + 1) (omega arith) (λ j l i x y. ⊎_elim (λ o. before j l o x y) (λ (o : j ≡ q). let y' : l < defined u p q = rw o at y in rw o (here l (omega arith))) (less_or_same j q i))))
        (lt_or_ge (k + 1) (defined u p q))

pub step_goes : (t : List ℕ) (x : Expected) (w c : ℕ) → is_on x ≡ true → Sofar t x → refusal_at (store t x w c) (entry_of x) ≡ 0 → Sofar (store t x w c) (next_of (store t x w c) x)
unfolding next_of
step_goes t AtHeader w c o f z = header_goes t w c z
step_goes t (AtSymbol s) w c o f z = symbol_goes t w c s f z
step_goes t (AtProduction p) w c o f z = production_goes t w c p f z
step_goes t (AtEquation p q k) w c o f z = equation_goes t w c p q k f z
step_goes t Ended w c o f z = absurd (let n : ◌≡◌ {A = ℕ} 0 1 = cc in omega arith)

-- what is needed of the words so far
pub awaits_so : (t : List ℕ) (x : Expected) → Sofar t x → Awaits t x
awaits_so t AtHeader f = tt
awaits_so t (AtSymbol s) f = omega (arith, f.0, (some_counts t f.1.0).0.1)
awaits_so t (AtProduction p) f = (omega (arith, f.0, (some_counts t f.1.0.header).1.1), symbols_so t f.1.0)
awaits_so t (AtEquation p q k) f =
    let s = shaped_so t p f.1.0 f.1.1.1.production in
    (omega (arith, f.0.production, (some_counts t f.1.0.header).1.1), (s, (f.0.position, omega (arith, f.0.set, s.few q f.0.position))))
awaits_so t Ended f = tt

-- a frame that leads on has the expected type and is not refused
pub record Led (t : List ℕ) (x : Expected) (f : text.Frame) (y : Expected) : Type 0 where
  pub type : eqb (type_of f) (type_at x) ≡ true
  pub sound : refusal_at (words_after t x f) (entry_of x) ≡ 0
  pub next : y ≡ next_of (words_after t x f) x

module _ (t : List ℕ) (x : Expected) (f : text.Frame) (line : ℕ) (y : Expected) where
  by_number : (n : ℕ) → refusal_at (words_after t x f) (entry_of x) ≡ n → eqb (type_of f) (type_at x) ≡ true → judged_at n (next_of (words_after t x f) x) line ≡ Ok y → Led t x f y
  by_number zero z e h = record { type = e; sound = z; next = cc }
  by_number (suc n) z e h = absurd (let m : ◌≡◌ {A = ℕ} 0 1 = cc in omega arith)

  by_type : (b : Bool) → eqb (type_of f) (type_at x) ≡ b → cond b (judged_at (refusal_at (words_after t x f) (entry_of x)) (next_of (words_after t x f) x) line) (Err (strange_at f line)) ≡ Ok y → Led t x f y
  by_type true e h = by_number (refusal_at (words_after t x f) (entry_of x)) refl e h
  by_type false e h = absurd (let m : ◌≡◌ {A = ℕ} 0 1 = cc in omega arith)

  pub led : taken_at t x f line ≡ Ok y → Led t x f y
  unfolding taken_at
  led h = by_type (eqb (type_of f) (type_at x)) refl h

pub stored : (t : List ℕ) (x : Expected) (f : text.Frame) → eqb (type_of f) (type_at x) ≡ true → words_after t x f ≡ store t x (word_of f) (constant_of f)
unfolding words_after
stored t x f e = rw e

pub on_type : (f : text.Frame) (x : Expected) → eqb (type_of f) (type_at x) ≡ true → is_on x ≡ true
on_type f AtHeader e = refl
on_type f (AtSymbol s) e = refl
on_type f (AtProduction p) e = refl
on_type f (AtEquation p q k) e = refl
on_type f Ended e = sym (never_ended f) ∙ e

pub goes : Goes
goes t x f line y s h =
    let l = led t x f line y h in
    let d = stored t x f l.type in
    rw (l.next, d) (step_goes t x (word_of f) (constant_of f) (on_type f x l.type) s (rw d at l.sound))
