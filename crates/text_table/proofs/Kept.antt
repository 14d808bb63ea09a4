-- The words of a table's frames: stored, kept by what is read behind them, and shown again. Assumes nothing.
use mathlib.Core.Path.{◌≡◌, refl, ap, sym, ◌∙◌}
use mathlib.Core.List.{List}
use mathlib.Core.Bool.{true, cond}
use mathlib.Core.Logic.{◌⊎◌, inl, inr, ⊎_elim}
use Prim.Native.Nat.{ℕ, zero, suc, ◌+◌, ◌*◌, ◌-◌, ◌/◌, ◌%◌, ◌^◌, ◌≤◌, ◌<◌}
use native.Mathlib.Omega.{arith}
use borrow.Author.Tests.{lt-ltb, le-ltb}
use lib.Dec.{eqb, ltb, lit<, lit≤}
use lib.ListN.{length, get_or, set, length-set}
use lib.Seq.{get_or-set_same, get_or-set_other}
use Rattle.text_line.proofs.Values.{lt_or_ge}
use Rattle.text_line.proofs.Rows.{never}
use Rattle.table.specs.Words.{symbol_count, production_count, synthesized, inherited, left_of, child_of, child_count, symbol_at, defined, rule_of, head_at, constant_at}
use Rattle.table.specs.Equations.{op_number, a_field, b_field, argument}
use Rattle.table.specs.Judge.{header, symbol, production, equation, refusal_at}
use Rattle.table.specs.Shape.{Shaped}
use Rattle.sets.specs.declared.Argument.{Argument}
use Rattle.text_frame.specs.Text.{text_of, rule_type, change_type, type_of}
use Rattle.text_table.specs.Text.{shown}
use Rattle.text_frame.specs.Walk.{entry_of, after_part, seek_from, next_of, Ready}
use Rattle.text_table.specs.Inner.Putting.{text_at}
use Rattle.text_table.specs.Read.{type_at, word_of, constant_of, store, Sofar}
use Rattle.text_frame.specs.Laws.{Kids, Fits}
use Rattle.text_frame.specs.declared.Children.{Children}
use Rattle.text_frame.specs.declared.Frame.{Frame}
use Rattle.text_frame.specs.declared.Frame.TheVariants.{Rule, Node, Point, Change, Dump, Refused, Over}
use Rattle.text_frame.specs.declared.Rule.TheVariants.{Header, Symbol, Production, Equation}
use Rattle.text_frame.specs.declared.Rule as rule
use Rattle.text_frame.specs.declared.Expected.{Expected}
use Rattle.text_frame.specs.declared.Expected.TheVariants.{AtHeader, AtSymbol, AtProduction, AtEquation, Ended}
use Rattle.text_table.proofs.Order.{Valid}
use Rattle.text_table.proofs.Taking.{no_type, never_ended, shaped_now, low_kept, shaped_kept, count_kept}
use Rattle.text_table.proofs.Sofar.{one_only, two_only, shaped_so, awaits_so}
use Rattle.text_frame.proofs.Bounds.{Bounded}
use Rattle.text_frame.proofs.Exactly.{change_type_lem}

-- the words that are stored before an expected frame, and up to it
abbrev pub Before : Expected → ℕ → Type 0
Before AtHeader m = ⊥
Before (AtSymbol s) m = m < 1 + s
Before (AtProduction p) m = (m < 33 + p) ⊎ ((97 ≤ m) × (m < 97 + 40 * p))
Before (AtEquation p q k) m = (m < 34 + p) ⊎ ((97 ≤ m) × (m < 97 + 2 * (20 * p + (4 * q + k))))
Before Ended m = Unit {0}

abbrev pub Through : Expected → ℕ → Type 0
Through AtHeader m = m < 1
Through (AtSymbol s) m = m < 2 + s
Through (AtProduction p) m = (m < 34 + p) ⊎ ((97 ≤ m) × (m < 97 + 40 * p))
Through (AtEquation p q k) m = (m < 34 + p) ⊎ ((97 ≤ m) × (m < 99 + 2 * (20 * p + (4 * q + k))))
Through Ended m = Unit {0}

pub before_through : (x : Expected) (m : ℕ) → Before x m → Through x m
before_through AtHeader m b = absurd b
before_through (AtSymbol s) m b = omega arith
before_through (AtProduction p) m b = ⊎_elim (λ h. inl (omega arith)) (λ h. inr h) b
before_through (AtEquation p q k) m b = ⊎_elim (λ h. inl h) (λ h. inr (h.0, omega (arith, h.1))) b
before_through Ended m b = tt

-- what was stored up to a frame is stored before the next
module _ (t : List ℕ) (p m : ℕ) where
  after_before : (q : ℕ) → q ≤ 5 → (m < 34 + p) ⊎ ((97 ≤ m) × (m < 97 + 2 * (20 * p + 4 * q))) → Before (after_part t p) m
  after_before q h b =
      ⊎_elim (λ k. rw (lt-ltb (p + 1) (production_count t) k) (⊎_elim (λ l. inl (omega arith)) (λ l. inr (l.0, omega (arith, l.1))) b)) (λ k. rw (le-ltb (p + 1) (production_count t) k) tt)
      (lt_or_ge (p + 1) (production_count t))

  seek_before : (n q : ℕ) → q + n ≤ 5 → (m < 34 + p) ⊎ ((97 ≤ m) × (m < 97 + 2 * (20 * p + 4 * q))) → Before (seek_from n t p q) m
  unfolding seek_from
  seek_before zero q h b = after_before q (omega arith) b
  seek_before (suc n) q h b =
      ⊎_elim (λ k. rw (lt-ltb 0 (defined t p q) k) (⊎_elim (λ l. inl l) (λ l. inr (l.0, omega (arith, l.1))) b))
      (λ k. rw (le-ltb 0 (defined t p q) k) (seek_before n (q + 1) (omega arith) (⊎_elim (λ l. inl l) (λ l. inr (l.0, omega (arith, l.1))) b)))
      (lt_or_ge 0 (defined t p q))

pub through_next : (t : List ℕ) (x : Expected) (m : ℕ) → Ready t x → Through x m → Before (next_of t x) m
unfolding next_of
through_next t AtHeader m r b = omega arith
through_next t (AtSymbol s) m r b = ⊎_elim (λ k. rw (lt-ltb (s + 1) (symbol_count t) k) (omega arith)) (λ k. rw (le-ltb (s + 1) (symbol_count t) k) (inl (omega arith))) (lt_or_ge (s + 1) (symbol_count t))
through_next t (AtProduction p) m r b = seek_before t p m (suc (child_count t p)) 0 (omega (arith, r.1.arity)) (⊎_elim (λ l. inl l) (λ l. inr (l.0, omega (arith, l.1))) b)
through_next t (AtEquation p q k) m r b =
    let a = r.1.0.arity in
    ⊎_elim (λ h. rw (lt-ltb (k + 1) (defined t p q) h) (⊎_elim (λ l. inl l) (λ l. inr (l.0, omega (arith, l.1))) b))
    (λ h. rw (le-ltb (k + 1) (defined t p q) h) (seek_before t p m (child_count t p - q) (q + 1) (omega (arith, r.1.1)) (⊎_elim (λ l. inl l) (λ l. inr (l.0, omega (arith, l.1, r.1.1))) b)))
    (lt_or_ge (k + 1) (defined t p q))
through_next t Ended m r b = tt

-- the expected frame's words have their places in memory
abbrev pub Placed : Expected → Type 0
Placed AtHeader = Unit {0}
Placed (AtSymbol s) = s < 32
Placed (AtProduction p) = p < 64
Placed (AtEquation p q k) = (p < 64) × ((q ≤ 4) × (k < 4))
Placed Ended = Unit {0}

pub placed_so : (t : List ℕ) (x : Expected) → Sofar t x → Placed x
placed_so t AtHeader f = tt
placed_so t (AtSymbol s) f = awaits_so t (AtSymbol s) f
placed_so t (AtProduction p) f = (awaits_so t (AtProduction p) f).0
placed_so t (AtEquation p q k) f = let a = awaits_so t (AtEquation p q k) f in (a.0, (omega (arith, a.1.0.arity, a.1.1.0), a.1.1.1))
placed_so t Ended f = tt

pub placed_ready : (t : List ℕ) (x : Expected) → Ready t x → Placed x
placed_ready t AtHeader r = tt
placed_ready t (AtSymbol s) r = r
placed_ready t (AtProduction p) r = r.0
placed_ready t (AtEquation p q k) r = (r.0, (omega (arith, r.1.0.arity, r.1.1.0), r.1.1.1))
placed_ready t Ended r = tt

-- a store changes nothing before it
pub before_kept : (t : List ℕ) (x : Expected) (w c m : ℕ) → Placed x → Before x m → get_or t m 0 ≡ get_or (store t x w c) m 0
before_kept t AtHeader w c m a b = absurd b
before_kept t (AtSymbol s) w c m a b = one_only t (1 + s) w m (inl b)
before_kept t (AtProduction p) w c m a b = one_only t (33 + p) w m (⊎_elim (λ h. inl h) (λ h. inr (omega (arith, h.0))) b)
before_kept t (AtEquation p q k) w c m a b = two_only t (2 * (20 * p + (4 * q + k))) w c m (⊎_elim (λ h. inl (omega (arith, a.0))) (λ h. inl h.1) b)
before_kept t Ended w c m a b = refl

-- the words of an expected frame
abbrev pub WordsAt : List ℕ → Expected → ℕ → ℕ → Type 0
WordsAt u AtHeader w c = get_or u 0 0 ≡ w
WordsAt u (AtSymbol s) w c = get_or u (1 + s) 0 ≡ w
WordsAt u (AtProduction p) w c = get_or u (33 + p) 0 ≡ w
WordsAt u (AtEquation p q k) w c = (get_or u (97 + 2 * (20 * p + (4 * q + k))) 0 ≡ w) × (get_or u (98 + 2 * (20 * p + (4 * q + k))) 0 ≡ c)
WordsAt u Ended w c = Unit {0}

pub stored_words : (t : List ℕ) (x : Expected) (w c : ℕ) → length t ≡ 2657 → Placed x → WordsAt (store t x w c) x w c
stored_words t AtHeader w c l a = get_or-set_same t 0 w 0 (omega arith)
stored_words t (AtSymbol s) w c l a = get_or-set_same t (1 + s) w 0 (omega arith)
stored_words t (AtProduction p) w c l a = get_or-set_same t (33 + p) w 0 (omega arith)
stored_words t (AtEquation p q k) w c l a =
    let r : 20 * p + (4 * q + k) < 1280 = omega (arith, a.0, a.1.0, a.1.1) in
    let i : ℕ = 97 + 2 * (20 * p + (4 * q + k)) in
    let j : ℕ = 98 + 2 * (20 * p + (4 * q + k)) in
    (get_or-set_other (set t i w) j i c 0 (λ e. omega arith) ∙ get_or-set_same t i w 0 (omega arith), get_or-set_same (set t i w) j c 0 (omega (arith, length-set t i w)))
stored_words t Ended w c l a = tt

pub words_same : (t u : List ℕ) (x : Expected) (w c : ℕ) → ((m : ℕ) → Through x m → get_or t m 0 ≡ get_or u m 0) → WordsAt t x w c → WordsAt u x w c
words_same t u AtHeader w c same e = sym (same 0 (omega arith)) ∙ e
words_same t u (AtSymbol s) w c same e = sym (same (1 + s) (omega arith)) ∙ e
words_same t u (AtProduction p) w c same e = sym (same (33 + p) (inl (omega arith))) ∙ e
words_same t u (AtEquation p q k) w c same e =
    (sym (same (97 + 2 * (20 * p + (4 * q + k))) (inr (omega arith, omega arith))) ∙ e.0, sym (same (98 + 2 * (20 * p + (4 * q + k))) (inr (omega arith, omega arith))) ∙ e.1)
words_same t u Ended w c same e = tt

-- the frame that those words show
pub header_is : (u : List ℕ) (a b : ℕ) → get_or u 0 0 ≡ a * 256 + b → b < 2 ^ 8 → shown u header ≡ Rule (Header a b)
unfolding shown symbol_count production_count
header_is u a b e h =
    let x : get_or u 0 0 / 256 ≡ a = omega arith in
    let y : get_or u 0 0 % 256 ≡ b = omega arith in
    λ i. Rule (Header (x i) (y i))

pub symbol_is : (u : List ℕ) (s a b : ℕ) → get_or u (1 + s) 0 ≡ a * 256 + b → b < 2 ^ 8 → shown u (symbol s) ≡ Rule (Symbol a b)
unfolding shown synthesized inherited
symbol_is u s a b e h =
    let x : get_or u (1 + s) 0 / 256 ≡ a = omega arith in
    let y : get_or u (1 + s) 0 % 256 ≡ b = omega arith in
    λ i. Rule (Symbol (x i) (y i))

kid_is : (k n v w : ℕ) → v ≡ w → (n ≤ k → w ≡ 0) → cond (ltb k n) v 0 ≡ w
kid_is k n v w e z = ⊎_elim (λ h. rw (lt-ltb k n h) e) (λ h. rw (le-ltb k n h) (sym (z h))) (lt_or_ge k n)

module _ (u : List ℕ) (p l n : ℕ) (cs : Children) (e : get_or u (33 + p) 0 ≡ ((((l * 256 + n) * 256 + cs.one) * 256 + cs.two) * 256 + cs.three) * 256 + cs.four) (h : n < 2 ^ 8) (k : Kids n cs) where
  pub count_is : child_count u p ≡ n
  unfolding child_count
  count_is = let a = k.one in let b = k.two in let c = k.three in let d = k.four in omega arith

  pub production_is : shown u (production p) ≡ Rule (Production l n cs)
  unfolding shown left_of child_of
  production_is =
      let a = k.one in
      let b = k.two in
      let c = k.three in
      let d = k.four in
      let g : ℕ = get_or u (33 + p) 0 in
      let x : g / 1099511627776 ≡ l = omega arith in
      let v0 : g / 16777216 % 256 ≡ cs.one = omega arith in
      let v1 : g / 65536 % 256 ≡ cs.two = omega arith in
      let v2 : g / 256 % 256 ≡ cs.three = omega arith in
      let v3 : g / 1 % 256 ≡ cs.four = omega arith in
      let y : child_count u p ≡ n = count_is in
      rw y (λ i. Rule (Production (x i) n (record { one = kid_is 0 n (g / 16777216 % 256) cs.one v0 k.none i; two = kid_is 1 n (g / 65536 % 256) cs.two v1 k.single i; three = kid_is 2 n (g / 256 % 256) cs.three v2 k.double i; four = kid_is 3 n (g / 1 % 256) cs.four v3 k.triple i })))

pub equation_is : (u : List ℕ) (p q k op x y z w c : ℕ) → get_or u (97 + 2 * (20 * p + (4 * q + k))) 0 ≡ (((op * 256 + x) * 256 + y) * 256 + z) * 256 + w → get_or u (98 + 2 * (20 * p + (4 * q + k))) 0 ≡ c
    → x < 2 ^ 8 → y < 2 ^ 8 → z < 2 ^ 8 → w < 2 ^ 8 → shown u (equation p q k) ≡ Rule (Equation op (record { position = x; index = y }) (record { position = z; index = w }) c)
unfolding shown head_at constant_at rule_of op_number a_field b_field argument
equation_is u p q k op x y z w c e d hx hy hz hw =
    let g : ℕ = get_or u (97 + 2 * (20 * p + (4 * q + k))) 0 in
    let a : g / 4294967296 ≡ op = omega arith in
    let b : g / 65536 % 65536 / 256 ≡ x = omega arith in
    let b' : g / 65536 % 65536 % 256 ≡ y = omega arith in
    let f : g % 65536 / 256 ≡ z = omega arith in
    let f' : g % 65536 % 256 ≡ w = omega arith in
    λ i. Rule (Equation (a i) (record { position = b i; index = b' i }) (record { position = f i; index = f' i }) (d i))

-- a frame of the expected type is the one that is expected
data Meets : Expected → Frame → Type 0 where
  a_header : (a b : ℕ) → Meets AtHeader (Rule (Header a b))
  a_symbol : {s : ℕ} (a b : ℕ) → Meets (AtSymbol s) (Rule (Symbol a b))
  a_production : {p : ℕ} (l n : ℕ) (cs : Children) → Meets (AtProduction p) (Rule (Production l n cs))
  an_equation : {p q k : ℕ} (op : ℕ) (a b : Argument) (c : ℕ) → Meets (AtEquation p q k) (Rule (Equation op a b c))

meets_rule : (x : Expected) (r : rule.Rule) → eqb (rule_type r) (type_at x) ≡ true → Meets x (Rule r)
meets_rule AtHeader (Header a b) ty = a_header a b
meets_rule AtHeader (Symbol a b) ty = never ty
meets_rule AtHeader (Production l n cs) ty = never ty
meets_rule AtHeader (Equation op a b c) ty = never ty
meets_rule (AtSymbol s) (Header a b) ty = never ty
meets_rule (AtSymbol s) (Symbol a b) ty = a_symbol a b
meets_rule (AtSymbol s) (Production l n cs) ty = never ty
meets_rule (AtSymbol s) (Equation op a b c) ty = never ty
meets_rule (AtProduction q) (Header a b) ty = never ty
meets_rule (AtProduction q) (Symbol a b) ty = never ty
meets_rule (AtProduction q) (Production l n cs) ty = a_production l n cs
meets_rule (AtProduction q) (Equation op a b c) ty = never ty
meets_rule (AtEquation x y z) (Header a b) ty = never ty
meets_rule (AtEquation x y z) (Symbol a b) ty = never ty
meets_rule (AtEquation x y z) (Production l n cs) ty = never ty
meets_rule (AtEquation x y z) (Equation op a b c) ty = an_equation op a b c
meets_rule Ended r ty = never (sym (never_ended (Rule r)) ∙ ty)

meets : (x : Expected) (f : Frame) → eqb (type_of f) (type_at x) ≡ true → Meets x f
meets x (Rule r) ty = meets_rule x r ty
meets x (Node p o) ty = never (sym (no_type x 5 (inr (lit< tt, lit< tt))) ∙ ty)
meets x (Point r n) ty = never (sym (no_type x 11 (inr (lit< tt, lit< tt))) ∙ ty)
meets x (Change c) ty = never (sym (no_type x (change_type c) (inr (omega (arith, (change_type_lem c).0), (change_type_lem c).1))) ∙ ty)
meets x Dump ty = never (sym (no_type x 8 (inr (lit< tt, lit< tt))) ∙ ty)
meets x (Refused r l) ty = never (sym (no_type x 0 (inl (lit≤ tt))) ∙ ty)
meets x Over ty = never (sym (no_type x 0 (inl (lit≤ tt))) ∙ ty)

-- a frame that was read, judged and stored fits
fits_met : (u : List ℕ) {x : Expected} {f : Frame} → Meets x f → Bounded f → WordsAt u x (word_of f) (constant_of f) → Ready u x → Fits f
unfolding word_of constant_of
fits_met u (a_header a b) bd wd rd = bd
fits_met u (a_symbol a b) bd wd rd = bd
fits_met u (a_production {p} l n cs) bd wd rd = (bd.0, (let y : child_count u p ≡ n = count_is u p l n cs wd bd.1.0 bd.1.1 in omega (arith, rd.1.arity), bd.1.1))
fits_met u (an_equation op a b c) bd wd rd = bd

pub fits_of : (u : List ℕ) (x : Expected) (f : Frame) → eqb (type_of f) (type_at x) ≡ true → Bounded f → WordsAt u x (word_of f) (constant_of f) → Ready u x → Fits f
fits_of u x f ty bd wd rd = fits_met u (meets x f ty) bd wd rd

shown_met : (u : List ℕ) {x : Expected} {f : Frame} → Meets x f → Bounded f → WordsAt u x (word_of f) (constant_of f) → text_at u x ≡ text_of f
unfolding word_of constant_of text_at
shown_met u (a_header a b) bd wd = ap text_of (header_is u a b wd bd.1)
shown_met u (a_symbol {s} a b) bd wd = ap text_of (symbol_is u s a b wd bd.1)
shown_met u (a_production {p} l n cs) bd wd = ap text_of (production_is u p l n cs wd bd.1.0 bd.1.1)
shown_met u (an_equation {p} {q} {k} op a b c) bd wd = ap text_of (equation_is u p q k op a.position a.index b.position b.index c wd.0 wd.1 bd.1.0.0 bd.1.0.1 bd.1.1.0.0 bd.1.1.0.1)

pub shown_is : (u : List ℕ) (x : Expected) (f : Frame) → eqb (type_of f) (type_at x) ≡ true → Bounded f → WordsAt u x (word_of f) (constant_of f) → text_at u x ≡ text_of f
shown_is u x f ty bd wd = shown_met u (meets x f ty) bd wd

-- tables that agree on the words so far go on alike
module _ (t u : List ℕ) (p : ℕ) (low : (m : ℕ) → m < 34 + p → get_or t m 0 ≡ get_or u m 0) where
  arity_alike : child_count t p ≡ child_count u p
  unfolding child_count
  arity_alike = rw (low (33 + p) (omega arith))

  at_alike : (q : ℕ) → symbol_at t p q ≡ symbol_at u p q
  unfolding left_of child_of
  at_alike zero = rw (low (33 + p) (omega arith))
  at_alike (suc q) = rw (low (33 + p) (omega arith))

  defined_alike : (q : ℕ) → symbol_at t p q < 32 → defined t p q ≡ defined u p q
  unfolding synthesized inherited
  defined_alike zero h = rw (low (1 + left_of t p) (omega arith)) (ap (synthesized u) (at_alike zero))
  defined_alike (suc q) h = rw (low (1 + child_of t p q) (omega arith)) (ap (inherited u) (at_alike (suc q)))

  productions_alike : production_count t ≡ production_count u
  unfolding production_count
  productions_alike = rw (low 0 (omega arith))

  seek_alike : Shaped t p → (n q : ℕ) → q + n ≡ suc (child_count t p) → seek_from n t p q ≡ seek_from n u p q
  unfolding seek_from
  seek_alike s zero q e = rw productions_alike
  seek_alike s (suc n) q e = rw (defined_alike q (s.small q (omega arith)), seek_alike s n (q + 1) (omega arith))

pub next_alike : (t u : List ℕ) (x : Expected) → Ready t x → ((m : ℕ) → Through x m → get_or t m 0 ≡ get_or u m 0) → next_of t x ≡ next_of u x
unfolding next_of symbol_count
next_alike t u AtHeader r same = refl
next_alike t u (AtSymbol s) r same = rw (same 0 (omega arith))
next_alike t u (AtProduction p) r same =
    let low : (m : ℕ) → m < 34 + p → get_or t m 0 ≡ get_or u m 0 = λ m h. same m (inl h) in
    seek_alike t u p low r.1 (suc (child_count t p)) 0 (omega arith) ∙ ap (λ (n : ℕ). seek_from (suc n) u p 0) (arity_alike t u p low)
next_alike t u (AtEquation p q k) r same =
    let low : (m : ℕ) → m < 34 + p → get_or t m 0 ≡ get_or u m 0 = λ m h. same m (inl h) in
    let s = r.1.0 in
    rw (seek_alike t u p low s (child_count t p - q) (q + 1) (omega (arith, r.1.1)), defined_alike t u p low q (s.small q r.1.1.0), arity_alike t u p low)
next_alike t u Ended r same = refl

-- and the expected frame is one of both
symbols_alike : (t u : List ℕ) → get_or t 0 0 ≡ get_or u 0 0 → symbol_count t ≡ symbol_count u
unfolding symbol_count
symbols_alike t u e = rw e

counts_alike : (t u : List ℕ) → get_or t 0 0 ≡ get_or u 0 0 → production_count t ≡ production_count u
unfolding production_count
counts_alike t u e = rw e

pub valid_alike : (t u : List ℕ) (x : Expected) → Sofar t x → ((m : ℕ) → Before x m → get_or t m 0 ≡ get_or u m 0) → Valid u x
valid_alike t u AtHeader f same = tt
valid_alike t u (AtSymbol s) f same = omega (arith, f.0, symbols_alike t u (same 0 (omega arith)))
valid_alike t u (AtProduction p) f same = omega (arith, f.0, counts_alike t u (same 0 (inl (omega arith))))
valid_alike t u (AtEquation p q k) f same =
    let low : (m : ℕ) → m < 34 + p → get_or t m 0 ≡ get_or u m 0 = λ m h. same m (inl h) in
    let s = shaped_so t p f.1.0 f.1.1.1.production in
    let has = f.0 in
    record {
      production = omega (arith, has.production, productions_alike t u p low);
      position = omega (arith, has.position, arity_alike t u p low);
      set = omega (arith, has.set, defined_alike t u p low q (s.small q has.position));
    }
valid_alike t u Ended f same = tt

-- once a frame is stored and judged, what comes behind it is known
pub ready_after : (t : List ℕ) (x : Expected) (w c : ℕ) → Sofar t x → refusal_at (store t x w c) (entry_of x) ≡ 0 → Ready (store t x w c) x
ready_after t AtHeader w c f z = tt
ready_after t (AtSymbol s) w c f z = awaits_so t (AtSymbol s) f
ready_after t (AtProduction p) w c f z = let a = awaits_so t (AtProduction p) f in (a.0, shaped_now t p w a.1 z)
ready_after t (AtEquation p q k) w c f z =
    let a = awaits_so t (AtEquation p q k) f in
    let m : ℕ = 2 * (20 * p + (4 * q + k)) in
    let u : List ℕ = set (set t (97 + m) w) (98 + m) c in
    let low = low_kept t m w c in
    let n : child_count u p ≡ child_count t p = count_kept t u p a.0 low in
    (a.0, (shaped_kept t u p a.0 low a.1.0, (omega (arith, a.1.1), a.1.1.1)))
ready_after t Ended w c f z = tt
