-- One frame taken: what the words become, and what is answered. Assumes nothing.
use mathlib.Core.Path.{◌≡◌, refl, ap, sym, ◌∙◌}
use mathlib.Core.Bool.{true, false}
use mathlib.Core.List.{List}
use mathlib.Core.Logic.{◌⊎◌, inl, inr, ⊎_elim}
use Rattle.std.proofs.Common.{Ok, Err}
use Prim.Native.Nat.{ℕ, zero, suc, ◌+◌, ◌*◌, ◌≤◌, ◌<◌}
use native.Mathlib.Omega.{arith}
use types.Run.{OneOf}
use denote.Enum.Declared.{tag_of}
use borrow.Author.Tests.{ne_eqb}
use lib.Dec.{eqb, lit<, lit≤}
use lib.ListN.{get_or, set}
use lib.Seq.{get_or-set_other}
use Rattle.refusal.specs.Numbers.{number_of}
use Rattle.refusal.specs.declared.Refusal.{Refusal}
use Rattle.refusal.specs.declared.Refusal.TheVariants as why
use Rattle.table.specs.Words.{symbol_count, production_count, synthesized, inherited, left_of, child_count, child_of, symbol_at, defined}
use Rattle.table.specs.Judge.{refusal_at, production}
use Rattle.table.specs.Shape.{Symbols, Shaped}
use Rattle.table.proofs.Holds.{holds, shaped_of}
use Rattle.text_frame.specs.Walk.{entry_of, next_of}
use Rattle.text_tree.specs.Written.{refusal_of}
use Rattle.text_frame.specs.Text.{rule_type, change_type, type_of}
use Rattle.text_table.specs.Read.{type_at, word_of, constant_of, words_after, strange_at, judged_at, taken_at}
use Rattle.text_frame.specs.declared.Children.{Children}
use Rattle.sets.specs.declared.Argument.{Argument}
use Rattle.text_frame.specs.declared.Frame.{Frame}
use Rattle.text_frame.specs.declared.Frame.TheVariants.{Rule, Node, Point, Change, Dump, Refused, Over}
use Rattle.text_frame.specs.declared.Rule.TheVariants.{Header, Symbol, Production, Equation}
use Rattle.text_frame.specs.declared.Rule as rule
use Rattle.text_frame.specs.declared.Expected.{Expected}
use Rattle.text_frame.specs.declared.Expected.TheVariants.{AtHeader, AtSymbol, AtProduction, AtEquation, Ended}
use Rattle.text_frame.specs.Calls.{misread}
use Rattle.text_frame.specs.declared.Misread.{Misread}
use Rattle.refusal.proofs.Distinct.{number_low}
use Rattle.text_tree.proofs.Numbers.{by_number, Named}
use Rattle.text_frame.proofs.Exactly.{rule_type_lem, change_type_lem}
use Rattle.text_frame.specs.contracts.Rule as R

-- a rule of another type, by its tag
rule_tag : (r : rule.Rule) → rule_type r ≡ suc (tag_of R.the_type r)
rule_tag (Header a b) = refl
rule_tag (Symbol a b) = refl
rule_tag (Production a b c) = refl
rule_tag (Equation a b c d) = refl

pub other_rule : (r : rule.Rule) (ns : List ℕ) (n : ℕ) → (OneOf ns n → ⊥) → OneOf ns (tag_of R.the_type r) → eqb (rule_type r) (suc n) ≡ false
other_rule r ns n h k = ne_eqb (rule_type r) (suc n) (λ e. let d : tag_of R.the_type r ≡ n = omega (arith, rule_tag r) in h (rw d at k))

-- a rule of another type
pub no_header : (r : rule.Rule) → ((a b : ℕ) → r ≡ Header a b → ⊥) → eqb (rule_type r) 1 ≡ false
no_header (Header a b) h = absurd (h a b refl)
no_header (Symbol a b) h = refl
no_header (Production a b c) h = refl
no_header (Equation a b c d) h = refl

pub no_symbol : (r : rule.Rule) → ((a b : ℕ) → r ≡ Symbol a b → ⊥) → eqb (rule_type r) 2 ≡ false
no_symbol (Header a b) h = refl
no_symbol (Symbol a b) h = absurd (h a b refl)
no_symbol (Production a b c) h = refl
no_symbol (Equation a b c d) h = refl

pub no_production : (r : rule.Rule) → ((a b : ℕ) (c : Children) → r ≡ Production a b c → ⊥) → eqb (rule_type r) 3 ≡ false
no_production (Header a b) h = refl
no_production (Symbol a b) h = refl
no_production (Production a b c) h = absurd (h a b c refl)
no_production (Equation a b c d) h = refl

pub no_equation : (r : rule.Rule) → ((op : ℕ) (a b : Argument) (c : ℕ) → r ≡ Equation op a b c → ⊥) → eqb (rule_type r) 4 ≡ false
no_equation (Header a b) h = refl
no_equation (Symbol a b) h = refl
no_equation (Production a b c) h = refl
no_equation (Equation a b c d) h = absurd (h a b c d refl)

-- a type that none of a table's frames has
abbrev pub NoRule : ℕ → Type 0
NoRule n = (n ≤ 0) ⊎ ((4 < n) × (n < 256))

pub no_type : (x : Expected) (n : ℕ) → NoRule n → eqb n (type_at x) ≡ false
no_type AtHeader n d = ne_eqb n 1 (λ e. ⊎_elim (λ h. omega arith) (λ h. omega (arith, h.0)) d)
no_type (AtSymbol s) n d = ne_eqb n 2 (λ e. ⊎_elim (λ h. omega arith) (λ h. omega (arith, h.0)) d)
no_type (AtProduction p) n d = ne_eqb n 3 (λ e. ⊎_elim (λ h. omega arith) (λ h. omega (arith, h.0)) d)
no_type (AtEquation p q k) n d = ne_eqb n 4 (λ e. ⊎_elim (λ h. omega arith) (λ h. omega (arith, h.0)) d)
no_type Ended n d = ne_eqb n 256 (λ e. ⊎_elim (λ h. omega arith) (λ h. omega (arith, h.1)) d)

pub no_rule : (f : Frame) → ((r : rule.Rule) → f ≡ Rule r → ⊥) → NoRule (type_of f)
no_rule (Rule a) k = absurd (k a refl)
no_rule (Node a b) k = inr (lit< tt, lit< tt)
no_rule (Point a b) k = inr (lit< tt, lit< tt)
no_rule (Change c) k = inr (omega (arith, (change_type_lem c).0), (change_type_lem c).1)
no_rule Dump k = inr (lit< tt, lit< tt)
no_rule (Refused a b) k = inl (lit≤ tt)
no_rule Over k = inl (lit≤ tt)

pub not_refused : (f : Frame) (line : ℕ) → ((r : Refusal) (l : ℕ) → f ≡ Refused r l → ⊥) → misread why.Frame line ≡ strange_at f line
not_refused (Rule a) line k = refl
not_refused (Node a b) line k = refl
not_refused (Point a b) line k = refl
not_refused (Change a) line k = refl
not_refused Dump line k = refl
not_refused (Refused a b) line k = absurd (k a b refl)
not_refused Over line k = refl

pub never_ended : (f : Frame) → eqb (type_of f) 256 ≡ false
never_ended (Rule r) = ne_eqb (rule_type r) 256 (λ e. omega (arith, (rule_type_lem r).1))
never_ended (Node a b) = refl
never_ended (Point a b) = refl
never_ended (Change c) = ne_eqb (change_type c) 256 (λ e. omega (arith, (change_type_lem c).1))
never_ended Dump = refl
never_ended (Refused a b) = refl
never_ended Over = refl

judged_by : (n : ℕ) (next : Expected) (line : ℕ) → 0 < n → Err (misread (refusal_of n) line) ≡ judged_at n next line
judged_by zero next line h = absurd (omega arith)
judged_by (suc n) next line h = refl

pub stopped_by : (r : Refusal) (next : Expected) (line : ℕ) → Err (misread r line) ≡ judged_at (number_of r) next line
stopped_by r next line = ap (λ (q : Refusal). Err (misread q line)) (sym (by_number r)) ∙ judged_by (number_of r) next line (number_low r)

-- what is answered
module _ (t : List ℕ) (x : Expected) (f : Frame) (line : ℕ) where
  pub other_taken : eqb (type_of f) (type_at x) ≡ false → Err (strange_at f line) ≡ taken_at t x f line
  unfolding taken_at
  other_taken e = rw e

  pub other_words : eqb (type_of f) (type_at x) ≡ false → t ≡ words_after t x f
  unfolding words_after
  other_words e = rw e

  pub sound_taken : (u : List ℕ) → eqb (type_of f) (type_at x) ≡ true → u ≡ words_after t x f → refusal_at u (entry_of x) ≡ 0 → Ok (next_of u x) ≡ taken_at t x f line
  unfolding taken_at
  sound_taken u e d z = rw (e, ← d, z)

  pub stopped_taken : (u : List ℕ) (r : Refusal) → eqb (type_of f) (type_at x) ≡ true → u ≡ words_after t x f → number_of r ≡ refusal_at u (entry_of x) → Err (misread r line) ≡ taken_at t x f line
  unfolding taken_at
  stopped_taken u r e d n = rw (e, ← d, ← n) (stopped_by r (next_of u x) line)

-- a rule of the expected type is stored, and leaves these words
pub record Stored (t : List ℕ) (x : Expected) (r : rule.Rule) (u : List ℕ) : Type 0 where
  pub type : eqb (type_of (Rule r)) (type_at x) ≡ true
  pub words : u ≡ words_after t x (Rule r)

module _ {t u : List ℕ} {x : Expected} {r : rule.Rule} (line : ℕ) (k : Stored t x r u) where
  pub sound_rule : refusal_at u (entry_of x) ≡ 0 → {y : Expected} → y ≡ next_of u x → (Ok y ≡ taken_at t x (Rule r) line) × (u ≡ words_after t x (Rule r))
  sound_rule z e = (ap Ok e ∙ sound_taken t x (Rule r) line u k.type k.words z, k.words)

  pub refused_rule : {m : Misread} → Named (refusal_at u (entry_of x)) line m → (Err m ≡ taken_at t x (Rule r) line) × (u ≡ words_after t x (Rule r))
  refused_rule n = (ap Err n.is ∙ stopped_taken t x (Rule r) line u n.refusal k.type k.words n.by, k.words)

-- the words that are stored
pub header_stored : (t : List ℕ) {r : rule.Rule} (a b : ℕ) {v : ℕ} → r ≡ Header a b → v ≡ (0 * 256 + a) * 256 + b → Stored t AtHeader r (set t 0 v)
unfolding words_after word_of constant_of
header_stored t a b d e = rw d (record { type = refl; words = ap (set t 0) (omega arith) })

pub symbol_stored : (t : List ℕ) (s : ℕ) {r : rule.Rule} (a b : ℕ) {v : ℕ} → r ≡ Symbol a b → v ≡ (0 * 256 + a) * 256 + b → Stored t (AtSymbol s) r (set t (1 + s) v)
unfolding words_after word_of constant_of
symbol_stored t s a b d e = rw d (record { type = refl; words = ap (set t (1 + s)) (omega arith) })

pub production_stored : (t : List ℕ) (p : ℕ) {r : rule.Rule} (l n : ℕ) (cs : Children) {x y v : ℕ} → r ≡ Production l n cs
    → x ≡ (0 * 256 + l) * 256 + n → y ≡ (x * 256 + cs.one) * 256 + cs.two → v ≡ (y * 256 + cs.three) * 256 + cs.four → Stored t (AtProduction p) r (set t (33 + p) v)
unfolding words_after word_of constant_of
production_stored t p l n cs d e f g = rw d (record { type = refl; words = ap (set t (33 + p)) (omega arith) })

pub equation_stored : (t : List ℕ) (p q k : ℕ) {r : rule.Rule} (op : ℕ) (a b : Argument) (c : ℕ) {o x v : ℕ} → r ≡ Equation op a b c
    → o ≡ op → x ≡ (o * 256 + a.position) * 256 + a.index → v ≡ (x * 256 + b.position) * 256 + b.index
    → Stored t (AtEquation p q k) r (set (set t (97 + 2 * (20 * p + (4 * q + k))) v) (98 + 2 * (20 * p + (4 * q + k))) c)
unfolding words_after word_of constant_of
equation_stored t p q k op a b c d e f g = rw d (record { type = refl; words = ap (λ (w : ℕ). set (set t (97 + 2 * (20 * p + (4 * q + k))) w) (98 + 2 * (20 * p + (4 * q + k))) c) (omega arith) })

-- a production's word is no symbol's
pub symbols_kept : (t : List ℕ) (p v : ℕ) → Symbols t → Symbols (set t (33 + p) v)
unfolding symbol_count production_count synthesized inherited
symbols_kept t p v y =
    let z : get_or (set t (33 + p) v) 0 0 ≡ get_or t 0 0 = get_or-set_other t (33 + p) 0 v 0 (λ e. omega arith) in
    let s : (s : ℕ) → s < symbol_count (set t (33 + p) v) → get_or (set t (33 + p) v) (1 + s) 0 ≡ get_or t (1 + s) 0 = λ s h. get_or-set_other t (33 + p) (1 + s) v 0 (λ e. omega (arith, rw z at h, y.symbols)) in
    record {
      symbols = rw z y.symbols;
      productions = rw z y.productions;
      synthesized = λ i h. rw (s i h) (y.synthesized i (rw z at h));
      inherited = λ i h. rw (s i h) (y.inherited i (rw z at h));
    }

-- the words of equations are no symbol's and no production's
pub low_kept : (t : List ℕ) (m v c n : ℕ) → n < 97 → get_or (set (set t (97 + m) v) (98 + m) c) n 0 ≡ get_or t n 0
low_kept t m v c n h = get_or-set_other (set t (97 + m) v) (98 + m) n c 0 (λ e. omega arith) ∙ get_or-set_other t (97 + m) n v 0 (λ e. omega arith)

module _ (t u : List ℕ) (p : ℕ) (b : p < 64) (same : (n : ℕ) → n < 97 → get_or u n 0 ≡ get_or t n 0) where
  pub count_kept : child_count u p ≡ child_count t p
  unfolding child_count
  count_kept = rw (same (33 + p) (omega arith))

  at_kept : (q : ℕ) → symbol_at u p q ≡ symbol_at t p q
  unfolding left_of child_of
  at_kept zero = rw (same (33 + p) (omega arith))
  at_kept (suc q) = rw (same (33 + p) (omega arith))

  defined_kept : (q : ℕ) → symbol_at t p q < 32 → defined u p q ≡ defined t p q
  unfolding synthesized inherited
  defined_kept zero h = ap (synthesized u) (at_kept zero) ∙ rw (same (1 + left_of t p) (omega arith))
  defined_kept (suc q) h = ap (inherited u) (at_kept (suc q)) ∙ rw (same (1 + child_of t p q) (omega arith))

  pub shaped_kept : Shaped t p → Shaped u p
  shaped_kept s =
      let n = count_kept in
      record {
        arity = omega (arith, s.arity);
        small = λ q h. rw (at_kept q) (s.small q (omega arith));
        few = λ q h. rw (defined_kept q (s.small q (omega arith))) (s.few q (omega arith));
      }

-- a production that is judged sound is shaped
pub shaped_now : (t : List ℕ) (p v : ℕ) → Symbols t → refusal_at (set t (33 + p) v) (production p) ≡ 0 → Shaped (set t (33 + p) v) p
shaped_now t p v y z = shaped_of (set t (33 + p) v) p (symbols_kept t p v y) (holds (set t (33 + p) v) (production p) z)
