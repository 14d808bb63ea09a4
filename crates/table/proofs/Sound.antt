-- A table is judged sound exactly when none of the conditions holds. Assumes nothing.
use Prim.Native.Nat.{ℕ, zero, suc, ◌/◌, ◌%◌, ◌≤◌, ◌<◌, suc-le-suc}
use mathlib.Core.Path.{◌≡◌, refl, sym, ◌∙◌}
use mathlib.Core.Bool.{Bool, true, false, not, ◌&&◌, true≢false, false≢true}
use mathlib.Core.List.{List}
use native.Mathlib.Nat.{le_of_suc-le-suc}
use native.Mathlib.Omega.{arith}
use borrow.Author.Tests.{le-ltb, lt-leb, ne_eqb, ltb-false, eqb-true, eqb-false, not-false}
use lib.Dec.{ltb, eqb}
use Rattle.refusal.specs.Orders.{or_else}
use Rattle.table.specs.Words.{symbol_count, production_count, synthesized, inherited, child_count, symbol_at, defined, occurs, rule_of, head_at, constant_at}
use Rattle.table.specs.Equations.{op_number, a_field, b_field, uses_a, uses_b, uses_c, misformed}
use Rattle.table.specs.Judge.{header, symbol, production, equation, outside, foreign_at, start_wrong, argument_wrong, misnamed, refusal_at, judge_table}
use Rattle.table.specs.Inner.Parts.{symbol_number, equation_number, symbols_of, position_of, equations_of, part_number, productions_of}
use Rattle.table.specs.Same.{Has}
use Rattle.table.specs.Sound.{Formed, Named, Sound, SoundExactly}
use Rattle.refusal.proofs.Orders.{or_none, or_right}
use Rattle.table.proofs.FirstLaws.{or_false, some_all, scan_none, scan_all}
use Rattle.table.proofs.Parts.{judge_parts}
use Rattle.table.proofs.Holds.{Holds, holds, held, outside_false, inside, below_count}

-- every frame holds
pub record AllHold (t : List ℕ) : Type 0 where
  pub header : Holds t header
  pub symbols : (s : ℕ) → s < symbol_count t → Holds t (symbol s)
  pub productions : (p : ℕ) → p < production_count t → Holds t (production p)
  pub equations : (p q k : ℕ) → Has t p q k → Holds t (equation p q k)

part_none : (t : List ℕ) → productions_of t ≡ 0 → (p : ℕ) → p < production_count t → (refusal_at t (production p) ≡ 0) × (equations_of t p ≡ 0)
part_none t h p l = or_none (refusal_at t (production p)) (equations_of t p) (scan_none (part_number t) (production_count t) h p l)

pub all_hold : (t : List ℕ) → judge_table t ≡ 0 → AllHold t
all_hold t h =
    let o = or_none (refusal_at t header) (or_else (symbols_of t) (productions_of t)) (sym (judge_parts t) ∙ h) in
    let n = or_none (symbols_of t) (productions_of t) o.1 in
    let m = n.1 in
    record {
      header = holds t header o.0;
      symbols = λ s l. holds t (symbol s) (scan_none (symbol_number t) (symbol_count t) n.0 s l);
      productions = λ p l. holds t (production p) (part_none t m p l).0;
      equations = λ p q k x. holds t (equation p q k)
          (scan_none (equation_number t p q) (defined t p q) (scan_none (position_of t p) (suc (child_count t p)) (part_none t m p x.production).1 q (suc-le-suc x.position)) k x.set);
    }

pub hold_all : (t : List ℕ) → AllHold t → judge_table t ≡ 0
hold_all t a =
    judge_parts t
    ∙ or_right _ _ (held t header a.header)
    ∙ or_right (symbols_of t) _ (scan_all (symbol_number t) (symbol_count t) (λ s l. held t (symbol s) (a.symbols s l)))
    ∙ scan_all (part_number t) (production_count t) (λ p l.
    or_right (refusal_at t (production p)) (equations_of t p) (held t (production p) (a.productions p l))
    ∙ scan_all (position_of t p) (suc (child_count t p)) (λ q m.
    scan_all (equation_number t p q) (defined t p q) (λ k n.
    held t (equation p q k) (a.equations p q k (record { production = l; position = le_of_suc-le-suc m; set = n })))))

-- a field that is not used
unused : (u : Bool) (x : ℕ) → (not u && ltb 0 x) ≡ false → u ≡ false → x ≡ 0
unused true x h e = absurd (true≢false e)
unused false x h e = let l = ltb-false 0 x h in omega arith

unused_back : (u : Bool) (x : ℕ) → (u ≡ false → x ≡ 0) → (not u && ltb 0 x) ≡ false
unused_back true x f = refl
unused_back false x f = let e = f refl in le-ltb 0 x (omega arith)

seven : (b : Bool) (o c : ℕ) → eqb o 7 ≡ b → (b && ltb 56 c) ≡ false → o ≡ 7 → c ≤ 56
seven true o c e h q = ltb-false 56 c h
seven false o c e h q = absurd (eqb-false o 7 e q)

seven_back : (b : Bool) (o c : ℕ) → eqb o 7 ≡ b → (o ≡ 7 → c ≤ 56) → (b && ltb 56 c) ≡ false
seven_back true o c e f = le-ltb 56 c (f (eqb-true o 7 e))
seven_back false o c e f = refl

pub formed : (h c : ℕ) → misformed h c ≡ false → Formed h c
unfolding misformed
formed h c m =
    let d = or_false _ _ m in
    let e = or_false _ _ d.0 in
    let f = or_false _ _ e.0 in
    let g = or_false _ _ f.0 in
    record {
      known = ltb-false 9 (op_number h) g.0;
      a = unused (uses_a (op_number h)) (a_field h) g.1;
      b = unused (uses_b (op_number h)) (b_field h) f.1;
      c = unused (uses_c (op_number h)) c e.1;
      few = seven (eqb (op_number h) 7) (op_number h) c refl d.1;
    }

pub formed_back : (h c : ℕ) → Formed h c → misformed h c ≡ false
unfolding misformed
formed_back h c f =
    rw (
      le-ltb 9 (op_number h) f.known,
      unused_back (uses_a (op_number h)) (a_field h) f.a,
      unused_back (uses_b (op_number h)) (b_field h) f.b,
      unused_back (uses_c (op_number h)) c f.c,
    ) (seven_back (eqb (op_number h) 7) (op_number h) c refl f.few)

named_one : (u d : Bool) → (u && not d) ≡ false → u ≡ true → d ≡ true
named_one true d h e = not-false d h
named_one false d h e = absurd (false≢true e)

named_back : (u d : Bool) → (u ≡ true → d ≡ true) → (u && not d) ≡ false
named_back true d f = rw (f refl)
named_back false d f = refl

pub named : (t : List ℕ) (p q k : ℕ) → argument_wrong t (equation p q k) ≡ false → Named t p (head_at t (rule_of p q k))
unfolding misnamed
named t p q k m =
    let h = head_at t (rule_of p q k) in
    let o = or_false _ _ m in
    record { a = named_one (uses_a (op_number h)) _ o.0; b = named_one (uses_b (op_number h)) _ o.1 }

pub named_wrong : (t : List ℕ) (p q k : ℕ) → Named t p (head_at t (rule_of p q k)) → argument_wrong t (equation p q k) ≡ false
unfolding misnamed
named_wrong t p q k n =
    let h = head_at t (rule_of p q k) in
    rw (
      named_back (uses_a (op_number h)) (occurs t p (a_field h / 256) (a_field h % 256)) n.a,
      named_back (uses_b (op_number h)) (occurs t p (b_field h / 256) (b_field h % 256)) n.b,
    )

-- the theorem, from the judgement
pub sound : (t : List ℕ) → judge_table t ≡ 0 → Sound t
sound t j =
    let a = all_hold t j in
    let o = or_false (outside 1 32 (symbol_count t)) (outside 1 64 (production_count t)) a.header.counts in
    let n = outside_false 1 32 (symbol_count t) o.0 in
    record {
      symbols = n;
      productions = outside_false 1 64 (production_count t) o.1;
      sets = λ s l. let w = or_false (ltb 4 (synthesized t s)) (ltb 4 (inherited t s)) (a.symbols s l).counts in (ltb-false 4 (synthesized t s) w.0, ltb-false 4 (inherited t s) w.1);
      children = λ p l. ltb-false 4 (child_count t p) (a.productions p l).counts;
      below = λ p q l m. below_count t p (a.productions p l) q m;
      start = let z = ltb-false 0 (inherited t 0) (a.symbols 0 n.0).start in omega arith;
      formed = λ p q k x. formed (head_at t (rule_of p q k)) (constant_at t (rule_of p q k)) (a.equations p q k x).form;
      named = λ p q k x. named t p q k (a.equations p q k x).arguments;
    }

start_holds : (t : List ℕ) (s : ℕ) → inherited t 0 ≡ 0 → start_wrong t (symbol s) ≡ false
start_holds t zero h = le-ltb 0 (inherited t 0) (omega arith)
start_holds t (suc s) h = rw (ne_eqb (suc s) 0 (λ e. omega arith))

-- and back
pub sound_back : (t : List ℕ) → Sound t → judge_table t ≡ 0
sound_back t x =
    hold_all t
    (record {
      header = record {
        counts = rw (inside 1 32 (symbol_count t) x.symbols.0 x.symbols.1) (inside 1 64 (production_count t) x.productions.0 x.productions.1);
        symbols = refl;
        start = refl;
        form = refl;
        arguments = refl;
      };
      symbols = λ s l. record {
        counts = rw (le-ltb 4 (synthesized t s) (x.sets s l).0) (le-ltb 4 (inherited t s) (x.sets s l).1);
        symbols = refl;
        start = start_holds t s x.start;
        form = refl;
        arguments = refl;
      };
      productions = λ p l. record {
        counts = le-ltb 4 (child_count t p) (x.children p l);
        symbols = some_all (foreign_at t p) (suc (child_count t p)) (λ q m. lt-leb (symbol_count t) (symbol_at t p q) (x.below p q l (le_of_suc-le-suc m)));
        start = refl;
        form = refl;
        arguments = refl;
      };
      equations = λ p q k h. record {
        counts = refl;
        symbols = refl;
        start = refl;
        form = formed_back (head_at t (rule_of p q k)) (constant_at t (rule_of p q k)) (x.formed p q k h);
        arguments = named_wrong t p q k (x.named p q k h);
      };
    })

pub sound_exactly : SoundExactly
sound_exactly t = (sound t, sound_back t)
