-- What a frame that is not refused says. Assumes nothing.
use Prim.Native.Nat.{ℕ, zero, suc, ◌≤◌, ◌<◌, suc-le-suc}
use mathlib.Core.Path.{◌≡◌, refl}
use mathlib.Core.Bool.{Bool, true, false, cond}
use mathlib.Core.List.{List}
use native.Mathlib.Nat.{le_trans}
use native.Mathlib.Omega.{arith}
use borrow.Author.Tests.{le-ltb, ltb-false, leb-false}
use lib.Dec.{ltb}
use Rattle.table.proofs.FirstLaws.{or_false, some_none}
use Rattle.table.specs.Words.{symbol_count, production_count, synthesized, inherited, left_of, child_of, child_count, symbol_at, defined}
use Rattle.table.specs.Judge.{Frame, header, symbol, production, outside, foreign_at, count_wrong, symbol_wrong, start_wrong, form_wrong, argument_wrong, refusal_at}
use Rattle.table.specs.Shape.{Symbols, Shaped}

-- a frame holds where none of the five conditions does
pub record Holds (t : List ℕ) (x : Frame) : Type 0 where
  pub counts : count_wrong t x ≡ false
  pub symbols : symbol_wrong t x ≡ false
  pub start : start_wrong t x ≡ false
  pub form : form_wrong t x ≡ false
  pub arguments : argument_wrong t x ≡ false

cond_false : (b : Bool) (n m : ℕ) → cond b (suc n) m ≡ 0 → (b ≡ false) × (m ≡ 0)
cond_false true n m h = absurd (omega arith)
cond_false false n m h = (refl, h)

pub holds : (t : List ℕ) (x : Frame) → refusal_at t x ≡ 0 → Holds t x
unfolding refusal_at
holds t x h =
    let a = cond_false (count_wrong t x) 0 _ h in
    let b = cond_false (symbol_wrong t x) 1 _ a.1 in
    let c = cond_false (start_wrong t x) 2 _ b.1 in
    let d = cond_false (form_wrong t x) 3 _ c.1 in
    let e = cond_false (argument_wrong t x) 4 _ d.1 in
    record { counts = a.0; symbols = b.0; start = c.0; form = d.0; arguments = e.0 }

pub held : (t : List ℕ) (x : Frame) → Holds t x → refusal_at t x ≡ 0
unfolding refusal_at
held t x h = rw (h.counts, h.symbols, h.start, h.form, h.arguments)

pub outside_false : (low high n : ℕ) → outside low high n ≡ false → (low ≤ n) × (n ≤ high)
outside_false low high n h = let o = or_false (ltb n low) (ltb high n) h in (ltb-false n low o.0, ltb-false high n o.1)

pub inside : (low high n : ℕ) → low ≤ n → n ≤ high → outside low high n ≡ false
inside low high n a b = rw (le-ltb n low a) (le-ltb high n b)

-- what the judged symbols give
pub symbols_of_lem : (t : List ℕ) → Holds t header → ((s : ℕ) → s < symbol_count t → Holds t (symbol s)) → Symbols t
symbols_of_lem t h f =
    let o = or_false (outside 1 32 (symbol_count t)) (outside 1 64 (production_count t)) h.counts in
    record {
      symbols = (outside_false 1 32 (symbol_count t) o.0).1;
      productions = (outside_false 1 64 (production_count t) o.1).1;
      synthesized = λ s l. ltb-false 4 (synthesized t s) (or_false (ltb 4 (synthesized t s)) (ltb 4 (inherited t s)) (f s l).counts).0;
      inherited = λ s l. ltb-false 4 (inherited t s) (or_false (ltb 4 (synthesized t s)) (ltb 4 (inherited t s)) (f s l).counts).1;
    }

-- every symbol of a judged production is below the count
pub below_count : (t : List ℕ) (p : ℕ) → Holds t (production p) → (q : ℕ) → q ≤ child_count t p → symbol_at t p q < symbol_count t
below_count t p h q l = leb-false (symbol_count t) (symbol_at t p q) (some_none (foreign_at t p) (suc (child_count t p)) h.symbols q (suc-le-suc l))

few_of : (t : List ℕ) → Symbols t → (p q : ℕ) → symbol_at t p q < symbol_count t → defined t p q ≤ 4
few_of t y p zero l = y.synthesized (left_of t p) l
few_of t y p (suc k) l = y.inherited (child_of t p k) l

pub shaped_of : (t : List ℕ) (p : ℕ) → Symbols t → Holds t (production p) → Shaped t p
shaped_of t p y h = record {
  arity = ltb-false 4 (child_count t p) h.counts;
  small = λ q l. le_trans (below_count t p h q l) y.symbols;
  few = λ q l. few_of t y p q (below_count t p h q l);
}

pub few_symbols : (t : List ℕ) → Holds t header → symbol_count t ≤ 32
few_symbols t h = (outside_false 1 32 (symbol_count t) (or_false (outside 1 32 (symbol_count t)) (outside 1 64 (production_count t)) h.counts).0).1
