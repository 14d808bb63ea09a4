-- What a session reads: a table's words and a command's own sets are words of 64 bits, and the table is sound. Assumes nothing.
use mathlib.Core.Path.{◌≡◌, sym, ap, subst}
use mathlib.Core.List.{List, [], ◌∷◌}
use Prim.Native.Nat.{ℕ, zero, suc, ◌+◌, ◌*◌, ◌^◌, ◌<◌}
use native.Mathlib.Omega.{arith}
use lib.Dec.{lit<}
use lib.ListN.{set, replicate}
use Rattle.table.specs.Judge.{judge_table}
use Rattle.wire.specs.Laws.{Words}
use Rattle.update.proofs.Filled.{get_d_zeros}
use Rattle.text_frame.specs.Frames.{line_after}
use Rattle.text_frame.specs.Exactly.{IsFrame, frame}
use Rattle.text_frame.specs.declared.Step.{Step}
use Rattle.text_frame.specs.declared.Frame.{Frame}
use Rattle.text_frame.specs.declared.Frame.TheVariants.{Rule, Node, Point, Change, Dump, Refused, Over}
use Rattle.text_frame.specs.declared.Rule.TheVariants.{Header, Symbol, Production, Equation}
use Rattle.text_frame.specs.declared.Expected.{Expected}
use Rattle.text_frame.specs.declared.Expected.TheVariants.{AtHeader, AtSymbol, AtProduction, AtEquation, Ended}
use Rattle.text_frame.proofs.Bounds.{Bounded, bounded}
use Rattle.text_frame.proofs.Exactly.{frame_exactly}
use Rattle.text_table.specs.Read.{word_of, constant_of, store}
use Rattle.text_table.specs.Reading as table
use Rattle.text_table.specs.Refused.{ReadTo, begin, next, TableRead, all}
use Rattle.text_table.proofs.Refusing.{table_exactly}
use Rattle.text_table.proofs.Tables.{table_forth}
use Rattle.text_tree.specs.Laws.{AllFit}

-- ---- words of 64 bits

words_set : (l : List ℕ) (i v : ℕ) → Words l → v < 2 ^ 64 → Words (set l i v)
words_set [] i v w small j = w j
words_set (x ∷ l) zero v w small zero = small
words_set (x ∷ l) zero v w small (suc j) = w (suc j)
words_set (x ∷ l) (suc i) v w small zero = w zero
words_set (x ∷ l) (suc i) v w small (suc j) = words_set l i v (λ k. w (suc k)) small j

word_small : (f : Frame) → Bounded f → word_of f < 2 ^ 64
unfolding word_of
word_small (Rule (Header a b)) h = omega (arith, h.0, h.1)
word_small (Rule (Symbol a b)) h = omega (arith, h.0, h.1)
word_small (Rule (Production l n cs)) h = let k = h.1.1 in omega (arith, h.0, h.1.0, k.one, k.two, k.three, k.four)
word_small (Rule (Equation op a b c)) h = omega (arith, h.0, h.1.0.0, h.1.0.1, h.1.1.0.0, h.1.1.0.1)
word_small (Node a b) h = lit< tt
word_small (Point a b) h = lit< tt
word_small (Change a) h = lit< tt
word_small Dump h = lit< tt
word_small (Refused a b) h = lit< tt
word_small Over h = lit< tt

constant_small : (f : Frame) → Bounded f → constant_of f < 2 ^ 64
unfolding constant_of
constant_small (Rule (Header a b)) h = lit< tt
constant_small (Rule (Symbol a b)) h = lit< tt
constant_small (Rule (Production l n cs)) h = lit< tt
constant_small (Rule (Equation op a b c)) h = h.1.1.1
constant_small (Node a b) h = lit< tt
constant_small (Point a b) h = lit< tt
constant_small (Change a) h = lit< tt
constant_small Dump h = lit< tt
constant_small (Refused a b) h = lit< tt
constant_small Over h = lit< tt

words_stored : (t : List ℕ) (x : Expected) (w c : ℕ) → Words t → w < 2 ^ 64 → c < 2 ^ 64 → Words (store t x w c)
words_stored t AtHeader w c h k l = words_set t 0 w h k
words_stored t (AtSymbol s) w c h k l = words_set t (1 + s) w h k
words_stored t (AtProduction p) w c h k l = words_set t (33 + p) w h k
words_stored t (AtEquation p q i) w c h k l =
    words_set (set t (97 + 2 * (20 * p + (4 * q + i))) w) (98 + 2 * (20 * p + (4 * q + i))) c (words_set t (97 + 2 * (20 * p + (4 * q + i))) w h k) l
words_stored t Ended w c h k l = h

-- ---- a table that was read to its end

-- a frame that stands in a text has fields of their widths
frame_small : {s : List ℕ} {place type n : ℕ} {f : Frame} → IsFrame s place f type n → Bounded f
frame_small {s} {place} {type} {n} {f} i =
    let e = (frame_exactly s place 1 (record { frame = f; place = place + (n + 1); line = line_after 1 })).1 (frame i) in
    subst Bounded (sym (ap (λ (a : Step). a.frame) e)) (bounded s place 1)

zeros : (n : ℕ) → Words (replicate n 0)
zeros n i = rw (get_d_zeros n i) (lit< tt)

words_to : {s : List ℕ} {place line : ℕ} {t : List ℕ} {x : Expected} {at l : ℕ} → ReadTo s place line t x at l → Words t
words_to begin = zeros 2657
words_to (next {t} {x} {f = f} c i none) =
    let b = frame_small i in words_stored t x (word_of f) (constant_of f) (words_to c) (word_small f b) (constant_small f b)

pub record TableKept (t : List ℕ) : Type 0 where
  pub words : Words t
  pub sound : judge_table t ≡ 0

pub table_kept : {s t : List ℕ} {place line : ℕ} → TableRead s 0 1 (table.done t place line) → TableKept t
table_kept {s} {t} {place} {line} (all c) =
    record { words = words_to c; sound = (table_forth s 0 1 t place line (sym ((table_exactly s 0 1 (table.done t place line)).1 (all c)))).sound }

-- ---- a command's own sets

pub words_fit : (ps owns : List ℕ) → AllFit ps owns → Words owns
words_fit [] [] f i = lit< tt
words_fit [] (o ∷ owns) f i = absurd f
words_fit (p ∷ ps) [] f i = absurd f
words_fit (p ∷ ps) (o ∷ owns) f zero = f.1.0
words_fit (p ∷ ps) (o ∷ owns) f (suc i) = words_fit ps owns f.1.1 i
