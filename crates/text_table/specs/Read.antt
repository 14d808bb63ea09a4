-- Reading a table frame by frame: one step, and what holds between steps. Assumes nothing.
use Rattle.std.specs.Prelude.{ℕ, zero, suc, ◌+◌, ◌*◌, ◌≤◌, ◌<◌, ◌≡◌, cond, List, eqb, set, Result, Ok, Err}
use Rattle.table.specs.Words.{symbol_count, production_count, child_count, defined}
use Rattle.table.specs.Judge as table
use Rattle.table.specs.Judge.{refusal_at, judge_table}
use Rattle.table.specs.Shape.{Symbols, Shaped}
use Rattle.table.specs.Same.{Has}
use Rattle.refusal.specs.declared.Refusal.TheVariants as why
use Rattle.text_frame.specs.Text.{type_of}
use Rattle.text_frame.specs.Walk.{entry_of, next_of}
use Rattle.text_tree.specs.Written.{refusal_of}
use Rattle.text_frame.specs.declared.Frame.{Frame}
use Rattle.text_frame.specs.declared.Frame.TheVariants.{Rule, Node, Point, Change, Dump, Refused, Over}
use Rattle.text_frame.specs.declared.Rule.TheVariants.{Header, Symbol, Production, Equation}
use Rattle.text_frame.specs.declared.Expected.{Expected}
use Rattle.text_frame.specs.declared.Expected.TheVariants.{AtHeader, AtSymbol, AtProduction, AtEquation, Ended}
use Rattle.text_frame.specs.Calls.{misread}
use Rattle.text_frame.specs.declared.Misread.{Misread}

-- 17.1, 17.2: the type that is expected; at the end one that no byte holds, so none that a frame has
abbrev pub type_at : Expected → ℕ
type_at AtHeader = 1
type_at (AtSymbol s) = 2
type_at (AtProduction p) = 3
type_at (AtEquation p q k) = 4
type_at Ended = 256

-- 2.10, 2.11: a frame's fields as one number, as the words of a table have them
unfoldable pub word_of : Frame → ℕ
word_of (Rule (Header symbols productions)) = symbols * 256 + productions
word_of (Rule (Symbol synthesized inherited)) = synthesized * 256 + inherited
word_of (Rule (Production left count cs)) = ((((left * 256 + count) * 256 + cs.one) * 256 + cs.two) * 256 + cs.three) * 256 + cs.four
word_of (Rule (Equation op a b c)) = (((op * 256 + a.position) * 256 + a.index) * 256 + b.position) * 256 + b.index
word_of (Node a b) = 0
word_of (Point a b) = 0
word_of (Change a) = 0
word_of Dump = 0
word_of (Refused a b) = 0
word_of Over = 0

-- 2.10: and an equation's constant
unfoldable pub constant_of : Frame → ℕ
constant_of (Rule (Header a b)) = 0
constant_of (Rule (Symbol a b)) = 0
constant_of (Rule (Production a b c)) = 0
constant_of (Rule (Equation op a b c)) = c
constant_of (Node a b) = 0
constant_of (Point a b) = 0
constant_of (Change a) = 0
constant_of Dump = 0
constant_of (Refused a b) = 0
constant_of Over = 0

-- 2.10, 2.11: the words with those of the expected frame stored
abbrev pub store : List ℕ → Expected → ℕ → ℕ → List ℕ
store t AtHeader w c = set t 0 w
store t (AtSymbol s) w c = set t (1 + s) w
store t (AtProduction p) w c = set t (33 + p) w
store t (AtEquation p q k) w c = set (set t (97 + 2 * (20 * p + (4 * q + k))) w) (98 + 2 * (20 * p + (4 * q + k))) c
store t Ended w c = t

-- the words after a frame: those of a frame of the expected type are stored
unfoldable pub words_after : List ℕ → Expected → Frame → List ℕ
words_after t x f = cond (eqb (type_of f) (type_at x)) (store t x (word_of f) (constant_of f)) t

-- 14.14: a frame that is not the expected one: its own refusal, or 14, which is also given where the text is over
abbrev pub strange_at : Frame → ℕ → Misread
strange_at (Rule a) line = misread why.Frame line
strange_at (Node a b) line = misread why.Frame line
strange_at (Point a b) line = misread why.Frame line
strange_at (Change a) line = misread why.Frame line
strange_at Dump line = misread why.Frame line
strange_at (Refused refusal own) line = misread refusal own
strange_at Over line = misread why.Frame line

-- 21.6: by the number of a frame: what comes next, or the refusal at its line
abbrev pub judged_at : ℕ → Expected → ℕ → Result Expected Misread
judged_at zero next line = Ok next
judged_at (suc n) next line = Err (misread (refusal_of (suc n)) line)

-- 15.3, 15.13: a frame is judged as it comes, first for 13 and 14 and then for 1 to 5
unfoldable pub taken_at : List ℕ → Expected → Frame → ℕ → Result Expected Misread
taken_at t x f line =
    cond (eqb (type_of f) (type_at x)) (judged_at (refusal_at (words_after t x f) (entry_of x)) (next_of (words_after t x f) x) line) (Err (strange_at f line))

-- what the words so far give to the judgement of the expected frame
abbrev pub Awaits : List ℕ → Expected → Type 0
Awaits t AtHeader = Unit {0}
Awaits t (AtSymbol s) = s < 32
Awaits t (AtProduction p) = (p < 64) × Symbols t
Awaits t (AtEquation p q k) = (p < 64) × (Shaped t p × ((q ≤ child_count t p) × (k < 4)))
Awaits t Ended = Unit {0}

-- the header's and the symbols' frames are not refused
pub record Top (t : List ℕ) : Type 0 where
  pub header : refusal_at t table.header ≡ 0
  pub symbols : (s : ℕ) → s < symbol_count t → refusal_at t (table.symbol s) ≡ 0

-- nor are production p's and those of its equations
pub record Part (t : List ℕ) (p : ℕ) : Type 0 where
  pub production : refusal_at t (table.production p) ≡ 0
  pub equations : (q k : ℕ) → q ≤ child_count t p → k < defined t p q → refusal_at t (table.equation p q k) ≡ 0

-- nor are production p's and those of its equations before equation k of position q
pub record Within (t : List ℕ) (p q k : ℕ) : Type 0 where
  pub production : refusal_at t (table.production p) ≡ 0
  pub positions : (j l : ℕ) → j < q → j ≤ child_count t p → l < defined t p j → refusal_at t (table.equation p j l) ≡ 0
  pub sets : (l : ℕ) → l < k → l < defined t p q → refusal_at t (table.equation p q l) ≡ 0

-- between two frames: the expected one is one of the table, and no frame before it is refused
abbrev pub Sofar : List ℕ → Expected → Type 0
Sofar t AtHeader = Unit {0}
Sofar t (AtSymbol s) = (s < symbol_count t) × ((refusal_at t table.header ≡ 0) × ((i : ℕ) → i < s → refusal_at t (table.symbol i) ≡ 0))
Sofar t (AtProduction p) = (p < production_count t) × (Top t × ((i : ℕ) → i < p → Part t i))
Sofar t (AtEquation p q k) = Has t p q k × (Top t × (((i : ℕ) → i < p → Part t i) × Within t p q k))
Sofar t Ended = judge_table t ≡ 0

-- a frame that is taken leaves words of which that holds again; so what is read to its end is a sound table
abbrev pub Goes : Type 0
Goes = (t : List ℕ) (x : Expected) (f : Frame) (line : ℕ) (y : Expected) → Sofar t x → taken_at t x f line ≡ Ok y → Sofar (words_after t x f) y
