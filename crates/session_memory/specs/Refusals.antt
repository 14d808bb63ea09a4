-- 20.9: what memory that no session comes to is refused by: one order of checks, behind 15 and 11 by what is waited for. Assumes nothing.
use Rattle.std.specs.Prelude.{◌≡◌, Bool, true, false, cond, ◌&&◌, ◌||◌, List, [], ◌∷◌, ◌++◌, ℕ, zero, suc, ◌*◌, ◌≤◌, ◌<◌, eqb, ltb, leb, length, get_or, take}
use Rattle.refusal.specs.Orders.{or_else, Check, meant, outside, Order, refusal_by}
use Rattle.table.specs.First.{some_below}
use Rattle.table.specs.Judge.{refusal_at}
use Rattle.update.specs.declared.Record.{Record}
use Rattle.update.specs.Memories.{Memory}
use Rattle.update.specs.Refusals.{short, held_refusal, ground_order, step_order}
use Rattle.text_frame.specs.declared.Expected.{Expected}
use Rattle.text_frame.specs.declared.Expected.TheVariants.{AtHeader, AtSymbol, AtProduction, AtEquation, Ended}
use Rattle.text_frame.specs.Walk.{entry_of, next_of, is_on}
use Rattle.text_table.specs.Read.{Sofar}
use Rattle.tree.specs.Handed.{announced}
use Rattle.session_owed.specs.Owed.{Begun, named_in, NamedSoFar}
use Rattle.session_owed.specs.declared.Awaited.{Awaited}
use Rattle.session_owed.specs.declared.Awaited.TheVariants.{Table, Command, Naming, Nodes, Working, Stopped}
use Rattle.session_memory.specs.declared.State.{State}
use Rattle.session_memory.specs.Suspended.{Suspended, Wide, table_of}

-- k unless P holds: the test is true exactly where it doesn't
abbrev pub lacking : ℕ → Bool → Type 0 → Check
lacking k b P = meant k b (P → ⊥) P

-- 20.3, 20.9: 15, where a buffer is shorter than a table, a line, more nodes than a tree may have, their own sets and eight points, the engine or what a line can print
unfoldable pub narrow : Suspended → List ℕ → Bool
narrow d out =
    ltb (length d.words) 2657 || ltb (length d.window) 29 || ltb (length d.parts) 513 || ltb (length d.part_owns) 521 || short d.memory || ltb (length out) 131072

-- 20.9: 11, where more than 28 bytes of a line are begun, or an LF is among them
unfoldable pub overrun : ℕ → List ℕ → Bool
overrun begun window = ltb 28 begun || some_below (λ i. eqb (get_or window i 0) 10) begun

-- ---- in a table: the walk from its header to the expected frame

-- a frame's number; behind the last there is none to come to
abbrev pub frame_refusal : List ℕ → Expected → ℕ
frame_refusal t x = cond (is_on x) (refusal_at t (entry_of x)) 11

-- which frame it is
abbrev pub frame_key : Expected → List ℕ
frame_key AtHeader = 0 ∷ []
frame_key (AtSymbol s) = 1 ∷ s ∷ []
frame_key (AtProduction p) = 2 ∷ p ∷ []
frame_key (AtEquation p q k) = 3 ∷ p ∷ q ∷ k ∷ []
frame_key Ended = 4 ∷ []

abbrev pub alike : List ℕ → List ℕ → Bool
alike [] [] = true
alike [] (b ∷ l) = false
alike (a ∷ k) [] = false
alike (a ∷ k) (b ∷ l) = eqb a b && alike k l

-- a frame, and the expected one
abbrev pub meets : Expected → Expected → Bool
meets x y = is_on x && alike (frame_key x) (frame_key y)

-- 20.9: from x on to y, n frames at most: 1 to 5 of the first frame before y that is refused, 11 where the walk doesn't come to y
unfoldable pub walk_refusal : ℕ → List ℕ → Expected → Expected → ℕ
walk_refusal zero t x y = 11
walk_refusal (suc n) t x y = cond (meets x y) 0 (or_else (frame_refusal t x) (walk_refusal n t (next_of t x) y))

-- no table has more frames than words
abbrev pub sofar_refusal : List ℕ → Expected → ℕ
sofar_refusal t y = walk_refusal 2657 t AtHeader y

-- in words: the walk from the header on comes to a frame, past frames that are not refused and are not y
pub data Comes (t : List ℕ) (y : Expected) : Expected → Type 0 where
  first : Comes t y AtHeader
  next : {x : Expected} → Comes t y x → is_on x ≡ true → (x ≡ y → ⊥) → refusal_at t (entry_of x) ≡ 0 → Comes t y (next_of t x)

-- and this one is refused by n
pub record StopsBefore (t : List ℕ) (y : Expected) (n : ℕ) : Type 0 where
  pub place : Expected
  pub comes : Comes t y place
  pub on : is_on place ≡ true
  pub unmet : place ≡ y → ⊥
  pub number : refusal_at t (entry_of place) ≡ n

-- 20.9: 1 to 5 where it stops at a frame before y
abbrev pub stop_check : List ℕ → Expected → Check
stop_check t y = record {
  low = 1;
  high = 5;
  given = cond (leb (sofar_refusal t y) 5) (sofar_refusal t y) 0;
  By = λ n. StopsBefore t y n;
  Silent = (n : ℕ) → 0 < n → StopsBefore t y n → ⊥;
}

-- and 11 where it comes to the table's end; or else y is a frame behind frames that are not refused
abbrev pub walk_order : List ℕ → Expected → Order
walk_order t y = stop_check t y ∷ meant 11 (eqb (sofar_refusal t y) 11) (Comes t y Ended) (Sofar t y × (is_on y ≡ true)) ∷ []

-- ---- among a command's points

-- 20.9: 11, where no lines name so many points with so many nodes
unfoldable pub misnamed : ℕ → ℕ → List ℕ → Bool
misnamed count taken os = leb count taken || ltb 255 count || ltb (65535 * taken) (announced (named_in taken os))

-- ---- by what is waited for; os are the own sets that have come, with the points behind them

-- 6/7 of a tree that gives the number n, where one is held
abbrev pub if_held : Bool → ℕ → Check
if_held held n = record { low = 6; high = 7; given = cond held n 0; By = λ k. (held ≡ true) × (n ≡ k); Silent = held ≡ true → n ≡ 0 }

-- 20.9: between commands 15, 1 to 5, 11 as in every call, and 6/7 of the tree where one is held
abbrev pub kept_order : List ℕ → Memory → Record → Order
kept_order t m r = ground_order t m r ++ (if_held r.held (held_refusal t m r) ∷ [])

-- 20.9: among a command's points and nodes 11 comes first, where as many have come as are announced or the points can't be; at work what a step is refused by; behind the end nothing
abbrev pub awaited_order : Awaited → List ℕ → List ℕ → Memory → Record → Order
awaited_order (Table x) t os m r = walk_order t x
awaited_order Command t os m r = kept_order t m r
awaited_order (Naming count taken command) t os m r = lacking 11 (misnamed count taken os) (NamedSoFar count taken os) ∷ kept_order t m r
awaited_order (Nodes coming count taken command) t os m r = outside 11 count taken ∷ kept_order t m r
awaited_order (Working turns) t os m r = step_order t m r
awaited_order Stopped t os m r = []

-- ---- a state and its memory: t are the table's words

-- 20.9: 11 of the begun line, and what is waited for
abbrev pub settled_order : State → List ℕ → List ℕ → List ℕ → Memory → Order
settled_order s t window os m =
    lacking 11 (overrun s.begun window) ((s.begun ≤ 28) × Begun (take s.begun window)) ∷ awaited_order s.awaited t os m s.«record»

-- 20.9: 15 before these
abbrev pub state_order : Suspended → List ℕ → Order
state_order d out =
    lacking 15 (narrow d out) (Wide d.words d.window d.parts d.part_owns d.memory out)
    ∷ settled_order d.state (table_of d) d.window d.part_owns d.memory

unfoldable pub state_refusal : Suspended → List ℕ → ℕ
state_refusal d out = refusal_by (state_order d out)
