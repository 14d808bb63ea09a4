-- What a line's parts of work lead to, as the code leaves them. Assumes nothing.
use mathlib.Core.Path.{◌≡◌, refl, sym}
use mathlib.Core.List.{List}
use Rattle.std.specs.Prelude.{Result, Ok, Err}
use Prim.Native.Nat.{ℕ, ◌+◌, ◌≤◌, min}
use native.Mathlib.Omega.{arith}
use lib.ListN.{length, take}
use lib.Seq.{sets, length-take-le}
use Rattle.refusal.specs.Numbers.{number_of}
use Rattle.refusal.specs.declared.Refusal.{Refusal}
use Rattle.text_frame.specs.Out.{refusal_text}
use Rattle.update.specs.declared.Record.{Record}
use Rattle.update.specs.Records.{empty_record}
use Rattle.update.specs.Memories.{lent, Memory}
use Rattle.text_frame.specs.declared.Expected.{Expected}
use Rattle.text_frame.specs.declared.Misread.{Misread}
use Rattle.text_frame.proofs.Printed.{refusal_length}
use Rattle.update_open.specs.Lent.{begun}
use Rattle.tree.specs.declared.Point.{Point}
use Rattle.tree.specs.Handed.{announced}
use Rattle.session_owed.specs.Owed.{points_in, named_in, order_call}
use Rattle.session_owed.specs.Hearing.{Heard, turns_most, stopped, called, ordered, waiting, awaited_of, tabled, Hears}
use Rattle.session_owed.specs.declared.Coming.{Coming}
use Rattle.session_owed.specs.declared.Coming.TheVariants.{Several}
use Rattle.session_owed.specs.declared.Awaited.{Awaited}
use Rattle.session_owed.specs.declared.Awaited.TheVariants.{Command, Working}
use Rattle.session_owed.specs.declared.Told.{Told}

-- where 513 nodes have a place the command's part of them has as many as it says
pub taken_length : (xs : List ℕ) (count n : ℕ) → n ≡ min count 513 → 513 ≤ length xs → n ≡ length (take n xs)
taken_length xs count n e h = sym (length-take-le n xs (omega arith))

-- the same work under another description
pub as_well : {h k : Heard} {told : Told} {printed : ℕ} {out out' words parts part_owns : List ℕ} {m : Memory} → h ≡ k
    → Hears k told printed out out' words parts part_owns m → Hears h told printed out out' words parts part_owns m
as_well e x = rw e x

-- nodes that are what others are
pub kept_as : {h : Heard} {told : Told} {printed : ℕ} {out out' words ps qs os ws : List ℕ} {m : Memory} → ps ≡ qs → os ≡ ws
    → Hears h told printed out out' words qs ws m → Hears h told printed out out' words ps os m
kept_as e f x = rw (e, f) x

-- what was lent, where it is what other buffers are
pub lent_as : {h : Heard} {told : Told} {printed : ℕ} {out out' words ps os held held_owns sets earlier ps' os' held' held_owns' sets' earlier' : List ℕ}
    → ps' ≡ ps → os' ≡ os → held' ≡ held → held_owns' ≡ held_owns → sets' ≡ sets → earlier' ≡ earlier
    → Hears h told printed out out' words ps os (lent held held_owns sets earlier) → Hears h told printed out out' words ps' os' (lent held' held_owns' sets' earlier')
lent_as p o e f g h x = rw (p, o, e, f, g, h) x

pub called_as : (t : List ℕ) {ps qs os ws : List ℕ} (m : Memory) (r : Record) (coming : Coming) (count command : ℕ) → ps ≡ qs → os ≡ ws
    → called t qs ws m r coming count command ≡ called t ps os m r coming count command
called_as t m r coming count command e f = rw (e, f)

pub ordered_as : (t ps : List ℕ) {os ws : List ℕ} (m : Memory) (r : Record) (n command : ℕ) (all : ℕ) → os ≡ ws → all ≡ announced (named_in n os)
    → ordered t ps ws m r (Several n) (announced (named_in n ws)) command ≡ ordered t ps os m r (Several n) all command
ordered_as t ps m r n command all e f = rw (← e, f)

module _ (t ps os : List ℕ) (m : Memory) (r : Record) where
  -- nothing is printed
  pub silent : (awaited : Awaited) (printed : ℕ) (out : List ℕ) → Hears (waiting t ps os m r awaited) (record { awaited = awaited; «record» = r; printed = printed }) printed out out t ps os m
  silent awaited printed out = record { awaited = refl; next = refl; place = omega arith; shown = refl; words_then = refl; parts_then = refl; owns_then = refl; memory = refl }

  -- a refusal is
  pub refusing : (awaited : Awaited) (n line printed at : ℕ) (out out' : List ℕ) → at ≡ printed + 13 → out' ≡ sets out printed (refusal_text n line)
      → Hears (record { awaited = awaited; text = refusal_text n line; next = r; words = t; parts = ps; part_owns = os; memory = m }) (record { awaited = awaited; «record» = r; printed = at }) printed out out' t ps os m
  refusing awaited n line printed at out out' e f =
      record { awaited = refl; next = refl; place = omega (arith, refusal_length n line); shown = f; words_then = refl; parts_then = refl; owns_then = refl; memory = refl }

  -- ---- the command whose last node has come
  module _ (coming : Coming) (count command : ℕ) (b : Result Record Refusal) (m' : Memory) (n : ℕ) (k : n ≡ min count 513) (qs : List Point) (q : qs ≡ points_in os) (e : begun r b m' ≡ order_call coming qs t m r (take n ps) (take n os)) where
    pub called_open : (next : Record) → b ≡ Ok next → called t ps os m r coming count command ≡ waiting t ps os m' next (Working turns_most)
    unfolding called
    called_open next s = rw (← k, ← q, ← e, s)

    pub called_refused : (why : Refusal) → b ≡ Err why
        → called t ps os m r coming count command ≡ record { awaited = Command; text = refusal_text (number_of why) command; next = r; words = t; parts = ps; part_owns = os; memory = m' }
    unfolding called
    called_refused why s = rw (← k, ← q, ← e, s)

-- ---- a frame of the table: u the words behind it, and w those that the code left
module _ (u w ps os : List ℕ) (m : Memory) (printed : ℕ) (out : List ℕ) (taken : Result Expected Misread) where
  pub table_next : (awaited : Awaited) (r : Record) (y : Expected) → taken ≡ Ok y → w ≡ u → awaited ≡ awaited_of y → r ≡ empty_record
      → Hears (tabled u ps os m taken) (record { awaited = awaited; «record» = r; printed = printed }) printed out out w ps os m
  table_next awaited r y e f g h = rw (e, f, g, h) (silent u ps os m empty_record (awaited_of y) printed out)

  pub table_stopped : (out' : List ℕ) (told : Told) (r : Record) (bad : Misread) → taken ≡ Err bad → w ≡ u → r ≡ empty_record
      → Hears (stopped w ps os m r (number_of bad.refusal) bad.line) told printed out out' w ps os m → Hears (tabled u ps os m taken) told printed out out' w ps os m
  table_stopped out' told r bad e f h x = rw (e, ← f, ← h) x
