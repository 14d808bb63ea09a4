-- What a line prints at the most, and that every buffer is as long behind it. Assumes nothing.
use mathlib.Core.Path.{◌≡◌, refl, sym, ◌∙◌}
use mathlib.Core.Bool.{Bool, true, false, cond}
use mathlib.Core.Logic.{⊎_elim}
use mathlib.Core.List.{List, []}
use Prim.Native.Nat.{ℕ, zero, suc, ◌+◌, ◌*◌, ◌≤◌, min}
use native.Mathlib.Omega.{arith}
use lib.Dec.{ltb}
use lib.ListN.{length, take}
use Rattle.refusal.specs.Numbers.{number_of}
use Rattle.climb.proofs.Lists.{either}
use Rattle.update.specs.declared.Record.{Record}
use Rattle.update.specs.Records.{is_open_kind}
use Rattle.update.specs.Memories.{Memory}
use Rattle.update.specs.Calls.{Said, refused, said, Left, Opened, is_open}
use Rattle.text_frame.specs.declared.Frame.{Frame}
use Rattle.text_frame.specs.declared.Frame.TheVariants as frame
use Rattle.text_frame.specs.declared.Change.{Change}
use Rattle.text_frame.specs.declared.Change.TheVariants as change
use Rattle.std.specs.Prelude.{Result, Ok, Err}
use Rattle.text_frame.specs.declared.Expected.{Expected}
use Rattle.text_frame.specs.declared.Misread.{Misread}
use Rattle.text_table.specs.Read.{words_after, taken_at}
use Rattle.text_table.proofs.Readings.{words_length}
use Rattle.update_judge.specs.Order.{Holding}
use Rattle.text_frame.specs.Out.{refusal_text}
use Rattle.text_frame.proofs.Printed.{refusal_length}
use Rattle.session.specs.Session.{dump_told}
use Rattle.tree.specs.Handed.{announced}
use Rattle.session_owed.specs.Owed.{Sound, points_in, named_in, order_call}
use Rattle.session_owed.specs.Hearing.{Heard, stopped, waiting, turns_most, opened_by, called, ordered, naming, changed, commanded, tabled, point_kept, pointed, noded, kept_at, hearing}
use Rattle.session_owed.specs.declared.Coming.{Coming}
use Rattle.session_owed.specs.declared.Coming.TheVariants.{Load, Replace, Several}
use Rattle.session_owed.specs.declared.Awaited.{Awaited}
use Rattle.session_owed.specs.declared.Awaited.TheVariants.{Table, Command, Naming, Nodes, Working, Stopped}
use Rattle.session_owed.proofs.Opened.{SameLengths, lengths_self, order_lengths}
use Rattle.session_line.proofs.Cases.{kept_long, point_long}
use Rattle.session_line.proofs.Dumps.{dump_busy, dump_absent, dump_sets, told_most}

-- buffers as long as they were, and no more bytes than a dump of 4,096 sets
pub record Modest (t ps os : List ℕ) (m : Memory) (h : Heard) : Type 0 where
  pub words : length h.words ≡ length t
  pub parts : length h.parts ≡ length ps
  pub owns : length h.part_owns ≡ length os
  pub memory : SameLengths m h.memory
  pub few : length h.text ≤ 94208

module _ (t ps os : List ℕ) (m : Memory) (r : Record) where
  -- words and nodes stay, whatever is printed and waited for
  modest : (awaited : Awaited) (text : List ℕ) (next : Record) (m' : Memory) → SameLengths m m' → length text ≤ 94208
      → Modest t ps os m (record { awaited = awaited; text = text; next = next; words = t; parts = ps; part_owns = os; memory = m' })
  modest awaited text next m' k h = record { words = refl; parts = refl; owns = refl; memory = k; few = h }

  waits : (awaited : Awaited) → Modest t ps os m (waiting t ps os m r awaited)
  waits awaited = modest awaited [] r m (lengths_self m) (omega arith)

  stops : (n line : ℕ) → Modest t ps os m (stopped t ps os m r n line)
  stops n line = modest Stopped (refusal_text n line) r m (lengths_self m) (omega (arith, refusal_length n line))

  opens : (at : ℕ) (left : Left (Said Opened)) → SameLengths m left.memory → Modest t ps os m (opened_by t ps os m r at left)
  opens at left k = by_answer left.answer refl
    where
      by_answer : (a : Said Opened) → left.answer ≡ a → Modest t ps os m (opened_by t ps os m r at left)
      by_answer (refused n) e = rw e (modest Command (refusal_text n at) left.next left.memory k (omega (arith, refusal_length n at)))
      by_answer (said is_open) e = rw e (modest (Working turns_most) [] left.next left.memory k (omega arith))

  calls : (coming : Coming) (count at : ℕ) → Modest t ps os m (called t ps os m r coming count at)
  unfolding called
  calls coming count at =
      opens at (order_call coming (points_in os) t m r (take (min count 513) ps) (take (min count 513) os))
      (order_lengths t m r coming (points_in os) (take (min count 513) ps) (take (min count 513) os))

  orders : (coming : Coming) (count line : ℕ) → Modest t ps os m (ordered t ps os m r coming count line)
  orders coming zero line = calls coming zero line
  orders coming (suc n) line = waits (Nodes coming (suc n) 0 line)

  names : (count line : ℕ) → Modest t ps os m (naming t ps os m r count line)
  names zero line = calls (Several 0) 0 line
  names (suc n) line = waits (Naming (suc n) 0 line)

  -- 18.1: a dump's line has 22 digits and LF, 23 bytes for each of the slots
  dump_few : (line : ℕ) → Holding t m r → length (dump_told line t r m).text ≤ 94208
  dump_few line k =
      ⊎_elim
      (λ (o : is_open_kind r.«open» ≡ true). rw (dump_busy t m r line k o) (omega (arith, refusal_length 10 line)))
      (λ (o : is_open_kind r.«open» ≡ false).
      ⊎_elim
      (λ (h : r.held ≡ true). rw (sym (dump_sets t m r line k o h)) (omega (arith, told_most t (take r.nodes m.productions) m.sets (8 * r.nodes) 0, k.footing.within.nodes)))
      (λ (h : r.held ≡ false). rw (dump_absent t m r line k o h) (omega (arith, refusal_length 16 line)))
      (either r.held))
      (either (is_open_kind r.«open»))

  changes : (c : Change) (line : ℕ) → Modest t ps os m (changed t ps os m r c line)
  changes (change.Load count) line = orders Load count line
  changes (change.Replace point count) line = orders (Replace point) count line
  changes (change.Corrections count) line = names count line

  commands : Holding t m r → (f : Frame) (line : ℕ) → Modest t ps os m (commanded t ps os m r f line)
  unfolding commanded
  commands k (frame.Rule a) line = stops 14 line
  commands k (frame.Node a b) line = stops 14 line
  commands k (frame.Point a b) line = stops 14 line
  commands k (frame.Change c) line = changes c line
  commands k frame.Dump line = modest Command (dump_told line t r m).text r m (lengths_self m) (dump_few line k)
  commands k (frame.Refused refusal own) line = stops (number_of refusal) own
  commands k frame.Over line = stops 14 line

-- over others of the same lengths
over : {t ps qs os ws : List ℕ} {m : Memory} {h : Heard} → length qs ≡ length ps → length ws ≡ length os → Modest t qs ws m h → Modest t ps os m h
over e f k = record { words = k.words; parts = k.parts ∙ e; owns = k.owns ∙ f; memory = k.memory; few = k.few }

point_comes : (b : Bool) (t ps os : List ℕ) (m : Memory) (r : Record) (awaited : Awaited) (coming : Coming) (count at : ℕ)
    → Modest t ps os m (cond b (waiting t ps os m r awaited) (ordered t ps os m r coming count at))
point_comes true t ps os m r awaited coming count at = waits t ps os m r awaited
point_comes false t ps os m r awaited coming count at = orders t ps os m r coming count at

points : (count taken at : ℕ) (f : Frame) (line : ℕ) (t ps os : List ℕ) (m : Memory) (r : Record) → Modest t ps os m (pointed count taken at f line t ps os m r)
unfolding pointed
points count taken at (frame.Rule a) line t ps os m r = stops t ps os m r 14 line
points count taken at (frame.Node a b) line t ps os m r = stops t ps os m r 14 line
points count taken at (frame.Point point n) line t ps os m r =
    let os' = point_kept taken point n os in
    over refl (point_long taken point n os) (point_comes (ltb (taken + 1) count) t ps os' m r (Naming count (taken + 1) at) (Several count) (announced (named_in count os')) at)
points count taken at (frame.Change a) line t ps os m r = stops t ps os m r 14 line
points count taken at frame.Dump line t ps os m r = stops t ps os m r 14 line
points count taken at (frame.Refused refusal own) line t ps os m r = stops t ps os m r (number_of refusal) own
points count taken at frame.Over line t ps os m r = stops t ps os m r 14 line

node_comes : (b : Bool) (t ps os : List ℕ) (m : Memory) (r : Record) (awaited : Awaited) (coming : Coming) (count at : ℕ)
    → Modest t ps os m (cond b (waiting t ps os m r awaited) (called t ps os m r coming count at))
node_comes true t ps os m r awaited coming count at = waits t ps os m r awaited
node_comes false t ps os m r awaited coming count at = calls t ps os m r coming count at

nodes : (coming : Coming) (count taken at : ℕ) (f : Frame) (line : ℕ) (t ps os : List ℕ) (m : Memory) (r : Record) → Modest t ps os m (noded coming count taken at f line t ps os m r)
unfolding noded
nodes coming count taken at (frame.Rule a) line t ps os m r = stops t ps os m r 14 line
nodes coming count taken at (frame.Node p o) line t ps os m r =
    over (kept_long taken p ps) (kept_long taken o os) (node_comes (ltb (taken + 1) count) t (kept_at taken p ps) (kept_at taken o os) m r (Nodes coming count (taken + 1) at) coming count at)
nodes coming count taken at (frame.Point a b) line t ps os m r = stops t ps os m r 14 line
nodes coming count taken at (frame.Change a) line t ps os m r = stops t ps os m r 14 line
nodes coming count taken at frame.Dump line t ps os m r = stops t ps os m r 14 line
nodes coming count taken at (frame.Refused refusal own) line t ps os m r = stops t ps os m r (number_of refusal) own
nodes coming count taken at frame.Over line t ps os m r = stops t ps os m r 14 line

tables : (t w ps os : List ℕ) (m : Memory) (x : Result Expected Misread) → length w ≡ length t → Modest t ps os m (tabled w ps os m x)
tables t w ps os m (Ok y) e = record { words = e; parts = refl; owns = refl; memory = lengths_self m; few = omega arith }
tables t w ps os m (Err q) e = record { words = e; parts = refl; owns = refl; memory = lengths_self m; few = omega (arith, refusal_length (number_of q.refusal) q.line) }

pub heard_modest : (awaited : Awaited) (f : Frame) (line : ℕ) (t ps os : List ℕ) (m : Memory) (r : Record) → Sound awaited t os m r → Modest t ps os m (hearing awaited f line t ps os m r)
unfolding hearing
heard_modest (Table x) f line t ps os m r k = tables t (words_after t x f) ps os m (taken_at t x f line) (words_length t x f)
heard_modest Command f line t ps os m r k = commands t ps os m r k f line
heard_modest (Naming count taken at) f line t ps os m r k = points count taken at f line t ps os m r
heard_modest (Nodes coming count taken at) f line t ps os m r k = nodes coming count taken at f line t ps os m r
heard_modest (Working turns) f line t ps os m r k = waits t ps os m r (Working turns)
heard_modest Stopped f line t ps os m r k = waits t ps os m r Stopped
