-- A text that stands behind another one: nodes, points, tables and commands are read there as they are without it, and from any number of turns on that
-- is as large as the bytes that are left nothing depends on that number. Assumes nothing.
use mathlib.Core.Path.{◌≡◌, refl, ap, sym, subst}
use mathlib.Core.Bool.{Bool, true, false}
use mathlib.Core.List.{List, [], ◌++◌}
use Rattle.std.specs.Prelude.{Result, Ok, Err}
use Prim.Native.Nat.{ℕ, zero, suc, ◌+◌, ◌≤◌, ◌<◌}
use native.Mathlib.Omega.{arith}
use lib.ListN.{length, length-append}
use Rattle.tree.specs.declared.Point.{Point}
use Rattle.tree.specs.Handed.{announced, handed_row}
use Rattle.update.specs.declared.Record.{Record}
use Rattle.update.specs.Records.{empty_record}
use Rattle.update.specs.Memories.{Memory}
use Rattle.update.specs.Calls.{load_call, replace_call, points_call}
use Rattle.text_frame.specs.Frames.{frame_at}
use Rattle.text_frame.specs.Text.{type_of}
use Rattle.text_frame.specs.Walk.{is_on}
use Rattle.text_table.specs.Read.{taken_at, words_after}
use Rattle.text_table.specs.Reading as table
use Rattle.text_table.specs.Reading.{Reading, after, read_on}
use Rattle.text_tree.specs.Planting.{Nodes, good, bad, node_before, node_then, nodes_at}
use Rattle.text_frame.specs.declared.Misread.{Misread}
use Rattle.text_tree.proofs.Trees.{nodes_forth}
use Rattle.text_table.proofs.Readings.{read_turn, read_ends}
use Rattle.text_table.proofs.Passing.{frame_on, none_left, taken_type, read_over}
use Rattle.text_frame.specs.declared.Frame.{Frame}
use Rattle.text_frame.specs.declared.Frame.TheVariants.{Rule, Node, Point as PointFrame, Change, Dump, Refused, Over}
use Rattle.text_frame.specs.declared.Change as change
use Rattle.text_frame.specs.declared.Change.TheVariants.{Load, Replace, Corrections}
use Rattle.text_frame.specs.declared.Expected.{Expected}
use Rattle.text_frame.specs.declared.Step.{Step}
use Rattle.text_frame.proofs.Back.{frame_behind}
use Rattle.text_frame.proofs.Exactly.{change_type_lem}
use Rattle.session.specs.Naming.{Named, named, unnamed, point_before, point_then, points_at}
use Rattle.session.specs.Session.{Told, with_nodes, with_points, parts_then, opened_then, dump_told, changing, command, commands_from}
use Rattle.session_owed.specs.Owed.{table_then}

-- ---- nodes

abbrev pub moved_nodes : ℕ → Nodes → Nodes
moved_nodes k (good ps os place line) = good ps os (k + place) line
moved_nodes k (bad refusal line) = bad refusal line

before_moved : (k p o : ℕ) (rest : Nodes) → node_before p o (moved_nodes k rest) ≡ moved_nodes k (node_before p o rest)
before_moved k p o (good ps os place line) = refl
before_moved k p o (bad refusal line) = refl

node_moved : (k : ℕ) (f : Frame) (line : ℕ) (rest : Nodes) → node_then f line (moved_nodes k rest) ≡ moved_nodes k (node_then f line rest)
node_moved k (Rule a) line rest = refl
node_moved k (Node p o) line rest = before_moved k p o rest
node_moved k (PointFrame a b) line rest = refl
node_moved k (Change a) line rest = refl
node_moved k Dump line rest = refl
node_moved k (Refused a b) line rest = refl
node_moved k Over line rest = refl

pub nodes_shift : (n : ℕ) (p s : List ℕ) (place line : ℕ) → nodes_at n (p ++ s) (length p + place) line ≡ moved_nodes (length p) (nodes_at n s place line)
unfolding nodes_at
nodes_shift zero p s place line = refl
nodes_shift (suc n) p s place line =
    let step : Step = frame_at s place line in
    rw (frame_behind p s place line, nodes_shift n p s step.place step.line) (node_moved (length p) step.frame line (nodes_at n s step.place step.line))

-- ---- points

abbrev pub moved_named : ℕ → Named → Named
moved_named k (named qs place line) = named qs (k + place) line
moved_named k (unnamed refusal line) = unnamed refusal line

point_before_moved : (k : ℕ) (q : Point) (rest : Named) → point_before q (moved_named k rest) ≡ moved_named k (point_before q rest)
point_before_moved k q (named qs place line) = refl
point_before_moved k q (unnamed refusal line) = refl

point_moved : (k : ℕ) (f : Frame) (line : ℕ) (rest : Named) → point_then f line (moved_named k rest) ≡ moved_named k (point_then f line rest)
point_moved k (Rule a) line rest = refl
point_moved k (Node a b) line rest = refl
point_moved k (PointFrame a b) line rest = point_before_moved k (record { node = a; count = b }) rest
point_moved k (Change a) line rest = refl
point_moved k Dump line rest = refl
point_moved k (Refused a b) line rest = refl
point_moved k Over line rest = refl

pub points_shift : (n : ℕ) (p s : List ℕ) (place line : ℕ) → points_at n (p ++ s) (length p + place) line ≡ moved_named (length p) (points_at n s place line)
unfolding points_at
points_shift zero p s place line = refl
points_shift (suc n) p s place line =
    let step : Step = frame_at s place line in
    rw (frame_behind p s place line, points_shift n p s step.place step.line) (point_moved (length p) step.frame line (points_at n s step.place step.line))

-- as many points are read as were asked for, and the text goes on behind them
pub record Pointed (place n : ℕ) (qs : List Point) (end : ℕ) : Type 0 where
  pub behind : place ≤ end
  pub count : length qs ≡ n

abbrev PointedBy : ℕ → ℕ → Named → Type 0
PointedBy place n (named qs end line) = Pointed place n qs end
PointedBy place n (unnamed refusal line) = Unit {0}

point_first : (place next n : ℕ) (q : Point) (rest : Named) → place ≤ next → PointedBy next n rest → PointedBy place (suc n) (point_before q rest)
point_first place next n q (named qs end line) h x = record { behind = omega (arith, x.behind); count = ap suc x.count }
point_first place next n q (unnamed refusal line) h x = tt

first_point : (place next n line : ℕ) (f : Frame) (rest : Named) → (0 < type_of f → place < next) → PointedBy next n rest → PointedBy place (suc n) (point_then f line rest)
first_point place next n line (Rule a) rest h x = tt
first_point place next n line (Node a b) rest h x = tt
first_point place next n line (PointFrame a b) rest h x = point_first place next n (record { node = a; count = b }) rest (let l = h (omega arith) in omega arith) x
first_point place next n line (Change a) rest h x = tt
first_point place next n line Dump rest h x = tt
first_point place next n line (Refused a b) rest h x = tt
first_point place next n line Over rest h x = tt

all_pointed : (n : ℕ) (s : List ℕ) (place line : ℕ) → PointedBy place n (points_at n s place line)
unfolding points_at
all_pointed zero s place line = record { behind = omega arith; count = refl }
all_pointed (suc n) s place line =
    let step : Step = frame_at s place line in
    first_point place step.place n line step.frame (points_at n s step.place step.line) (frame_on s place line) (all_pointed n s step.place step.line)

pub points_forth : (n : ℕ) (s : List ℕ) (place line : ℕ) (qs : List Point) (end next : ℕ) → points_at n s place line ≡ named qs end next → Pointed place n qs end
points_forth n s place line qs end next e = subst (PointedBy place n) e (all_pointed n s place line)

-- ---- a table

abbrev pub moved_table : ℕ → Reading → Reading
moved_table k (table.done t place line) = table.done t (k + place) line
moved_table k (table.stop refusal line) = table.stop refusal line

after_moved : (k : ℕ) (x : Result Expected Misread) (go on : Expected → Reading) → ((y : Expected) → x ≡ Ok y → go y ≡ moved_table k (on y)) → after x go ≡ moved_table k (after x on)
after_moved k (Ok y) go on e = e y refl
after_moved k (Err m) go on e = refl

module _ (p s : List ℕ) where
  abbrev pub Moves : ℕ → ℕ → Type 0
  Moves n k = (t : List ℕ) (x : Expected) (place line : ℕ) → length s ≤ n + place → length s ≤ k + place
      → read_on n t x (p ++ s) (length p + place) line ≡ moved_table (length p) (read_on k t x s place line)

  read_out : (n k : ℕ) (t : List ℕ) (x : Expected) (place line : ℕ) → is_on x ≡ true → length s ≤ place
      → read_on n t x (p ++ s) (length p + place) line ≡ moved_table (length p) (read_on k t x s place line)
  read_out n k t x place line on h =
      rw (read_over n t x (p ++ s) (length p + place) line on (omega (arith, length-append p s)), read_over k t x s place line on h)

  read_more : (n k : ℕ) → Moves n k → (t : List ℕ) (x : Expected) (place line : ℕ) → length s ≤ suc n + place → length s ≤ suc k + place → is_on x ≡ true
      → read_on (suc n) t x (p ++ s) (length p + place) line ≡ moved_table (length p) (read_on (suc k) t x s place line)
  read_more n k rest t x place line h l on =
      let step : Step = frame_at s place line in
      rw (read_turn (p ++ s) t x (length p + place) line on n, read_turn s t x place line on k, frame_behind p s place line)
      (after_moved (length p) (taken_at t x step.frame line) _ _ (λ y e.
      let m = frame_on s place line (taken_type t x step.frame line y e) in
      rest (words_after t x step.frame) y step.place step.line (omega arith) (omega arith)))

  on_or_not : (n k : ℕ) (t : List ℕ) (x : Expected) (place line : ℕ) (b : Bool) → is_on x ≡ b
      → (is_on x ≡ true → read_on n t x (p ++ s) (length p + place) line ≡ moved_table (length p) (read_on k t x s place line))
      → read_on n t x (p ++ s) (length p + place) line ≡ moved_table (length p) (read_on k t x s place line)
  on_or_not n k t x place line true e f = f e
  on_or_not n k t x place line false e f = rw (read_ends n (p ++ s) t x (length p + place) line e, read_ends k s t x place line e)

  pub read_shift : (n k : ℕ) → Moves n k
  read_shift zero k t x place line h l = on_or_not 0 k t x place line (is_on x) refl (λ on. read_out 0 k t x place line on (omega arith))
  read_shift (suc n) zero t x place line h l = on_or_not (suc n) 0 t x place line (is_on x) refl (λ on. read_out (suc n) 0 t x place line on (omega arith))
  read_shift (suc n) (suc k) t x place line h l =
      let rest = read_shift n k in
      on_or_not (suc n) (suc k) t x place line (is_on x) refl (λ on. read_more n k rest t x place line h l on)

-- ---- commands

abbrev pub Going-on : Type 0
Going-on = ℕ → ℕ → Record → Memory → List ℕ

pub with_moved : (k : ℕ) (x : Nodes) (call : List ℕ → List ℕ → Told) (go on : Going-on)
    → ((ps os : List ℕ) (place line : ℕ) → x ≡ good ps os place line → (r : Record) (m : Memory) → go (k + place) line r m ≡ on place line r m)
    → with_nodes (moved_nodes k x) call go ≡ with_nodes x call on
with_moved k (good ps os place line) call go on e = ap (λ (z : List ℕ). (call ps os).text ++ z) (e ps os place line refl (call ps os).next (call ps os).memory)
with_moved k (bad refusal line) call go on e = refl

pub points_moved : (k : ℕ) (x : Named) (go on : List Point → ℕ → ℕ → List ℕ)
    → ((qs : List Point) (place line : ℕ) → x ≡ named qs place line → go qs (k + place) line ≡ on qs place line) → with_points (moved_named k x) go ≡ with_points x on
points_moved k (named qs place line) go on e = e qs place line refl
points_moved k (unnamed refusal line) go on e = refl

module _ (p s t : List ℕ) (go on : Going-on) where
  -- what goes on from a place on is the same
  abbrev pub Same-from : ℕ → Type 0
  Same-from place = (q line : ℕ) (r : Record) (m : Memory) → place ≤ q → go (length p + q) line r m ≡ on q line r m

  nodes_moved : (count place next : ℕ) (call : List ℕ → List ℕ → Told) → Same-from place
      → with_nodes (nodes_at count (p ++ s) (length p + place) next) call go ≡ with_nodes (nodes_at count s place next) call on
  nodes_moved count place next call e =
      rw (nodes_shift count p s place next)
      (with_moved (length p) (nodes_at count s place next) call go on (λ ps os q line h r m. e q line r m (omega (arith, (nodes_forth count s place next ps os q line h).behind))))

  -- a command whose points are named
  pub parts_moved : (line : ℕ) (r : Record) (m : Memory) (qs : List Point) (place next : ℕ) → Same-from place
      → parts_then (p ++ s) t line r m go qs (length p + place) next ≡ parts_then s t line r m on qs place next
  parts_moved line r m qs place next e = nodes_moved (announced qs) place next (λ ps os. opened_then line t (points_call t m r (handed_row qs ps os))) e

  named_moved : (count line place next : ℕ) (r : Record) (m : Memory) → Same-from place
      → with_points (points_at count (p ++ s) (length p + place) next) (parts_then (p ++ s) t line r m go) ≡ with_points (points_at count s place next) (parts_then s t line r m on)
  named_moved count line place next r m e =
      rw (points_shift count p s place next)
      (points_moved (length p) (points_at count s place next) (parts_then (p ++ s) t line r m go) (parts_then s t line r m on) (λ qs end last h.
      let b = (points_forth count s place next qs end last h).behind in
      parts_moved line r m qs end last (λ q line' r' m' i. e q line' r' m' (omega arith))))

  changing_moved : (c : change.Change) (line place next : ℕ) (r : Record) (m : Memory) → Same-from place
      → changing (p ++ s) t c line (length p + place) next r m go ≡ changing s t c line place next r m on
  changing_moved (Load count) line place next r m e = nodes_moved count place next (λ ps os. opened_then line t (load_call t m r ps os)) e
  changing_moved (Replace point count) line place next r m e = nodes_moved count place next (λ ps os. opened_then line t (replace_call t m r point ps os)) e
  changing_moved (Corrections count) line place next r m e = named_moved count line place next r m e

  pub command_moved : (f : Frame) (line place next : ℕ) (r : Record) (m : Memory) → (0 < type_of f → Same-from place)
      → command (p ++ s) t f line (length p + place) next r m go ≡ command s t f line place next r m on
  command_moved (Rule a) line place next r m e = refl
  command_moved (Node a b) line place next r m e = refl
  command_moved (PointFrame a b) line place next r m e = refl
  command_moved (Change c) line place next r m e = changing_moved c line place next r m (e (omega (arith, (change_type_lem c).0)))
  command_moved Dump line place next r m e =
      let told : Told = dump_told line t r m in
      ap (λ (z : List ℕ). told.text ++ z) (e (omega arith) place next told.next told.memory (omega arith))
  command_moved (Refused a b) line place next r m e = refl
  command_moved Over line place next r m e = refl

command_over : (n : ℕ) (s t : List ℕ) (place line : ℕ) (r : Record) (m : Memory) → length s ≤ place → commands_from n s t place line r m ≡ []
unfolding commands_from
command_over zero s t place line r m h = refl
command_over (suc n) s t place line r m h = rw (none_left s place line h)

module _ (p s t : List ℕ) where
  commands_shift : (n k place line : ℕ) (r : Record) (m : Memory) → length s ≤ n + place → length s ≤ k + place
      → commands_from n (p ++ s) t (length p + place) line r m ≡ commands_from k s t place line r m
  unfolding commands_from
  commands_shift zero k place line r m h l = sym (command_over k s t place line r m (omega arith))
  commands_shift (suc n) zero place line r m h l = command_over (suc n) (p ++ s) t (length p + place) line r m (omega (arith, length-append p s))
  commands_shift (suc n) (suc k) place line r m h l =
      let step : Step = frame_at s place line in
      let rest = commands_shift n k in
      rw (frame_behind p s place line)
      (command_moved p s t (commands_from n (p ++ s) t) (commands_from k s t) step.frame line step.place step.line r m (λ y q line' r' m' i.
      let on = frame_on s place line y in
      rest q line' r' m' (omega arith) (omega arith)))

-- ---- the same of the two parts of a text, with as many turns as each has bytes

module _ (w u t : List ℕ) where
  pub onward_shift : (n place line : ℕ) (r : Record) (m : Memory) → length u ≤ n → commands_from n (w ++ u) t (length w + place) line r m ≡ commands_from (length u) u t place line r m
  onward_shift n place line r m h = commands_shift w u t n (length u) place line r m (omega arith) (omega arith)

pub table_shift : (w u : List ℕ) (m : Memory) (x : Reading) → table_then (w ++ u) m (moved_table (length w) x) ≡ table_then u m x
table_shift w u m (table.done t place line) = onward_shift w u t (length (w ++ u)) place line empty_record m (omega (arith, length-append w u))
table_shift w u m (table.stop refusal line) = refl
