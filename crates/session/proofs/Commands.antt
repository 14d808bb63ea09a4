-- What the definition of a session computes is one, for every text. Assumes nothing.
use mathlib.Core.Path.{◌≡◌, refl, sym, ap, ◌∙◌, subst}
use mathlib.Core.Bool.{true}
use mathlib.Core.List.{List, map}
use Prim.Native.Nat.{ℕ, zero, suc, ◌+◌, ◌*◌, ◌≤◌, ◌<◌}
use native.Mathlib.Omega.{arith}
use lib.ListN.{length}
use Rattle.refusal.specs.declared.Refusal.{Refusal}
use Rattle.tree.specs.declared.Point.{Point}
use Rattle.tree.specs.Points.{Part, nodes_row, owns_row}
use Rattle.tree.specs.Handed.{announced}
use Rattle.circles.specs.Ranked.{member, up_from}
use Rattle.circles.specs.Laws.{Rising}
use Rattle.circles.proofs.Sequence.{rising_keep}
use Rattle.climb.specs.Memory.{at}
use Rattle.climb.proofs.Lists.{keep_is, keep_in, in_up_from}
use Rattle.wire.specs.Instances.{declared}
use Rattle.wire.specs.Laws.{Words}
use Rattle.wire.proofs.Places.{declared_below}
use Rattle.update.specs.declared.Record.{Record}
use Rattle.update.specs.Records.{empty_record}
use Rattle.update.specs.Memories.{Memory, nodes_of}
use Rattle.update.specs.Refusals.{load_refusal, points_refusal}
use Rattle.update.specs.Refused.{Leaves}
use Rattle.update.specs.Calls.{Said, refused, said, Left, leaving, Opened, is_open, load_call, points_call, dumped}
use Rattle.update.specs.Points.{WordsIn}
use Rattle.update.proofs.Refusing.{all_leave}
use Rattle.demands.specs.Engine.{ours}
use Rattle.demands.specs.History.{History}
use Rattle.demands.proofs.Ours.{ours_2}
use Rattle.text_frame.specs.Frames.{frame_at}
use Rattle.text_frame.specs.Out.{dump_text, refusal_text}
use Rattle.text_frame.specs.declared.Frame.{Frame}
use Rattle.text_frame.specs.declared.Frame.TheVariants.{Rule, Node, Point as PointFrame, Change, Dump, Refused, Over}
use Rattle.text_frame.specs.declared.Change as change
use Rattle.text_frame.specs.declared.Change.TheVariants.{Load, Replace, Corrections}
use Rattle.text_frame.specs.Text.{type_of}
use Rattle.text_table.specs.Reading as table
use Rattle.text_table.specs.Reading.{Reading, reading_at}
use Rattle.text_table.specs.Refused.{TableRead}
use Rattle.text_table.proofs.Refusing.{table_exactly}
use Rattle.text_table.proofs.Passing.{frame_on, none_left}
use Rattle.text_tree.specs.Planting.{Nodes, good, bad, nodes_at}
use Rattle.text_tree.proofs.Trees.{nodes_forth}
use Rattle.session.specs.Session.{Told, to_done, opened_then, dump_or, dump_told, and_on, with_nodes, command, commands_from, own_memory, after_table, session}
use Rattle.session.specs.Naming.{Named, named, unnamed, points_at}
use Rattle.session.specs.Lines.{SetsText}
use Rattle.session.specs.Commands.{TreeHeld, no_tree, tree, Between, at_first, behind_history, LoadNumber, ReplaceNumber, miscounted, absent, CommandAt, RowAt, one, several, RowStops, at_point, at_node, Command, load_refused, loads, replacement_refused, replaces, dump_refused, dumps, out_of_place, over, bad_line, misplaced, bad_load, bad_replacement, Commands, stops, goes_on, Session, no_table, runs, EverySession}
use Rattle.session.proofs.Reading.{TableKept, table_kept, words_fit}
use Rattle.session.proofs.Resting.{finished_state, Kept, keeps, rests, load_number, replace_number, dump_number, dump_number_lem}
use Rattle.session.proofs.Rows.{row_behind, row_here, row_stops}
use Rattle.session.proofs.Updates.{answered, load_carried, replacement_carried}

-- ---- a dump

-- the declared slots, as they are kept
rising_dumped : (t : List ℕ) (m : Memory) (r : Record) → Rising 0 (dumped t m r)
unfolding dumped
rising_dumped t m r = rising_keep (declared t (nodes_of m r.nodes)) 0 (8 * r.nodes)

dumped_declared : {t ns owns : List ℕ} {r : Record} {m : Memory} → Kept t ns owns r m → (x : ℕ) → member (dumped t m r) x ≡ true → declared t ns x ≡ true
unfolding dumped
dumped_declared {t} {ns} {r = r} {m} k x h = rw (k.count, k.nodes) at (keep_is (declared t (nodes_of m r.nodes)) (up_from 0 (8 * r.nodes)) x h)

declared_dumped : {t ns owns : List ℕ} {r : Record} {m : Memory} → Kept t ns owns r m → (x : ℕ) → declared t ns x ≡ true → member (dumped t m r) x ≡ true
unfolding dumped
declared_dumped {t} {ns} {r = r} {m} k x h =
    let d : declared t (nodes_of m r.nodes) x ≡ true = rw (k.count, k.nodes) h in
    keep_in (declared t (nodes_of m r.nodes)) (up_from 0 (8 * r.nodes)) x (in_up_from (8 * r.nodes) 0 x (omega arith) (omega (arith, declared_below t ns x h, k.count))) d

pub sets_text : {t ns owns : List ℕ} {r : Record} {m : Memory} → History ours t ns owns r m
    → SetsText t ns owns (dump_text (map (λ x. record { instance = x; value = at m.sets x }) (dumped t m r)))
sets_text {t} {ns} {owns} {r} {m} h =
    let k = keeps (finished_state h) in
    record {
      sets = at m.sets;
      least = (ours_2.holds t ns owns r m h).sets;
      instances = dumped t m r;
      rising = rising_dumped t m r;
      exactly = λ x. (dumped_declared k x, declared_dumped k x);
      shows = refl;
    }

-- ---- a call by its number

pub opens : {r : Record} {m : Memory} {left : Left (Said Opened)} → Leaves 0 r m left → left ≡ leaving is_open left.next left.memory
opens {left = left} l = let c = l.carried refl in answered left (said is_open) (c.1 ∙ ap said (only c.0))
  where
    only : (a : Opened) → a ≡ is_open
    only is_open = refl

never_absent : {t : List ℕ} {ps : List Part} {n : ℕ} → ReplaceNumber t ps no_tree n → 0 < n
never_absent (miscounted c) = omega arith
never_absent (absent c) = omega arith

-- ---- the nodes of a load or a replacement stand behind its frame, and their own sets are words

pub nodes_behind : {s ns owns : List ℕ} {place line place' line' : ℕ} {kind : ℕ → change.Change} → CommandAt s place line kind (good ns owns place' line')
    → 0 < type_of (frame_at s place line).frame → (Words owns) × (place < place')
nodes_behind {s} {ns} {owns} {place} {line} {place'} {line'} c y =
    let w = nodes_forth c.count s (frame_at s place line).place (frame_at s place line).line ns owns place' line' c.found in
    (words_fit ns owns w.fit, omega (arith, frame_on s place line y, w.behind))

-- ---- an update that is accepted and told to done

record Accepted (s t : List ℕ) (place line : ℕ) (h : TreeHeld) (r : Record) (m : Memory) (left : Left (Said Opened)) (place' line' : ℕ) : Type 0 where
  then : TreeHeld
  does : Command s t place line h r m (to_done t left.next left.memory).text place' line' then
      (to_done t left.next left.memory).next (to_done t left.next left.memory).memory
  between : Between t then (to_done t left.next left.memory).next (to_done t left.next left.memory).memory

load_accepted : {s t ns owns : List ℕ} {place line place' line' : ℕ} {h : TreeHeld} {r : Record} {m : Memory} → Words t → Words owns
    → CommandAt s place line Load (good ns owns place' line') → LoadNumber t ns owns 0
    → load_call t m r ns owns ≡ leaving is_open (load_call t m r ns owns).next (load_call t m r ns owns).memory
    → Accepted s t place line h r m (load_call t m r ns owns) place' line'
load_accepted {t = t} {ns} {owns} {r = r} {m} w o c num e =
    let d = load_carried t ns owns r _ m _ w o e in
    record { then = tree ns owns; does = loads c num d.done d.text; between = behind_history d.done.history }

replacement_accepted : {s t : List ℕ} {ps : List Part} {place line place' line' : ℕ} {h : TreeHeld} {r : Record} {m : Memory} → Between t h r m → WordsIn ps
    → RowAt s place line ps place' line' → ReplaceNumber t ps h 0
    → points_call t m r ps ≡ leaving is_open (points_call t m r ps).next (points_call t m r ps).memory
    → Accepted s t place line h r m (points_call t m r ps) place' line'
replacement_accepted at_first o c num e = absurd (let z = never_absent num in omega arith)
replacement_accepted {t = t} {ps} {r = r} {m} (behind_history {ns = ns} {owns} a) o c num e =
    let d = replacement_carried t ns owns r _ m _ a ps o e in
    record { then = tree (nodes_row t ns ps) (owns_row t ns owns ps); does = replaces c num d.done d.text; between = behind_history d.done.history }

-- ---- the commands: n of them at the most, as many as there are bytes left

module _ (s t : List ℕ) (q : TableKept t) where
  abbrev UpTo : ℕ → Type 0
  UpTo n = (place line : ℕ) (h : TreeHeld) (r : Record) (m : Memory) → Between t h r m → length s ≤ n + place → Commands s t place line h r m (commands_from n s t place line r m)

  module _ (n : ℕ) (rest : UpTo n) (place line : ℕ) (h : TreeHeld) (r : Record) (m : Memory) (b : Between t h r m) (enough : length s ≤ suc n + place) where
    abbrev go : ℕ → ℕ → Record → Memory → List ℕ
    go = commands_from n s t

    -- a command that was told, and those behind it
    on : (told : Told) (h' : TreeHeld) (place' line' : ℕ) → Command s t place line h r m told.text place' line' h' told.next told.memory
        → Between t h' told.next told.memory → place < place' → Commands s t place line h r m (and_on told place' line' go)
    on told h' place' line' c b' further = goes_on c b' (rest place' line' h' told.next told.memory b' (omega arith))

    by_number : (left : Left (Said Opened)) (place' line' : ℕ) → place < place' → (k : ℕ) → Leaves k r m left
        → (0 < k → Command s t place line h r m (refusal_text k line) place' line' h r m) → (k ≡ 0 → left ≡ leaving is_open left.next left.memory → Accepted s t place line h r m left place' line')
        → Commands s t place line h r m (and_on (opened_then line t left) place' line' go)
    by_number left place' line' further zero l refuses accepts =
        let e = opens l in
        let a = accepts refl e in
        subst (λ (told : Told). Commands s t place line h r m (and_on told place' line' go)) (sym (ap (opened_then line t) e))
        (on (to_done t left.next left.memory) a.then place' line' a.does a.between further)
    by_number left place' line' further (suc k) l refuses accepts =
        subst (λ (told : Told). Commands s t place line h r m (and_on told place' line' go)) (sym (ap (opened_then line t) (l.refused (omega arith))))
        (on (record { text = refusal_text (suc k) line; next = r; memory = m }) h place' line' (refuses (omega arith)) b further)

    load_runs : (ns owns : List ℕ) (place' line' : ℕ) → CommandAt s place line Load (good ns owns place' line')
        → Commands s t place line h r m (and_on (opened_then line t (load_call t m r ns owns)) place' line' go)
    load_runs ns owns place' line' c =
        let num = load_number t (rests b) q.sound ns owns in
        let f = nodes_behind c (rw c.frame (omega arith)) in
        by_number (load_call t m r ns owns) place' line' f.1 (load_refusal t m r ns owns) ((all_leave t m r).load ns owns) (load_refused c num)
        (λ z e. load_accepted q.words f.0 c (subst (LoadNumber t ns owns) z num) e)

    -- a replacement is told as the call for its parts, whichever frame brought them
    row_runs : (ps : List Part) (place' line' : ℕ) → RowAt s place line ps place' line'
        → Commands s t place line h r m (command s t (frame_at s place line).frame line (frame_at s place line).place (frame_at s place line).line r m go)
    row_runs ps place' line' c =
        let num = replace_number b q.sound ps in
        let f = row_behind c in
        subst (Commands s t place line h r m) (sym (row_here t r m go c))
        (by_number (points_call t m r ps) place' line' f.1 (points_refusal t m r ps) ((all_leave t m r).points ps)
        (replacement_refused c num) (λ z e. replacement_accepted b f.0 c (subst (ReplaceNumber t ps h) z num) e))

    row_bad : (refusal : Refusal) (at : ℕ) → RowStops s place line refusal at
        → Commands s t place line h r m (command s t (frame_at s place line).frame line (frame_at s place line).place (frame_at s place line).line r m go)
    row_bad refusal at c = subst (Commands s t place line h r m) (row_stops t r m go c) (stops (bad_replacement c))

    -- by the frame of the line, as the frame is
    abbrev By : Frame → Type 0
    By f = Commands s t place line h r m (command s t f line (frame_at s place line).place (frame_at s place line).line r m go)

    load_lines : (count : ℕ) → (frame_at s place line).frame ≡ Change (Load count) → (x : Nodes) → nodes_at count s (frame_at s place line).place (frame_at s place line).line ≡ x
        → Commands s t place line h r m (with_nodes x (λ ps os. opened_then line t (load_call t m r ps os)) go)
    load_lines count e (good ns owns place' line') f = load_runs ns owns place' line' (record { count = count; frame = e; found = f })
    load_lines count e (bad refusal at) f = stops (bad_load (record { count = count; frame = e; found = f }))

    replace_lines : (point count : ℕ) → (frame_at s place line).frame ≡ Change (Replace point count) → (x : Nodes)
        → nodes_at count s (frame_at s place line).place (frame_at s place line).line ≡ x → By (Change (Replace point count))
    replace_lines point count e (good ns owns place' line') f = subst By e (row_runs _ place' line' (one point (record { count = count; frame = e; found = f })))
    replace_lines point count e (bad refusal at) f = subst By e (row_bad refusal at (one point (record { count = count; frame = e; found = f })))

    part_lines : (count : ℕ) → (frame_at s place line).frame ≡ Change (Corrections count) → (qs : List Point) (place₁ line₁ : ℕ)
        → points_at count s (frame_at s place line).place (frame_at s place line).line ≡ named qs place₁ line₁
        → (x : Nodes) → nodes_at (announced qs) s place₁ line₁ ≡ x → By (Change (Corrections count))
    part_lines count e qs place₁ line₁ f (good ns owns place' line') g = subst By e (row_runs _ place' line' (several e f g))
    part_lines count e qs place₁ line₁ f (bad refusal at) g = subst By e (row_bad refusal at (at_node e f g))

    point_lines : (count : ℕ) → (frame_at s place line).frame ≡ Change (Corrections count) → (x : Named)
        → points_at count s (frame_at s place line).place (frame_at s place line).line ≡ x → By (Change (Corrections count))
    point_lines count e (named qs place₁ line₁) f = part_lines count e qs place₁ line₁ f (nodes_at (announced qs) s place₁ line₁) refl
    point_lines count e (unnamed refusal at) f = subst By e (row_bad refusal at (at_point e f))

    dump_runs : (frame_at s place line).frame ≡ Dump
        → Command s t place line h r m (dump_told line t r m).text (frame_at s place line).place (frame_at s place line).line h r m
    unfolding dump_told
    dump_runs e = rw (dump_number_lem b q.sound) (by_tree b)
      where
        by_tree : {h : TreeHeld} {r : Record} {m : Memory} → Between t h r m
            → Command s t place line h r m (dump_or (dump_number h) line (dump_text (map (λ x. record { instance = x; value = at m.sets x }) (dumped t m r))))
            (frame_at s place line).place (frame_at s place line).line h r m
        by_tree at_first = dump_refused e
        by_tree (behind_history a) = dumps e (sets_text a)

    stray : out_of_place (frame_at s place line).frame ≡ true → Commands s t place line h r m (refusal_text 14 line)
    stray e = stops (misplaced e)

    -- by the frame of the line
    by_frame : (f : Frame) → (frame_at s place line).frame ≡ f → By f
    unfolding dump_told
    by_frame (Rule a) e = stray (rw e)
    by_frame (Node a c) e = stray (rw e)
    by_frame (PointFrame a c) e = stray (rw e)
    by_frame (Change (Load count)) e = load_lines count e (nodes_at count s (frame_at s place line).place (frame_at s place line).line) refl
    by_frame (Change (Replace point count)) e = replace_lines point count e (nodes_at count s (frame_at s place line).place (frame_at s place line).line) refl
    by_frame (Change (Corrections count)) e = point_lines count e (points_at count s (frame_at s place line).place (frame_at s place line).line) refl
    by_frame Dump e = on (dump_told line t r m) h (frame_at s place line).place (frame_at s place line).line (dump_runs e) b (frame_on s place line (rw e (omega arith)))
    by_frame (Refused refusal at) e = stops (bad_line e)
    by_frame Over e = stops (over e)

  commands_run : (n : ℕ) → UpTo n
  unfolding commands_from
  commands_run zero place line h r m b enough = stops (over (none_left s place line (omega arith)))
  commands_run (suc n) place line h r m b enough = let rest = commands_run n in by_frame n rest place line h r m b enough (frame_at s place line).frame refl

-- ---- the session

session_from : (s : List ℕ) (a : Reading) → TableRead s 0 1 a → Session s (after_table s a)
session_from s (table.done t place line) f =
    let c : Commands s t place line no_tree empty_record own_memory (after_table s (table.done t place line)) =
    commands_run s t (table_kept f) _ place line no_tree empty_record own_memory at_first (omega arith) in
    runs f c
session_from s (table.stop refusal line) f = no_table f

pub every_session : EverySession
unfolding session
every_session s = session_from s (reading_at s 0 1) ((table_exactly s 0 1 (reading_at s 0 1)).0 refl)
