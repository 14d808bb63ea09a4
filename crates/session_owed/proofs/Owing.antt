-- What a line does to what is owed: by what is waited for, and by the line's frame. Assumes nothing.
use mathlib.Core.Path.{◌≡◌, refl, ap, sym, ◌∙◌}
use mathlib.Core.Bool.{Bool, true, false, cond, true≢false}
use mathlib.Core.List.{List, [], ◌∷◌, ◌++◌, append-nil}
use Rattle.std.specs.Prelude.{Result, Ok, Err}
use Prim.Native.Nat.{ℕ, zero, suc, ◌+◌, ◌-◌, ◌^◌, ◌≤◌, ◌<◌, min}
use native.Mathlib.Omega.{arith}
use borrow.Author.Tests.{ltb-true, ltb-false}
use lib.Dec.{ltb}
use lib.ListN.{length, take, length-append}
use Rattle.refusal.specs.Numbers.{number_of}
use Rattle.tree.specs.declared.Point.{Point}
use Rattle.tree.specs.Handed.{places_from, announced}
use Rattle.update.specs.declared.Record.{Record}
use Rattle.update.specs.Records.{empty_record}
use Rattle.update.specs.Memories.{Memory}
use Rattle.update.specs.Within.{Roomy}
use Rattle.update.specs.Calls.{Said, refused, said, Left, Opened, is_open}
use Rattle.update_judge.specs.Order.{Holding}
use Rattle.text_frame.specs.Frames.{frame_at, line_after}
use Rattle.text_frame.specs.Text.{type_of}
use Rattle.text_frame.specs.Walk.{is_on}
use Rattle.text_table.specs.Read.{Sofar, taken_at, words_after}
use Rattle.text_table.specs.Reading.{after, read_on}
use Rattle.text_tree.specs.Planting.{Nodes, node_before, node_then, nodes_at}
use Rattle.text_table.proofs.Sofar.{goes}
use Rattle.text_table.proofs.Readings.{read_turn, read_ends}
use Rattle.text_table.proofs.Passing.{taken_type}
use Rattle.text_tree.proofs.Trees.{nodes_forth}
use Rattle.text_frame.specs.Out.{refusal_text}
use Rattle.text_frame.proofs.Bounds.{Bounded, bounded}
use Rattle.text_frame.proofs.Exactly.{rule_type_lem}
use Rattle.text_frame.specs.declared.Frame.{Frame}
use Rattle.text_frame.specs.declared.Frame.TheVariants as frame
use Rattle.text_frame.specs.declared.Change.{Change}
use Rattle.text_frame.specs.declared.Change.TheVariants as change
use Rattle.text_frame.specs.declared.Misread.{Misread}
use Rattle.text_frame.specs.declared.Expected.{Expected}
use Rattle.text_frame.specs.declared.Expected.TheVariants.{AtHeader, AtSymbol, AtProduction, AtEquation, Ended}
use Rattle.session.specs.Naming.{Named, point_before, point_then, points_at}
use Rattle.session.specs.Session.{Told, and_on, with_nodes, with_points, parts_then, opened_then, dump_told, command, commands_from}
use Rattle.session_owed.specs.Owed.{commands, onward, points_in, named_in, behind_points, order_call, heard, behind, table_then, owed, NamedSoFar, Sound}
use Rattle.session_owed.specs.Hearing.{Heard, stopped, waiting, opened_by, called, ordered, naming, changed, commanded, awaited_of, tabled, kept_at, point_kept, pointed, noded, hearing}
use Rattle.session_owed.specs.Laws.{Pays, LinePays}
use Rattle.session_owed.specs.declared.Coming.{Coming}
use Rattle.session_owed.specs.declared.Coming.TheVariants.{Load, Replace, Several}
use Rattle.session_owed.specs.declared.Awaited.{Awaited}
use Rattle.session_owed.specs.declared.Awaited.TheVariants.{Table, Command, Naming, Nodes as NodesOf, Working, Stopped}
use Rattle.session_owed.proofs.Windows.{Front, front}
use Rattle.session_owed.proofs.Shifts.{command_moved, parts_moved, with_moved, points_moved, onward_shift, nodes_shift, points_shift, table_shift, read_shift}
use Rattle.session_owed.proofs.Opened.{empty_holds, order_keeps}
use Rattle.session_owed.proofs.Kept.{heard_none, order_next, order_last, with_node, behind_none, behind_moved}
use Rattle.session_owed.proofs.Naming.{nodes_apart, Like, like_more, parts_like, kept_like, kept_few, with_point, named_none, named_moved, point_between}

-- what a line prints, and what is owed behind it
abbrev owes : Heard → ℕ → List ℕ → List ℕ
owes h line u = h.text ++ owed h.awaited h.words h.parts h.part_owns h.memory h.next line u

abbrev SoundBy : Heard → Type 0
SoundBy h = Sound h.awaited h.words h.part_owns h.memory h.next

nothing_owed : (t ps os : List ℕ) (m : Memory) (r : Record) (line : ℕ) (u : List ℕ) → owed Stopped t ps os m r line u ≡ []
unfolding owed
nothing_owed t ps os m r line u = refl

-- ---- a command all of whose nodes have come

opened_owed : (t ps os : List ℕ) (m : Memory) (r : Record) (at line : ℕ) (u : List ℕ) (left : Left (Said Opened))
    → and_on (opened_then at t left) 0 line (onward u t) ≡ owes (opened_by t ps os m r at left) line u
unfolding owed
opened_owed t ps os m r at line u left = by_answer left.answer refl
  where
    by_answer : (a : Said Opened) → left.answer ≡ a → and_on (opened_then at t left) 0 line (onward u t) ≡ owes (opened_by t ps os m r at left) line u
    by_answer (refused n) e = rw e
    by_answer (said is_open) e = rw e

-- ---- a command at its line `at`, whose points and number of nodes are known: the text goes on with line `next`

module _ (t ps os : List ℕ) (m : Memory) (r : Record) (at next : ℕ) where
  module _ (coming : Coming) where
    abbrev call : List ℕ → List ℕ → Told
    call qs ws = opened_then at t (order_call coming (points_in os) t m r qs ws)

    waits : (n : ℕ) (u : List ℕ) → with_nodes (nodes_at (suc n) u 0 next) call (onward u t) ≡ owed (NodesOf coming (suc n) 0 at) t ps os m r next u
    unfolding owed
    waits n u = let z : suc n - 0 ≡ suc n = omega arith in rw (heard_none (suc n) ps, heard_none (suc n) os, z) (ap (λ (x : Nodes). with_nodes x call (onward u t)) (sym (behind_none (nodes_at (suc n) u 0 next))))

    none_waits : (u : List ℕ) → with_nodes (nodes_at 0 u 0 next) call (onward u t) ≡ owes (called t ps os m r coming 0 at) next u
    unfolding called nodes_at
    none_waits u = opened_owed t ps os m r at next u (order_call coming (points_in os) t m r [] [])

    ordered_owed : (count : ℕ) (u : List ℕ) → with_nodes (nodes_at count u 0 next) call (onward u t) ≡ owes (ordered t ps os m r coming count at) next u
    ordered_owed zero u = none_waits u
    ordered_owed (suc n) u = waits n u

    ordered_sound : Holding t m r → (count : ℕ) → SoundBy (ordered t ps os m r coming count at)
    unfolding called
    ordered_sound h zero = order_keeps t m r h ps os at coming (points_in os) [] []
    ordered_sound h (suc n) = (h, omega arith)

  -- one that names its points first
  abbrev parts_of : List ℕ → List Point → ℕ → ℕ → List ℕ
  parts_of u = parts_then u t at r m (onward u t)

  naming_owed : (count : ℕ) (u : List ℕ) → with_points (points_at count u 0 next) (parts_of u) ≡ owes (naming t ps os m r count at) next u
  unfolding owed points_at places_from announced
  naming_owed zero u = ordered_owed (Several 0) 0 u
  naming_owed (suc n) u = let z : suc n - 0 ≡ suc n = omega arith in rw z (ap (λ (x : Named). with_points x (parts_of u)) (sym (named_none (points_at (suc n) u 0 next))))

  naming_sound : Holding t m r → (count : ℕ) → count < 2 ^ 8 → SoundBy (naming t ps os m r count at)
  unfolding called places_from announced
  naming_sound h zero l = ordered_sound (Several 0) h 0
  naming_sound h (suc n) l = (h, record { more = omega arith; few = omega arith; nodes = omega arith })

-- ---- what is known where a line w stands in front: t the words, ps and os the nodes that have come
module _ (t ps os : List ℕ) (m : Memory) (r : Record) (line : ℕ) (w : List ℕ) (some : 0 < length w) where
  -- the turns that are left behind the line
  abbrev left : List ℕ → ℕ
  left u = length w + length u - 1

  turns : (u : List ℕ) → length (w ++ u) ≡ suc (left u)
  turns u = omega (arith, length-append w u)

  enough : (u : List ℕ) → length u ≤ left u
  enough u = omega arith

  -- a line that ends the session
  ends : (awaited : Awaited) (n at : ℕ) → ((u : List ℕ) → owed awaited t ps os m r line (w ++ u) ≡ refusal_text n at) → Pays awaited t ps os m r line w (stopped t ps os m r n at)
  unfolding owed
  ends awaited n at e = record { owing = λ u. e u ∙ sym (append-nil (refusal_text n at)); sound = tt }

  -- ---- a command is waited for

  module _ (f : Frame) (x : Front w line f) where
    command_first : (u : List ℕ) → commands (w ++ u) t line r m
        ≡ command (w ++ u) t f line (frame_at (w ++ u) 0 line).place (frame_at (w ++ u) 0 line).line r m (commands_from (left u) (w ++ u) t)
    unfolding commands_from
    command_first u = rw (turns u, x.frame u)

    command_line : 0 < type_of f → (u : List ℕ) → commands (w ++ u) t line r m ≡ command u t f line 0 (line_after line) r m (onward u t)
    command_line y u =
        command_first u ∙ rw (x.place y u, x.next y u)
        (command_moved w u t (commands_from (left u) (w ++ u) t) (onward u t) f line 0 (line_after line) r m (λ _ q line' r' m' i. onward_shift w u t (left u) q line' r' m' (enough u)))

  dumped : (u : List ℕ) → and_on (dump_told line t r m) 0 (line_after line) (onward u t) ≡ (dump_told line t r m).text ++ commands u t (line_after line) r m
  unfolding dump_told
  dumped u = refl

  changed_pays : Holding t m r → (c : Change) → Bounded (frame.Change c) → Front w line (frame.Change c) → Pays Command t ps os m r line w (changed t ps os m r c line)
  unfolding owed
  changed_pays h (change.Load count) few x = record {
    owing = λ u. command_line (frame.Change (change.Load count)) x (omega arith) u ∙ ordered_owed t ps os m r line (line_after line) Load count u;
    sound = ordered_sound t ps os m r line (line_after line) Load h count;
  }
  changed_pays h (change.Replace point count) few x = record {
    owing = λ u. command_line (frame.Change (change.Replace point count)) x (omega arith) u ∙ ordered_owed t ps os m r line (line_after line) (Replace point) count u;
    sound = ordered_sound t ps os m r line (line_after line) (Replace point) h count;
  }
  changed_pays h (change.Corrections count) few x = record {
    owing = λ u. command_line (frame.Change (change.Corrections count)) x (omega arith) u ∙ naming_owed t ps os m r line (line_after line) count u;
    sound = naming_sound t ps os m r line (line_after line) h count few;
  }

  commanded_pays : Holding t m r → (f : Frame) → Bounded f → Front w line f → Pays Command t ps os m r line w (commanded t ps os m r f line)
  unfolding commanded owed
  commanded_pays h (frame.Rule a) few x = ends Command 14 line (command_line (frame.Rule a) x (rule_type_lem a).0)
  commanded_pays h (frame.Node a b) few x = ends Command 14 line (command_line (frame.Node a b) x (omega arith))
  commanded_pays h (frame.Point a b) few x = ends Command 14 line (command_line (frame.Point a b) x (omega arith))
  commanded_pays h (frame.Change c) few x = changed_pays h c few x
  commanded_pays h frame.Dump few x = record { owing = λ u. command_line frame.Dump x (omega arith) u ∙ dumped u; sound = h }
  commanded_pays h (frame.Refused refusal own) few x = ends Command (number_of refusal) own (command_first (frame.Refused refusal own) x)
  commanded_pays h frame.Over few x = absurd (x.some refl)

  -- ---- a frame of the table is waited for

  module _ (x : Expected) (on : is_on x ≡ true) (f : Frame) (z : Front w line f) where
    table_first : (u : List ℕ) → owed (Table x) t ps os m r line (w ++ u)
        ≡ table_then (w ++ u) m (after (taken_at t x f line) (λ y. read_on (left u) (words_after t x f) y (w ++ u) (frame_at (w ++ u) 0 line).place (frame_at (w ++ u) 0 line).line))
    unfolding owed
    table_first u = rw (turns u, read_turn (w ++ u) t x 0 line on (left u), z.frame u)

    -- what is owed with the words v behind the frame
    table_on : (v : List ℕ) (y : Expected) (u : List ℕ) → 0 < type_of f
        → table_then (w ++ u) m (read_on (left u) v y (w ++ u) (frame_at (w ++ u) 0 line).place (frame_at (w ++ u) 0 line).line) ≡ table_then u m (read_on (length u) v y u 0 (line_after line))
    table_on v y u h =
        rw (z.place h u, z.next h u, read_shift w u (left u) (length u) v y 0 (line_after line) (omega arith) (omega arith)) (table_shift w u m (read_on (length u) v y u 0 (line_after line)))

    next_owed : (v : List ℕ) (y : Expected) (u : List ℕ) → table_then u m (read_on (length u) v y u 0 (line_after line)) ≡ owed (awaited_of y) v ps os m empty_record (line_after line) u
    unfolding owed
    next_owed v AtHeader u = refl
    next_owed v (AtSymbol s) u = refl
    next_owed v (AtProduction p) u = refl
    next_owed v (AtEquation p q k) u = refl
    next_owed v Ended u = rw (read_ends (length u) u v Ended 0 (line_after line) refl)

    next_sound : (v : List ℕ) (y : Expected) → Sofar v y → Roomy m → Sound (awaited_of y) v os m empty_record
    next_sound v AtHeader s room = (s, refl)
    next_sound v (AtSymbol i) s room = (s, refl)
    next_sound v (AtProduction p) s room = (s, refl)
    next_sound v (AtEquation p q k) s room = (s, refl)
    next_sound v Ended s room = empty_holds v m s room

    tabled_pays : Sofar t x → Roomy m → Pays (Table x) t ps os m r line w (tabled (words_after t x f) ps os m (taken_at t x f line))
    tabled_pays s room = by_taken (taken_at t x f line) refl
      where
        by_taken : (a : Result Expected Misread) → taken_at t x f line ≡ a → Pays (Table x) t ps os m r line w (tabled (words_after t x f) ps os m a)
        by_taken (Ok y) e = record {
          owing = λ u. table_first u ∙ rw e (table_on (words_after t x f) y u (taken_type t x f line y e)) ∙ next_owed (words_after t x f) y u;
          sound = next_sound (words_after t x f) y (goes t x f line y s e) room;
        }
        by_taken (Err bad) e = record {
          owing = λ u. table_first u ∙ rw e (sym (append-nil (refusal_text (number_of bad.refusal) bad.line))) ∙ ap (λ (a : List ℕ). refusal_text (number_of bad.refusal) bad.line ++ a) (sym (nothing_owed (words_after t x f) ps os m empty_record (line_after line) u));
          sound = tt;
        }

  -- ---- a point of a command is waited for

  module _ (count taken at : ℕ) (far : NamedSoFar count taken os) (owns_long : 521 ≤ length os) where
    abbrev naming_awaited : Awaited
    naming_awaited = Naming count taken at

    abbrev parts : List ℕ → List Point → ℕ → ℕ → List ℕ
    parts u = parts_then u t at r m (onward u t)

    abbrev came : List Point
    came = named_in taken os

    -- the points that are to come behind the line
    abbrev left_over : ℕ
    left_over = count - (taken + 1)

    points_first : (f : Frame) → Front w line f → (u : List ℕ) → owed naming_awaited t ps os m r line (w ++ u)
        ≡ with_points (behind_points came (point_then f line (points_at left_over (w ++ u) (frame_at (w ++ u) 0 line).place (frame_at (w ++ u) 0 line).line))) (parts (w ++ u))
    unfolding owed points_at
    points_first f z u = let k : count - taken ≡ suc left_over = omega (arith, far.more) in rw (k, z.frame u)

    module _ (point n : ℕ) (few : Bounded (frame.Point point n)) (z : Front w line (frame.Point point n)) where
      abbrev q : Point
      q = record { node = point; count = n }

      abbrev behind_line : List ℕ → Named
      behind_line u = points_at left_over u 0 (line_after line)

      point_line : (u : List ℕ) → owed naming_awaited t ps os m r line (w ++ u) ≡ with_points (behind_points came (point_before q (behind_line u))) (parts u)
      point_line u =
          points_first (frame.Point point n) z u
          ∙ rw (z.place (omega arith) u, z.next (omega arith) u, points_shift left_over w u 0 (line_after line), named_moved came q (length w) (behind_line u))
          (points_moved (length w) (behind_points came (point_before q (behind_line u))) (parts (w ++ u)) (parts u) (λ qs place next e.
          parts_moved w u t (onward (w ++ u) t) (onward u t) at r m qs place next (λ k line' r' m' i.
          onward_shift w u t (length (w ++ u)) k line' r' m' (omega (arith, length-append w u)))))

      abbrev os_then : List ℕ
      os_then = point_kept taken point n os

      like : Like (came ++ (q ∷ [])) (named_in (taken + 1) os_then)
      like = kept_like taken point n os owns_long few.0 few.1 far.nodes (omega (arith, far.more, far.few))

      -- the point stands in front of those that are to come, or behind those that have come
      parts_next : (u : List ℕ) (qs : List Point) (place next : ℕ) → parts u (came ++ (q ∷ qs)) place next ≡ parts u (named_in (taken + 1) os_then ++ qs) place next
      parts_next u qs place next =
          ap (λ (l : List Point). parts u l place next) (sym (point_between came q qs))
          ∙ parts_like u t at r m (onward u t) ((came ++ (q ∷ [])) ++ qs) (named_in (taken + 1) os_then ++ qs) place next (like_more (came ++ (q ∷ [])) (named_in (taken + 1) os_then) qs like)

      more_named : (u : List ℕ) → owed naming_awaited t ps os m r line (w ++ u) ≡ owed (Naming count (taken + 1) at) t ps os_then m r (line_after line) u
      unfolding owed
      more_named u = point_line u ∙ with_point (parts u) came (named_in (taken + 1) os_then) q (behind_line u) (parts_next u)

      -- it was the last: the nodes of all parts come next
      last_named : taken + 1 ≡ count → (u : List ℕ) → owed naming_awaited t ps os m r line (w ++ u)
          ≡ owes (ordered t ps os_then m r (Several count) (announced (named_in count os_then)) at) (line_after line) u
      unfolding points_at
      last_named h u =
          let k : left_over ≡ 0 = omega arith in
          point_line u
          ∙ rw k (parts_like u t at r m (onward u t) (came ++ (q ∷ [])) (named_in (taken + 1) os_then) 0 (line_after line) like)
          ∙ ap (λ (l : List Point). parts u l 0 (line_after line)) (ap (λ (c : ℕ). named_in c os_then) h)
          ∙ ordered_owed t ps os_then m r at (line_after line) (Several count) (announced (named_in count os_then)) u

      point_pays : Holding t m r → (b : Bool) → ltb (taken + 1) count ≡ b
          → Pays naming_awaited t ps os m r line w
          (cond b (waiting t ps os_then m r (Naming count (taken + 1) at)) (ordered t ps os_then m r (Several count) (announced (named_in count os_then)) at))
      point_pays h true e =
          let l : taken + 1 < count = ltb-true (taken + 1) count e in
          record {
            owing = more_named;
            sound = (h, record { more = l; few = far.few; nodes = kept_few taken point n os owns_long few.0 few.1 far.nodes (omega (arith, far.more, far.few)) });
          }
      point_pays h false e = record {
        owing = last_named (omega (arith, far.more, ltb-false (taken + 1) count e));
        sound = ordered_sound t ps os_then m r at (line_after line) (Several count) h (announced (named_in count os_then));
      }

    pointed_pays : Holding t m r → (f : Frame) → Bounded f → Front w line f → Pays naming_awaited t ps os m r line w (pointed count taken at f line t ps os m r)
    unfolding pointed
    pointed_pays h (frame.Rule a) few z = ends naming_awaited 14 line (points_first (frame.Rule a) z)
    pointed_pays h (frame.Node a b) few z = ends naming_awaited 14 line (points_first (frame.Node a b) z)
    pointed_pays h (frame.Point point n) few z = point_pays point n few z h (ltb (taken + 1) count) refl
    pointed_pays h (frame.Change a) few z = ends naming_awaited 14 line (points_first (frame.Change a) z)
    pointed_pays h frame.Dump few z = ends naming_awaited 14 line (points_first frame.Dump z)
    pointed_pays h (frame.Refused refusal own) few z = ends naming_awaited (number_of refusal) own (points_first (frame.Refused refusal own) z)
    pointed_pays h frame.Over few z = absurd (z.some refl)

  -- ---- a node of a command is waited for

  module _ (coming : Coming) (count taken at : ℕ) (few : taken < count) (long : 513 ≤ length ps) (owns_long : 513 ≤ length os) where
    abbrev awaited : Awaited
    awaited = NodesOf coming count taken at

    abbrev carried : List ℕ → List ℕ → Told
    carried qs ws = opened_then at t (order_call coming (points_in os) t m r qs ws)

    abbrev front_part : Nodes → Nodes
    front_part = behind (heard count taken ps) (heard count taken os)

    -- the nodes that are to come behind the line
    abbrev rest : ℕ
    rest = count - (taken + 1)

    nodes_first : (f : Frame) → Front w line f → (u : List ℕ) → owed awaited t ps os m r line (w ++ u)
        ≡ with_nodes (front_part (node_then f line (nodes_at rest (w ++ u) (frame_at (w ++ u) 0 line).place (frame_at (w ++ u) 0 line).line))) carried (onward (w ++ u) t)
    unfolding owed nodes_at
    nodes_first f z u = let k : count - taken ≡ suc rest = omega arith in rw (k, z.frame u)

    module _ (p o : ℕ) (z : Front w line (frame.Node p o)) where
      node_line : (u : List ℕ) → owed awaited t ps os m r line (w ++ u) ≡ with_nodes (front_part (node_before p o (nodes_at rest u 0 (line_after line)))) carried (onward u t)
      node_line u =
          nodes_first (frame.Node p o) z u
          ∙ rw (z.place (omega arith) u, z.next (omega arith) u, nodes_shift rest w u 0 (line_after line), behind_moved (heard count taken ps) (heard count taken os) p o (length w) (nodes_at rest u 0 (line_after line)))
          (with_moved (length w) (front_part (node_before p o (nodes_at rest u 0 (line_after line)))) carried (onward (w ++ u) t) (onward u t) (λ qs ws q next e r' m'.
          onward_shift w u t (length (w ++ u)) q next r' m' (omega (arith, length-append w u))))

      abbrev kept : List ℕ
      kept = kept_at taken p ps

      abbrev own_kept : List ℕ
      own_kept = kept_at taken o os

      more_owed : taken + 1 < count → (u : List ℕ) → owed awaited t ps os m r line (w ++ u) ≡ owed (NodesOf coming count (taken + 1) at) t kept own_kept m r (line_after line) u
      unfolding owed
      more_owed h u =
          rw (nodes_apart taken o os)
          (node_line u
          ∙ with_node carried (onward u t) (heard count taken ps) (heard count taken os) (heard count (taken + 1) kept) (heard count (taken + 1) own_kept) p o (nodes_at rest u 0 (line_after line))
          (λ qs ws q next e. ap (opened_then at t) (order_next t m r coming (points_in os) count taken p o ps os few long owns_long qs ws (omega (arith, (nodes_forth rest u 0 (line_after line) qs ws q next e).count)))))

      last_owed : taken + 1 ≡ count → (u : List ℕ) → owed awaited t ps os m r line (w ++ u) ≡ owes (called t kept own_kept m r coming count at) (line_after line) u
      unfolding called nodes_at
      last_owed h u =
          let k : rest ≡ 0 = omega arith in
          rw (nodes_apart taken o os)
          (node_line u
          ∙ rw (k, order_last t m r coming (points_in os) count taken p o ps os few long owns_long h)
          (opened_owed t kept own_kept m r at (line_after line) u (order_call coming (points_in os) t m r (take (min count 513) kept) (take (min count 513) own_kept))))

      called_sound : Holding t m r → SoundBy (called t kept own_kept m r coming count at)
      unfolding called
      called_sound h = order_keeps t m r h kept own_kept at coming (points_in own_kept) (take (min count 513) kept) (take (min count 513) own_kept)

      node_pays : Holding t m r → (b : Bool) → ltb (taken + 1) count ≡ b
          → Pays awaited t ps os m r line w (cond b (waiting t kept own_kept m r (NodesOf coming count (taken + 1) at)) (called t kept own_kept m r coming count at))
      node_pays h true e = let l : taken + 1 < count = ltb-true (taken + 1) count e in record { owing = more_owed l; sound = (h, l) }
      node_pays h false e = record { owing = last_owed (omega (arith, ltb-false (taken + 1) count e)); sound = called_sound h }

    noded_pays : Holding t m r → (f : Frame) → Front w line f → Pays awaited t ps os m r line w (noded coming count taken at f line t ps os m r)
    unfolding noded
    noded_pays h (frame.Rule a) z = ends awaited 14 line (nodes_first (frame.Rule a) z)
    noded_pays h (frame.Node p o) z = node_pays p o z h (ltb (taken + 1) count) refl
    noded_pays h (frame.Point a b) z = ends awaited 14 line (nodes_first (frame.Point a b) z)
    noded_pays h (frame.Change a) z = ends awaited 14 line (nodes_first (frame.Change a) z)
    noded_pays h frame.Dump z = ends awaited 14 line (nodes_first frame.Dump z)
    noded_pays h (frame.Refused refusal own) z = ends awaited (number_of refusal) own (nodes_first (frame.Refused refusal own) z)
    noded_pays h frame.Over z = absurd (z.some refl)

-- ---- a line, by what is waited for

pub line_pays : LinePays
unfolding hearing
line_pays (Table x) t ps os m r line w on sound room long owns_long h =
    tabled_pays t ps os m r line w h.some x sound.1 (frame_at w 0 line).frame (front w line h) sound.0 room
line_pays Command t ps os m r line w on sound room long owns_long h = commanded_pays t ps os m r line w h.some sound (frame_at w 0 line).frame (bounded w 0 line) (front w line h)
line_pays (Naming count taken at) t ps os m r line w on sound room long owns_long h =
    pointed_pays t ps os m r line w h.some count taken at sound.1 owns_long sound.0 (frame_at w 0 line).frame (bounded w 0 line) (front w line h)
line_pays (NodesOf coming count taken at) t ps os m r line w on sound room long owns_long h =
    noded_pays t ps os m r line w h.some coming count taken at sound.1 long (omega arith) sound.0 (frame_at w 0 line).frame (front w line h)
line_pays (Working n) t ps os m r line w on sound room long owns_long h = absurd (true≢false (sym on))
line_pays Stopped t ps os m r line w on sound room long owns_long h = record { owing = λ u. nothing_owed t ps os m r line (w ++ u) ∙ sym (nothing_owed t ps os m r (line_after line) u); sound = tt }
