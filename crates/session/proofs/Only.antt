-- No text but what the definition of a session computes is one. Assumes nothing.
use mathlib.Core.Path.{◌≡◌, refl, sym, ap, ◌∙◌, subst}
use mathlib.Core.Bool.{true, false, true≢false}
use mathlib.Core.Logic.{inl, inr}
use mathlib.Core.List.{List, ◌++◌}
use Prim.Native.Nat.{ℕ, zero, suc, ◌+◌, ◌≤◌, ◌<◌}
use native.Mathlib.Omega.{arith}
use lib.ListN.{length}
use Rattle.tree.specs.declared.Point.{Point}
use Rattle.tree.specs.Points.{Part, nodes_row, owns_row, points_row}
use Rattle.climb.specs.System.{Assignment, graph_of}
use Rattle.wire.specs.Instances.{system}
use Rattle.update.specs.declared.Record.{Record}
use Rattle.update.specs.Records.{empty_record}
use Rattle.update.specs.Memories.{Memory}
use Rattle.update.specs.Refusals.{Miscounted, Counted, Missing, Present}
use Rattle.update.specs.Refused.{Leaves}
use Rattle.update.specs.Calls.{Said, Left, leaving, Opened, is_open, load_call}
use Rattle.update.proofs.Refusing.{all_leave}
use Rattle.demands.specs.Asked.{new_rule, surviving, value_before}
use Rattle.demands.proofs.Updating.{one_least}
use Rattle.demands.proofs.Circles.{one_by_rank}
use Rattle.text_frame.specs.Frames.{frame_at}
use Rattle.text_frame.specs.Out.{refusal_text}
use Rattle.text_frame.specs.declared.Frame.{Frame}
use Rattle.text_frame.specs.declared.Frame.TheVariants.{Rule, Node, Point as PointFrame, Change, Dump, Refused, Over}
use Rattle.text_frame.specs.declared.Change.TheVariants.{Load}
use Rattle.text_table.specs.Reading.{Reading, reading_at}
use Rattle.text_table.specs.Refused.{TableRead}
use Rattle.text_table.proofs.Refusing.{table_exactly}
use Rattle.text_table.proofs.Passing.{frame_on, none_left}
use Rattle.text_tree.specs.Planting.{good}
use Rattle.session.specs.Session.{Told, opened_then, to_done, dump_told, and_on, command, commands_from, own_memory, after_table, session}
use Rattle.session.specs.Lines.{LoadText, ReplacementText, UpdateText, SetsText}
use Rattle.session.specs.Commands.{TreeHeld, no_tree, tree, Between, at_first, behind_history, TreeNumber, misshapen, waived, sound, LoadNumber, ReplaceNumber, miscounted, too_many, judged, absent, outside, meeting, CommandAt, Command, load_refused, loads, replacement_refused, replaces, dump_refused, dumps, out_of_place, Stops, over, bad_line, misplaced, bad_load, bad_replacement, Commands, stops, goes_on, no_table, runs, OnlySession}
use Rattle.session.proofs.Reading.{TableKept, table_kept}
use Rattle.session.proofs.Resting.{rests, load_number, replace_number, dump_number_lem}
use Rattle.session.proofs.Updates.{load_carried, replacement_carried}
use Rattle.session.proofs.Rows.{row_behind, row_here, row_stops}
use Rattle.session.proofs.Texts.{one_update, one_dump}
use Rattle.session.proofs.Commands.{opens, nodes_behind, sets_text}

-- ---- the numbers

one_tree : {t ns : List ℕ} {handed a b : ℕ} → TreeNumber t ns handed a → TreeNumber t ns handed b → a ≡ b
one_tree (misshapen h) (misshapen k) = refl
one_tree (misshapen h) (waived z w) = absurd (omega arith)
one_tree (misshapen h) (sound z f) = absurd (omega arith)
one_tree (waived z w) (misshapen h) = absurd (omega arith)
one_tree (waived z w) (waived y v) = refl
one_tree (waived z w) (sound y f) = absurd (f w)
one_tree (sound z f) (misshapen h) = absurd (omega arith)
one_tree (sound z f) (waived y w) = absurd (f w)
one_tree (sound z f) (sound y g) = refl

one_load : {t ns owns : List ℕ} {a b : ℕ} → LoadNumber t ns owns a → LoadNumber t ns owns b → a ≡ b
one_load (too_many h) (too_many k) = refl
one_load (too_many h) (judged k e) = absurd (omega arith)
one_load (judged h e) (too_many k) = absurd (omega arith)
one_load (judged h e) (judged k f) = one_tree e f

-- the tests of the points shut each other out
uncounted : (ps : List Part) → Miscounted ps → Counted ps → ⊥
uncounted ps (inl e) c = omega (arith, c.0)
uncounted ps (inr l) c = omega (arith, c.1)

unmissed : (nodes : ℕ) (ps : List Part) → Missing nodes ps → Present nodes ps → ⊥
unmissed nodes ps m p = omega (arith, p m.0 m.1, m.2)

one_replacement : {t : List ℕ} (ps : List Part) {a b : ℕ} {h : TreeHeld} → ReplaceNumber t ps h a → ReplaceNumber t ps h b → a ≡ b
one_replacement ps (miscounted c) (miscounted d) = refl
one_replacement ps (miscounted c) (absent d) = absurd (uncounted ps c d)
one_replacement ps (miscounted c) (outside d k) = absurd (uncounted ps c d)
one_replacement ps (miscounted c) (meeting d p o) = absurd (uncounted ps c d)
one_replacement ps (miscounted c) (too_many d p o l) = absurd (uncounted ps c d)
one_replacement ps (miscounted c) (judged d p o l e) = absurd (uncounted ps c d)
one_replacement ps (absent c) (miscounted d) = absurd (uncounted ps d c)
one_replacement ps (absent c) (absent d) = refl
one_replacement ps (outside c k) (miscounted d) = absurd (uncounted ps d c)
one_replacement ps (outside c k) (outside d j) = refl
one_replacement ps (outside c k) (meeting d p o) = absurd (unmissed _ ps k p)
one_replacement ps (outside c k) (too_many d p o l) = absurd (unmissed _ ps k p)
one_replacement ps (outside c k) (judged d p o l e) = absurd (unmissed _ ps k p)
one_replacement ps (meeting c p o) (miscounted d) = absurd (uncounted ps d c)
one_replacement ps (meeting c p o) (outside d k) = absurd (unmissed _ ps k p)
one_replacement ps (meeting c p o) (meeting d q x) = refl
one_replacement ps (meeting c p o) (too_many d q x l) = absurd (x o)
one_replacement ps (meeting c p o) (judged d q x l e) = absurd (x o)
one_replacement ps (too_many c p o l) (miscounted d) = absurd (uncounted ps d c)
one_replacement ps (too_many c p o l) (outside d k) = absurd (unmissed _ ps k p)
one_replacement ps (too_many c p o l) (meeting d q x) = absurd (o x)
one_replacement ps (too_many c p o l) (too_many d q x k) = refl
one_replacement ps (too_many c p o l) (judged d q x k e) = absurd (omega arith)
one_replacement ps (judged c p o l e) (miscounted d) = absurd (uncounted ps d c)
one_replacement ps (judged c p o l e) (outside d k) = absurd (unmissed _ ps k p)
one_replacement ps (judged c p o l e) (meeting d q x) = absurd (o x)
one_replacement ps (judged c p o l e) (too_many d q x k) = absurd (omega arith)
one_replacement ps (judged c p o l e) (judged d q x k f) = one_tree e f

-- ---- a call by its number, as it is told

told_refused : (t : List ℕ) (line : ℕ) {n k : ℕ} {r : Record} {m : Memory} {left : Left (Said Opened)} → Leaves k r m left → k ≡ n → 0 < n
    → opened_then line t left ≡ record { text = refusal_text n line; next = r; memory = m }
told_refused t line {r = r} {m} {left} l e some = ap (opened_then line t) ((subst (λ (k : ℕ). Leaves k r m left) e l).refused some)

told_opened : (t : List ℕ) (line : ℕ) {k : ℕ} {r : Record} {m : Memory} {left : Left (Said Opened)} → Leaves k r m left → k ≡ 0
    → (left ≡ leaving is_open left.next left.memory) × (opened_then line t left ≡ to_done t left.next left.memory)
told_opened t line {r = r} {m} {left} l e =
    let o = opens (subst (λ (k : ℕ). Leaves k r m left) e l) in
    (o, ap (opened_then line t) o)

-- ---- the commands

misplaced_prints : (s t : List ℕ) (f : Frame) (line place next : ℕ) (r : Record) (m : Memory) (go : ℕ → ℕ → Record → Memory → List ℕ) → out_of_place f ≡ true
    → refusal_text 14 line ≡ command s t f line place next r m go
misplaced_prints s t (Rule a) line place next r m go e = refl
misplaced_prints s t (Node a b) line place next r m go e = refl
misplaced_prints s t (PointFrame a b) line place next r m go e = refl
misplaced_prints s t (Change a) line place next r m go e = absurd (true≢false (sym e))
misplaced_prints s t Dump line place next r m go e = absurd (true≢false (sym e))
misplaced_prints s t (Refused a b) line place next r m go e = absurd (true≢false (sym e))
misplaced_prints s t Over line place next r m go e = absurd (true≢false (sym e))

module _ (s t : List ℕ) (q : TableKept t) where
  -- the first of at most n commands, and k behind it
  record Turned (n place line : ℕ) (r : Record) (m : Memory) : Type 0 where
    k : ℕ
    is : commands_from n s t place line r m ≡ command s t (frame_at s place line).frame line (frame_at s place line).place (frame_at s place line).line r m (commands_from k s t)
    left : (place' : ℕ) → place < place' → length s ≤ k + place'

  turned : (n place line : ℕ) (r : Record) (m : Memory) → length s ≤ n + place → Turned n place line r m
  unfolding commands_from
  turned zero place line r m enough = record { k = 0; is = rw (none_left s place line (omega arith)); left = λ place' l. omega arith }
  turned (suc n) place line r m enough = record { k = n; is = refl; left = λ place' l. omega arith }

  module _ (place line : ℕ) (r : Record) (m : Memory) (go : ℕ → ℕ → Record → Memory → List ℕ) where
    -- the command at the place, as the definition tells it
    abbrev told_here : List ℕ
    told_here = command s t (frame_at s place line).frame line (frame_at s place line).place (frame_at s place line).line r m go

    stop_only : {text : List ℕ} → Stops s place line text → text ≡ told_here
    stop_only (over e) = rw e
    stop_only (bad_line e) = rw e
    stop_only (misplaced e) = misplaced_prints s t (frame_at s place line).frame line (frame_at s place line).place (frame_at s place line).line r m go e
    stop_only (bad_load c) = rw (c.frame, c.found)
    stop_only (bad_replacement c) = row_stops t r m go c

    load_here : {ns owns : List ℕ} {place' line' : ℕ} → CommandAt s place line Load (good ns owns place' line') → told_here ≡ and_on (opened_then line t (load_call t m r ns owns)) place' line' go
    load_here c = rw (c.frame, c.found)

    dump_here : (frame_at s place line).frame ≡ Dump → told_here ≡ (dump_told line t r m).text ++ go (frame_at s place line).place (frame_at s place line).line r m
    unfolding dump_told
    dump_here e = rw e

    -- what is told, and then what goes on
    told_on : {told then : Told} {text rest : List ℕ} (place' line' : ℕ) → told ≡ then → text ≡ then.text → rest ≡ go place' line' then.next then.memory
        → text ++ rest ≡ and_on told place' line' go
    told_on place' line' e f g = rw (e, f, g)

  -- what goes on behind a command with the tree h
  abbrev Rest : (ℕ → ℕ → Record → Memory → List ℕ) → List ℕ → ℕ → ℕ → ℕ → TreeHeld → Type 0
  Rest go rest place place' line' h = (r : Record) (m : Memory) → Between t h r m → place < place' → rest ≡ go place' line' r m

  -- the text of an update is determined
  load_only : (ns owns : List ℕ) {a b : List ℕ} → LoadText t ns owns a → LoadText t ns owns b → a ≡ b
  load_only ns owns p told = one_update (system t ns owns) (λ x. true) (λ x. false) (λ x. 0) (one_by_rank (graph_of (system t ns owns))) p told

  replacement_only : {ns owns a b : List ℕ} {ps : List Part} → ReplacementText t ns owns ps a → ReplacementText t ns owns ps b → a ≡ b
  replacement_only {ns} {owns} {a} {b} {ps} p told =
      let ns' : List ℕ = nodes_row t ns ps in
      let qs : List Point = points_row t ns ps in
      let S = system t ns' (owns_row t ns owns ps) in
      let e : p.old ≡ told.old = one_least (system t ns owns) p.old told.old p.least told.least in
      let u = subst (λ (v : Assignment). UpdateText S (new_rule t ns' qs) (surviving qs) (value_before t ns ps v) a) e p.update in
      one_update S (new_rule t ns' qs) (surviving qs) (value_before t ns ps told.old) (one_by_rank (graph_of S)) u told.update

  none_dumped : {r : Record} {m : Memory} (line : ℕ) → Between t no_tree r m → (dump_told line t r m).text ≡ refusal_text 16 line
  unfolding dump_told
  none_dumped line b = rw (dump_number_lem b q.sound)

  sets_dumped : {ns owns : List ℕ} {r : Record} {m : Memory} (line : ℕ) → Between t (tree ns owns) r m → SetsText t ns owns (dump_told line t r m).text
  unfolding dump_told
  sets_dumped line (behind_history a) = rw (dump_number_lem (behind_history a) q.sound) (sets_text a)

  command_only : {place line place' line' : ℕ} {h h' : TreeHeld} {r r₀ r' : Record} {m m₀ m' : Memory} {text rest : List ℕ} (go : ℕ → ℕ → Record → Memory → List ℕ)
      → Command s t place line h r₀ m₀ text place' line' h' r' m' → Between t h r m → Rest go rest place place' line' h' → text ++ rest ≡ told_here place line r m go
  command_only {place} {line} {place'} {line'} {h} {r = r} {m = m} go (load_refused {ns = ns} {owns} c num some) b on =
      let e = one_load (load_number t (rests b) q.sound ns owns) num in
      let f = nodes_behind c (rw c.frame (omega arith)) in
      told_on place line r m go place' line' (told_refused t line ((all_leave t m r).load ns owns) e some) refl (on r m b f.1) ∙ sym (load_here place line r m go c)
  command_only {place} {line} {place'} {line'} {r = r} {m = m} go (loads {ns = ns} {owns} c num done text) b on =
      let e = one_load (load_number t (rests b) q.sound ns owns) num in
      let f = nodes_behind c (rw c.frame (omega arith)) in
      let o = told_opened t line ((all_leave t m r).load ns owns) e in
      let d = load_carried t ns owns r _ m _ q.words f.0 o.0 in
      told_on place line r m go place' line' o.1 (load_only ns owns text d.text) (on _ _ (behind_history d.done.history) f.1)
      ∙ sym (load_here place line r m go c)
  command_only {place} {line} {place'} {line'} {r = r} {m = m} go (replacement_refused {ps = ps} c num some) b on =
      let e = one_replacement ps (replace_number b q.sound ps) num in
      told_on place line r m go place' line' (told_refused t line ((all_leave t m r).points ps) e some) refl (on r m b (row_behind c).1)
      ∙ sym (row_here t r m go c)
  command_only {place} {line} {place'} {line'} {r = r} {m = m} go (replaces {ns = ns} {owns} {ps = ps} c num done text) (behind_history a) on =
      let e = one_replacement ps (replace_number (behind_history a) q.sound ps) num in
      let f = row_behind c in
      let o = told_opened t line ((all_leave t m r).points ps) e in
      let d = replacement_carried t ns owns r _ m _ a ps f.0 o.0 in
      told_on place line r m go place' line' o.1 (replacement_only text d.text) (on _ _ (behind_history d.done.history) f.1)
      ∙ sym (row_here t r m go c)
  command_only {place} {line} {r = r} {m = m} go (dump_refused e) b on =
      let g = on r m b (frame_on s place line (rw e (omega arith))) in
      rw (dump_here place line r m go e, none_dumped line b, g)
  command_only {place} {line} {r = r} {m = m} go (dumps e text) b on =
      let g = on r m b (frame_on s place line (rw e (omega arith))) in
      rw (dump_here place line r m go e, one_dump text (sets_dumped line b), g)

  commands_only : {place line : ℕ} {h : TreeHeld} {r₀ : Record} {m₀ : Memory} {text : List ℕ} → Commands s t place line h r₀ m₀ text
      → (n : ℕ) (r : Record) (m : Memory) → Between t h r m → length s ≤ n + place → text ≡ commands_from n s t place line r m
  commands_only {place} {line} (stops x) n r m b enough =
      let w = turned n place line r m enough in
      stop_only place line r m (commands_from w.k s t) x ∙ sym w.is
  commands_only {place} {line} (goes_on {place' = place'} {line'} c b' rest) n r m b enough =
      let w = turned n place line r m enough in
      command_only (commands_from w.k s t) c b (λ r₁ m₁ b₁ further. commands_only rest w.k r₁ m₁ b₁ (w.left place' further)) ∙ sym w.is

-- ---- the session

reading_is : {s : List ℕ} {a : Reading} → TableRead s 0 1 a → a ≡ reading_at s 0 1
reading_is {s} {a} f = (table_exactly s 0 1 a).1 f

pub only_session : OnlySession
unfolding session
only_session s text (no_table f) = ap (after_table s) (reading_is f)
only_session s text (runs {place = place} {line} f c) =
    commands_only s _ (table_kept f) c (length s) empty_record own_memory at_first (omega arith) ∙ ap (after_table s) (reading_is f)
