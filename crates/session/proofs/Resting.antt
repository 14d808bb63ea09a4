-- What is known between two commands, and the number that each command gets there. Assumes nothing.
use mathlib.Core.Path.{◌≡◌, refl, ap, ◌∙◌}
use mathlib.Core.Bool.{true, false}
use mathlib.Core.Logic.{⊎_elim}
use mathlib.Core.List.{List, [], ◌∷◌}
use Prim.Native.Nat.{ℕ, zero, suc, ◌+◌, ◌-◌, ◌≤◌, ◌<◌}
use native.Mathlib.Omega.{arith}
use borrow.Author.Tests.{lt-ltb, le-ltb}
use lib.ListN.{length, length-replicate}
use Rattle.text_line.proofs.Values.{lt_or_ge}
use Rattle.table.specs.Judge.{judge_table}
use Rattle.tree.specs.Tree.{judge_nodes, judge_tree}
use Rattle.tree.specs.Points.{Part, nodes_row, leaving_row, coming_row, overlaps}
use Rattle.tree.proofs.Points.{all_rows}
use Rattle.climb.proofs.Lists.{either}
use Rattle.wire.specs.Waivers.{waives}
use Rattle.wire.proofs.Waivers.{every_tree_waives}
use Rattle.update.specs.declared.Record.{Record}
use Rattle.update.specs.Records.{is_open_kind, beyond, shut, empty_record}
use Rattle.update.specs.Memories.{Memory, nodes_of}
use Rattle.update.specs.Refusals as tests
use Rattle.refusal.specs.Orders.{above, judged as judgement, refusal_by}
use Rattle.update.specs.Refusals.{short, held_refusal, load_refusal, missing, nodes_left, parts_refusal, points_refusal, waiver_order, look_order, Counted}
use Rattle.update.proofs.Within.{short_means, all_shut}
use Rattle.update.proofs.Ready.{tree_sound}
use Rattle.update.proofs.Asking.{miscounted_means, counted_means, missing_means, present_means, overlap_means, apart_means, tests_row}
use Rattle.demands.specs.Engine.{ours}
use Rattle.demands.specs.History.{History}
use Rattle.demands.specs.Demands.{FinishedState}
use Rattle.demands.proofs.Ours.{ours_2}
use Rattle.session.specs.Session.{own_memory}
use Rattle.session.specs.Commands.{TreeHeld, no_tree, tree, Between, at_first, behind_history, TreeNumber, misshapen, waived, sound, LoadNumber, ReplaceNumber, miscounted, too_many, judged, absent, outside, meeting}

-- ---- behind a history

pub finished_state : {t ns owns : List ℕ} {r : Record} {m : Memory} → History ours t ns owns r m → FinishedState ours t ns owns r m
finished_state {t} {ns} {owns} {r} {m} h = ours_2.holds t ns owns r m h

-- ---- the memory is long enough, the record within its limits, and no update is open

pub record Idle (r : Record) (m : Memory) : Type 0 where
  pub long : short m ≡ false
  pub within : beyond r ≡ false
  pub idle : is_open_kind r.«open» ≡ false

own_long : short own_memory ≡ false
unfolding own_memory
own_long = (short_means own_memory).1 (record {
  productions = omega (arith, length-replicate {A = ℕ} 512 0);
  owns = omega (arith, length-replicate {A = ℕ} 512 0);
  sets = omega (arith, length-replicate {A = ℕ} 4096 0);
  earlier = omega (arith, length-replicate {A = ℕ} 4096 0);
})

pub rests : {t : List ℕ} {h : TreeHeld} {r : Record} {m : Memory} → Between t h r m → Idle r m
unfolding empty_record
rests at_first = record { long = own_long; within = (all_shut false 0).within (omega arith); idle = (all_shut false 0).closed }
rests {m = m} (behind_history {ns = ns} h) =
    let q = finished_state h in
    record {
      long = q.room;
      within = ap beyond q.closed ∙ (all_shut true (length ns)).within q.sound.few;
      idle = ap (λ (k : Record). is_open_kind k.«open») q.closed ∙ (all_shut true (length ns)).closed;
    }

-- the tree that is held, as record and memory have it
pub record Kept (t ns owns : List ℕ) (r : Record) (m : Memory) : Type 0 where
  pub held : r.held ≡ true
  pub count : r.nodes ≡ length ns
  pub nodes : nodes_of m (length ns) ≡ ns
  pub sound : held_refusal t m r ≡ 0
  pub shape : judge_nodes t ns (0 ∷ []) ≡ 0

pub keeps : {t ns owns : List ℕ} {r : Record} {m : Memory} → FinishedState ours t ns owns r m → Kept t ns owns r m
unfolding shut
keeps {t} {ns} {owns} {r} {m} q =
    let n : r.nodes ≡ length ns = ap (λ (k : Record). k.nodes) q.closed in
    record { held = ap (λ (k : Record). k.held) q.closed; count = n; nodes = q.nodes; sound = rw (n, q.nodes, q.owned) q.sound.tree; shape = tree_sound t ns owns 0 q.sound.tree }

none_held : empty_record.held ≡ false
unfolding empty_record shut
none_held = refl

-- ---- the numbers

-- of a tree that is sound if what was handed over is
tree_number : (t ns : List ℕ) → judge_table t ≡ 0 → (handed : ℕ) → (handed ≡ 0 → judge_nodes t ns (0 ∷ []) ≡ 0)
    → TreeNumber t ns handed (refusal_by (judgement 6 7 handed ∷ waiver_order t ns))
unfolding refusal_by
tree_number t ns table zero f = ⊎_elim
    (λ (h : waives t ns ≡ true). rw h (waived refl ((every_tree_waives t ns table (f refl)).some.0 h)))
    (λ (h : waives t ns ≡ false). rw h (sound refl ((every_tree_waives t ns table (f refl)).none.0 h)))
    (either (waives t ns))
tree_number t ns table (suc n) f = misshapen (omega arith)

module _ (t : List ℕ) {r : Record} {m : Memory} (i : Idle r m) (table : judge_table t ≡ 0) where
  pub load_number : (ns owns : List ℕ) → LoadNumber t ns owns (load_refusal t m r ns owns)
  unfolding load_refusal refusal_by
  load_number ns owns = rw (i.long, table, i.within, i.idle) (⊎_elim
      (λ (h : 512 < length ns). rw (lt-ltb 512 (length ns) h) (too_many h))
      (λ (h : length ns ≤ 512). rw (le-ltb 512 (length ns) h) (judged h (tree_number t ns table (judge_tree t ns owns 0) (tree_sound t ns owns 0))))
      (lt_or_ge 512 (length ns)))

  replace_miscounted : {h : TreeHeld} (ps : List Part) → tests.miscounted ps ≡ true → ReplaceNumber t ps h (points_refusal t m r ps)
  unfolding points_refusal refusal_by
  replace_miscounted ps c = rw (i.long, table, i.within, i.idle, c) (miscounted ((miscounted_means ps).0 c))

  replace_absent : r.held ≡ false → (ps : List Part) → tests.miscounted ps ≡ false → ReplaceNumber t ps no_tree (points_refusal t m r ps)
  unfolding points_refusal refusal_by
  replace_absent held ps c = rw (i.long, table, i.within, i.idle, c, held) (absent ((counted_means ps).0 c))

  -- points that are in the tree and lie apart
  replace_placed : {ns owns : List ℕ} → Kept t ns owns r m → (ps : List Part) → Counted ps → missing (length ns) ps ≡ false → overlaps t ns 0 ps ≡ false
      → ReplaceNumber t ps (tree ns owns) (refusal_by (above 8 512 (length ns - leaving_row t ns ps + coming_row ps) ∷ judgement 6 7 (parts_refusal t ns ps) ∷ waiver_order t (nodes_row t ns ps)))
  unfolding refusal_by
  replace_placed {ns} k ps c a o =
      let left : ℕ = length ns - leaving_row t ns ps + coming_row ps in
      let there = (present_means (length ns) ps).0 a in
      let apart = (apart_means t ns ps there).0 o in
      ⊎_elim
      (λ (l : 512 < left). rw (lt-ltb 512 left l) (too_many c there apart l))
      (λ (l : left ≤ 512). rw (le-ltb 512 left l) (judged c there apart l (tree_number t (nodes_row t ns ps) table (parts_refusal t ns ps)
      (λ e. (all_rows t ns 0 0 ps k.shape (tests_row t ns 0 ps a o e)).sound)))) (lt_or_ge 512 left)

  replace_held : {ns owns : List ℕ} → Kept t ns owns r m → (ps : List Part) → tests.miscounted ps ≡ false → ReplaceNumber t ps (tree ns owns) (points_refusal t m r ps)
  unfolding points_refusal nodes_left refusal_by
  replace_held {ns} k ps c =
      let d = (counted_means ps).0 c in
      rw (i.long, table, i.within, i.idle, c, k.held, k.sound, k.count, k.nodes) (⊎_elim
      (λ (a : missing (length ns) ps ≡ true). rw a (outside d ((missing_means (length ns) ps).0 a)))
      (λ (a : missing (length ns) ps ≡ false). let there = (present_means (length ns) ps).0 a in rw a (⊎_elim
      (λ (o : overlaps t ns 0 ps ≡ true). rw o (meeting d there ((overlap_means t ns ps there).0 o)))
      (λ (o : overlaps t ns 0 ps ≡ false). rw o (replace_placed k ps d a o)) (either (overlaps t ns 0 ps))))
      (either (missing (length ns) ps)))

  dump_absent : r.held ≡ false → refusal_by (look_order t m r) ≡ 16
  unfolding refusal_by
  dump_absent held = rw (i.long, table, i.within, i.idle, held)

  dump_held : {ns owns : List ℕ} → Kept t ns owns r m → refusal_by (look_order t m r) ≡ 0
  unfolding refusal_by
  dump_held k = rw (i.long, table, i.within, i.idle, k.held, k.sound)

pub replace_number : {t : List ℕ} {h : TreeHeld} {r : Record} {m : Memory} → Between t h r m → judge_table t ≡ 0 → (ps : List Part)
    → ReplaceNumber t ps h (points_refusal t m r ps)
replace_number {t} {h} {r} {m} b table ps = ⊎_elim
    (λ (c : tests.miscounted ps ≡ true). replace_miscounted t (rests b) table ps c)
    (λ (c : tests.miscounted ps ≡ false). by_tree b c) (either (tests.miscounted ps))
  where
    by_tree : {h : TreeHeld} {r : Record} {m : Memory} → Between t h r m → tests.miscounted ps ≡ false → ReplaceNumber t ps h (points_refusal t m r ps)
    by_tree at_first c = replace_absent t (rests {t = t} at_first) table none_held ps c
    by_tree (behind_history a) c = replace_held t (rests (behind_history a)) table (keeps (finished_state a)) ps c

-- a dump's
abbrev pub dump_number : TreeHeld → ℕ
dump_number no_tree = 16
dump_number (tree ns owns) = 0

pub dump_number_lem : {t : List ℕ} {h : TreeHeld} {r : Record} {m : Memory} → Between t h r m → judge_table t ≡ 0 → refusal_by (look_order t m r) ≡ dump_number h
dump_number_lem {t} at_first table = dump_absent t (rests {t = t} at_first) table none_held
dump_number_lem {t} (behind_history h) table = dump_held t (rests (behind_history h)) table (keeps (finished_state h))
