-- A command of more nodes than a tree may have, or of more points than eight: it is refused, and by the same number whatever they are. Assumes nothing.
use mathlib.Core.Path.{◌≡◌, refl, ap, sym, ◌∙◌}
use mathlib.Core.Bool.{Bool, true, false, cond, not, ◌&&◌, ◌||◌}
use mathlib.Core.Logic.{⊎_elim}
use mathlib.Core.List.{List, [], ◌∷◌}
use Prim.Native.Nat.{ℕ, zero, suc, ◌+◌, ◌-◌, ◌≤◌, ◌<◌}
use native.Mathlib.Nat.{add-zero}
use native.Mathlib.Omega.{arith}
use borrow.Author.Tests.{lt-ltb, ne_eqb, eqb-true}
use lib.Dec.{eqb, leb, ltb}
use lib.ListN.{length, take, drop, replicate, length-drop, length-replicate}
use lib.Seq.{length-take-le}
use Rattle.text_line.proofs.Values.{lt_or_ge}
use Rattle.refusal.specs.Orders.{or_else, when, refusal_by}
use Rattle.refusal.proofs.Orders.{or_some}
use Rattle.table.specs.Judge.{judge_table}
use Rattle.tree.specs.declared.Point.{Point}
use Rattle.tree.specs.Replace.{part}
use Rattle.tree.specs.Points.{Part, leaving_row, coming_row, overlaps}
use Rattle.tree.specs.Handed.{places_from, announced, cut_row, bare_row, evenly, handed_row}
use Rattle.update.specs.declared.Record.{Record}
use Rattle.update.specs.Records.{is_open_kind, beyond}
use Rattle.update.specs.Memories.{Memory, nodes_of}
use Rattle.update.specs.Refusals.{short, held_refusal, load_refusal, miscounted, missing, nodes_left, points_refusal}
use Rattle.update.specs.Calls.{Said, Left, Opened, unless, load_call, replace_call, points_call}
use Rattle.update.proofs.Several.{one_point}
use Rattle.session_owed.specs.Owed.{order_call}
use Rattle.session_owed.specs.declared.Coming.{Coming}
use Rattle.session_owed.specs.declared.Coming.TheVariants.{Load, Replace, Several}
use Rattle.update_judge.proofs.Outlines.{bare_length}

-- a call that is refused doesn't look at what it would have done
refused_same : (n : ℕ) (r : Record) (m : Memory) (a b : Left (Said Opened)) → 0 < n → unless n r m a ≡ unless n r m b
refused_same zero r m a b h = absurd (omega arith)
refused_same (suc n) r m a b h = refl

-- ---- rows of parts

-- the same points, whatever their parts
record SamePoints (ps ps' : List Part) : Type 0 where
  pub count : length ps ≡ length ps'
  pub missing : (nodes : ℕ) → missing nodes ps ≡ missing nodes ps'
  pub overlaps : (t ns : List ℕ) (from : ℕ) → overlaps t ns from ps ≡ overlaps t ns from ps'

same_points : (ps : List Part) → SamePoints ps ps
same_points ps = record { count = refl; missing = λ nodes. refl; overlaps = λ t ns from. refl }

same_more : (point : ℕ) (ns owns ns' owns' : List ℕ) (ps ps' : List Part) → SamePoints ps ps'
    → SamePoints (record { point = point; nodes = ns; owns = owns } ∷ ps) (record { point = point; nodes = ns'; owns = owns' } ∷ ps')
unfolding missing overlaps
same_more point ns owns ns' owns' ps ps' s = record {
  count = ap suc s.count;
  missing = λ nodes. ap (λ (b : Bool). leb nodes point || b) (s.missing nodes);
  overlaps = λ t tree from. ap (λ (b : Bool). ltb point from || b) (s.overlaps t tree (point + part t tree point));
}

cut_same : (qs : List Point) (ns owns : List ℕ) → SamePoints (cut_row qs ns owns) (bare_row qs)
unfolding cut_row bare_row
cut_same [] ns owns = same_points []
cut_same (q ∷ qs) ns owns =
    same_more q.node (take q.count ns) (take q.count owns) (replicate q.count 0) [] _ _ (cut_same qs (drop q.count ns) (drop q.count owns))

bare_coming : (qs : List Point) → coming_row (bare_row qs) ≡ announced qs
unfolding coming_row bare_row announced
bare_coming [] = refl
bare_coming (q ∷ qs) = rw (length-replicate {A = ℕ} q.count 0, bare_coming qs)

cut_coming : (qs : List Point) (ns owns : List ℕ) → announced qs ≤ length ns → coming_row (cut_row qs ns owns) ≡ announced qs
unfolding coming_row cut_row announced
cut_coming [] ns owns h = refl
cut_coming (q ∷ qs) ns owns h =
    rw (length-take-le q.count ns (omega arith), cut_coming qs (drop q.count ns) (drop q.count owns) (omega (arith, length-drop q.count ns)))

one_coming : (p : Part) → coming_row (p ∷ []) ≡ length p.nodes
unfolding coming_row
one_coming p = add-zero (length p.nodes)

-- ---- what is handed in for points

record Handed (qs : List Point) (ps : List Part) : Type 0 where
  pub points : SamePoints ps (bare_row qs)
  pub coming : coming_row ps ≡ announced qs

handed_points : (qs : List Point) (ns owns : List ℕ) → Handed qs (handed_row qs ns owns)
unfolding handed_row evenly
handed_points qs ns owns = by_tests (eqb (length ns) (announced qs)) refl (eqb (length owns) (announced qs))
  where
    by_tests : (a : Bool) → eqb (length ns) (announced qs) ≡ a → (b : Bool) → Handed qs (cond (a && b) (cut_row qs ns owns) (bare_row qs))
    by_tests true e true = record { points = cut_same qs ns owns; coming = cut_coming qs ns owns (omega (arith, eqb-true (length ns) (announced qs) e)) }
    by_tests true e false = record { points = same_points (bare_row qs); coming = bare_coming qs }
    by_tests false e b = record { points = same_points (bare_row qs); coming = bare_coming qs }

-- where not as many nodes came as were announced
uneven : (qs : List Point) (ns owns : List ℕ) → (length ns ≡ announced qs → ⊥) → handed_row qs ns owns ≡ bare_row qs
unfolding handed_row evenly
uneven qs ns owns f = rw (ne_eqb (length ns) (announced qs) f)

handed_long : (qs : List Point) (ns owns : List ℕ) → length (handed_row qs ns owns) ≡ length qs
handed_long qs ns owns = (handed_points qs ns owns).points.count ∙ bare_length qs

-- ---- the calls

module _ (t : List ℕ) (m : Memory) (r : Record) where
  -- the numbers before 8, and 8
  abbrev load_many : ℕ
  load_many = or_else (when (short m) 15) (or_else (judge_table t) (or_else (when (beyond r) 11) (or_else (when (is_open_kind r.«open») 10) 8)))

  load_number : (ns owns : List ℕ) → 512 < length ns → load_refusal t m r ns owns ≡ load_many
  unfolding load_refusal refusal_by
  load_number ns owns h = rw (lt-ltb 512 (length ns) h)

  load_refused : 0 < load_many
  load_refused = or_some (when (short m) 15) _ (or_some (judge_table t) _ (or_some (when (beyond r) 11) _ (or_some (when (is_open_kind r.«open») 10) 8 (omega arith))))

  load_many_lem : (ns owns ns' owns' : List ℕ) → 512 < length ns → 512 < length ns' → load_call t m r ns owns ≡ load_call t m r ns' owns'
  unfolding load_call
  load_many_lem ns owns ns' owns' h k = rw (load_number ns owns h, load_number ns' owns' k) (refused_same load_many r m _ _ load_refused)

  -- ---- several points

  -- the numbers before 8, and 8: they depend on the points, not on the parts
  abbrev points_many : List Part → ℕ
  points_many ps =
      or_else (when (short m) 15) (or_else (judge_table t) (or_else (when (beyond r) 11) (or_else (when (is_open_kind r.«open») 10) (or_else (when (miscounted ps) 22)
      (or_else (when (not r.held) 16) (or_else (held_refusal t m r) (or_else (when (missing r.nodes ps) 9) (or_else (when (overlaps t (nodes_of m r.nodes) 0 ps) 23) 8))))))))

  points_number : (ps : List Part) → 512 < coming_row ps → points_refusal t m r ps ≡ points_many ps
  unfolding points_refusal nodes_left refusal_by
  points_number ps h =
      let l : 512 < r.nodes - leaving_row t (nodes_of m r.nodes) ps + coming_row ps = omega arith in
      rw (lt-ltb 512 (r.nodes - leaving_row t (nodes_of m r.nodes) ps + coming_row ps) l)

  points_refused : (ps : List Part) → 0 < points_many ps
  points_refused ps =
      or_some (when (short m) 15) _ (or_some (judge_table t) _ (or_some (when (beyond r) 11) _ (or_some (when (is_open_kind r.«open») 10) _ (or_some (when (miscounted ps) 22) _
      (or_some (when (not r.held) 16) _ (or_some (held_refusal t m r) _ (or_some (when (missing r.nodes ps) 9) _
      (or_some (when (overlaps t (nodes_of m r.nodes) 0 ps) 23) 8 (omega arith)))))))))

  -- parts at the same points, where more nodes come than a tree may have
  row_many : (ps ps' : List Part) → SamePoints ps ps' → 512 < coming_row ps → 512 < coming_row ps' → points_call t m r ps ≡ points_call t m r ps'
  unfolding points_call miscounted
  row_many ps ps' s h k =
      rw (points_number ps h, points_number ps' k, s.count, s.missing r.nodes, s.overlaps t (nodes_of m r.nodes) 0)
      (refused_same (points_many ps') r m _ _ (points_refused ps'))

  -- what is handed in for the points qs, where more nodes came than a tree may have: so many were announced, or not as many as came
  pub handed_many : (qs : List Point) (ns owns ns' owns' : List ℕ) → 512 < length ns → 512 < length ns'
      → points_call t m r (handed_row qs ns owns) ≡ points_call t m r (handed_row qs ns' owns')
  handed_many qs ns owns ns' owns' h k =
      ⊎_elim
      (λ (l : announced qs < 513). rw (uneven qs ns owns (omega arith), uneven qs ns' owns' (omega arith)))
      (λ (l : 513 ≤ announced qs).
      let a = handed_points qs ns owns in
      let b = handed_points qs ns' owns' in
      row_many (handed_row qs ns owns) (bare_row qs) a.points (omega (arith, a.coming)) (omega (arith, bare_coming qs))
      ∙ sym (row_many (handed_row qs ns' owns') (bare_row qs) b.points (omega (arith, b.coming)) (omega (arith, bare_coming qs))))
      (lt_or_ge (announced qs) 513)

  -- ---- more than eight points

  abbrev too_many : ℕ
  too_many = or_else (when (short m) 15) (or_else (judge_table t) (or_else (when (beyond r) 11) (or_else (when (is_open_kind r.«open») 10) 22)))

  nine_number : (ps : List Part) → 8 < length ps → points_refusal t m r ps ≡ too_many
  unfolding points_refusal miscounted refusal_by
  nine_number ps h = rw (ne_eqb (length ps) 0 (λ e. omega arith), lt-ltb 8 (length ps) h)

  nine_refused : 0 < too_many
  nine_refused = or_some (when (short m) 15) _ (or_some (judge_table t) _ (or_some (when (beyond r) 11) _ (or_some (when (is_open_kind r.«open») 10) 22 (omega arith))))

  -- they are refused by the same number whatever they are
  pub nine_points : (qs qs' : List Point) (ns owns : List ℕ) → 8 < length qs → 8 < length qs' → points_call t m r (handed_row qs ns owns) ≡ points_call t m r (handed_row qs' ns owns)
  unfolding points_call
  nine_points qs qs' ns owns h k =
      rw (nine_number (handed_row qs ns owns) (omega (arith, handed_long qs ns owns)), nine_number (handed_row qs' ns owns) (omega (arith, handed_long qs' ns owns)))
      (refused_same too_many r m _ _ nine_refused)

  -- ---- each command

  replace_many : (point : ℕ) (ns owns ns' owns' : List ℕ) → 512 < length ns → 512 < length ns' → replace_call t m r point ns owns ≡ replace_call t m r point ns' owns'
  replace_many point ns owns ns' owns' h k =
      let p : Part = record { point = point; nodes = ns; owns = owns } in
      let p' : Part = record { point = point; nodes = ns'; owns = owns' } in
      sym (one_point t m r p) ∙ row_many (p ∷ []) (p' ∷ []) (same_more point ns owns ns' owns' [] [] (same_points [])) (omega (arith, one_coming p)) (omega (arith, one_coming p')) ∙ one_point t m r p'

  pub order_many : (coming : Coming) (qs : List Point) (ns owns ns' owns' : List ℕ) → 512 < length ns → 512 < length ns' → order_call coming qs t m r ns owns ≡ order_call coming qs t m r ns' owns'
  order_many Load qs ns owns ns' owns' h k = load_many_lem ns owns ns' owns' h k
  order_many (Replace point) qs ns owns ns' owns' h k = replace_many point ns owns ns' owns' h k
  order_many (Several n) qs ns owns ns' owns' h k = handed_many (places_from 0 n qs) ns owns ns' owns' h k
