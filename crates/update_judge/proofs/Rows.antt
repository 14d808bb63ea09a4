-- A replacement's numbers at several points, as code finds them one behind the other. Assumes nothing.
use mathlib.Core.Path.{◌≡◌, sym, ap, ◌∙◌, subst}
use mathlib.Core.Bool.{true, false}
use mathlib.Core.Logic.{⊎_elim}
use mathlib.Core.List.{List, [], ◌∷◌, ◌++◌}
use Prim.Native.Nat.{ℕ, ◌+◌, ◌-◌, ◌≤◌, ◌<◌, min}
use native.Mathlib.Omega.{arith}
use lib.Dec.{eqb, ltb}
use lib.ListN.{length}
use borrow.Author.Tests.{eq-eqb, ne_eqb, eqb-false, lt-ltb, le-ltb, ltb-false}
use Rattle.refusal.specs.Numbers.{number_of}
use Rattle.refusal.specs.declared.Refusal.{Refusal}
use Rattle.tree.specs.declared.Point.{Point}
use Rattle.tree.specs.declared.Places.{Places}
use Rattle.tree.specs.declared.Cuts.{Cuts}
use Rattle.tree.specs.Tree.{judge_nodes}
use Rattle.tree.specs.Points.{Part, Row, nodes_row, points_row, leaving_row, coming_row, overlaps}
use Rattle.tree.proofs.Points.{all_rows}
use Rattle.tree.specs.Handed.{named_points, announced, cut_row, bare_row, evenly, handed_row}
use Rattle.climb.proofs.Lists.{either, or_false_is}
use Rattle.update_place.specs.Inner.Splicing.{Splicing}
use Rattle.update.specs.declared.Record.{Record}
use Rattle.update.specs.Records.{is_open_kind}
use Rattle.update.specs.Memories.{Memory, lent}
use Rattle.refusal.specs.Orders.{unless, Order, refusal_by}
use Rattle.update.specs.Refusals.{miscounted, missing, parts_refusal, ground_order, held_order, asked_order, aim_order, point_check}
use Rattle.update.proofs.Asking.{counted_means, tests_row}
use Rattle.update.proofs.Refusing.{asked_right}
use Rattle.update_judge.specs.Inner.Cuts.{named_cuts, meeting, leaving, coming, judge_cuts, shifted, Aimed}
use Rattle.update_judge.specs.Order.{named_order, fit_order}
use Rattle.update_judge.proofs.Orders.{row_meets, row_passes, row_parts, fits}
use Rattle.update_judge.proofs.Outlines.{Even, even_back, uneven, handed_even, handed_outlined, outlined_length, outlined_missing, outlined_meets, outlined_leaving, outlined_coming, outlined_shifted, announced_coming, even_judge, uneven_seven, bare_length, bare_missing, cuts_are}
use Rattle.update_judge.proofs.Walks.{places_length}
use Rattle.refusal.proofs.Orders.{order_gives, past, stopped}
use Rattle.refusal.proofs.Distinct.{handed_number}
use Rattle.update_judge.proofs.Orders.{ground_table, ground_nodes}
use Rattle.update_judge.proofs.Outlines.{missing_named}

-- ---- 10 and 22

pub named_count : (points : Places) → length (bare_row (named_points points)) ≡ points.count
named_count points = bare_length (named_points points) ∙ places_length 0 points.count points.points

module _ (r : Record) (points : Places) where
  abbrev asked : ℕ
  asked = refusal_by (asked_order r (bare_row (named_points points)))

  pub asked_open : is_open_kind r.«open» ≡ true → 10 ≡ asked
  unfolding refusal_by
  asked_open o = rw o

  pub asked_none : is_open_kind r.«open» ≡ false → points.count ≡ 0 → 22 ≡ asked
  unfolding refusal_by miscounted
  asked_none o e = rw (o, named_count points, eq-eqb points.count 0 e)

  pub asked_many : is_open_kind r.«open» ≡ false → (points.count ≡ 0 → ⊥) → 8 < points.count → 22 ≡ asked
  unfolding refusal_by miscounted
  asked_many o n h = rw (o, named_count points, ne_eqb points.count 0 n, lt-ltb 8 points.count h)

  pub asked_some : is_open_kind r.«open» ≡ false → (points.count ≡ 0 → ⊥) → points.count ≤ 8 → 0 ≡ asked
  unfolding refusal_by miscounted
  asked_some o n h = rw (o, named_count points, ne_eqb points.count 0 n, le-ltb 8 points.count h)

-- as many points as may be
pub record Counted (n : ℕ) : Type 0 where
  pub some : 0 < n
  pub few : n ≤ 8

pub counted : (points : Places) → miscounted (bare_row (named_points points)) ≡ false → Counted points.count
unfolding miscounted
counted points e =
    let l = named_count points in
    let a = or_false_is {a = eqb (length (bare_row (named_points points))) 0} e in
    let b : (length (bare_row (named_points points)) ≡ 0) → ⊥ = eqb-false (length (bare_row (named_points points))) 0 a.0 in
    record { some = omega arith; few = omega (arith, ltb-false 8 (length (bare_row (named_points points))) a.1) }

asked_counted : (r : Record) (points : Places) → refusal_by (asked_order r (bare_row (named_points points))) ≡ 0 → miscounted (bare_row (named_points points)) ≡ false
asked_counted r points h =
    let ps = bare_row (named_points points) in
    (counted_means ps).1 ((order_gives (asked_order r ps) (asked_right r ps)).none.0 h).1

pub asked_few : (r : Record) (points : Places) → refusal_by (asked_order r (bare_row (named_points points))) ≡ 0 → Counted points.count
asked_few r points h = counted points (asked_counted r points h)

-- ---- and then 16 and 9

module _ (r : Record) (ps : List Part) where
  abbrev behind : Order
  behind = unless 16 r.held ∷ point_check r.nodes ps ∷ []

  pub named_absent : refusal_by (asked_order r ps) ≡ 0 → r.held ≡ false → 16 ≡ refusal_by (named_order r ps)
  unfolding refusal_by
  named_absent z h = sym (past (asked_order r ps) behind z ∙ rw h)

  pub named_missing : refusal_by (asked_order r ps) ≡ 0 → r.held ≡ true → missing r.nodes ps ≡ true → 9 ≡ refusal_by (named_order r ps)
  unfolding refusal_by
  named_missing z h e = sym (past (asked_order r ps) behind z ∙ rw (h, e))

  pub named_sound : refusal_by (asked_order r ps) ≡ 0 → r.held ≡ true → missing r.nodes ps ≡ false → 0 ≡ refusal_by (named_order r ps)
  unfolding refusal_by
  named_sound z h e = sym (past (asked_order r ps) behind z ∙ rw (h, e))

  pub named_stopped : (q : Refusal) → number_of q ≡ refusal_by (asked_order r ps) → number_of q ≡ refusal_by (named_order r ps)
  named_stopped q e = stopped (asked_order r ps) behind q e

-- ---- behind what comes first in every call

module _ (t held owns sets earlier : List ℕ) (r : Record) (ps : List Part) where
  abbrev ground : Order
  ground = ground_order t (lent held owns sets earlier) r

  pub aim_ground : (q : Refusal) → number_of q ≡ refusal_by ground → number_of q ≡ refusal_by (aim_order t (lent held owns sets earlier) r ps)
  aim_ground q e = stopped ground (asked_order r ps ++ held_order t held owns r) q e

  pub aim_asked : refusal_by ground ≡ 0 → (q : Refusal) → number_of q ≡ refusal_by (asked_order r ps) → number_of q ≡ refusal_by (aim_order t (lent held owns sets earlier) r ps)
  aim_asked g q e = stopped (asked_order r ps) (held_order t held owns r) q e ∙ sym (past ground (asked_order r ps ++ held_order t held owns r) g)

  pub aim_held : refusal_by ground ≡ 0 → refusal_by (asked_order r ps) ≡ 0 → refusal_by (held_order t held owns r) ≡ refusal_by (aim_order t (lent held owns sets earlier) r ps)
  aim_held g e = sym (past ground (asked_order r ps ++ held_order t held owns r) g ∙ past (asked_order r ps) (held_order t held owns r) e)

-- ---- these numbers look at points and counts alone

module _ (qs : List Point) (new new_owns : List ℕ) where
  counted_same : miscounted (bare_row qs) ≡ miscounted (handed_row qs new new_owns)
  unfolding miscounted
  counted_same = let e : length (bare_row qs) ≡ length (handed_row qs new new_owns) = bare_length qs ∙ sym (outlined_length (handed_outlined qs new new_owns)) in rw e

  missing_same : (nodes : ℕ) → missing nodes (bare_row qs) ≡ missing nodes (handed_row qs new new_owns)
  missing_same nodes = bare_missing nodes qs ∙ sym (outlined_missing nodes (handed_outlined qs new new_owns))

  pub aim_same : (t : List ℕ) (m : Memory) (r : Record) → refusal_by (aim_order t m r (bare_row qs)) ≡ refusal_by (aim_order t m r (handed_row qs new new_owns))
  unfolding refusal_by
  aim_same t m r = rw counted_same

  pub named_same : (r : Record) → refusal_by (named_order r (bare_row qs)) ≡ refusal_by (named_order r (handed_row qs new new_owns))
  unfolding refusal_by
  named_same r = rw (counted_same, missing_same r.nodes)

-- ---- 23, 8 and the parts'

module _ (t ns : List ℕ) (points : Places) (cs : Cuts) (new new_owns : List ℕ) (a : Aimed t ns points cs) where
  abbrev ps : List Part
  ps = handed_row (named_points points) new new_owns

  meets : overlaps t ns 0 ps ≡ meeting 0 (named_cuts cs)
  meets = outlined_meets t ns 0 (handed_outlined (named_points points) new new_owns) ∙ ap (meeting 0) (sym (cuts_are t ns (named_points points) cs a.cutting))

  leaves : leaving_row t ns ps ≡ leaving (named_cuts cs)
  leaves = outlined_leaving t ns (handed_outlined (named_points points) new new_owns) ∙ ap leaving (sym (cuts_are t ns (named_points points) cs a.cutting))

  comes : coming_row ps ≡ coming (named_cuts cs)
  comes = outlined_coming t ns (handed_outlined (named_points points) new new_owns) ∙ ap coming (sym (cuts_are t ns (named_points points) cs a.cutting))

  announces : announced (named_points points) ≡ coming (named_cuts cs)
  announces = announced_coming t ns (named_points points) ∙ ap coming (sym (cuts_are t ns (named_points points) cs a.cutting))

  absent_none : missing (length ns) ps ≡ false
  absent_none = outlined_missing (length ns) (handed_outlined (named_points points) new new_owns) ∙ sym (bare_missing (length ns) (named_points points)) ∙ a.inside

  -- where none of these refuses, as many nodes and own sets came as are announced, and the tree can be built
  module _ (z : refusal_by (fit_order t ns (length ns) ps) ≡ 0) where
    none_uneven : evenly (named_points points) new new_owns ≡ true
    none_uneven = ⊎_elim
        (λ (e : evenly (named_points points) new new_owns ≡ true). e)
        (λ (e : evenly (named_points points) new new_owns ≡ false).
        let s = uneven_seven t ns (named_points points) new new_owns (omega (arith, a.some, places_length 0 points.count points.points)) e in
        let k = (fits t ns (length ns) ps z).sound in
        absurd (omega arith))
        (either (evenly (named_points points) new new_owns))

    pub handed_cut : ps ≡ cut_row (named_points points) new new_owns
    handed_cut = handed_even (named_points points) new new_owns none_uneven

    row : Row t ns 0 ps
    row = let k = fits t ns (length ns) ps z in tests_row t ns 0 ps absent_none k.apart k.sound

    pub left_few : length (nodes_row t ns ps) ≤ 512
    left_few = let law = all_rows t ns 0 0 ps a.tree row in let k = fits t ns (length ns) ps z in omega (arith, law.size, law.fits, k.few)

    pub left_count : length ns - leaving_row t ns ps + coming_row ps ≡ length (nodes_row t ns ps)
    left_count = let law = all_rows t ns 0 0 ps a.tree row in omega (arith, law.size, law.fits)

    pub left_sound : judge_nodes t (nodes_row t ns ps) (0 ∷ []) ≡ 0
    left_sound = (all_rows t ns 0 0 ps a.tree row).sound

    pub splices : (owns : List ℕ) → length owns ≡ length ns → Splicing t ns owns points cs new new_owns
    splices owns o = record {
      table = a.table;
      tree = a.tree;
      owned = o;
      cutting = a.cutting;
      even = none_uneven;
      row = subst (Row t ns 0) handed_cut row;
      few = subst (λ (qs : List Part). length (nodes_row t ns qs) ≤ 512) handed_cut left_few;
    }

    pub cuts_apart : meeting 0 (named_cuts cs) ≡ false
    cuts_apart = sym meets ∙ (fits t ns (length ns) ps z).apart

    pub cuts_few : coming (named_cuts cs) ≤ 512
    cuts_few = let k = (fits t ns (length ns) ps z).few in omega (arith, comes)

    -- the points in the new tree
    pub cuts_points : shifted 0 0 (named_cuts cs) ≡ points_row t ns ps
    cuts_points = ap (shifted 0 0) (cuts_are t ns (named_points points) cs a.cutting) ∙ sym (outlined_shifted t ns 0 0 (handed_outlined (named_points points) new new_owns))

  -- the count of the tree that they leave
  pub leaves_count : length ns - leaving_row t ns ps + coming_row ps ≡ length ns - leaving (named_cuts cs) + coming (named_cuts cs)
  leaves_count = rw (leaves, comes)

  pub cuts_meet : true ≡ meeting 0 (named_cuts cs) → 23 ≡ refusal_by (fit_order t ns (length ns) ps)
  cuts_meet e = row_meets t ns (length ns) ps (meets ∙ sym e)

  module _ (e : false ≡ meeting 0 (named_cuts cs)) where
    pub cuts_pass : true ≡ ltb 512 (length ns - leaving (named_cuts cs) + coming (named_cuts cs)) → 8 ≡ refusal_by (fit_order t ns (length ns) ps)
    cuts_pass h = row_passes t ns (length ns) ps (meets ∙ sym e) (ap (ltb 512) leaves_count ∙ sym h)

    module _ (h : false ≡ ltb 512 (length ns - leaving (named_cuts cs) + coming (named_cuts cs))) where
      few : coming (named_cuts cs) ≤ 512
      few = let l = ltb-false 512 (length ns - leaving (named_cuts cs) + coming (named_cuts cs)) (sym h) in omega arith

      parts : (k : ℕ) → k ≡ parts_refusal t ns ps → k ≡ refusal_by (fit_order t ns (length ns) ps)
      parts k f = f ∙ row_parts t ns (length ns) ps (meets ∙ sym e) (ap (ltb 512) leaves_count ∙ sym h)

      pub cuts_uneven : (Even (named_points points) new new_owns → ⊥) → 7 ≡ refusal_by (fit_order t ns (length ns) ps)
      cuts_uneven f = parts 7 (uneven_seven t ns (named_points points) new new_owns (omega (arith, a.some, places_length 0 points.count points.points)) (uneven (named_points points) new new_owns f))

      pub cuts_nodes : (k : ℕ) → k ≡ min 513 (coming (named_cuts cs)) → (length new ≡ k → ⊥) → 7 ≡ refusal_by (fit_order t ns (length ns) ps)
      cuts_nodes k d f = cuts_uneven (λ v. f (omega (arith, v.nodes, announces, few)))

      pub cuts_owns : (k : ℕ) → k ≡ min 513 (coming (named_cuts cs)) → (length new_owns ≡ k → ⊥) → 7 ≡ refusal_by (fit_order t ns (length ns) ps)
      cuts_owns k d f = cuts_uneven (λ v. f (omega (arith, v.owned, announces, few)))

      pub cuts_room : (k : ℕ) → k ≡ min 513 (coming (named_cuts cs)) → length new ≡ k → coming (named_cuts cs) ≤ length new
      cuts_room k d f = omega (arith, few)

      pub cuts_parts : (k : ℕ) → k ≡ min 513 (coming (named_cuts cs)) → length new ≡ k → length new_owns ≡ k → judge_cuts t ns (named_cuts cs) new ≡ refusal_by (fit_order t ns (length ns) ps)
      cuts_parts k d f g =
          let v : evenly (named_points points) new new_owns ≡ true = even_back (named_points points) new new_owns (record { nodes = omega (arith, announces, few); owned = omega (arith, announces, few) }) in
          parts (judge_cuts t ns (named_cuts cs) new)
          (ap (λ cuts. judge_cuts t ns cuts new) (cuts_are t ns (named_points points) cs a.cutting) ∙ even_judge t ns (named_points points) new new_owns v)

-- ---- what each function is proved by

pub ruleset asking = (asked_open, asked_none, asked_many, asked_some)

pub ruleset naming = (handed_number, missing_named, asked_few, named_absent, named_missing, named_sound, named_stopped)

pub ruleset aiming = (handed_number, ground_table, ground_nodes, aim_ground, aim_asked, aim_held)

pub ruleset fitting = (cuts_meet, cuts_pass, cuts_nodes, cuts_owns, cuts_room, cuts_parts)
