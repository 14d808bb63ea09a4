-- Parts with the same points and counts: the tests that look at nothing else give the same of them, and the cuts of those points give it to code. Assumes nothing.
use mathlib.Core.Path.{◌≡◌, refl, sym, ap, ◌∙◌}
use mathlib.Core.Bool.{Bool, true, false}
use mathlib.Core.Logic.{⊎_elim}
use mathlib.Core.List.{List, [], ◌∷◌, map}
use Prim.Native.Nat.{ℕ, zero, suc, ◌+◌, ◌≤◌, ◌<◌}
use native.Mathlib.Omega.{arith}
use lib.Dec.{ltb, leb}
use lib.ListN.{length, get_or, take, drop, replicate, length-take, length-drop, length-replicate}
use borrow.Author.Tests.{eqb-true, eq-eqb, ne_eqb, leb-false, ltb-false}
use Rattle.refusal.specs.Orders.{refusal_by}
use Rattle.table.specs.Words.{left_of}
use Rattle.tree.specs.declared.Point.{Point}
use Rattle.tree.specs.declared.Cut.{Cut}
use Rattle.tree.specs.declared.Cuts.{Cuts}
use Rattle.tree.specs.declared.Places.{Places}
use Rattle.tree.specs.Tree.{judge_nodes, judge_tree}
use Rattle.tree.specs.Replace.{part}
use Rattle.tree.specs.Points.{Part, leaving_row, coming_row, shifted_row, overlaps, point_at, some_point, some_part}
use Rattle.tree.specs.Handed.{named_points, announced, cut_row, bare_row, evenly, handed_row, cut_at, cut_of, Cutting}
use Rattle.climb.proofs.Lists.{either, and_is, or_false_is}
use Rattle.update.specs.Refusals.{missing, parts_refusal}
use Rattle.update_judge.specs.Inner.Cuts.{cuts_from, named_cuts, meeting, leaving, coming, judge_cuts, shifted, Small, Outlined, none, more, Aimed}
use Rattle.update_judge.proofs.Parts.{part_fits}
use Rattle.std.specs.List.{list_any}
use Rattle.update_judge.proofs.Walks.{places_front, some_any, some_none, none_at}

-- ---- parts that are handed in

bare_outlined : (qs : List Point) → Outlined qs (bare_row qs)
unfolding bare_row
bare_outlined [] = none
bare_outlined (q ∷ qs) = more {q = q} {p = record { point = q.node; nodes = replicate q.count 0; owns = [] }} refl (length-replicate {A = ℕ} q.count 0) (bare_outlined qs)

cut_outlined : (qs : List Point) (ns owns : List ℕ) → announced qs ≤ length ns → Outlined qs (cut_row qs ns owns)
unfolding cut_row announced
cut_outlined [] ns owns h = none
cut_outlined (q ∷ qs) ns owns h =
    more {q = q} {p = record { point = q.node; nodes = take q.count ns; owns = take q.count owns }} refl (let e = length-take q.count ns in omega arith) (cut_outlined qs (drop q.count ns) (drop q.count owns) (let e = length-drop q.count ns in omega arith))

pub record Even (qs : List Point) (ns owns : List ℕ) : Type 0 where
  pub nodes : length ns ≡ announced qs
  pub owned : length owns ≡ announced qs

module _ (qs : List Point) (ns owns : List ℕ) where
  pub even : evenly qs ns owns ≡ true → Even qs ns owns
  unfolding evenly
  even h = let a = and_is h in record { nodes = eqb-true (length ns) (announced qs) a.0; owned = eqb-true (length owns) (announced qs) a.1 }

  pub even_back : Even qs ns owns → evenly qs ns owns ≡ true
  unfolding evenly
  even_back e = rw (eq-eqb (length ns) (announced qs) e.nodes, eq-eqb (length owns) (announced qs) e.owned)

  pub uneven : (Even qs ns owns → ⊥) → evenly qs ns owns ≡ false
  uneven f = ⊎_elim (λ (e : evenly qs ns owns ≡ true). absurd (f (even e))) (λ (e : evenly qs ns owns ≡ false). e) (either (evenly qs ns owns))

  pub handed_even : evenly qs ns owns ≡ true → handed_row qs ns owns ≡ cut_row qs ns owns
  unfolding handed_row
  handed_even e = rw e

  pub handed_uneven : evenly qs ns owns ≡ false → handed_row qs ns owns ≡ bare_row qs
  unfolding handed_row
  handed_uneven e = rw e

  pub handed_outlined : Outlined qs (handed_row qs ns owns)
  handed_outlined = ⊎_elim
      (λ (e : evenly qs ns owns ≡ true). rw (handed_even e) (cut_outlined qs ns owns (omega (arith, (even e).nodes))))
      (λ (e : evenly qs ns owns ≡ false). rw (handed_uneven e) (bare_outlined qs))
      (either (evenly qs ns owns))

-- ---- what looks at points and counts alone

pub outlined_length : {qs : List Point} {ps : List Part} → Outlined qs ps → length ps ≡ length qs
outlined_length none = refl
outlined_length (more a b o) = ap suc (outlined_length o)

abbrev pub absent : ℕ → Point → Bool
absent nodes q = leb nodes q.node

some_absent : (nodes : ℕ) {qs : List Point} {ps : List Part} → Outlined qs ps → some_part (λ p. leb nodes p.point) ps ≡ some_point (absent nodes) qs
some_absent nodes none = refl
some_absent nodes (more a b o) = rw (a, some_absent nodes o)

pub outlined_missing : (nodes : ℕ) {qs : List Point} {ps : List Part} → Outlined qs ps → missing nodes ps ≡ some_point (absent nodes) qs
unfolding missing
outlined_missing nodes o = some_absent nodes o

pub bare_missing : (nodes : ℕ) (qs : List Point) → missing nodes (bare_row qs) ≡ some_point (absent nodes) qs
bare_missing nodes qs = outlined_missing nodes (bare_outlined qs)

-- the points that a call names, as code looks at them
pub missing_named : (nodes : ℕ) (points : Places) → points.count ≤ length points.points → missing nodes (bare_row (named_points points)) ≡ list_any (absent nodes) (take points.count points.points)
missing_named nodes points h =
    bare_missing nodes (named_points points) ∙ ap (some_point (absent nodes)) (places_front points.count points.points h) ∙ some_any (absent nodes) (take points.count points.points)

pub bare_length : (qs : List Point) → length (bare_row qs) ≡ length qs
bare_length qs = outlined_length (bare_outlined qs)

module _ (t ns : List ℕ) where
  pub outlined_meets : (from : ℕ) {qs : List Point} {ps : List Part} → Outlined qs ps → overlaps t ns from ps ≡ meeting from (map (cut_of t ns) qs)
  unfolding overlaps meeting
  outlined_meets from none = refl
  outlined_meets from (more {q} {qs} {p} {ps} a b o) = rw (a, outlined_meets (q.node + part t ns q.node) o)

  pub outlined_leaving : {qs : List Point} {ps : List Part} → Outlined qs ps → leaving_row t ns ps ≡ leaving (map (cut_of t ns) qs)
  unfolding leaving_row leaving
  outlined_leaving none = refl
  outlined_leaving (more a b o) = rw (a, outlined_leaving o)

  pub outlined_coming : {qs : List Point} {ps : List Part} → Outlined qs ps → coming_row ps ≡ coming (map (cut_of t ns) qs)
  unfolding coming_row coming
  outlined_coming none = refl
  outlined_coming (more a b o) = rw (b, outlined_coming o)

  pub outlined_shifted : (came left : ℕ) {qs : List Point} {ps : List Part} → Outlined qs ps → shifted_row t ns came left ps ≡ shifted came left (map (cut_of t ns) qs)
  unfolding shifted_row shifted
  outlined_shifted came left none = refl
  outlined_shifted came left (more {q} {qs} {p} {ps} a b o) = rw (a, b, outlined_shifted (came + q.count) (left + part t ns q.node) o)

  pub announced_coming : (qs : List Point) → announced qs ≡ coming (map (cut_of t ns) qs)
  unfolding announced coming
  announced_coming [] = refl
  announced_coming (q ∷ qs) = rw (announced_coming qs)

  -- parts of equal lengths are judged by their nodes
  cuts_judge : (qs : List Point) (new owns : List ℕ) → announced qs ≤ length new → announced qs ≤ length owns → judge_cuts t ns (map (cut_of t ns) qs) new ≡ parts_refusal t ns (cut_row qs new owns)
  unfolding judge_cuts parts_refusal cut_row refusal_by announced judge_tree
  cuts_judge [] new owns h k = refl
  cuts_judge (q ∷ qs) new owns h k =
      let a = length-take q.count new in
      let b = length-take q.count owns in
      let c = length-drop q.count new in
      let d = length-drop q.count owns in
      rw (eq-eqb (length (take q.count new)) (length (take q.count owns)) (omega arith), cuts_judge qs (drop q.count new) (drop q.count owns) (omega arith) (omega arith))

  pub even_judge : (qs : List Point) (new owns : List ℕ) → evenly qs new owns ≡ true → judge_cuts t ns (map (cut_of t ns) qs) new ≡ parts_refusal t ns (handed_row qs new owns)
  even_judge qs new owns e =
      cuts_judge qs new owns (omega (arith, (even qs new owns e).nodes)) (omega (arith, (even qs new owns e).owned)) ∙ ap (parts_refusal t ns) (sym (handed_even qs new owns e))

  -- and bare ones by 7
  pub bare_tree : (n s : ℕ) → judge_tree t (replicate n 0) [] s ≡ 7
  unfolding judge_tree judge_nodes
  bare_tree zero s = refl
  bare_tree (suc n) s = let f : length (replicate {A = ℕ} (suc n) 0) ≡ 0 → ⊥ = λ e. omega arith in rw (ne_eqb (length (replicate {A = ℕ} (suc n) 0)) 0 f)

  bare_seven : (q : Point) (qs : List Point) → 7 ≡ parts_refusal t ns (bare_row (q ∷ qs))
  unfolding bare_row parts_refusal refusal_by
  bare_seven q qs = rw (bare_tree q.count (left_of t (get_or ns q.node 0)))

  pub uneven_seven : (qs : List Point) (new owns : List ℕ) → 0 < length qs → evenly qs new owns ≡ false → 7 ≡ parts_refusal t ns (handed_row qs new owns)
  uneven_seven [] new owns h e = absurd (omega arith)
  uneven_seven (q ∷ qs) new owns h e = bare_seven q qs ∙ ap (parts_refusal t ns) (sym (handed_uneven (q ∷ qs) new owns e))

-- ---- the cuts that code holds

cuts_named : (t ns : List ℕ) (qs : List Point) (l : List Cut) (i : ℕ) → ((j : ℕ) → j < length qs → cut_at l (i + j) ≡ cut_of t ns (point_at qs j)) → cuts_from i (length qs) l ≡ map (cut_of t ns) qs
unfolding cuts_from
cuts_named t ns [] l i h = refl
cuts_named t ns (q ∷ qs) l i h =
    let a : i + 0 ≡ i = omega arith in
    let b : cut_at l i ≡ cut_of t ns q = ap (cut_at l) (sym a) ∙ h 0 (omega arith) in
    rw (b, cuts_named t ns qs l (suc i) (λ j k. let c : suc i + j ≡ i + suc j = omega arith in ap (cut_at l) c ∙ h (suc j) (omega arith)))

pub cuts_are : (t ns : List ℕ) (qs : List Point) (cs : Cuts) → Cutting t ns qs cs → named_cuts cs ≡ map (cut_of t ns) qs
cuts_are t ns qs cs k = ap (λ (n : ℕ). cuts_from 0 n cs.cuts) k.count ∙ cuts_named t ns qs cs.cuts 0 (λ j h. let e : 0 + j ≡ j = omega arith in ap (cut_at cs.cuts) e ∙ k.each j h)

pub inside_each : (nodes : ℕ) (points : Places) → missing nodes (bare_row (named_points points)) ≡ false → (i : ℕ) → i < points.count → (point_at points.points i).node < nodes
inside_each nodes points e i h =
    leb-false nodes (point_at points.points i).node (none_at (absent nodes) points.count points.points (sym (bare_missing nodes (named_points points)) ∙ e) i h)

-- the cuts of nodes of a tree end inside it
pub aimed_small : {t ns : List ℕ} {points : Places} {cs : Cuts} → Aimed t ns points cs → Small (length ns) cs
aimed_small {t} {ns} {points} {cs} a = record {
  few = omega (arith, a.cutting.count, a.cutting.few);
  each = λ i h. ends i (omega (arith, a.cutting.count));
}
  where
    ends : (i : ℕ) → i < length (named_points points) → ((cut_at cs.cuts i).node < length ns) × ((cut_at cs.cuts i).node + (cut_at cs.cuts i).old ≤ length ns)
    ends i h =
        let n = leb-false (length ns) (point_at (named_points points) i).node (some_none (absent (length ns)) (named_points points) (sym (bare_missing (length ns) (named_points points)) ∙ a.inside) i h) in
        rw (a.cutting.each i h) (n, (part_fits t ns (point_at (named_points points) i).node n).1)

pub small_512 : {n : ℕ} {cs : Cuts} → n ≤ 512 → Small n cs → Small 512 cs
small_512 h s = record { few = s.few; each = λ i k. let e = s.each i k in (omega (arith, e.0), omega (arith, e.1)) }

-- what makes way where the cuts lie apart is no more than the tree
apart_leaving : (n from : ℕ) (cs : List Cut) → from ≤ n → ((i : ℕ) → i < length cs → (cut_at cs i).node + (cut_at cs i).old ≤ n) → meeting from cs ≡ false → from + leaving cs ≤ n
unfolding meeting leaving
apart_leaving n from [] h f e = omega arith
apart_leaving n from (c ∷ cs) h f e =
    let a = or_false_is {a = ltb c.node from} e in
    let b = ltb-false c.node from a.0 in
    let d = apart_leaving n (c.node + c.old) cs (f 0 (omega arith)) (λ i k. f (suc i) (omega arith)) a.1 in
    omega arith

length_cuts : (i n : ℕ) (l : List Cut) → length (cuts_from i n l) ≡ n
unfolding cuts_from
length_cuts i zero l = refl
length_cuts i (suc n) l = ap suc (length_cuts (suc i) n l)

cuts_at : (i n : ℕ) (l : List Cut) (j : ℕ) → j < n → cut_at (cuts_from i n l) j ≡ cut_at l (i + j)
unfolding cuts_from
cuts_at i zero l j h = absurd (omega arith)
cuts_at i (suc n) l zero h = let e : i ≡ i + 0 = omega arith in ap (cut_at l) e
cuts_at i (suc n) l (suc j) h = let e : suc i + j ≡ i + suc j = omega arith in cuts_at (suc i) n l j (omega arith) ∙ ap (cut_at l) e

pub small_leaving : {n : ℕ} {cs : Cuts} → Small n cs → meeting 0 (named_cuts cs) ≡ false → leaving (named_cuts cs) ≤ n
small_leaving {n} {cs} s e = omega (arith, apart_leaving n 0 (named_cuts cs) (omega arith) inside e)
  where
    inside : (i : ℕ) → i < length (named_cuts cs) → (cut_at (named_cuts cs) i).node + (cut_at (named_cuts cs) i).old ≤ n
    inside i h =
        let k : i < cs.count = omega (arith, length_cuts 0 cs.count cs.cuts) in
        let z : 0 + i ≡ i = omega arith in
        rw (cuts_at 0 cs.count cs.cuts i k ∙ ap (cut_at cs.cuts) z) (s.each i k).1
