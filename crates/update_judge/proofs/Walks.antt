-- The loops over a record's points, over the points that a call names and over their cuts: what is found so far, and what is left. Assumes nothing.
use mathlib.Core.Path.{◌≡◌, refl, sym, ap, ◌∙◌}
use mathlib.Core.Bool.{Bool, false, ◌||◌}
use mathlib.Core.List.{List, [], ◌∷◌}
use Prim.Native.Nat.{ℕ, zero, suc, ◌+◌, ◌-◌, ◌≤◌, ◌<◌, max}
use native.Mathlib.Omega.{arith}
use lib.Dec.{ltb, leb}
use lib.ListN.{length, get_or, take, drop, drop_of_length-le}
use lib.Seq.{drop-drop, drop-cons}
use Rattle.std.specs.List.{list_any}
use Rattle.std.proofs.lemmas.List.{drop_more}
use Rattle.refusal.specs.Orders.{or_else}
use Rattle.table.specs.Words.{left_of}
use Rattle.tree.specs.declared.Point.{Point}
use Rattle.tree.specs.declared.Cut.{Cut}
use Rattle.tree.specs.Tree.{judge_nodes}
use Rattle.tree.specs.Points.{point_at, some_point}
use Rattle.tree.specs.Handed.{places_from, cut_at, cut_of, Cutting}
use Rattle.climb.proofs.Lists.{or_false_is}
use Rattle.update.specs.Records.{astray}
use Rattle.update_judge.specs.Inner.Cuts.{cuts_from, meeting, leaving, coming, judge_cuts}
use Rattle.refusal.proofs.Distinct.{handed_number}
use Rattle.table.proofs.Steps.{or_stops}
use Rattle.update_place.proofs.Laying.{cuts_front}

-- ---- one place more, and none left

pub places_step : (n i : ℕ) (l : List Point) → i < n → places_from i (n - i) l ≡ point_at l i ∷ places_from (i + 1) (n - (i + 1)) l
unfolding places_from
places_step n i l h =
    let e : n - i ≡ suc (n - (i + 1)) = omega arith in
    let d : i + 1 ≡ suc i = omega arith in
    ap (λ (k : ℕ). places_from i k l) e ∙ ap (λ (j : ℕ). point_at l i ∷ places_from j (n - (i + 1)) l) (sym d)

pub places_end : (n i : ℕ) (l : List Point) → n ≤ i → places_from i (n - i) l ≡ []
unfolding places_from
places_end n i l h = let e : n - i ≡ 0 = omega arith in ap (λ (k : ℕ). places_from i k l) e

pub places_start : (n : ℕ) (l : List Point) → places_from 0 n l ≡ places_from 0 (n - 0) l
places_start n l = let e : n ≡ n - 0 = omega arith in ap (λ (k : ℕ). places_from 0 k l) e

pub places_length : (i n : ℕ) (l : List Point) → length (places_from i n l) ≡ n
unfolding places_from
places_length i zero l = refl
places_length i (suc n) l = ap suc (places_length (suc i) n l)

pub places_at : (i n : ℕ) (l : List Point) (j : ℕ) → j < n → point_at (places_from i n l) j ≡ point_at l (i + j)
unfolding places_from
places_at i zero l j h = absurd (omega arith)
places_at i (suc n) l zero h = let e : i ≡ i + 0 = omega arith in ap (point_at l) e
places_at i (suc n) l (suc j) h = let e : suc i + j ≡ i + suc j = omega arith in places_at (suc i) n l j (omega arith) ∙ ap (point_at l) e

-- where none is so, each isn't
pub some_none : (f : Point → Bool) (qs : List Point) → some_point f qs ≡ false → (i : ℕ) → i < length qs → f (point_at qs i) ≡ false
some_none f [] e i h = absurd (omega arith)
some_none f (q ∷ qs) e zero h = (or_false_is {a = f q} e).0
some_none f (q ∷ qs) e (suc i) h = some_none f qs (or_false_is {a = f q} e).1 i (omega arith)

pub none_at : (f : Point → Bool) (n : ℕ) (l : List Point) → some_point f (places_from 0 n l) ≡ false → (i : ℕ) → i < n → f (point_at l i) ≡ false
none_at f n l e i h =
    let z : 0 + i ≡ i = omega arith in
    ap f (sym (places_at 0 n l i h ∙ ap (point_at l) z)) ∙ some_none f (places_from 0 n l) e i (omega (arith, places_length 0 n l))

pub cuts_start : (n : ℕ) (l : List Cut) → cuts_from 0 n l ≡ cuts_from 0 (n - 0) l
cuts_start n l = let e : n ≡ n - 0 = omega arith in ap (λ (k : ℕ). cuts_from 0 k l) e

-- as many as there are, they are the front of the array
places_taken : (i n : ℕ) (l : List Point) → i + n ≤ length l → places_from i n l ≡ take n (drop i l)
unfolding places_from
places_taken i zero l h = refl
places_taken i (suc n) l h =
    let e : drop i l ≡ point_at l i ∷ drop (suc i) l = drop-cons l i (record { node = 0; count = 0 }) (omega arith) in
    ap (λ (qs : List Point). point_at l i ∷ qs) (places_taken (suc i) n l (omega arith)) ∙ ap (take (suc n)) (sym e)

pub places_front : (n : ℕ) (l : List Point) → n ≤ length l → places_from 0 n l ≡ take n l
places_front n l h = places_taken 0 n l (omega arith)

-- ---- whether some point is so

pub some_any : (f : Point → Bool) (l : List Point) → some_point f l ≡ list_any f l
some_any f [] = refl
some_any f (q ∷ qs) = ap (λ (b : Bool). f q || b) (some_any f qs)

-- ---- whether the points of a record are astray, i of them passed

pub astray_at : (nodes : ℕ) (l : List Point) («from» i : ℕ) → i < length l
    → astray nodes «from» (drop i l)
    ≡ (ltb (point_at l i).node «from» || leb nodes (point_at l i).node || ltb nodes ((point_at l i).node + (point_at l i).count) || astray nodes ((point_at l i).node + max 1 (point_at l i).count) (drop (i + 1) l))
unfolding astray
astray_at nodes l «from» i h = ap (astray nodes «from») (drop_more l i (record { node = 0; count = 0 }) h)

pub astray_end : (nodes : ℕ) (l : List Point) («from» i : ℕ) → length l ≤ i → astray nodes «from» (drop i l) ≡ false
unfolding astray
astray_end nodes l «from» i h = ap (astray nodes «from») (drop_of_length-le l h)

-- ---- the cuts, i of them passed: whether two meet, how many nodes leave and come, and the parts' numbers

module _ (l : List Cut) (i : ℕ) where
  abbrev nothing : Cut
  nothing = record { node = 0; old = 0; count = 0 }

  module _ (h : i < length l) where
    pub meeting_at : («from» : ℕ) → meeting «from» (drop i l) ≡ (ltb (cut_at l i).node «from» || meeting ((cut_at l i).node + (cut_at l i).old) (drop (i + 1) l))
    unfolding meeting
    meeting_at «from» = ap (meeting «from») (drop_more l i nothing h)

    pub leaving_at : leaving (drop i l) ≡ (cut_at l i).old + leaving (drop (i + 1) l)
    unfolding leaving
    leaving_at = ap leaving (drop_more l i nothing h)

    pub coming_at : coming (drop i l) ≡ (cut_at l i).count + coming (drop (i + 1) l)
    unfolding coming
    coming_at = ap coming (drop_more l i nothing h)

    pub judge_cuts_at : (t ns new : List ℕ) (at : ℕ) → judge_cuts t ns (drop i l) (drop at new)
        ≡ or_else (judge_nodes t (take (cut_at l i).count (drop at new)) (left_of t (get_or ns (cut_at l i).node 0) ∷ [])) (judge_cuts t ns (drop (i + 1) l) (drop (at + (cut_at l i).count) new))
    unfolding judge_cuts
    judge_cuts_at t ns new at =
        ap (λ (cs : List Cut). judge_cuts t ns cs (drop at new)) (drop_more l i nothing h)
        ∙ ap (λ (k : List ℕ). or_else (judge_nodes t (take (cut_at l i).count (drop at new)) (left_of t (get_or ns (cut_at l i).node 0) ∷ [])) (judge_cuts t ns (drop (i + 1) l) k)) (drop-drop (cut_at l i).count at new)

  module _ (h : length l ≤ i) where
    pub meeting_end : («from» : ℕ) → meeting «from» (drop i l) ≡ false
    unfolding meeting
    meeting_end «from» = ap (meeting «from») (drop_of_length-le l h)

    pub leaving_end : leaving (drop i l) ≡ 0
    unfolding leaving
    leaving_end = ap leaving (drop_of_length-le l h)

    pub coming_end : coming (drop i l) ≡ 0
    unfolding coming
    coming_end = ap coming (drop_of_length-le l h)

    pub judge_cuts_end : (t ns new : List ℕ) → judge_cuts t ns (drop i l) new ≡ 0
    unfolding judge_cuts
    judge_cuts_end t ns new = ap (λ (cs : List Cut). judge_cuts t ns cs new) (drop_of_length-le l h)

-- ---- the cuts themselves

pub cutted : (t ns : List ℕ) (n : ℕ) (places : List Point) (l : List Cut) → n ≤ 8 → ((j : ℕ) → j < n → cut_at l j ≡ cut_of t ns (point_at places j)) → Cutting t ns (places_from 0 n places) (record { count = n; cuts = l })
cutted t ns n places l few each = record {
  count = sym (places_length 0 n places);
  few = omega (arith, places_length 0 n places);
  each = λ j k. let z : j < n = omega (arith, places_length 0 n places) in
      let e : 0 + j ≡ j = omega arith in
      each j z ∙ ap (cut_of t ns) (sym (places_at 0 n places j z ∙ ap (point_at places) e));
}

-- ---- what each loop is proved by

pub ruleset straying = (astray_at, astray_end, places_front)

pub ruleset meetings = (meeting_at, meeting_end, cuts_front)

pub ruleset leavings = (leaving_at, leaving_end, cuts_front)

pub ruleset comings = (coming_at, coming_end, cuts_front)

pub ruleset judgings = (handed_number, or_stops, judge_cuts_at, judge_cuts_end, coming_at, cuts_front)
