-- What a load or a replacement leaves, from the refusal that its code found. Assumes nothing.
use mathlib.Core.Bool.{false}
use mathlib.Core.Path.{◌≡◌, refl, sym, ap, ◌∙◌}
use mathlib.Core.List.{List, [], ◌∷◌, ◌++◌}
use Prim.Native.Nat.{ℕ, zero, suc, ◌+◌, ◌-◌, ◌<◌, ◌≤◌}
use native.Mathlib.Omega.{arith}
use lib.ListN.{length}
use lib.Seq.{length-take-le}
use Rattle.refusal.specs.Numbers.{number_of}
use Rattle.refusal.specs.declared.Refusal.{Refusal}
use Rattle.std.specs.Prelude.{Ok, Err}
use Rattle.refusal.proofs.Distinct.{number_low}
use Rattle.tree.specs.declared.Point.{Point}
use Rattle.tree.specs.declared.Places.{Places}
use Rattle.tree.specs.declared.Cuts.{Cuts}
use Rattle.tree.specs.Tree.{judge_nodes}
use Rattle.tree.specs.Points.{Part, nodes_row, points_row, leaving_row, coming_row}
use Rattle.tree.specs.Handed.{named_points, cut_row, bare_row, handed_row, Cutting}
use Rattle.update.specs.declared.Record.{Record}
use Rattle.update.specs.declared.Open.TheVariants.{Load, Replacement}
use Rattle.update.specs.Records.{opened}
use Rattle.update.specs.Memories.{Memory, nodes_of, owns_of, loaded, replaced_row}
use Rattle.update.specs.Refusals.{missing, load_refusal, nodes_left, points_refusal, aim_order, waiver_order}
use Rattle.update.specs.Calls.{Said, refused, said, Left, unless, Opened, is_open, load_point, load_call, points_call}
use Rattle.update_judge.specs.Inner.Cuts.{named_cuts, shifted, Aimed}
use Rattle.update_judge.specs.Order.{named_order, fit_order, last_order, Holding}
use Rattle.update_judge.proofs.Orders.{aim_stopped, named_stopped, named_past, named_none, tree_sound, tree_equal}
use Rattle.update_judge.proofs.Outlines.{aimed_small, small_512}
use Rattle.update_judge.proofs.Rows.{aim_same, named_same, handed_cut, left_count, cuts_apart, cuts_few, cuts_points, counted, splices}
use Rattle.update_open.specs.Lent.{begun}
use Rattle.update_place.specs.Inner.Splicing.{Splicing}
use Rattle.update_open.specs.Inner.Placed.{placed, opened_at, Shiftable, Pointed}
use Rattle.refusal.specs.Orders.{refusal_by}
use Rattle.refusal.proofs.Orders.{front}

left_refused : {A : Type 0} (n : ℕ) (r : Record) (m : Memory) (l : Left (Said A)) → 0 < n → record { answer = refused n; next = r; memory = m } ≡ unless n r m l
left_refused zero r m l h = absurd (omega arith)
left_refused (suc n) r m l h = refl

pub left_carried : {A : Type 0} (n : ℕ) (r : Record) (m : Memory) (l : Left (Said A)) → n ≡ 0 → l ≡ unless n r m l
left_carried zero r m l h = refl
left_carried (suc n) r m l h = absurd (omega arith)

-- a refused call answers the refusal's number and leaves all as it was
pub by : {A : Type 0} (q : Refusal) (n : ℕ) (r : Record) (m : Memory) (l : Left (Said A)) → number_of q ≡ n → record { answer = refused (number_of q); next = r; memory = m } ≡ unless n r m l
by q n r m l e = rw (← e) (left_refused (number_of q) r m l (number_low q))

module _ (t : List ℕ) (m : Memory) (r : Record) (ns owns : List ℕ) where
  pub load_refused : (q : Refusal) → number_of q ≡ load_refusal t m r ns owns → begun r (Err q) m ≡ load_call t m r ns owns
  unfolding load_call
  load_refused q e = by q (load_refusal t m r ns owns) r m (record { answer = said is_open; next = opened Load (length ns) (load_point (length ns) ∷ []); memory = loaded m ns owns }) e

  pub load_carried : (places : Places) (next : Record) (m' : Memory) → load_refusal t m r ns owns ≡ 0 → places ≡ placed (load_point (length ns) ∷ []) → next ≡ opened_at Load (length ns) places → m' ≡ loaded m ns owns
      → begun r (Ok next) m' ≡ load_call t m r ns owns
  unfolding load_call opened
  load_carried places next m' z d e f =
      (λ i. record { answer = said is_open; next = (e ∙ ap (opened_at Load (length ns)) d) i; memory = f i })
      ∙ left_carried (load_refusal t m r ns owns) r m (record { answer = said is_open; next = opened Load (length ns) (load_point (length ns) ∷ []); memory = loaded m ns owns }) z

module _ {t : List ℕ} {m : Memory} {r : Record} {points : Places} (w : Pointed t m r points) where
  holding : Holding t m r
  holding = record { footing = w.grounded; tree = λ h. w.sound }

  long : length (nodes_of m r.nodes) ≡ r.nodes
  long = let g = w.grounded in length-take-le r.nodes m.productions (omega (arith, g.room.productions, g.within.nodes))

  pub few : length (nodes_of m r.nodes) ≤ 512
  few = omega (arith, long, w.grounded.within.nodes)

  pub tree : judge_nodes t (nodes_of m r.nodes) (0 ∷ []) ≡ 0
  tree = tree_sound t (nodes_of m r.nodes) (owns_of m r.nodes) 0 w.sound

  owned : length (owns_of m r.nodes) ≡ length (nodes_of m r.nodes)
  owned = tree_equal t (nodes_of m r.nodes) (owns_of m r.nodes) 0 w.sound

  pub inside : missing (length (nodes_of m r.nodes)) (bare_row (named_points points)) ≡ false
  inside = rw long w.named.inside

  pub aimed : (cs : Cuts) → Cutting t (nodes_of m r.nodes) (named_points points) cs → Aimed t (nodes_of m r.nodes) points cs
  aimed cs c = record { table = w.grounded.table; tree = tree; few = few; cutting = c; some = (counted points w.named.counted).some; inside = inside }

module _ (t : List ℕ) (m : Memory) (r : Record) (points : Places) (new new_owns : List ℕ) where
  abbrev ns : List ℕ
  ns = nodes_of m r.nodes

  abbrev ps : List Part
  ps = handed_row (named_points points) new new_owns

  abbrev replacement : Left (Said Opened)
  replacement = record { answer = said is_open; next = opened Replacement (nodes_left t m r ps) (points_row t ns ps); memory = replaced_row t m r.nodes ps }

  pub points_refused : (q : Refusal) → number_of q ≡ points_refusal t m r ps → begun r (Err q) m ≡ points_call t m r ps
  unfolding points_call
  points_refused q e = by q (points_refusal t m r ps) r m replacement e

  -- by what is judged before the points are looked at, and by what comes before their subtrees are counted
  pub aim_refused : (q : Refusal) → number_of q ≡ refusal_by (aim_order t m r (bare_row (named_points points))) → begun r (Err q) m ≡ points_call t m r ps
  aim_refused q e = points_refused q (aim_stopped t m r ps q (e ∙ aim_same (named_points points) new new_owns t m r))

  pub named_refused : Holding t m r → (q : Refusal) → number_of q ≡ refusal_by (named_order r (bare_row (named_points points))) → begun r (Err q) m ≡ points_call t m r ps
  named_refused k q e = points_refused q (named_stopped t m r ps k q (e ∙ named_same (named_points points) new new_owns r))

  -- behind those: what the tree says
  module _ (w : Pointed t m r points) where
    refusal : points_refusal t m r ps ≡ refusal_by (last_order t ns ps)
    refusal =
        named_past t m r ps (holding w) (sym (named_same (named_points points) new new_owns r) ∙ named_none t m r (bare_row (named_points points)) w.named)
        ∙ ap (λ (i : ℕ). refusal_by (fit_order t ns i ps ++ waiver_order t (nodes_row t ns ps))) (sym (long w))

    pub row_refused : (q : Refusal) → number_of q ≡ refusal_by (last_order t ns ps) → begun r (Err q) m ≡ points_call t m r ps
    row_refused q e = points_refused q (e ∙ sym refusal)

    module _ (cs : Cuts) (c : Cutting t ns (named_points points) cs) (z : 0 ≡ refusal_by (last_order t ns ps)) where
      a : Aimed t ns points cs
      a = aimed w cs c

      none : refusal_by (fit_order t ns (length ns) ps) ≡ 0
      none = front (fit_order t ns (length ns) ps) (waiver_order t (nodes_row t ns ps)) (sym z)

      pub shiftable : Shiftable cs
      shiftable = record { small = small_512 a.few (aimed_small a); apart = cuts_apart t ns points cs new new_owns a none; few = cuts_few t ns points cs new new_owns a none }

      pub splicing : Splicing t ns (owns_of m r.nodes) points cs new new_owns
      splicing = splices t ns points cs new new_owns a none (owns_of m r.nodes) (owned w)

      cut : ps ≡ cut_row (named_points points) new new_owns
      cut = handed_cut t ns points cs new new_owns a none

      counts : (count : ℕ) → count ≡ length (nodes_row t ns (cut_row (named_points points) new new_owns)) → count ≡ nodes_left t m r ps
      unfolding nodes_left
      counts count e =
          e ∙ ap (λ (qs : List Part). length (nodes_row t ns qs)) (sym cut) ∙ sym (left_count t ns points cs new new_owns a none)
          ∙ ap (λ (i : ℕ). i - leaving_row t ns ps + coming_row ps) (long w)

      opens_at : (count : ℕ) (places : Places) (next : Record) → count ≡ nodes_left t m r ps → places ≡ placed (shifted 0 0 (named_cuts cs)) → next ≡ opened_at Replacement count places
          → next ≡ opened Replacement (nodes_left t m r ps) (points_row t ns ps)
      unfolding opened
      opens_at count places next e f g = g ∙ (λ i. opened_at Replacement (e i) (f i)) ∙ ap (λ (qs : List Point). opened_at Replacement (nodes_left t m r ps) (placed qs)) (cuts_points t ns points cs new new_owns a none)

      pub row_carried : (count : ℕ) (places : Places) (next : Record) (m' : Memory) → count ≡ length (nodes_row t ns (cut_row (named_points points) new new_owns))
          → places ≡ placed (shifted 0 0 (named_cuts cs)) → next ≡ opened_at Replacement count places → m' ≡ replaced_row t m r.nodes (cut_row (named_points points) new new_owns)
          → begun r (Ok next) m' ≡ points_call t m r ps
      unfolding points_call
      row_carried count places next m' e f g h =
          (λ i. record { answer = said is_open; next = opens_at count places next (counts count e) f g i; memory = (h ∙ ap (replaced_row t m r.nodes) (sym cut)) i })
          ∙ left_carried (points_refusal t m r ps) r m replacement (refusal ∙ sym z)
