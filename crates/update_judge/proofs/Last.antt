-- 21 behind an order of which none refuses. Assumes nothing.
use mathlib.Core.Path.{◌≡◌, refl, ap, sym, ◌∙◌, subst}
use mathlib.Core.Bool.{Bool, true, false}
use mathlib.Core.List.{List, ◌++◌}
use Prim.Native.Nat.{ℕ}
use lib.ListN.{length}
use Rattle.refusal.specs.Numbers.{number_of}
use Rattle.refusal.specs.declared.Refusal.{Refusal}
use Rattle.refusal.specs.Orders.{when, meant, Order, refusal_by}
use Rattle.refusal.proofs.Orders.{past, stopped, alone}
use Rattle.table.specs.Judge.{judge_table}
use Rattle.tree.specs.declared.Cuts.{Cuts}
use Rattle.tree.specs.declared.Places.{Places}
use Rattle.tree.specs.Handed.{named_points, handed_row}
use Rattle.tree.specs.Points.{nodes_row}
use Rattle.wire.specs.Inner.Turns.{Held}
use Rattle.wire.specs.Waivers.{waives, Waiver, Free}
use Rattle.update.specs.declared.Record.{Record}
use Rattle.update.specs.Refusals.{new_order, waiver_order}
use Rattle.update_judge.specs.Inner.Cuts.{Aimed}
use Rattle.update_judge.specs.Order.{fit_order, last_order}
use Rattle.update_judge.proofs.Orders.{loads}
use Rattle.update_judge.proofs.Rows.{handed_cut, left_few, left_sound, splices}
use Rattle.update_place.specs.Inner.Pieces.{spliced_by, Fitting}
use Rattle.update_place.specs.Inner.Splicing.{Splicing}
use Rattle.update_place.proofs.Spliced.{splicing_fits, splicing_nodes}
use Rattle.refusal.proofs.Distinct.{handed_number}

module _ (o : Order) (t ns : List ℕ) (z : refusal_by o ≡ 0) where
  last : refusal_by (o ++ waiver_order t ns) ≡ when (waives t ns) 21
  last = past o (waiver_order t ns) z ∙ alone (meant 21 (waives t ns) (Waiver t ns) (Free t ns))

  pub last_waived : waives t ns ≡ true → 21 ≡ refusal_by (o ++ waiver_order t ns)
  last_waived h = sym (last ∙ ap (λ (b : Bool). when b 21) h)

  pub last_free : waives t ns ≡ false → 0 ≡ refusal_by (o ++ waiver_order t ns)
  last_free h = sym (last ∙ ap (λ (b : Bool). when b 21) h)

-- ---- of a load's tree

module _ (t : List ℕ) (r : Record) (ns owns : List ℕ) where
  abbrev fresh : Order
  fresh = new_order t r ns owns

  pub load_refused : (q : Refusal) → number_of q ≡ refusal_by fresh → number_of q ≡ refusal_by (fresh ++ waiver_order t ns)
  load_refused q e = stopped fresh (waiver_order t ns) q e

  module _ (z : refusal_by fresh ≡ 0) where
    pub load_holds : judge_table t ≡ 0 → Held t ns
    load_holds j = let l = loads t r ns owns z in record { judged = j; sound = l.sound; few = l.few }

    pub load_waived : waives t ns ≡ true → 21 ≡ refusal_by (fresh ++ waiver_order t ns)
    load_waived h = last_waived fresh t ns z h

    pub load_free : waives t ns ≡ false → 0 ≡ refusal_by (fresh ++ waiver_order t ns)
    load_free h = last_free fresh t ns z h

-- ---- of the tree that a replacement would leave

module _ (t ns : List ℕ) (points : Places) (cs : Cuts) (new new_owns : List ℕ) where
  abbrev fits : Order
  fits = fit_order t ns (length ns) (handed_row (named_points points) new new_owns)

  abbrev later : List ℕ
  later = nodes_row t ns (handed_row (named_points points) new new_owns)

  pub row_refused : (q : Refusal) → number_of q ≡ refusal_by fits → number_of q ≡ refusal_by (last_order t ns (handed_row (named_points points) new new_owns))
  row_refused q e = stopped fits (waiver_order t later) q e

  -- where none of the numbers of points and parts is given
  module _ (a : Aimed t ns points cs) (z : refusal_by fits ≡ 0) where
    -- 21 looks at no own set
    splicing : Splicing t ns ns points cs new new_owns
    splicing = splices t ns points cs new new_owns a z ns refl

    built : spliced_by cs new ns ≡ later
    built = splicing_nodes splicing ∙ ap (nodes_row t ns) (sym (handed_cut t ns points cs new new_owns a z))

    pub row_fits : Fitting cs (length ns) (length new)
    row_fits = splicing_fits splicing

    pub row_holds : Held t (spliced_by cs new ns)
    row_holds = subst (Held t) (sym built)
        (record { judged = a.table; sound = left_sound t ns points cs new new_owns a z; few = left_few t ns points cs new new_owns a z })

    pub row_waived : waives t (spliced_by cs new ns) ≡ true → 21 ≡ refusal_by (last_order t ns (handed_row (named_points points) new new_owns))
    row_waived h = last_waived fits t later z (sym (ap (waives t) built) ∙ h)

    pub row_free : waives t (spliced_by cs new ns) ≡ false → 0 ≡ refusal_by (last_order t ns (handed_row (named_points points) new new_owns))
    row_free h = last_free fits t later z (sym (ap (waives t) built) ∙ h)

-- ---- what each function is proved by

pub ruleset loaded = (handed_number, load_refused, load_waived, load_free)

pub ruleset replaced = (handed_number, row_refused, row_waived, row_free)
