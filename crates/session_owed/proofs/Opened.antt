-- What a command leaves: an update that is at work on a sound tree, or all as it was. Assumes nothing.
use mathlib.Core.Path.{◌≡◌, refl, sym, subst, ◌∙◌}
use mathlib.Core.Bool.{false, true≢false}
use mathlib.Core.List.{List, [], ◌∷◌, map}
use Prim.Native.Nat.{ℕ, zero, suc, ◌*◌, ◌≤◌}
use native.Mathlib.Omega.{arith}
use lib.ListN.{length, length-replicate}
use Rattle.table.specs.Judge.{judge_table}
use Rattle.tree.specs.declared.Point.{Point}
use Rattle.tree.specs.Tree.{judge_tree}
use Rattle.tree.specs.Points.{Part, nodes_row, owns_row, points_row}
use Rattle.tree.specs.Handed.{places_from, handed_row}
use Rattle.tree.proofs.Points.{all_rows}
use Rattle.circles.specs.Ranked.{up_from}
use Rattle.circles.proofs.Lists.{map_long}
use Rattle.update.specs.declared.Record.{Record}
use Rattle.update.specs.declared.Open.TheVariants as open_by
use Rattle.update.specs.Records.{opened, shut, empty_record}
use Rattle.update.specs.Memories.{Memory, nodes_of, owns_of, loaded, arranged_row, replaced_row}
use Rattle.update.specs.Refusals.{load_refusal, nodes_left, points_refusal}
use Rattle.update.specs.Calls.{Said, said, Left, Opened, is_open, unless, load_point, load_call, replace_call, points_call}
use Rattle.update.specs.Within.{Roomy}
use Rattle.update.proofs.Filled.{length_filled, take_filled}
use Rattle.update.proofs.Within.{short_means, beyond_means, all_shut}
use Rattle.update.proofs.Refusing.{all_exactly}
use Rattle.update.proofs.Several.{one_point, accepted}
use Rattle.update.proofs.Leaving.{all_open_within}
use Rattle.update_judge.specs.Order.{Holding, Going}
use Rattle.update_judge.proofs.Orders.{tree_judged, tree_equal}
use Rattle.session_owed.specs.Owed.{order_call, Sound}
use Rattle.session_owed.specs.Hearing.{Heard, opened_by}
use Rattle.session_owed.specs.declared.Coming.{Coming}
use Rattle.session_owed.specs.declared.Coming.TheVariants.{Load, Replace, Several}

-- ---- before the first command

pub empty_holds : (t : List ℕ) (m : Memory) → judge_table t ≡ 0 → Roomy m → Holding t m empty_record
unfolding empty_record shut
empty_holds t m j room = record {
  footing = record { table = j; room = room; within = (beyond_means empty_record).0 ((all_shut false 0).within (omega arith)) };
  tree = λ h. absurd (true≢false (sym h));
}

-- ---- no buffer becomes longer or shorter

pub record SameLengths (m m' : Memory) : Type 0 where
  pub productions : length m'.productions ≡ length m.productions
  pub owns : length m'.owns ≡ length m.owns
  pub sets : length m'.sets ≡ length m.sets
  pub earlier : length m'.earlier ≡ length m.earlier

pub lengths_self : (m : Memory) → SameLengths m m
lengths_self m = record { productions = refl; owns = refl; sets = refl; earlier = refl }

still_roomy : {m m' : Memory} → SameLengths m m' → Roomy m → Roomy m'
still_roomy a room = record {
  productions = omega (arith, a.productions, room.productions);
  owns = omega (arith, a.owns, room.owns);
  sets = omega (arith, a.sets, room.sets);
  earlier = omega (arith, a.earlier, room.earlier);
}

-- ---- a load that is accepted

module _ (t : List ℕ) (m : Memory) (r : Record) where
  load_lengths : (ns owns : List ℕ) → load_refusal t m r ns owns ≡ 0 → SameLengths m (loaded m ns owns)
  unfolding loaded
  load_lengths ns owns h =
      let c = ((all_exactly t m r).load ns owns).none.0 h in
      let room = (short_means m).0 c.0 in
      let few : length ns ≤ 512 = c.1.1.1.1.0 in
      let e : length owns ≡ length ns = tree_equal t ns owns 0 c.1.1.1.1.1.0 in
      record {
        productions = length_filled ns m.productions (omega (arith, room.productions));
        owns = length_filled owns m.owns (omega (arith, room.owns));
        sets = length-replicate {A = ℕ} (length m.sets) 0;
        earlier = length-replicate {A = ℕ} (length m.earlier) 0;
      }

  load_going : (ns owns : List ℕ) → load_refusal t m r ns owns ≡ 0 → Going t (loaded m ns owns) (opened open_by.Load (length ns) (load_point (length ns) ∷ []))
  unfolding loaded opened load_call
  load_going ns owns h =
      let c = ((all_exactly t m r).load ns owns).none.0 h in
      let room = (short_means m).0 c.0 in
      let j : judge_tree t ns owns 0 ≡ 0 = c.1.1.1.1.1.0 in
      let e : length owns ≡ length ns = tree_equal t ns owns 0 j in
      record {
        footing = record {
          table = c.1.0;
          room = still_roomy (load_lengths ns owns h) room;
          within = (beyond_means (opened open_by.Load (length ns) (load_point (length ns) ∷ []))).0 (rw h at ((all_open_within t m r).load ns owns h));
        };
        held = refl;
        tree = rw (take_filled ns m.productions (length ns) refl, take_filled owns m.owns (length ns) e) j;
        busy = refl;
      }

  -- ---- a replacement that is accepted

  module _ (ps : List Part) (h : points_refusal t m r ps ≡ 0) where
    abbrev ns : List ℕ
    ns = nodes_of m r.nodes

    -- the tree then
    abbrev then : List ℕ
    then = nodes_row t ns ps

    abbrev then_owns : List ℕ
    then_owns = owns_row t ns (owns_of m r.nodes) ps

    record Exchanged : Type 0 where
      pub long : length then ≡ nodes_left t m r ps
      pub owns_long : length then_owns ≡ nodes_left t m r ps
      pub sound : judge_tree t then then_owns 0 ≡ 0
      pub few : nodes_left t m r ps ≤ 512

    exchanged_sound : Exchanged
    unfolding nodes_left
    exchanged_sound =
        let a = accepted t m r ps h in
        let law = all_rows t ns 0 0 ps a.tree a.row in
        let e : length then_owns ≡ length then = law.owned (owns_of m r.nodes) a.owned in
        record { long = sym a.count; owns_long = e ∙ sym a.count; sound = sym (tree_judged t then then_owns 0 (sym e)) ∙ law.sound; few = a.nodes }

    points_lengths : SameLengths m (replaced_row t m r.nodes ps)
    unfolding replaced_row
    points_lengths =
        let c = ((all_exactly t m r).points ps).none.0 h in
        let room = (short_means m).0 c.0 in
        let x = exchanged_sound in
        let values : ℕ → ℕ = arranged_row t ns ps m.sets in
        let long : length (map values (up_from 0 (8 * length then))) ≡ 8 * length then = map_long values 0 (8 * length then) in
        record {
          productions = length_filled then m.productions (omega (arith, room.productions, x.long, x.few));
          owns = length_filled then_owns m.owns (omega (arith, room.owns, x.owns_long, x.few));
          sets = length_filled (map values (up_from 0 (8 * length then))) m.sets (omega (arith, room.sets, x.long, x.few));
          earlier = length_filled (map values (up_from 0 (8 * length then))) m.earlier (omega (arith, room.earlier, x.long, x.few));
        }

    points_going : Going t (replaced_row t m r.nodes ps) (opened open_by.Replacement (nodes_left t m r ps) (points_row t ns ps))
    unfolding replaced_row opened points_call
    points_going =
        let c = ((all_exactly t m r).points ps).none.0 h in
        let room = (short_means m).0 c.0 in
        let x = exchanged_sound in
        record {
          footing = record {
            table = c.1.0;
            room = still_roomy points_lengths room;
            within = (beyond_means (opened open_by.Replacement (nodes_left t m r ps) (points_row t ns ps))).0 (rw h at ((all_open_within t m r).points ps h));
          };
          held = refl;
          tree = rw (take_filled then m.productions (nodes_left t m r ps) x.long, take_filled then_owns m.owns (nodes_left t m r ps) x.owns_long) x.sound;
          busy = refl;
        }

  -- ---- each, by its number

  -- what is left where nothing is refused
  abbrev load_left : List ℕ → List ℕ → Left (Said Opened)
  load_left ns owns = record { answer = said is_open; next = opened open_by.Load (length ns) (load_point (length ns) ∷ []); memory = loaded m ns owns }

  abbrev points_left : List Part → Left (Said Opened)
  points_left ps = record { answer = said is_open; next = opened open_by.Replacement (nodes_left t m r ps) (points_row t (nodes_of m r.nodes) ps); memory = replaced_row t m r.nodes ps }

  -- a replacement at one point is one at several
  single : (P : Left (Said Opened) → Type 0) (point : ℕ) (new new_owns : List ℕ) → ((ps : List Part) → P (points_call t m r ps)) → P (replace_call t m r point new new_owns)
  single P point new new_owns f = let p : Part = record { point = point; nodes = new; owns = new_owns } in subst P (one_point t m r p) (f (p ∷ []))

  module _ (holds : Holding t m r) (ps os : List ℕ) (command : ℕ) where
    abbrev Keeps : Left (Said Opened) → Type 0
    Keeps left = let h : Heard = opened_by t ps os m r command left in Sound h.awaited h.words h.part_owns h.memory h.next

    load_keeps : (ns owns : List ℕ) → Keeps (load_call t m r ns owns)
    unfolding load_call
    load_keeps ns owns = by_number (load_refusal t m r ns owns) refl
      where
        by_number : (n : ℕ) → load_refusal t m r ns owns ≡ n → Keeps (unless n r m (load_left ns owns))
        by_number zero h = load_going ns owns h
        by_number (suc n) h = holds

    points_keep : (parts : List Part) → Keeps (points_call t m r parts)
    unfolding points_call
    points_keep parts = by_number (points_refusal t m r parts) refl
      where
        by_number : (n : ℕ) → points_refusal t m r parts ≡ n → Keeps (unless n r m (points_left parts))
        by_number zero h = points_going parts h
        by_number (suc n) h = holds

    pub order_keeps : (coming : Coming) (qs : List Point) (ns owns : List ℕ) → Keeps (order_call coming qs t m r ns owns)
    order_keeps Load qs ns owns = load_keeps ns owns
    order_keeps (Replace point) qs ns owns = single Keeps point ns owns points_keep
    order_keeps (Several n) qs ns owns = points_keep (handed_row (places_from 0 n qs) ns owns)

  -- ---- whatever is answered

  abbrev Lengths : Left (Said Opened) → Type 0
  Lengths left = SameLengths m left.memory

  points_long : (parts : List Part) → Lengths (points_call t m r parts)
  unfolding points_call
  points_long parts = by_number (points_refusal t m r parts) refl
    where
      by_number : (n : ℕ) → points_refusal t m r parts ≡ n → Lengths (unless n r m (points_left parts))
      by_number zero h = points_lengths parts h
      by_number (suc n) h = lengths_self m

  load_long : (ns owns : List ℕ) → Lengths (load_call t m r ns owns)
  unfolding load_call
  load_long ns owns = by_number (load_refusal t m r ns owns) refl
    where
      by_number : (n : ℕ) → load_refusal t m r ns owns ≡ n → Lengths (unless n r m (load_left ns owns))
      by_number zero h = load_lengths ns owns h
      by_number (suc n) h = lengths_self m

  pub order_lengths : (coming : Coming) (qs : List Point) (ns owns : List ℕ) → SameLengths m (order_call coming qs t m r ns owns).memory
  order_lengths Load qs ns owns = load_long ns owns
  order_lengths (Replace point) qs ns owns = single Lengths point ns owns points_long
  order_lengths (Several n) qs ns owns = points_long (handed_row (places_from 0 n qs) ns owns)
