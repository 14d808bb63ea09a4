-- The attribute sets after a replacement: carried with their nodes, empty below the points, empty where nothing is declared. Assumes nothing.
use mathlib.Core.Path.{◌≡◌, refl, ap, sym, ◌∙◌}
use mathlib.Core.Logic.{inr, ⊎_elim}
use mathlib.Core.Bool.{true, false, cond}
use mathlib.Core.List.{List, [], ◌∷◌, ◌++◌, map}
use Prim.Native.Nat.{ℕ, ◌+◌, ◌-◌, ◌*◌, ◌/◌, ◌%◌, ◌≤◌, ◌<◌}
use native.Mathlib.Decide.{dec_lt}
use native.Mathlib.Omega.{arith}
use borrow.Author.Tests.{lt-ltb, le-ltb, le-leb, lt-leb}
use lib.Dec.{leb, ltb}
use lib.ListN.{length, get_or, take, drop, replicate, length-append, length-drop, length-replicate, get_or-append, get_or-eq_default}
use lib.Seq.{ext_get_or, length-take-le, get_or-take, get_or-drop, get_or-append-add}
use Rattle.table.specs.Words.{left_of}
use Rattle.circles.proofs.Lists.{map_long}
use Rattle.climb.proofs.Lists.{either}
use Rattle.tree.specs.declared.Point.{Point}
use Rattle.tree.specs.declared.Places.{Places}
use Rattle.tree.specs.declared.Cut.{Cut}
use Rattle.tree.specs.declared.Cuts.{Cuts}
use Rattle.tree.specs.Tree.{judge_nodes}
use Rattle.tree.specs.Replace.{part}
use Rattle.tree.specs.Points.{Part, nodes_row, spliced_row, shifted_row, points_row, new_at, is_new, back_row, Row, none, more}
use Rattle.tree.specs.Handed.{named_points, announced, cut_row, cut_of}
use Rattle.tree.proofs.Exchange.{sound_some}
use Rattle.tree.proofs.Replace.{replacement}
use Rattle.tree.proofs.Points.{some_part}
use Rattle.wire.specs.Instances.{node_of, index_of, declared}
use Rattle.update.specs.Memories.{Memory, nodes_of, owns_of, filled, arranged_row, replaced_row}
use Rattle.update.proofs.Openings.{values, values_at}
use Rattle.update.proofs.Arranging.{all_arranged, new_old}
use Rattle.update_place.specs.Inner.Cleared.{cleared_at, cleared}
use Rattle.update_place.specs.Inner.Pieces.{spliced, gaps, carried_by}
use Rattle.update_place.specs.Inner.Splicing.{Splicing}
use Rattle.update_place.proofs.Placed.{get_d_zeros, get_d_filled, length_filled}
use Rattle.update_place.proofs.Slots.{cleared_in, cleared_out, get_d_cleared, length_cleared}
use Rattle.update_place.proofs.Spliced.{splicing_cuts, splicing_even, splicing_law}

-- element j of three lists in a row
module _ (a b c : List ℕ) (j : ℕ) where
  in_first : j < length a → get_or (a ++ (b ++ c)) j 0 ≡ get_or a j 0
  in_first h = get_or-append a (b ++ c) 0 j h

  behind_first : length a ≤ j → get_or (a ++ (b ++ c)) j 0 ≡ get_or (b ++ c) (j - length a) 0
  behind_first h =
      let e : length a + (j - length a) ≡ j = omega arith in
      ap (λ (k : ℕ). get_or (a ++ (b ++ c)) k 0) (sym e) ∙ get_or-append-add a (b ++ c) (j - length a) 0

  in_second : length a ≤ j → j < length a + length b → get_or (a ++ (b ++ c)) j 0 ≡ get_or b (j - length a) 0
  in_second h k = behind_first h ∙ get_or-append b c 0 (j - length a) (omega arith)

  in_third : length a + length b ≤ j → get_or (a ++ (b ++ c)) j 0 ≡ get_or c (j - length a - length b) 0
  in_third h =
      let e : length b + (j - length a - length b) ≡ j - length a = omega arith in
      behind_first (omega arith) ∙ ap (λ (k : ℕ). get_or (b ++ c) k 0) (sym e) ∙ get_or-append-add b c (j - length a - length b) 0

module _ (t ns : List ℕ) where
  -- no node is new up to the first point
  none_new : («from» came left : ℕ) (ps : List Part) → Row t ns «from» ps → (m : ℕ) → m + left ≤ «from» + came → is_new (shifted_row t ns came left ps) m ≡ false
  unfolding shifted_row new_at
  none_new «from» came left [] none m h = refl
  none_new «from» came left (p ∷ ps) (more l f g) m h =
      rw (le-ltb (p.point + came - left) m (omega arith))
      (none_new (p.point + part t ns p.point) (came + length p.nodes) (left + part t ns p.point) ps g m (omega arith))

  module _ (tree : judge_nodes t ns (0 ∷ []) ≡ 0) (l : List ℕ) (long : length l ≡ 8 * length ns) where
    abbrev carried : List Point → ℕ → List ℕ
    carried qs «from» = spliced (gaps (map (cut_of t ns) qs)) l (8 * «from»)

    -- the next point's stretch: what stays, its own sets with it, and what starts empty
    abbrev stays : Point → ℕ → List ℕ
    stays q «from» = take (8 * (q.node + 1) - 8 * «from») (drop (8 * «from») l)

    abbrev empties : Point → List ℕ
    empties q = replicate (8 * (q.count - 1)) 0

    carried_next : (q : Point) (qs : List Point) («from» : ℕ) → 0 < part t ns q.node → carried (q ∷ qs) «from» ≡ stays q «from» ++ (empties q ++ carried qs (q.node + part t ns q.node))
    unfolding spliced gaps
    carried_next q qs «from» h =
        let e : 8 * (q.node + 1) + 8 * (part t ns q.node - 1) ≡ 8 * (q.node + part t ns q.node) = omega arith in
        ap (λ (k : ℕ). stays q «from» ++ (empties q ++ spliced (gaps (map (cut_of t ns) qs)) l k)) e

    stays_long : (q : Point) («from» : ℕ) → «from» ≤ q.node → q.node < length ns → length (stays q «from») ≡ 8 * (q.node + 1 - «from»)
    stays_long q «from» a b =
        length-take-le (8 * (q.node + 1) - 8 * «from») (drop (8 * «from») l) (omega (arith, length-drop (8 * «from») l)) ∙ omega arith

    empties_long : (q : Point) → length (empties q) ≡ 8 * (q.count - 1)
    empties_long q = length-replicate (8 * (q.count - 1)) 0

    -- eight sets for each node of the row's tree
    carried_long : (qs : List Point) (new new_owns : List ℕ) («from» : ℕ) → announced qs ≤ length new → «from» ≤ length ns → Row t ns «from» (cut_row qs new new_owns)
        → length (carried qs «from») ≡ 8 * length (spliced_row t ns (λ p. p.nodes) ns «from» (cut_row qs new new_owns))
    unfolding spliced gaps cut_row announced spliced_row
    carried_long [] new new_owns «from» a b none = omega (arith, length-drop (8 * «from») l, length-drop «from» ns)
    carried_long (q ∷ qs) new new_owns «from» a b (more h f g) =
        let k = part t ns q.node in
        let some = sound_some t (take q.count new) (left_of t (get_or ns q.node 0)) f.sound in
        let r = replacement t ns (take q.count new) 0 q.node tree f.inside f.sound in
        let e = length-take-le q.count new (omega arith) in
        let rest = spliced_row t ns (λ p. p.nodes) ns (q.node + k) (cut_row qs (drop q.count new) (drop q.count new_owns)) in
        let i = carried_long qs (drop q.count new) (drop q.count new_owns) (q.node + k) (omega (arith, length-drop q.count new)) r.fits g in
        let x = ap length (carried_next q qs «from» (some_part t ns q.node f.inside)) in
        let x₁ = length-append (stays q «from») (empties q ++ carried qs (q.node + k)) in
        let x₂ = length-append (empties q) (carried qs (q.node + k)) in
        let y₁ = length-append (take (q.node - «from») (drop «from» ns)) (take q.count new ++ rest) in
        let y₂ = length-append (take q.count new) rest in
        let y₃ = length-take-le (q.node - «from») (drop «from» ns) (omega (arith, length-drop «from» ns, f.inside)) in
        omega (arith, stays_long q «from» h f.inside, empties_long q)

    -- what stands at slot j from node `to` of the new tree on: nothing below a point, and elsewhere what the node had
    abbrev told : List Part → ℕ → ℕ → ℕ → ℕ → ℕ
    told ps came left m i = cond (is_new (shifted_row t ns came left ps) m) 0 (get_or l (8 * back_row t ns came left ps m + i) 0)

    slot : (qs : List Point) (new new_owns : List ℕ) («from» came left to : ℕ) → announced qs ≤ length new → Row t ns «from» (cut_row qs new new_owns) → to + left ≡ «from» + came
        → (j m : ℕ) → m ≡ to + j / 8 → get_or (carried qs «from») j 0 ≡ told (cut_row qs new new_owns) came left m (j % 8)
    unfolding spliced gaps cut_row announced back_row shifted_row new_at
    slot [] new new_owns «from» came left to a none e j m v =
        let z : 8 * «from» + j ≡ 8 * (m + left - came) + j % 8 = omega arith in
        get_or-drop (8 * «from») l j 0 ∙ ap (λ (k : ℕ). get_or l k 0) z
    slot (q ∷ qs) new new_owns «from» came left to a (more h f g) e j m v =
        let k = part t ns q.node in
        let s = length (take q.count new) in
        let r = q.node + came - left in
        let next = cut_row qs (drop q.count new) (drop q.count new_owns) in
        let rest = carried qs (q.node + k) in
        let some = sound_some t (take q.count new) (left_of t (get_or ns q.node 0)) f.sound in
        let c : s ≡ q.count = length-take-le q.count new (omega arith) in
        let n₁ = stays_long q «from» h f.inside in
        let n₂ = empties_long q in
        let x = ap (λ (y : List ℕ). get_or y j 0) (carried_next q qs «from» (some_part t ns q.node f.inside)) in
        elim (dec_lt j (8 * (q.node + 1 - «from»))) [
          | yes b ↦
              let z : 8 * «from» + j ≡ 8 * (m + left - came) + j % 8 = omega arith in
              let w = none_new (q.node + k) (came + s) (left + k) next g m (omega arith) in
              let o₁ : ltb r m ≡ false = le-ltb r m (omega arith) in
              let o₂ : leb m r ≡ true = le-leb m r (omega arith) in
              x ∙ in_first (stays q «from») (empties q) rest j (omega arith)
              ∙ get_or-take (8 * (q.node + 1) - 8 * «from») (drop (8 * «from») l) j 0 (omega arith)
              ∙ get_or-drop (8 * «from») l j 0
              ∙ rw (o₁, w, o₂) (ap (λ (i : ℕ). get_or l i 0) z)
          | no b ↦ elim (dec_lt j (8 * (q.node + 1 - «from») + 8 * (q.count - 1))) [
            | yes d ↦
                let o₁ : ltb r m ≡ true = lt-ltb r m (omega arith) in
                let o₂ : ltb m (r + s) ≡ true = lt-ltb m (r + s) (omega arith) in
                x ∙ in_second (stays q «from») (empties q) rest j (omega arith) (omega arith) ∙ get_d_zeros (8 * (q.count - 1)) (j - length (stays q «from»)) ∙ rw (o₁, o₂)
            | no d ↦
                let j' = j - length (stays q «from») - length (empties q) in
                let o₀ : ltb r m ≡ true = lt-ltb r m (omega arith) in
                let o₁ : ltb m (r + s) ≡ false = le-ltb m (r + s) (omega arith) in
                let o₂ : leb m r ≡ false = lt-leb m r (omega arith) in
                let i = slot qs (drop q.count new) (drop q.count new_owns) (q.node + k) (came + s) (left + k) (r + s) (omega (arith, length-drop q.count new)) g (omega arith) j' m (omega arith) in
                let y : j' % 8 ≡ j % 8 = omega arith in
                x ∙ in_third (stays q «from») (empties q) rest j (omega arith) ∙ i ∙ rw (y, o₀, o₁, o₂)
          ]
        ]

-- ---- the memory

module _ (t : List ℕ) (m : Memory) (n : ℕ) (points : Places) (cs : Cuts) (new new_owns : List ℕ) (s : Splicing t (nodes_of m n) (owns_of m n) points cs new new_owns)
    (hn : n ≤ length m.productions) (hs : 8 * n ≤ length m.sets) where
  abbrev ns : List ℕ
  ns = nodes_of m n

  abbrev ps : List Part
  ps = cut_row (named_points points) new new_owns

  abbrev after : List ℕ
  after = nodes_row t ns ps

  abbrev sets : List ℕ
  sets = take (8 * n) m.sets

  held_many : length ns ≡ n
  held_many = length-take-le n m.productions hn

  sets_many : length sets ≡ 8 * length ns
  sets_many = length-take-le (8 * n) m.sets hs ∙ ap (λ k. 8 * k) (sym held_many)

  carried_is : carried_by cs sets ≡ carried t ns s.tree sets sets_many (named_points points) 0
  carried_is = ap (λ (c : List Cut). spliced (gaps c) sets 0) (splicing_cuts s)

  -- eight sets for each node
  pub carried_count : length (carried_by cs sets) ≡ 8 * length after
  carried_count =
      let e = (splicing_even s).0 in
      ap length carried_is
      ∙ carried_long t ns s.tree sets sets_many (named_points points) new new_owns 0 (omega arith) (omega arith) s.row
      ∙ ap (λ (l : List ℕ). 8 * length l) (sym (splicing_law s).spliced)

  -- what survives was a node, so its sets are among those held
  had : (x : ℕ) → node_of x < length after → told t ns s.tree sets sets_many ps 0 0 (node_of x) (index_of x)
      ≡ cond (is_new (points_row t ns ps) (node_of x)) 0 (get_or m.sets (8 * back_row t ns 0 0 ps (node_of x) + index_of x) 0)
  had x h = ⊎_elim
      (λ (v : is_new (points_row t ns ps) (node_of x) ≡ true). rw v)
      (λ (v : is_new (points_row t ns ps) (node_of x) ≡ false).
      let o = new_old (points_row t ns ps) (node_of x) v in
      let b = (splicing_law s).was (node_of x) h o in
      let c = (splicing_law s).closed (node_of x) o in
      rw v (get_or-take (8 * n) m.sets (8 * back_row t ns 0 0 ps (node_of x) + index_of x) 0 (omega (arith, held_many))))
      (either (is_new (points_row t ns ps) (node_of x)))

  carried_slot : (x : ℕ) → node_of x < length after → get_or (carried_by cs sets) x 0
      ≡ cond (is_new (points_row t ns ps) (node_of x)) 0 (get_or m.sets (8 * back_row t ns 0 0 ps (node_of x) + index_of x) 0)
  carried_slot x h =
      let e = (splicing_even s).0 in
      ap (λ (l : List ℕ). get_or l x 0) carried_is
      ∙ slot t ns s.tree sets sets_many (named_points points) new new_owns 0 0 0 0 (omega arith) s.row refl x (node_of x) (omega arith)
      ∙ had x h

  row_slot : (d : List ℕ) (x : ℕ) → get_or (filled (values t ns ps m.sets) d) x 0
      ≡ cond (declared t after x) (cond (is_new (points_row t ns ps) (node_of x)) 0 (get_or m.sets (8 * back_row t ns 0 0 ps (node_of x) + index_of x) 0)) 0
  unfolding replaced_row
  row_slot d x = values_at t ns ps m.sets d x ∙ sym (values_at t ns ps m.sets m.sets x) ∙ (all_arranged t m n ps s.tree s.row x).set

  module _ (d : List ℕ) (room : 8 * length after ≤ length d) where
    ready : List ℕ
    ready = filled (carried_by cs sets) d

    ready_long : length ready ≡ length d
    unfolding ready
    ready_long = length_filled (carried_by cs sets) d (omega (arith, carried_count))

    values_long : length (values t ns ps m.sets) ≡ 8 * length after
    values_long = map_long (arranged_row t ns ps m.sets) 0 (8 * length after)

    each_slot : (x : ℕ) → cleared_at t after 0 (length after) ready x ≡ get_or (filled (values t ns ps m.sets) d) x 0
    unfolding ready
    each_slot x = elim (dec_lt (node_of x) (length after)) [
      | yes h ↦
          cleared_in t after 0 (length after) ready x (omega arith) h
          ∙ ap (λ (v : ℕ). cond (declared t after x) v 0) (get_d_filled (carried_by cs sets) d x ∙ carried_slot x h)
          ∙ sym (row_slot d x)
      | no h ↦
          cleared_out t after 0 (length after) ready x (inr (omega arith))
          ∙ get_d_filled (carried_by cs sets) d x
          ∙ get_or-eq_default (carried_by cs sets) 0 (omega (arith, carried_count))
          ∙ sym (get_d_filled (values t ns ps m.sets) d x ∙ get_or-eq_default (values t ns ps m.sets) 0 (omega (arith, values_long)))
    ]

    -- a point keeps its sets and the rest of its new part has none, at every point; undeclared slots and what lies behind are zero
    pub arrange : cleared t after 0 (length after) (filled (carried_by cs sets) d) ≡ filled (values t ns ps m.sets) d
    unfolding ready
    arrange =
        let e = length_cleared t after 0 (length after) ready in
        ext_get_or 0 (cleared t after 0 (length after) ready) (filled (values t ns ps m.sets) d) (e ∙ ready_long ∙ sym (length_filled (values t ns ps m.sets) d (omega (arith, values_long))))
        (λ x h. get_d_cleared t after 0 (length after) ready x (omega (arith, e)) ∙ each_slot x)
