-- A buffer into which a spliced list is written from front to back: the turns of the loops, for nodes and for sets alike. Assumes nothing.
use mathlib.Core.Path.{◌≡◌, refl, ap, sym, ◌∙◌, subst}
use mathlib.Core.List.{List, [], ◌∷◌, ◌++◌, append_assoc}
use Prim.Native.Nat.{ℕ, zero, suc, ◌+◌, ◌-◌, ◌*◌, ◌≤◌, ◌<◌}
use native.Mathlib.Omega.{arith}
use lib.ListN.{length, take, drop, replicate, length-append, length-drop, length-replicate, drop_of_length-le}
use Rattle.std.proofs.lemmas.List.{drop_more}
use lib.Seq.{paste, drop-cons, length-paste, take-paste, length-take-le, take_all, take-take, drop-drop}
use Rattle.tree.specs.declared.Cut.{Cut}
use Rattle.tree.specs.declared.Cuts.{Cuts}
use Rattle.tree.specs.Handed.{cut_at}
use Rattle.update.specs.Memories.{filled_with}
use Rattle.update_place.specs.Inner.Pieces.{Piece, spliced, cuts_from, named_cuts, pieces, gaps, spliced_by, carried_by, Fits, none, more, Fitting, Apart}
use Rattle.update_place.proofs.Placed.{drop_take, clear_rest}
use Rattle.update.proofs.Filled.{filled_with_as}

-- ---- the buffer

-- b, as long as d, has the first `to` of `whole`; what is left comes from place `at` of l on
pub record Laying {A : Type 0} (ps : List (Piece A)) (l whole d : List A) (at to : ℕ) (b : List A) : Type 0 where
  pub long : length b ≡ length d
  pub within : to ≤ length d
  pub room : length whole ≤ length d
  pub laid : take to b ++ spliced ps l at ≡ whole

pub laying : {A : Type 0} (ps : List (Piece A)) (l d : List A) → length (spliced ps l 0) ≤ length d → Laying ps l (spliced ps l 0) d 0 0 d
laying ps l d h = record { long = refl; within = omega arith; room = h; laid = refl }

-- what stays, up to the next piece
abbrev staying : {A : Type 0} → Piece A → ℕ → List A → List A
staying p at l = take (p.from - at) (drop at l)

module _ {A : Type 0} (p : Piece A) (ps : List (Piece A)) (l whole d : List A) (at to : ℕ) (b : List A) (inside : at ≤ p.from) (fits : p.from ≤ length l) (w : Laying (p ∷ ps) l whole d at to b) where
  staying_long : length (staying p at l) ≡ p.from - at
  staying_long = length-take-le (p.from - at) (drop at l) (omega (arith, length-drop at l))

  front_long : length (take to b) ≡ to
  front_long = length-take-le to b (omega (arith, w.long, w.within))

  -- there is room for what stays and for what comes
  pub piece_room : to + (p.from - at) + length p.fresh ≤ length d
  unfolding spliced
  piece_room =
      let rest = spliced ps l (p.from + p.old) in
      let e = ap length w.laid in
      let f = length-append (take to b) (staying p at l ++ (p.fresh ++ rest)) in
      let g = length-append (staying p at l) (p.fresh ++ rest) in
      let h = length-append p.fresh rest in
      omega (arith, front_long, staying_long, w.room)

  -- both are written: s begins with what stays, and f with what comes
  pub piece_laid : (n k : ℕ) (s f b₁ b₂ : List A) → n ≡ p.from - at → k ≡ length p.fresh → n ≤ length s → take n s ≡ staying p at l → k ≤ length f → take k f ≡ p.fresh
      → b₁ ≡ paste b to s n → b₂ ≡ paste b₁ (to + n) f k → Laying ps l whole d (p.from + p.old) (to + n + k) b₂
  unfolding spliced
  piece_laid n k s f b₁ b₂ en ek hs es hf ef e₁ e₂ =
      let room = piece_room in
      let rest = spliced ps l (p.from + p.old) in
      let long₁ : length b₁ ≡ length d = ap length e₁ ∙ length-paste b to s n (omega (arith, w.long)) hs ∙ w.long in
      let long₂ : length b₂ ≡ length d = ap length e₂ ∙ length-paste b₁ (to + n) f k (omega arith) hf ∙ long₁ in
      let t₁ : take (to + n) b₁ ≡ take to b ++ staying p at l =
      ap (take (to + n)) e₁ ∙ take-paste b to s n (omega (arith, w.long, w.within)) hs ∙ ap (λ x. take to b ++ x) es in
      let t₂ : take (to + n + k) b₂ ≡ take to b ++ staying p at l ++ p.fresh =
      ap (take (to + n + k)) e₂ ∙ take-paste b₁ (to + n) f k (omega arith) hf ∙ ap (λ x. take (to + n) b₁ ++ x) ef ∙ ap (λ x. x ++ p.fresh) t₁ in
      record {
        long = long₂;
        within = omega arith;
        room = w.room;
        laid =
            ap (λ x. x ++ rest) t₂
            ∙ append_assoc (take to b ++ staying p at l) p.fresh rest
            ∙ append_assoc (take to b) (staying p at l) (p.fresh ++ rest)
            ∙ w.laid;
      }

-- no piece is left: the tail, and z behind it
module _ {A : Type 0} (l whole d : List A) (at to : ℕ) (b : List A) (inside : at ≤ length l) (w : Laying [] l whole d at to b) where
  pub tail_count : to + (length l - at) ≡ length whole
  unfolding spliced
  tail_count =
      let e = ap length w.laid in
      let f = length-append (take to b) (drop at l) in
      omega (arith, length-take-le to b (omega (arith, w.long, w.within)), length-drop at l)

  pub tail_room : to + (length l - at) ≤ length d
  tail_room = omega (arith, tail_count, w.room)

  pub tail_laid : (z : A) (n e : ℕ) (s b₁ : List A) → n ≡ length l - at → n ≤ length s → take n s ≡ drop at l → b₁ ≡ paste b to s n → e ≡ to + n
      → paste b₁ e (replicate (length b₁ - e) z) (length b₁ - e) ≡ filled_with z whole d
  unfolding spliced
  tail_laid z n e s b₁ en hs es e₁ ee =
      let room = tail_room in
      let long₁ : length b₁ ≡ length d = ap length e₁ ∙ length-paste b to s n (omega (arith, w.long)) hs ∙ w.long in
      let t₁ : take e b₁ ≡ whole =
      ap (λ i. take i b₁) ee ∙ ap (take (to + n)) e₁ ∙ take-paste b to s n (omega (arith, w.long, w.within)) hs ∙ ap (λ x. take to b ++ x) es ∙ w.laid in
      clear_rest z b₁ e (omega arith) ∙ ap (λ x. filled_with z x b₁) t₁ ∙ filled_with_as z whole b₁ d long₁

-- ---- the first n of a longer slice

-- what is read of a slice, where its first n are meant
pub front_part : {A : Type 0} (h : List A) (n at k : ℕ) → at + k ≤ n → take k (drop at h) ≡ take k (drop at (take n h))
front_part h n at k i =
    let e : at + (n - at) ≡ n = omega arith in
    sym (take-take k (n - at) (drop at h) (omega arith)) ∙ ap (take k) (sym (drop_take at (n - at) h) ∙ ap (λ j. drop at (take j h)) e)

-- ---- the cuts

-- one cut more
pub next_cut : (count i : ℕ) (cs : List Cut) → i < count → cuts_from i (count - i) cs ≡ cut_at cs i ∷ cuts_from (i + 1) (count - (i + 1)) cs
unfolding cuts_from
next_cut count i cs h =
    let e : count - i ≡ suc (count - (i + 1)) = omega arith in
    let f : suc i ≡ i + 1 = omega arith in
    ap (λ (n : ℕ). cuts_from i n cs) e ∙ ap (λ (j : ℕ). cut_at cs i ∷ cuts_from j (count - (i + 1)) cs) f

pub no_cut : (count i : ℕ) (cs : List Cut) → count ≤ i → cuts_from i (count - i) cs ≡ []
unfolding cuts_from
no_cut count i cs h = let e : count - i ≡ 0 = omega arith in ap (λ (n : ℕ). cuts_from i n cs) e

-- as many as there are, they are the front of the array
cuts_taken : (i n : ℕ) (cs : List Cut) → i + n ≤ length cs → cuts_from i n cs ≡ take n (drop i cs)
unfolding cuts_from
cuts_taken i zero cs h = refl
cuts_taken i (suc n) cs h =
    let e : drop i cs ≡ cut_at cs i ∷ drop (suc i) cs = drop-cons cs i (record { node = 0; old = 0; count = 0 }) (omega arith) in
    ap (λ (l : List Cut). cut_at cs i ∷ l) (cuts_taken (suc i) n cs (omega arith)) ∙ ap (take (suc n)) (sym e)

pub cuts_front : (n : ℕ) (cs : List Cut) → n ≤ length cs → cuts_from 0 n cs ≡ take n cs
cuts_front n cs h = cuts_taken 0 n cs (omega arith)

-- the cuts that are left rise from node `at` on: what is known of the next one
pub record Next (n at left : ℕ) (c : Cut) (cs : List Cut) : Type 0 where
  pub after : at ≤ c.node
  pub some : 0 < c.old
  pub inside : c.node + c.old ≤ n
  pub new : 0 < c.count
  pub came : c.count ≤ left
  pub rest : Fits n (c.node + c.old) (left - c.count) cs

first_fits : {n at left : ℕ} {c : Cut} {cs : List Cut} → Fits n at left (c ∷ cs) → Next n at left c cs
first_fits (more a s i k m r) = record { after = a; some = s; inside = i; new = k; came = m; rest = r }

fits_inside : {n at left : ℕ} {cs : List Cut} → Fits n at left cs → at ≤ n
fits_inside (none h) = h
fits_inside (more a s i k m r) = omega arith

-- ---- nodes and own sets

-- the loop's state: the cuts cs are left, place `at` of the held ones, `from` of the new ones, `to` of the buffer b
pub record Splice {A : Type 0} (held new : List A) (n : ℕ) (cs : List Cut) (whole d : List A) (at «from» to : ℕ) (b : List A) : Type 0 where
  pub fits : Fits n at (length new - «from») cs
  pub start : «from» ≤ length new
  pub laying : Laying (pieces cs (drop «from» new)) (take n held) whole d at to b

splice_begun : {A : Type 0} (held new : List A) (n : ℕ) (cs : List Cut) (d : List A) → Fits n 0 (length new) cs → length (spliced (pieces cs new) (take n held) 0) ≤ length d
    → Splice held new n cs (spliced (pieces cs new) (take n held) 0) d 0 0 0 d
splice_begun held new n cs d fits room =
    let f : length new - 0 ≡ length new = omega arith in
    record { fits = rw f fits; start = omega arith; laying = laying (pieces cs new) (take n held) d room }

-- what a turn needs
pub record CutTurn (n all most at «from» to : ℕ) (c : Cut) : Type 0 where
  pub after : at ≤ c.node
  pub inside : c.node + c.old ≤ n
  pub came : «from» + c.count ≤ all
  pub room : to + (c.node - at) + c.count ≤ most

module _ {A : Type 0} (held new : List A) (n : ℕ) (whole d : List A) (at «from» to : ℕ) (b : List A) (hn : n ≤ length held) where
  held_long : length (take n held) ≡ n
  held_long = length-take-le n held hn

  module _ (c : Cut) (cs : List Cut) (w : Splice held new n (c ∷ cs) whole d at «from» to b) where
    next : Next n at (length new - «from») c cs
    next = first_fits w.fits

    -- the next piece, and those behind it
    abbrev piece : Piece A
    piece = record { from = c.node; old = c.old; fresh = take c.count (drop «from» new) }

    next_laying : Laying (piece ∷ pieces cs (drop («from» + c.count) new)) (take n held) whole d at to b
    unfolding pieces
    next_laying = rw (← drop-drop c.count «from» new) w.laying

    came_long : c.count ≤ length (drop «from» new)
    came_long = omega (arith, next.came, length-drop «from» new)

    fresh_long : length piece.fresh ≡ c.count
    fresh_long = length-take-le c.count (drop «from» new) came_long

    pub turn : CutTurn n (length new) (length d) at «from» to c
    turn =
        let k = next in
        let r = piece_room piece (pieces cs (drop («from» + c.count) new)) (take n held) whole d at to b k.after (omega (arith, held_long, k.inside)) next_laying in
        record { after = k.after; inside = k.inside; came = omega (arith, k.came, w.start); room = omega (arith, fresh_long) }

    pub splice_on : (b₁ b₂ : List A) → b₁ ≡ paste b to (drop at held) (c.node - at) → b₂ ≡ paste b₁ (to + (c.node - at)) (drop «from» new) c.count
        → Splice held new n cs whole d (c.node + c.old) («from» + c.count) (to + (c.node - at) + c.count) b₂
    splice_on b₁ b₂ e₁ e₂ =
        let k = next in
        let f : length new - («from» + c.count) ≡ length new - «from» - c.count = omega arith in
        record {
          fits = rw f k.rest;
          start = omega (arith, k.came, w.start);
          laying = piece_laid piece (pieces cs (drop («from» + c.count) new)) (take n held) whole d at to b k.after (omega (arith, held_long, k.inside)) next_laying
              (c.node - at) c.count (drop at held) (drop «from» new) b₁ b₂ refl (sym fresh_long) (omega (arith, length-drop at held, k.inside))
              (front_part held n at (c.node - at) (omega (arith, k.inside, k.after))) came_long refl e₁ e₂;
        }

  module _ (w : Splice held new n [] whole d at «from» to b) where
    last_laying : Laying [] (take n held) whole d at to b
    unfolding pieces
    last_laying = w.laying

    tail_inside : at ≤ n
    tail_inside = fits_inside w.fits

    -- what the tail needs
    pub tail_turn : (at ≤ n) × (to + (n - at) ≤ length d) × (to + (n - at) ≡ length whole)
    tail_turn =
        let a = tail_inside in
        let k = held_long in
        (a, rw k at (tail_room (take n held) whole d at to b (omega arith) last_laying), rw k at (tail_count (take n held) whole d at to b (omega arith) last_laying))

    pub splice_end : (z : A) (b₁ : List A) → b₁ ≡ paste b to (drop at held) (n - at)
        → paste b₁ (to + (n - at)) (replicate (length b₁ - (to + (n - at))) z) (length b₁ - (to + (n - at))) ≡ filled_with z whole d
    splice_end z b₁ e₁ =
        let a = tail_inside in
        let k = held_long in
        let f : take (n - at) (drop at held) ≡ drop at (take n held) =
        front_part held n at (n - at) (omega arith) ∙ take_all (n - at) (drop at (take n held)) (omega (arith, length-drop at (take n held))) in
        tail_laid (take n held) whole d at to b (omega arith) last_laying z (n - at) (to + (n - at)) (drop at held) b₁ (omega arith) (omega (arith, length-drop at held)) f e₁ refl

pub splice_start : {A : Type 0} (held new : List A) (n : ℕ) (cs : Cuts) (d : List A) → cs.count ≤ length cs.cuts → Fitting cs n (length new) → length (spliced_by cs new (take n held)) ≤ length d
    → Splice held new n (take cs.count cs.cuts) (spliced_by cs new (take n held)) d 0 0 0 d
splice_start held new n cs d h f room = rw (← cuts_front cs.count cs.cuts h) (splice_begun held new n (named_cuts cs) d f.fits room)

-- the same of the cuts that a loop has not come to: i of `cuts` are behind it
module _ {A : Type 0} {held new : List A} {n : ℕ} (cuts : List Cut) {whole d : List A} {at «from» to : ℕ} (i : ℕ) {b : List A} (hn : n ≤ length held)
    (w : Splice held new n (drop i cuts) whole d at «from» to b) where
  module _ (h : i < length cuts) where
    here : Splice held new n (cut_at cuts i ∷ drop (i + 1) cuts) whole d at «from» to b
    here = rw (drop_more cuts i (record { node = 0; old = 0; count = 0 }) h) at w

    pub turn_at : CutTurn n (length new) (length d) at «from» to (cut_at cuts i)
    turn_at = turn held new n whole d at «from» to b hn (cut_at cuts i) (drop (i + 1) cuts) here

    pub splice_at : (b₁ b₂ : List A) (to₂ : ℕ) → b₁ ≡ paste b to (drop at held) ((cut_at cuts i).node - at)
        → b₂ ≡ paste b₁ (to + ((cut_at cuts i).node - at)) (drop «from» new) (cut_at cuts i).count → to₂ ≡ to + ((cut_at cuts i).node - at) + (cut_at cuts i).count
        → Splice held new n (drop (i + 1) cuts) whole d ((cut_at cuts i).node + (cut_at cuts i).old) («from» + (cut_at cuts i).count) to₂ b₂
    splice_at b₁ b₂ to₂ e₁ e₂ e = rw e (splice_on held new n whole d at «from» to b hn (cut_at cuts i) (drop (i + 1) cuts) here b₁ b₂ e₁ e₂)

  module _ (h : length cuts ≤ i) where
    none_left : Splice held new n [] whole d at «from» to b
    none_left = rw (drop_of_length-le cuts h) at w

    pub tail_at : (at ≤ n) × (to + (n - at) ≤ length d) × (to + (n - at) ≡ length whole)
    tail_at = tail_turn held new n whole d at «from» to b hn none_left

    pub end_at : (z : A) (b₁ : List A) → b₁ ≡ paste b to (drop at held) (n - at)
        → paste b₁ (to + (n - at)) (replicate (length b₁ - (to + (n - at))) z) (length b₁ - (to + (n - at))) ≡ filled_with z whole d
    end_at z b₁ e = splice_end held new n whole d at «from» to b hn none_left z b₁ e

-- ---- attribute sets, eight to a node

-- the loop's state: the cuts cs are left, node `at` of those held, place `to` of the buffer b
pub record Carry (sets : List ℕ) (n : ℕ) (cs : List Cut) (whole d : List ℕ) (at to : ℕ) (b : List ℕ) : Type 0 where
  pub left : ℕ
  pub fits : Fits n at left cs
  pub laying : Laying (gaps cs) (take (8 * n) sets) whole d (8 * at) to b

carry_begun : (sets : List ℕ) (n : ℕ) (cs : List Cut) (d : List ℕ) (came : ℕ) → Fits n 0 came cs → length (spliced (gaps cs) (take (8 * n) sets) 0) ≤ length d
    → Carry sets n cs (spliced (gaps cs) (take (8 * n) sets) 0) d 0 0 d
carry_begun sets n cs d came fits room = record { left = came; fits = fits; laying = laying (gaps cs) (take (8 * n) sets) d room }

-- what a turn needs
pub record Carrying (n most at to : ℕ) (c : Cut) : Type 0 where
  pub after : at ≤ c.node
  pub inside : c.node + c.old ≤ n
  pub some : 0 < c.old
  pub new : 0 < c.count
  pub room : to + 8 * (c.node + 1 - at) + 8 * (c.count - 1) ≤ most

module _ (sets : List ℕ) (n : ℕ) (whole d : List ℕ) (at to : ℕ) (b : List ℕ) (hn : 8 * n ≤ length sets) where
  sets_long : length (take (8 * n) sets) ≡ 8 * n
  sets_long = length-take-le (8 * n) sets hn

  module _ (c : Cut) (cs : List Cut) (w : Carry sets n (c ∷ cs) whole d at to b) where
    next_gap : Next n at w.left c cs
    next_gap = first_fits w.fits

    abbrev gap : Piece ℕ
    gap = record { from = 8 * (c.node + 1); old = 8 * (c.old - 1); fresh = replicate (8 * (c.count - 1)) 0 }

    gap_laying : Laying (gap ∷ gaps cs) (take (8 * n) sets) whole d (8 * at) to b
    unfolding gaps
    gap_laying = w.laying

    empty_long : length gap.fresh ≡ 8 * (c.count - 1)
    empty_long = length-replicate (8 * (c.count - 1)) 0

    pub carry_turn : Carrying n (length d) at to c
    carry_turn =
        let k = next_gap in
        let r = piece_room gap (gaps cs) (take (8 * n) sets) whole d (8 * at) to b (omega (arith, k.after)) (omega (arith, sets_long, k.inside, k.some)) gap_laying in
        record { after = k.after; inside = k.inside; some = k.some; new = k.new; room = omega (arith, empty_long) }

    pub carry_on : (b₁ b₂ : List ℕ) → b₁ ≡ paste b to (drop (8 * at) sets) (8 * (c.node + 1 - at))
        → b₂ ≡ paste b₁ (to + 8 * (c.node + 1 - at)) (replicate (8 * (c.count - 1)) 0) (8 * (c.count - 1))
        → Carry sets n cs whole d (c.node + c.old) (to + 8 * (c.node + 1 - at) + 8 * (c.count - 1)) b₂
    carry_on b₁ b₂ e₁ e₂ =
        let k = next_gap in
        let m = 8 * (c.node + 1 - at) in
        let z = 8 * (c.count - 1) in
        let v : gap.from + gap.old ≡ 8 * (c.node + c.old) = omega (arith, k.some) in
        let y : m ≡ gap.from - 8 * at = omega (arith, k.after) in
        record {
          left = w.left - c.count;
          fits = k.rest;
          laying = subst (λ (j : ℕ). Laying (gaps cs) (take (8 * n) sets) whole d j (to + m + z) b₂) v
              (piece_laid gap (gaps cs) (take (8 * n) sets) whole d (8 * at) to b (omega (arith, k.after)) (omega (arith, sets_long, k.inside, k.some)) gap_laying
              m z (drop (8 * at) sets) (replicate z 0) b₁ b₂ y (sym empty_long) (omega (arith, length-drop (8 * at) sets, k.inside, k.some, k.after))
              (front_part sets (8 * n) (8 * at) m (omega (arith, k.inside, k.some, k.after)) ∙ ap (λ j. take j (drop (8 * at) (take (8 * n) sets))) y)
              (omega (arith, empty_long)) (take_all z (replicate z 0) (omega (arith, empty_long))) e₁ e₂);
        }

  module _ (w : Carry sets n [] whole d at to b) where
    sets_left : Laying [] (take (8 * n) sets) whole d (8 * at) to b
    unfolding gaps
    sets_left = w.laying

    nodes_left : at ≤ n
    nodes_left = fits_inside w.fits

    pub carry_tail : (at ≤ n) × (to + 8 * (n - at) ≤ length d)
    carry_tail =
        let a = nodes_left in
        (a, omega (arith, tail_room (take (8 * n) sets) whole d (8 * at) to b (omega (arith, sets_long)) sets_left, sets_long))

    pub carry_end : (b₁ : List ℕ) → b₁ ≡ paste b to (drop (8 * at) sets) (8 * (n - at))
        → paste b₁ (to + 8 * (n - at)) (replicate (length b₁ - (to + 8 * (n - at))) 0) (length b₁ - (to + 8 * (n - at))) ≡ filled_with 0 whole d
    carry_end b₁ e₁ =
        let a = nodes_left in
        let k = sets_long in
        let f : take (8 * (n - at)) (drop (8 * at) sets) ≡ drop (8 * at) (take (8 * n) sets) =
        front_part sets (8 * n) (8 * at) (8 * (n - at)) (omega arith) ∙ take_all (8 * (n - at)) (drop (8 * at) (take (8 * n) sets)) (omega (arith, length-drop (8 * at) (take (8 * n) sets))) in
        tail_laid (take (8 * n) sets) whole d (8 * at) to b (omega (arith, sets_long)) sets_left 0 (8 * (n - at)) (to + 8 * (n - at)) (drop (8 * at) sets) b₁ (omega arith) (omega (arith, length-drop (8 * at) sets)) f e₁ refl

pub carry_start : (sets : List ℕ) (n : ℕ) (cs : Cuts) (d : List ℕ) → cs.count ≤ length cs.cuts → Apart cs n → length (carried_by cs (take (8 * n) sets)) ≤ length d
    → Carry sets n (take cs.count cs.cuts) (carried_by cs (take (8 * n) sets)) d 0 0 d
carry_start sets n cs d h a room = rw (← cuts_front cs.count cs.cuts h) (carry_begun sets n (named_cuts cs) d a.came a.fitting.fits room)

-- the same of the cuts that a loop has not come to: i of `cuts` are behind it
module _ {sets : List ℕ} {n : ℕ} (cuts : List Cut) {whole d : List ℕ} {at to : ℕ} (i : ℕ) {b : List ℕ} (hn : 8 * n ≤ length sets) (w : Carry sets n (drop i cuts) whole d at to b) where
  module _ (h : i < length cuts) where
    carried_here : Carry sets n (cut_at cuts i ∷ drop (i + 1) cuts) whole d at to b
    carried_here = rw (drop_more cuts i (record { node = 0; old = 0; count = 0 }) h) at w

    pub carry_turn_at : Carrying n (length d) at to (cut_at cuts i)
    carry_turn_at = carry_turn sets n whole d at to b hn (cut_at cuts i) (drop (i + 1) cuts) carried_here

    pub carry_at : (b₁ b₂ : List ℕ) (to₂ : ℕ) → b₁ ≡ paste b to (drop (8 * at) sets) (8 * ((cut_at cuts i).node + 1 - at))
        → b₂ ≡ paste b₁ (to + 8 * ((cut_at cuts i).node + 1 - at)) (replicate (8 * ((cut_at cuts i).count - 1)) 0) (8 * ((cut_at cuts i).count - 1))
        → to₂ ≡ to + 8 * ((cut_at cuts i).node + 1 - at) + 8 * ((cut_at cuts i).count - 1) → Carry sets n (drop (i + 1) cuts) whole d ((cut_at cuts i).node + (cut_at cuts i).old) to₂ b₂
    carry_at b₁ b₂ to₂ e₁ e₂ e = rw e (carry_on sets n whole d at to b hn (cut_at cuts i) (drop (i + 1) cuts) carried_here b₁ b₂ e₁ e₂)

  module _ (h : length cuts ≤ i) where
    none_carried : Carry sets n [] whole d at to b
    none_carried = rw (drop_of_length-le cuts h) at w

    pub carry_tail_at : (at ≤ n) × (to + 8 * (n - at) ≤ length d)
    carry_tail_at = carry_tail sets n whole d at to b hn none_carried

    pub carry_end_at : (b₁ : List ℕ) → b₁ ≡ paste b to (drop (8 * at) sets) (8 * (n - at))
        → paste b₁ (to + 8 * (n - at)) (replicate (length b₁ - (to + 8 * (n - at))) 0) (length b₁ - (to + 8 * (n - at))) ≡ filled_with 0 whole d
    carry_end_at b₁ e = carry_end sets n whole d at to b hn none_carried b₁ e

-- what splicing is proved by
pub ruleset splicings = (turn_at, tail_at)
