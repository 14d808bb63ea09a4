-- Node r's subtree in a tree, exchanged for another of its symbol, by places. Assumes nothing.
use Prim.Native.Nat.{ℕ, ◌+◌, ◌-◌, ◌≤◌, ◌<◌}
use mathlib.Core.Path.{◌≡◌, ap, sym, ◌∙◌}
use mathlib.Core.List.{List, [], ◌∷◌, ◌++◌}
use lib.ListN.{length, get_or, take, drop, length-drop, take-append-drop}
use lib.Seq.{drop-drop, length-take-le}
use borrow.Author.Tests.{le-leb, lt-leb}
use native.Mathlib.Decide.{dec_lt}
use native.Mathlib.Omega.{arith}
use Rattle.table.specs.Words.{left_of}
use Rattle.tree.specs.Tree.{judge_nodes, span_end, child_at, Child}
use Rattle.tree.specs.Moved.{Moved, stays, shifts, Outer, ahead, behind}
use Rattle.tree.specs.Replace.{exchanged, part, formerly}
use Rattle.tree.specs.Replacement.{after, Goes, Around, ReplacementLaw}
use Rattle.tree.proofs.Size.{size_le}
use Rattle.tree.proofs.Exchange.{subtree_sound, exchange, sound_some}
use Rattle.tree.proofs.Moved.{moved_one, moved_back, outer_back, end_moved, node_moved, child_moved, child_goes, parent_around}
use Rattle.tree.proofs.Elements.{exchanged_length, exchanged_new}
use Rattle.tree.proofs.Symbols.{root_symbol}

-- ---- `formerly` follows `Moved` back; with the counts exchanged it goes forth

pub formerly_stays : (r k s m : ℕ) → m ≤ r → Moved r s k m (formerly r k s m)
unfolding formerly
formerly_stays r k s m h = stays h (rw (le-leb m r h))

pub formerly_shifts : (r k s m : ℕ) → 0 < s → r + s ≤ m → Moved r s k m (formerly r k s m)
unfolding formerly
formerly_shifts r k s m p h = shifts h (rw (lt-leb m r (omega arith)) (omega arith))

module _ {r k s : ℕ} where
  pub moved_formerly : {m m' : ℕ} → 0 < s → Moved r k s m m' → formerly r k s m' ≡ m
  moved_formerly {m} {m'} p (stays h e) = moved_one p (formerly_stays r k s m' (omega arith)) (stays (omega arith) (sym e))
  moved_formerly {m} {m'} p (shifts h e) = moved_one p (formerly_shifts r k s m' p (omega arith)) (shifts (omega arith) (sym e))

-- ---- the replacement

module _ (t ns new : List ℕ) (w r : ℕ) (e : judge_nodes t ns (w ∷ []) ≡ 0) (h : r < length ns) (n : judge_nodes t new (left_of t (get_or ns r 0) ∷ []) ≡ 0) where
  abbrev xs : List ℕ
  xs = take r ns

  abbrev old : List ℕ
  old = take (part t ns r) (drop r ns)

  abbrev cs : List ℕ
  cs = drop (r + part t ns r) ns

  whole : xs ++ (old ++ cs) ≡ ns
  whole = rw (← drop-drop (part t ns r) r ns, take-append-drop (part t ns r) (drop r ns)) (take-append-drop r ns)

  old_sound : judge_nodes t old (left_of t (get_or ns r 0) ∷ []) ≡ 0
  unfolding part
  old_sound = subtree_sound t ns (w ∷ []) e r h

  ahead_length : length xs ≡ r
  ahead_length = length-take-le r ns (omega arith)

  old_length : length old ≡ part t ns r
  unfolding part
  old_length = length-take-le (part t ns r) (drop r ns) (size_le t (drop r ns) 1)

  -- the new tree is sound
  pub replace_sound : judge_nodes t (after t ns new r) (w ∷ []) ≡ 0
  unfolding exchanged
  replace_sound = sym (exchange t old new cs (left_of t (get_or ns r 0)) old_sound n xs (w ∷ [])) ∙ ap (λ l. judge_nodes t l (w ∷ [])) whole ∙ e

  goes : {q q' : ℕ} → Goes t ns new r q q' → Moved (length xs) (length old) (length new) q q'
  goes g = rw (ahead_length, old_length) g

  gone : {q q' : ℕ} → Moved (length xs) (length old) (length new) q q' → Goes t ns new r q q'
  gone g = rw (ahead_length, old_length) at g

  around : {q q' : ℕ} → Around t ns new r q q' → Outer (length xs) (length old) (length new) q q'
  around g = rw (ahead_length, old_length) g

  arounded : {q q' : ℕ} → Outer (length xs) (length old) (length new) q q' → Around t ns new r q q'
  arounded g = rw (ahead_length, old_length) at g

  there : {q k m : ℕ} → Child t ns q k m → Child t (xs ++ (old ++ cs)) q k m
  there c = rw whole c

  abbrev s : ℕ
  s = left_of t (get_or ns r 0)

  -- ends correspond
  pub replace_end : {q q' : ℕ} → Goes t ns new r q q' → Goes t ns new r (span_end t ns q) (span_end t (after t ns new r) q')
  unfolding exchanged
  replace_end {q} {q'} g = rw whole at (gone (end_moved t old new cs s old_sound n xs (goes g)))

  -- nodes other than r keep their productions
  pub replace_node : {q q' : ℕ} → Around t ns new r q q' → get_or ns q 0 ≡ get_or (after t ns new r) q' 0
  unfolding exchanged
  replace_node g = rw whole at (node_moved t old new cs s old_sound n xs (around g))

  -- and their children's places correspond
  pub replace_place : (k : ℕ) {q q' : ℕ} → Around t ns new r q q' → Goes t ns new r (child_at t ns q k) (child_at t (after t ns new r) q' k)
  unfolding exchanged
  replace_place k g = rw whole at (gone (child_moved t old new cs s old_sound n xs k (around g)))

  pub part_some : 0 < part t ns r
  part_some = rw old_length at (sound_some t old s old_sound)

  pub part_fits : r + part t ns r ≤ length ns
  unfolding part
  part_fits = omega (arith, size_le t (drop r ns) 1, length-drop r ns)

  pub replace_length : length (after t ns new r) + part t ns r ≡ length ns + length new
  replace_length = exchanged_length ns new r (part t ns r) part_fits

  -- children of nodes other than r correspond
  pub replace_child : {q q' k m m' : ℕ} → Around t ns new r q q' → Goes t ns new r m m' → Child t ns q k m → Child t (after t ns new r) q' k m'
  unfolding exchanged
  replace_child g i c = child_goes t old new cs s old_sound n xs (around g) (goes i) (there c)

  pub replace_child_back : {q q' k m m' : ℕ} → Around t ns new r q q' → Goes t ns new r m m' → Child t (after t ns new r) q' k m' → Child t ns q k m
  unfolding exchanged
  replace_child_back g i c = rw whole at (child_goes t new old cs s n old_sound xs (outer_back (around g)) (moved_back (goes i)) c)

  -- parents of places that go correspond
  pub replace_parent : {q k m m' : ℕ} → Goes t ns new r m m' → Child t ns q k m → (q' : ℕ) × Around t ns new r q q' × Child t (after t ns new r) q' k m'
  replace_parent i c =
      let a = parent_around t old new cs s old_sound n xs (goes i) (there c) in
      (a.0, arounded a.1, replace_child (arounded a.1) i c)

  -- r's new production is of r's symbol
  point_symbol : left_of t (get_or (after t ns new r) r 0) ≡ left_of t (get_or ns r 0)
  point_symbol =
      let z : r - r ≡ 0 = omega arith in
      let a : get_or (after t ns new r) r 0 ≡ get_or new 0 0 = rw z at (exchanged_new ns new r (part t ns r) part_fits r (omega arith) (omega (arith, sound_some t new s n))) in
      ap (left_of t) a ∙ root_symbol t new s n

  -- nodes that go keep their symbols, r's among them
  pub replace_symbol : {m m' : ℕ} → Goes t ns new r m m' → left_of t (get_or (after t ns new r) m' 0) ≡ left_of t (get_or ns m 0)
  replace_symbol {m} {m'} (stays a f) = elim (dec_lt m r) [
    | yes b ↦ ap (left_of t) (sym (replace_node (ahead b f)))
    | no b ↦
        let x : m ≡ r = omega arith in
        let y : m' ≡ r = omega arith in
        rw (x, y) point_symbol
  ]
  replace_symbol (shifts a f) = ap (left_of t) (sym (replace_node (behind a f)))

  pub replace_below : {m m' : ℕ} → Goes t ns new r m m' → m' < length (after t ns new r) → m < length ns
  replace_below (stays a f) b = omega arith
  replace_below (shifts a f) b = omega (arith, replace_length)

pub replacement : ReplacementLaw
replacement t ns new w r e h n = record {
  sound = replace_sound t ns new w r e h n;
  size = replace_length t ns new w r e h n;
  some = part_some t ns new w r e h n;
  fits = part_fits t ns new w r e h n;
  node = λ g. replace_node t ns new w r e h n g;
  symbol = λ g. replace_symbol t ns new w r e h n g;
  ends = λ g. replace_end t ns new w r e h n g;
  place = λ k g. replace_place t ns new w r e h n k g;
  child = λ g i c. replace_child t ns new w r e h n g i c;
  child_back = λ g i c. replace_child_back t ns new w r e h n g i c;
  parent = λ i c. replace_parent t ns new w r e h n i c;
}
