-- The points of a command, as they come: those that are kept, and what the command makes of them. Assumes nothing.
use mathlib.Core.Path.{◌≡◌, refl, ap, sym, ◌∙◌}
use mathlib.Core.Logic.{◌⊎◌, inl, inr, ⊎_elim}
use mathlib.Core.List.{List, [], ◌∷◌, ◌++◌, append_assoc}
use Prim.Native.Nat.{ℕ, zero, suc, ◌+◌, ◌*◌, ◌/◌, ◌%◌, ◌^◌, ◌≤◌, ◌<◌}
use native.Mathlib.Decide.{ℕ_discrete}
use native.Mathlib.Nat.{zero-add}
use native.Mathlib.Numerals.{add-one}
use native.Mathlib.Omega.{arith}
use borrow.Author.Tests.{lt-ltb, le-ltb}
use lib.ListN.{length, get_or, take, drop, set, length-append, length-take, get_or-map, get_or-eq_default}
use lib.Seq.{drop-set-lt, get_or-take, get_or-drop, get_or-set_same, get_or-set_other}
use Rattle.text_line.proofs.Values.{lt_or_ge}
use Rattle.tree.specs.declared.Point.{Point}
use Rattle.tree.specs.Points.{point_at}
use Rattle.tree.specs.Handed.{places_from, announced, handed_row}
use Rattle.update.specs.declared.Record.{Record}
use Rattle.update.specs.Memories.{Memory}
use Rattle.update.specs.Calls.{points_call}
use Rattle.text_tree.specs.Planting.{Nodes, good, bad, nodes_at}
use Rattle.session.specs.Naming.{Named, named, unnamed, point_before}
use Rattle.session.specs.Session.{Told, with_nodes, with_points, parts_then, opened_then}
use Rattle.session_owed.specs.Owed.{point_word, word_point, points_in, named_in, behind_points}
use Rattle.session_owed.specs.Hearing.{kept_at, point_kept}
use Rattle.session_owed.proofs.Shifts.{Going-on, moved_named}
use Rattle.session_owed.proofs.Many.{nine_points}
use Rattle.update_judge.proofs.Walks.{places_length}

-- ---- places of an array of points

places_last : (i n : ℕ) (l : List Point) → places_from i (suc n) l ≡ places_from i n l ++ (point_at l (i + n) ∷ [])
unfolding places_from
places_last i zero l = let e : i + 0 ≡ i = omega arith in rw e
places_last i (suc n) l = let e : i + suc n ≡ suc i + n = omega arith in rw e (ap (λ (k : List Point). point_at l i ∷ k) (places_last (suc i) n l))

places_same : (l l' : List Point) (i n : ℕ) → ((j : ℕ) → j < i + n → point_at l j ≡ point_at l' j) → places_from i n l ≡ places_from i n l'
unfolding places_from
places_same l l' i zero h = refl
places_same l l' i (suc n) h = rw (h i (omega arith), places_same l l' (suc i) n (λ j b. h j (omega arith)))

-- ---- the nodes that are announced

pub announced_append : (a b : List Point) → announced (a ++ b) ≡ announced a + announced b
unfolding announced
announced_append [] b = sym (zero-add (announced b))
announced_append (q ∷ a) b = omega (arith, announced_append a b)

announced_one : (q : Point) → announced (q ∷ []) ≡ q.count
unfolding announced
announced_one q = omega arith

-- one of them announces no more than all
count_below : (l : List Point) (k i n : ℕ) → i ≤ k → k < i + n → (point_at l k).count ≤ announced (places_from i n l)
unfolding places_from announced
count_below l k i zero a b = absurd (omega arith)
count_below l k i (suc n) a b = elim (ℕ_discrete i k) [
  | yes e ↦ rw e (omega arith)
  | no e ↦ omega (arith, count_below l k (suc i) n (omega arith) (omega arith))
]

module _ (l l' : List Point) (k c : ℕ) (others : (j : ℕ) → (j ≡ k → ⊥) → (point_at l' j).count ≡ (point_at l j).count) (here : (point_at l' k).count ≡ (point_at l k).count + c) where
  past_same : (i n : ℕ) → k < i → announced (places_from i n l') ≡ announced (places_from i n l)
  unfolding places_from announced
  past_same i zero h = refl
  past_same i (suc n) h = omega (arith, others i (λ e. omega arith), past_same (suc i) n (omega arith))

  -- where one announces c more, all do
  count_more : (i n : ℕ) → i ≤ k → k < i + n → announced (places_from i n l') ≡ announced (places_from i n l) + c
  unfolding places_from announced
  count_more i zero a b = absurd (omega arith)
  count_more i (suc n) a b = elim (ℕ_discrete i k) [
    | yes e ↦ rw e (omega (arith, here, past_same (suc k) n (omega arith)))
    | no e ↦ omega (arith, others i e, count_more (suc i) n (omega arith) (omega arith))
  ]

-- ---- the words for points

point_of : (os : List ℕ) (j : ℕ) → point_at (points_in os) j ≡ word_point (get_or (take 8 (drop 513 os)) j 0)
unfolding points_in
point_of os j = get_or-map word_point (take 8 (drop 513 os)) j 0

point_in : (os : List ℕ) (j : ℕ) → j < 8 → point_at (points_in os) j ≡ word_point (get_or os (513 + j) 0)
point_in os j h = point_of os j ∙ ap word_point (get_or-take 8 (drop 513 os) j 0 h ∙ get_or-drop 513 os j 0)

-- behind the eighth there is none
point_past : (os : List ℕ) (j : ℕ) → 8 ≤ j → point_at (points_in os) j ≡ word_point 0
point_past os j h = point_of os j ∙ ap word_point (get_or-eq_default (take 8 (drop 513 os)) 0 (omega (arith, length-take 8 (drop 513 os))))

-- a word has its point and its count
word_back : (p c : ℕ) → p < 2 ^ 16 → c < 2 ^ 16 → word_point (point_word p c) ≡ record { node = p; count = c }
word_back p c h k =
    let a : (p * 2 ^ 32 + c) / 2 ^ 32 ≡ p = omega arith in
    let b : (p * 2 ^ 32 + c) % 2 ^ 32 ≡ c = omega arith in
    rw (a, b)

-- what is kept of a node leaves them
pub nodes_apart : (taken x : ℕ) (os : List ℕ) → points_in (kept_at taken x os) ≡ points_in os
unfolding points_in
nodes_apart taken x os = ⊎_elim
    (λ (h : taken < 513). rw (lt-ltb taken 513 h, drop-set-lt 513 os taken x h))
    (λ (h : 513 ≤ taken). rw (le-ltb taken 513 h)) (lt_or_ge taken 513)

-- ---- lists of points that a command makes the same of: of more than eight the nodes alone count

pub record Like (a b : List Point) : Type 0 where
  pub nodes : announced a ≡ announced b
  pub same : (a ≡ b) ⊎ ((8 < length a) × (8 < length b))

pub like_more : (a b qs : List Point) → Like a b → Like (a ++ qs) (b ++ qs)
like_more a b qs x = record {
  nodes = announced_append a qs ∙ ap (λ (n : ℕ). n + announced qs) x.nodes ∙ sym (announced_append b qs);
  same = ⊎_elim (λ (e : a ≡ b). inl (ap (λ (k : List Point). k ++ qs) e))
      (λ (h : (8 < length a) × (8 < length b)). inr (omega (arith, h.0, length-append a qs), omega (arith, h.1, length-append b qs))) x.same;
}

with_call : (x : Nodes) (call call' : List ℕ → List ℕ → Told) (go : Going-on) → ((ps os : List ℕ) → call ps os ≡ call' ps os) → with_nodes x call go ≡ with_nodes x call' go
with_call (good ps os place line) call call' go e = ap (λ (z : Told). z.text ++ go place line z.next z.memory) (e ps os)
with_call (bad refusal line) call call' go e = refl

pub parts_like : (s t : List ℕ) (line : ℕ) (r : Record) (m : Memory) (go : Going-on) (a b : List Point) (place next : ℕ) → Like a b
    → parts_then s t line r m go a place next ≡ parts_then s t line r m go b place next
parts_like s t line r m go a b place next x =
    ap (λ (n : ℕ). with_nodes (nodes_at n s place next) (λ ps os. opened_then line t (points_call t m r (handed_row a ps os))) go) x.nodes
    ∙ with_call (nodes_at (announced b) s place next) _ _ go (λ ps os. ap (opened_then line t) (call_like ps os x.same))
  where
    call_like : (ps os : List ℕ) → (a ≡ b) ⊎ ((8 < length a) × (8 < length b)) → points_call t m r (handed_row a ps os) ≡ points_call t m r (handed_row b ps os)
    call_like ps os (inl e) = ap (λ (k : List Point). points_call t m r (handed_row k ps os)) e
    call_like ps os (inr h) = nine_points t m r a b ps os h.0 h.1

-- ---- one point more

module _ (taken point count : ℕ) (os : List ℕ) (long : 521 ≤ length os) (p-small : point < 2 ^ 16) (c-small : count < 2 ^ 16) where
  abbrev q : Point
  q = record { node = point; count = count }

  abbrev os' : List ℕ
  os' = point_kept taken point count os

  -- among the first eight it is kept as it is
  kept_whole : taken < 8 → named_in (suc taken) os' ≡ named_in taken os ++ (q ∷ [])
  unfolding point_kept
  kept_whole h =
      let v : List ℕ = set os (513 + taken) (point_word point count) in
      let z : 0 + taken ≡ taken = zero-add taken in
      let a : point_at (points_in v) (0 + taken) ≡ q =
      rw z (point_in v taken h ∙ ap word_point (get_or-set_same os (513 + taken) (point_word point count) 0 (omega arith)) ∙ word_back point count p-small c-small) in
      let b : places_from 0 taken (points_in v) ≡ places_from 0 taken (points_in os) =
      places_same (points_in v) (points_in os) 0 taken (λ j i. let k : j < 8 = omega arith in
      point_in v j k ∙ ap word_point (get_or-set_other os (513 + taken) (513 + j) (point_word point count) 0 (λ e. omega arith)) ∙ sym (point_in os j k)) in
      rw (lt-ltb taken 8 h) (places_last 0 taken (points_in v) ∙ rw (a, b))

  -- behind them its nodes alone count
  module _ (h : 8 ≤ taken) (few : announced (named_in taken os) + count < 2 ^ 32) where
    abbrev v : List ℕ
    v = set os 520 (get_or os 520 0 % 2 ^ 48 + count)

    others : (j : ℕ) → (j ≡ 7 → ⊥) → point_at (points_in v) j ≡ point_at (points_in os) j
    others j f = ⊎_elim
        (λ (k : j < 8). point_in v j k ∙ ap word_point (get_or-set_other os 520 (513 + j) (get_or os 520 0 % 2 ^ 48 + count) 0 (λ e. f (omega arith))) ∙ sym (point_in os j k))
        (λ (k : 8 ≤ j). point_past v j k ∙ sym (point_past os j k)) (lt_or_ge j 8)

    eighth : (point_at (points_in v) 7).count ≡ (point_at (points_in os) 7).count + count
    eighth =
        let x : ℕ = get_or os 520 0 in
        let a : (point_at (points_in os) 7).count ≡ x % 2 ^ 32 = ap (λ (k : Point). k.count) (point_in os 7 (omega arith)) in
        let b : (point_at (points_in v) 7).count ≡ (x % 2 ^ 48 + count) % 2 ^ 32 =
        ap (λ (k : Point). k.count) (point_in v 7 (omega arith) ∙ ap word_point (get_or-set_same os 520 (x % 2 ^ 48 + count) 0 (omega arith))) in
        let n = count_below (points_in os) 7 0 taken (omega arith) (omega arith) in
        let e : (x % 2 ^ 48 + count) % 2 ^ 32 ≡ x % 2 ^ 32 + count = omega arith in
        b ∙ e ∙ ap (λ (k : ℕ). k + count) (sym a)

    kept_counts : announced (named_in (suc taken) os') ≡ announced (named_in taken os) + count
    unfolding point_kept
    kept_counts = rw (le-ltb taken 8 h)
        (ap announced (places_last 0 taken (points_in v)) ∙ announced_append (places_from 0 taken (points_in v)) (point_at (points_in v) (0 + taken) ∷ [])
        ∙ omega (arith, announced_one (point_at (points_in v) (0 + taken)), last, count_more (points_in os) (points_in v) 7 count (λ j f. ap (λ (k : Point). k.count) (others j f)) eighth 0 taken (omega arith) (omega arith)))
      where
        last : (point_at (points_in v) (0 + taken)).count ≡ 0
        last = ap (λ (k : Point). k.count) (point_past v (0 + taken) (omega arith))

  -- either way
  pub kept_like : announced (named_in taken os) ≤ 65535 * taken → taken < 255 → Like (named_in taken os ++ (q ∷ [])) (named_in (taken + 1) os')
  kept_like n f = rw (add-one taken) (⊎_elim
      (λ (h : taken < 8). let e = sym (kept_whole h) in record { nodes = ap announced e; same = inl e })
      (λ (h : 8 ≤ taken). record {
        nodes = announced_append (named_in taken os) (q ∷ []) ∙ omega (arith, announced_one q, kept_counts h (omega arith));
        same = inr (omega (arith, length-append (named_in taken os) (q ∷ []), places_length 0 taken (points_in os)), omega (arith, places_length 0 (suc taken) (points_in os')));
      }) (lt_or_ge taken 8))

  -- they announce no more than so many lines can
  pub kept_few : announced (named_in taken os) ≤ 65535 * taken → taken < 255 → announced (named_in (taken + 1) os') ≤ 65535 * (taken + 1)
  kept_few n f = omega (arith, (kept_like n f).nodes, announced_append (named_in taken os) (q ∷ []), announced_one q)

-- ---- points that have come, in front of one and of those behind it

pub with_point : (go : List Point → ℕ → ℕ → List ℕ) (a b : List Point) (q : Point) (x : Named)
    → ((qs : List Point) (place line : ℕ) → go (a ++ (q ∷ qs)) place line ≡ go (b ++ qs) place line)
    → with_points (behind_points a (point_before q x)) go ≡ with_points (behind_points b x) go
with_point go a b q (named qs place line) e = e qs place line
with_point go a b q (unnamed refusal line) e = refl

pub named_none : (x : Named) → behind_points [] x ≡ x
named_none (named qs place line) = refl
named_none (unnamed refusal line) = refl

pub named_moved : (a : List Point) (q : Point) (k : ℕ) (x : Named) → behind_points a (point_before q (moved_named k x)) ≡ moved_named k (behind_points a (point_before q x))
named_moved a q k (named qs place line) = refl
named_moved a q k (unnamed refusal line) = refl

-- a list with one point put between
pub point_between : (a : List Point) (q : Point) (b : List Point) → (a ++ (q ∷ [])) ++ b ≡ a ++ (q ∷ b)
point_between a q b = append_assoc a (q ∷ []) b
