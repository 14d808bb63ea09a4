-- The same replacements made one after the other, from the last point to the first, end alike. Assumes nothing.
use mathlib.Core.Path.{◌≡◌, refl, sym, ap, ◌∙◌}
use mathlib.Core.List.Memᴰ
use mathlib.Core.List.{List, [], ◌∷◌}
use Prim.Native.Nat.{ℕ, ◌+◌, ◌≤◌}
use native.Mathlib.Decide.{dec_lt}
use native.Mathlib.Omega.{arith}
use lib.ListN.{length, get_or, take}
use lib.Seq.{get_or-take}
use Rattle.table.specs.Judge.{judge_table}
use Rattle.tree.specs.Tree.{judge_nodes}
use Rattle.tree.specs.Replace.{part}
use Rattle.tree.specs.Points.{Part, nodes_row, owns_row, Row, none, more}
use Rattle.wire.specs.Replaced.{nodes_after, owns_after}
use Rattle.wire.proofs.Points.{step_nodes, step_owns}
use Rattle.update.specs.declared.Record.{Record}
use Rattle.update.specs.Records.{shut}
use Rattle.update.specs.Memories.{Memory, nodes_of}
use Rattle.update.specs.Refusals.{Present}
use Rattle.update.specs.Calls.{Left, Said, Opened, leaving, is_open}
use Rattle.update.specs.Points.{WordsIn}
use Rattle.update.proofs.Asking.{present_means, apart_means, tests_row}
use Rattle.update.proofs.Several.{one_point}
use Rattle.update.proofs.Ready.{tree_equal, tree_sound}
use Rattle.demands.specs.Engine.{Engine}
use Rattle.demands.specs.History.{replaces, History, finishes}
use Rattle.demands.specs.Demands.{refusal_in, FinishedState, Demand1, Demand2}
use Rattle.demands.specs.InTurn.{SingleOpens, InTurn, begun, next, SameWay, LastFirst}
use Rattle.demands.proofs.Histories.{words_end, words_more}
use Rattle.demands.proofs.Ours.{one_end}

-- ---- one point

one_nodes : (t ns : List ℕ) (p : Part) → nodes_row t ns (p ∷ []) ≡ nodes_after t ns p.nodes p.point
unfolding nodes_row
one_nodes t ns p = refl

one_owns : (t ns owns : List ℕ) (p : Part) → owns_row t ns owns (p ∷ []) ≡ owns_after t ns owns p.owns p.point
unfolding owns_row
one_owns t ns owns p = refl

pub single_opens : SingleOpens
single_opens t ns owns r r' m m' h point new new_owns w e =
    let p : Part = record { point = point; nodes = new; owns = new_owns } in
    replaces h (p ∷ []) (words_more {p = p} w words_end) (one_point t m r p ∙ e) (sym (one_nodes t ns p)) (sym (one_owns t ns owns p))

-- ---- in turn: each step's tree is that of the longer row

no_part : (t ns owns : List ℕ) → (nodes_row t ns [] ≡ ns) × (owns_row t ns owns [] ≡ owns)
unfolding nodes_row owns_row
no_part t ns owns = (refl, refl)

module _ (E : Engine) (t ns owns : List ℕ) (table : judge_table t ≡ 0) (tree : judge_nodes t ns (0 ∷ []) ≡ 0) (owned : length owns ≡ length ns) where
  in_turn : (from : ℕ) (ps : List Part) (r₀ : Record) (m₀ : Memory) → History E t ns owns r₀ m₀ → Row t ns from ps → WordsIn ps
      → {r : Record} {m : Memory} → InTurn E t r₀ m₀ ps r m → History E t (nodes_row t ns ps) (owns_row t ns owns ps) r m
  in_turn from [] r₀ m₀ h none w begun = let e = no_part t ns owns in rw (e.0, e.1) h
  in_turn from (p ∷ ps) r₀ m₀ h (more l f g) w (next i c k) =
      let a = in_turn (p.point + part t ns p.point) ps r₀ m₀ h g (λ q j. w q (Memᴰ.tail j)) i in
      finishes (replaces a (p ∷ []) (words_more {p = p} (w p (Memᴰ.head refl)) words_end) c
      (step_nodes t ns owns table tree owned p ps f g ∙ sym (one_nodes t (nodes_row t ns ps) p))
      (step_owns t ns owns table tree owned p ps f g ∙ sym (one_owns t (nodes_row t ns ps) (owns_row t ns owns ps) p))) k

-- ---- an accepted call has a row of parts

module _ {E : Engine} {t ns owns : List ℕ} {r : Record} {m : Memory} (q : FinishedState E t ns owns r m) where
  pub count : r.nodes ≡ length ns
  unfolding shut
  count = ap (λ (k : Record). k.nodes) q.closed

  pub held_nodes : nodes_of m r.nodes ≡ ns
  held_nodes = rw count q.nodes

  pub accepted_row : Demand1 E → (ps : List Part) {r' : Record} {m' : Memory} → E.replace t m r ps ≡ leaving is_open r' m' → Row t ns 0 ps
  accepted_row d ps h =
      let c = (d.replace t m r ps).tells.given.none.0 (ap (λ (l : Left (Said Opened)). refusal_in l.answer) h) in
      let b = c.1.1.1.1.1.1.1 in
      let there : Present (length ns) ps = rw count at b.0 in
      let e = held_nodes in
      tests_row t ns 0 ps ((present_means (length ns) ps).1 there) ((apart_means t ns ps there).1 (rw e at b.1.0)) (rw e at b.1.1.1.0)

-- ---- two memories that hold one tree

same_slots : (l l' ns : List ℕ) → take (length ns) l ≡ ns → take (length ns) l' ≡ ns → (i : ℕ) → (length ns ≤ i → get_or l i 0 ≡ get_or l' i 0) → get_or l i 0 ≡ get_or l' i 0
same_slots l l' ns a b i h = elim (dec_lt i (length ns)) [
  | yes k ↦ sym (get_or-take (length ns) l i 0 k) ∙ ap (λ (z : List ℕ). get_or z i 0) (a ∙ sym b) ∙ get_or-take (length ns) l' i 0 k
  | no k ↦ h (omega arith)
]

same_tree : {E : Engine} {t ns owns : List ℕ} {r r' : Record} {m m' : Memory} → FinishedState E t ns owns r m → FinishedState E t ns owns r' m'
    → (i : ℕ) → (get_or m.productions i 0 ≡ get_or m'.productions i 0) × (get_or m.owns i 0 ≡ get_or m'.owns i 0)
same_tree {E} {t} {ns} {owns} {r} {r'} {m} {m'} p q i =
    let e : length owns ≡ length ns = tree_equal t ns owns 0 p.sound.tree in (
      same_slots m.productions m'.productions ns p.nodes q.nodes i (λ l. (p.behind i l).0 ∙ sym (q.behind i l).0),
      same_slots m.owns m'.owns owns (rw e p.owned) (rw e q.owned) i (λ l. (p.behind i (rw e at l)).1 ∙ sym (q.behind i (rw e at l)).1),
    )

-- two histories of one tree
pub same_way : (E : Engine) → Demand2 E → {t ns owns : List ℕ} {r r' : Record} {m m' : Memory} → History E t ns owns r m → History E t ns owns r' m'
    → SameWay E t ns owns r r' m m'
same_way E d {t} {ns} {owns} {r} {r'} {m} {m'} one other = record {
  one = one;
  other = other;
  tree = same_tree (d.holds t ns owns r m one) (d.holds t ns owns r' m' other);
  end = one_end E E d d t ns owns r r' m m' one other;
}

pub last_first : LastFirst
last_first E d₁ d₂ t ns owns ps r r₁ r' r'' m m₁ m' m'' c e x h w call work turn =
    let q = d₂.holds t ns owns r m h in
    let row = accepted_row q d₁ ps call in
    same_way E d₂ (finishes (replaces h ps w call refl refl) work)
    (in_turn E t ns owns q.sound.table (tree_sound t ns owns 0 q.sound.tree) (tree_equal t ns owns 0 q.sound.tree) 0 ps r m h row w turn)
