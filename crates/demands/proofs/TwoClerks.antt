-- Whichever of two clerks is first, it ends alike. Assumes nothing.
use mathlib.Core.Path.{◌≡◌, refl, ap}
use mathlib.Core.List.{List, [], ◌∷◌}
use Prim.Native.Nat.{ℕ, ◌≤◌, ◌<◌}
use native.Mathlib.Omega.{arith}
use lib.ListN.{length}
use Rattle.tree.specs.Tree.{judge_nodes}
use Rattle.tree.specs.Points.{Part, nodes_row, owns_row, FitsPart, Row, none, more}
use Rattle.tree.specs.EitherOrder.{NeitherInside, made_after, nodes_then, owns_then}
use Rattle.tree.proofs.EitherOrder.{turned, fits_there, either_order}
use Rattle.tree.proofs.Points.{all_rows}
use Rattle.wire.specs.Laws.{Words}
use Rattle.wire.specs.Waivers.{Waiver, Free}
use Rattle.update.specs.declared.Record.{Record}
use Rattle.update.specs.Records.{evaluations_most}
use Rattle.update.specs.Memories.{Memory, nodes_of}
use Rattle.update.specs.Refusals.{nodes_left, parts_refusal}
use Rattle.update.proofs.Conditions.{placed}
use Rattle.update.specs.Calls.{Said, refused, said, Left, Opened, leaving, is_open}
use Rattle.update.proofs.Asking.{present_means, apart_means, row_tests}
use Rattle.update.proofs.Ready.{tree_equal, tree_sound}
use Rattle.demands.specs.Engine.{Engine}
use Rattle.demands.specs.History.{at_start, by_run, replaces, History, finishes}
use Rattle.demands.specs.Demands.{refusal_in, Accepted, FinishedState, Demand1, Demand2}
use Rattle.demands.specs.InTurn.{InTurn, begun, next}
use Rattle.demands.specs.TwoClerks.{OneThenOther, TwoClerks, BetweenAlone}
use Rattle.demands.proofs.Histories.{words_end, words_more}
use Rattle.demands.proofs.InTurn.{count, held_nodes, accepted_row, same_way}

-- ---- a correction, and another behind it

alone : {E : Engine} {t ns owns : List ℕ} {r r' : Record} {m m' : Memory} (p : Part) → Words p.owns → History E t ns owns r m → InTurn E t r m (p ∷ []) r' m'
    → History E t (nodes_row t ns (p ∷ [])) (owns_row t ns owns (p ∷ [])) r' m'
alone p w h (next begun c k) = finishes (replaces h (p ∷ []) (words_more {p = p} w words_end) c refl refl) k

behind : {E : Engine} {t ns owns : List ℕ} {r r' : Record} {m m' : Memory} (p q : Part) → Words p.owns → Words q.owns → History E t ns owns r m
    → OneThenOther E t r m p (made_after t ns p q) r' m' → History E t (nodes_then t ns p q) (owns_then t ns owns p q) r' m'
behind {t = t} {ns = ns} p q w v h (next i c k) =
    finishes (replaces (alone p w h i) (made_after t ns p q ∷ []) (words_more {p = made_after t ns p q} v words_end) c refl refl) k

-- one that may be had, behind others
takes : (E : Engine) → Demand2 E → {t ns owns : List ℕ} {r₀ r : Record} {m₀ m : Memory} {ps : List Part} → InTurn E t r₀ m₀ ps r m → History E t ns owns r m → (p : Part)
    → Words p.owns → FitsPart t ns p → length (nodes_row t ns (p ∷ [])) ≤ 512 → Free t (nodes_row t ns (p ∷ []))
    → (r' : Record) × (m' : Memory) × InTurn E t r₀ m₀ (p ∷ ps) r' m'
takes E d {t} {ns} {owns} {r = r} {m = m} i h p w f few free =
    let a = d.replaces t ns owns r m h (p ∷ []) (omega arith) (omega arith) (more {from = 0} {p = p} (omega arith) f none) few free in
    let o = replaces h (p ∷ []) (words_more {p = p} w words_end) a.2 refl refl in
    let k = d.done t (nodes_row t ns (p ∷ [])) (owns_row t ns owns (p ∷ [])) a.0 a.0 a.1 a.1 0 o at_start evaluations_most (omega arith) in
    (k.next, k.memory, next i a.2 (by_run evaluations_most at_start k.run))

pub takes_both : (E : Engine) → Demand2 E → {t ns owns : List ℕ} {r : Record} {m : Memory} → History E t ns owns r m → (p q : Part) → Words p.owns → Words q.owns
    → FitsPart t ns p → FitsPart t ns q → NeitherInside t ns p.point q.point → length (nodes_row t ns (p ∷ [])) ≤ 512 → Free t (nodes_row t ns (p ∷ []))
    → length (nodes_then t ns p q) ≤ 512 → Free t (nodes_then t ns p q) → (r' : Record) × (m' : Memory) × OneThenOther E t r m p (made_after t ns p q) r' m'
takes_both E d {t} {ns} {owns} {r} {m} h p q w v f g n few free few' free' =
    let i = takes E d begun h p w f few free in
    let tree = tree_sound t ns owns 0 (d.holds t ns owns r m h).sound.tree in
    takes E d i.2 (alone p w h i.2) (made_after t ns p q) v ((fits_there t ns 0 p q tree f n).0 g) few' free'

fits : {t ns : List ℕ} {p : Part} → Row t ns 0 (p ∷ []) → FitsPart t ns p
fits (more l f g) = f

first_call : {E : Engine} {t : List ℕ} {r r' : Record} {m m' : Memory} (p : Part) {q : Part} → OneThenOther E t r m p q r' m' → Accepted (E.replace t m r (p ∷ []))
first_call p (next (next {r₁ = r₁} {m₁ = m₁} begun c k) c' k') = (r₁, m₁, c)

fits_first : {E : Engine} {t ns owns : List ℕ} {r r' : Record} {m m' : Memory} (p : Part) {q : Part} → Demand1 E → FinishedState E t ns owns r m
    → OneThenOther E t r m p q r' m' → FitsPart t ns p
fits_first p d s a = fits (accepted_row s d (p ∷ []) (first_call p a).2)

fits_second : {E : Engine} {t ns owns : List ℕ} {r r' : Record} {m m' : Memory} (p q : Part) → Demand1 E → Demand2 E → Words p.owns → History E t ns owns r m
    → OneThenOther E t r m p q r' m' → FitsPart t (nodes_row t ns (p ∷ [])) q
fits_second {t = t} {ns = ns} {owns = owns} p q d₁ d₂ w h (next {r = r₁} {m = m₁} i c k) =
    fits (accepted_row (d₂.holds t (nodes_row t ns (p ∷ [])) (owns_row t ns owns (p ∷ [])) r₁ m₁ (alone p w h i)) d₁ (q ∷ []) c)

pub two_clerks : TwoClerks
two_clerks E d₁ d₂ t ns owns r r₁ r₂ m m₁ m₂ h p q w v n a b =
    let s = d₂.holds t ns owns r m h in
    let o = either_order t ns owns 0 p q (tree_sound t ns owns 0 s.sound.tree) (tree_equal t ns owns 0 s.sound.tree) (fits_first p d₁ s a) (fits_first q d₁ s b) n in
    let x = o.nodes in
    let y = o.owned in
    same_way E d₂ (behind p q w v h a) (rw (x, y) (behind q p v w h b))

-- ---- what the tree between them may be refused for

refused_by : {A : Type 0} (a : Said A) (n : ℕ) → 0 < n → refusal_in a ≡ n → a ≡ refused n
refused_by (refused k) n h e = ap refused e
refused_by (said a) n h e = absurd (omega arith)

-- the first thing that a row of one may be refused for, where another row was accepted
module _ {E : Engine} {t ns owns : List ℕ} {r r' : Record} {m m' : Memory} (d : Demand1 E) (s : FinishedState E t ns owns r m) (p q : Part)
    (c : E.replace t m r (p ∷ []) ≡ leaving is_open r' m') (g : FitsPart t ns q) where
  row : Row t ns 0 (q ∷ [])
  row = more {from = 0} {p = q} (omega arith) g none

  placed_so : {Rest : Type 0} → Rest → placed t m r (q ∷ []) Rest
  placed_so x =
      let a = (d.replace t m r (p ∷ [])).tells.given.none.0 (ap (λ (l : Left (Said Opened)). refusal_in l.answer) c) in
      let b = row_tests t ns 0 (q ∷ []) row in
      let n = count s in
      let e = held_nodes s in
      let there = (present_means (length ns) (q ∷ [])).0 b.0 in
      (a.0, (a.1.0, (a.1.1.0, (a.1.1.1.0, ((omega arith, omega arith), (a.1.1.1.1.1.0, (a.1.1.1.1.1.1.0, (rw n there, (rw e ((apart_means t ns (q ∷ []) there).0 b.1), x)))))))))

  left_is : judge_nodes t ns (0 ∷ []) ≡ 0 → nodes_left t m r (q ∷ []) ≡ length (nodes_row t ns (q ∷ []))
  unfolding nodes_left
  left_is tree =
      let l = all_rows t ns 0 0 (q ∷ []) tree row in
      let n = count s in
      let e = held_nodes s in
      rw (e, n) (omega (arith, l.size, l.fits))

  gives_8 : judge_nodes t ns (0 ∷ []) ≡ 0 → 512 < length (nodes_row t ns (q ∷ [])) → (E.replace t m r (q ∷ [])).answer ≡ refused 8
  gives_8 tree h =
      let n = left_is tree in
      refused_by (E.replace t m r (q ∷ [])).answer 8 (omega arith) (((d.replace t m r (q ∷ [])).tells.given.some 8 (omega arith)).1 (placed_so (rw n h)))

  gives_21 : judge_nodes t ns (0 ∷ []) ≡ 0 → length (nodes_row t ns (q ∷ [])) ≤ 512 → Waiver t (nodes_row t ns (q ∷ [])) → (E.replace t m r (q ∷ [])).answer ≡ refused 21
  gives_21 tree h v =
      let n = left_is tree in
      let e = held_nodes s in
      let parts : parts_refusal t (nodes_of m r.nodes) (q ∷ []) ≡ 0 = rw e (row_tests t ns 0 (q ∷ []) row).2 in
      let waiver : Waiver t (nodes_row t (nodes_of m r.nodes) (q ∷ [])) = rw e v in
      refused_by (E.replace t m r (q ∷ [])).answer 21 (omega arith) (((d.replace t m r (q ∷ [])).tells.given.some 21 (omega arith)).1 (placed_so (rw n h, (parts, waiver))))

pub between_alone : BetweenAlone
between_alone E d₁ d₂ t ns owns r r₁ m m₁ h p q w v n a =
    let s = d₂.holds t ns owns r m h in
    let tree = tree_sound t ns owns 0 s.sound.tree in
    let f = fits_first p d₁ s a in
    let g = (fits_there t ns 0 p q tree f n).1 (fits_second p (made_after t ns p q) d₁ d₂ w h a) in
    let end = (d₂.holds t (nodes_then t ns p q) (owns_then t ns owns p q) r₁ m₁ (behind p q w v h a)).sound in
    let c = first_call p a in
    let x = (either_order t ns owns 0 p q tree (tree_equal t ns owns 0 s.sound.tree) f g n).nodes in
    record {
      by8 = gives_8 d₁ s p q c.2 g tree;
      by21 = gives_21 d₁ s p q c.2 g tree;
      first = λ few free. d₂.replaces t ns owns r m h (q ∷ []) (omega arith) (omega arith) (more {from = 0} {p = q} (omega arith) g none) few free;
      second = λ r₂ m₂ i. d₂.replaces t (nodes_row t ns (q ∷ [])) (owns_row t ns owns (q ∷ [])) r₂ m₂ (alone q v h i) (made_after t ns q p ∷ []) (omega arith) (omega arith)
          (more {from = 0} {p = made_after t ns q p} (omega arith) ((fits_there t ns 0 q p tree g (turned n)).0 f) none) (rw (← x) end.few) (rw (← x) end.free);
    }
