-- Behind every history the sets are the least by rank, and every update opened there begins as its laws ask. Assumes nothing.
use mathlib.Core.Path.{◌≡◌, sym, ap, ◌∙◌, subst}
use mathlib.Core.Bool.{true, false, true≢false}
use mathlib.Core.Logic.{⊎_elim}
use mathlib.Core.List.Memᴰ
use mathlib.Core.List.{List, [], ◌∷◌}
use Prim.Native.Nat.{ℕ, ◌<◌}
use native.Mathlib.Omega.{arith}
use lib.ListN.{length}
use Rattle.circles.specs.Ranked.{circle_at, member}
use Rattle.climb.specs.System.{Assignment, System}
use Rattle.climb.specs.Inside.{Small}
use Rattle.climb.specs.Memory.{at}
use Rattle.climb.proofs.Lists.{either}
use Rattle.climb.proofs.Working.{untouched, after_small}
use Rattle.tree.specs.Points.{Part, owns_row}
use Rattle.wire.specs.Instances.{declared, system}
use Rattle.wire.specs.Laws.{Words}
use Rattle.update.specs.declared.Record.{Record}
use Rattle.update.specs.Records.{shut}
use Rattle.update.specs.Memories.{Memory}
use Rattle.update.specs.Steps.{sown_of, RunMade}
use Rattle.update.specs.Calls.{with_sets}
use Rattle.update.specs.Points.{WordsIn}
use Rattle.update.specs.Course.{ran_of, whole_of, Finishes}
use Rattle.update.proofs.Running as running
use Rattle.update.proofs.Ready.{circles, lawful, in_rank, Ready, begins, Settled}
use Rattle.update.proofs.Openings.{words_row, ready_load, ready_row}
use Rattle.demands.specs.Engine.{Engine, ours}
use Rattle.demands.specs.History.{WorkedToDone, Opening, loads, replaces, History, finishes}
use Rattle.demands.proofs.Rows.{ended}

module _ {t ns owns : List ℕ} {r : Record} {m : Memory} (q : Ready t ns owns r m) where
  abbrev S : System
  S = system t ns owns

  abbrev R : List (List ℕ)
  R = circles t ns owns

  -- no circle has an undeclared slot
  in_none : (x : ℕ) → declared t ns x ≡ false → (k : ℕ) → member (circle_at R k) x ≡ false
  in_none x h k = ⊎_elim (λ (e : member (circle_at R k) x ≡ true). absurd (true≢false (sym ((in_rank q.sound).declared k x e) ∙ h))) (λ e. e) (either (member (circle_at R k) x))

  -- a finished run settles the tree
  pub finished_settled : (n : ℕ) → whole_of S R r m.sets < n → Settled t ns owns (ran_of S R r m.sets n).next (with_sets m (ran_of S R r m.sets n).sets)
  finished_settled n h =
      let f = running.finishes S R r m.sets (begins q) n h in
      record {
        sound = q.sound;
        closed = f.next ∙ ap (λ b. shut b r.nodes) q.held ∙ ap (shut true) q.count;
        roomy = record { productions = q.roomy.productions; owns = q.roomy.owns; sets = omega (arith, q.roomy.sets, f.places); earlier = q.roomy.earlier };
        nodes = q.nodes;
        owns' = q.owns';
        behind = q.behind;
        small = small (ran_of S R r m.sets n) f;
        empty = empty (ran_of S R r m.sets n) f;
        emptied = λ x e. ap (λ (u : Assignment). u x) q.earlier ∙ q.empty x e;
        least = running.least_at_done S R r m.sets (begins q) q.kept n h;
      }
    where
      small : (a : RunMade) → Finishes S R r m.sets a → Small (at a.sets)
      small a f x = rw (ap (λ (u : Assignment). u x) f.value) (after_small S R (sown_of r) (at m.sets) (lawful q.sound) q.small (length R) x)

      empty : (a : RunMade) → Finishes S R r m.sets a → (x : ℕ) → declared t ns x ≡ false → at a.sets x ≡ 0
      empty a f x h = ap (λ (u : Assignment). u x) f.value ∙ untouched S R (sown_of r) (at m.sets) (length R) x (λ k l. in_none x h k) ∙ q.empty x h

settled_as : {t ns owns : List ℕ} {r r' : Record} {m m' : Memory} (q : Ready t ns owns r m) (n : ℕ) → whole_of (system t ns owns) (circles t ns owns) r m.sets < n
    → r' ≡ (ran_of (system t ns owns) (circles t ns owns) r m.sets n).next → m' ≡ with_sets m (ran_of (system t ns owns) (circles t ns owns) r m.sets n).sets → Settled t ns owns r' m'
settled_as q n h a b = rw (a, b) (finished_settled q n h)

pub settled : {t ns owns : List ℕ} {r r' : Record} {m m' : Memory} {c e x : ℕ} → Ready t ns owns r m → WorkedToDone ours t r m c e x r' m' → Settled t ns owns r' m'
settled q w =
    let d = ended q w in
    settled_as q d.budget d.enough d.next d.memory

mutual
  pub settled_history : {t ns owns : List ℕ} {r : Record} {m : Memory} → History ours t ns owns r m → Settled t ns owns r m
  settled_history (finishes o w) = settled (ready_opening o) w

  pub ready_opening : {t ns owns : List ℕ} {r : Record} {m : Memory} → Opening ours t ns owns r m → Ready t ns owns r m
  ready_opening (loads m r ns owns w o h) = ready_load m r w o h
  ready_opening {t} {r = r'} {m = m'} (replaces {ns = ns} {owns = owns} {ns' = ns'} {owns' = owns'} p ps w h a b) =
      let q = ready_row ps (settled_history p) w h in
      let c = subst (λ (l : List ℕ). Ready t l (owns_row t ns owns ps) r' m') (sym a) q in
      subst (λ (l : List ℕ). Ready t ns' l r' m') (sym b) c

-- ---- words: of a row, part by part, and of any engine's histories

pub words_end : WordsIn []
words_end q i = absurd (Memᴰ.not-nil i)

pub words_more : {p : Part} {ps : List Part} → Words p.owns → WordsIn ps → WordsIn (p ∷ ps)
words_more w f q (Memᴰ.head e) = subst (λ (k : Part). Words k.owns) (sym e) w
words_more w f q (Memᴰ.tail i) = f q i

mutual
  pub history_words : {E : Engine} {t ns owns : List ℕ} {r : Record} {m : Memory} → History E t ns owns r m → Words t × Words owns
  history_words (finishes o w) = opening_words o

  opening_words : {E : Engine} {t ns owns : List ℕ} {r : Record} {m : Memory} → Opening E t ns owns r m → Words t × Words owns
  opening_words (loads m r ns owns w o h) = (w, o)
  opening_words {t = t} (replaces {ns = ns} {owns = owns} p ps w h a b) =
      let q = history_words p in
      (q.0, subst Words (sym b) (words_row t ns owns ps q.1 w))
