-- An update that our engine opened, told step by step: the lines of its rounds and its `12`, and the end of a history. Assumes nothing.
use mathlib.Core.Path.{◌≡◌, refl, sym, ap, ◌∙◌, subst}
use mathlib.Core.Bool.{Bool, true, false, not, ◌&&◌}
use mathlib.Core.Logic.{⊎_elim}
use mathlib.Core.List.{List, [], ◌∷◌}
use Prim.Native.Nat.{ℕ, zero, suc, ◌+◌, ◌≤◌, ◌<◌}
use native.Mathlib.Nat.{le_refl, eq-or-lt_of_le}
use native.Mathlib.Omega.{arith}
use lib.Dec.{eqb}
use lib.ListN.{length}
use Rattle.text_line.proofs.Values.{lt_or_ge}
use Rattle.tree.specs.Points.{Part, nodes_row, owns_row, points_row}
use Rattle.circles.specs.Ranked.{keep, up_from, ranked}
use Rattle.climb.specs.System.{Assignment, System, graph_of}
use Rattle.climb.specs.Memory.{at}
use Rattle.wire.specs.Instances.{system}
use Rattle.wire.specs.Laws.{Words}
use Rattle.update.specs.declared.Record.{Record}
use Rattle.update.specs.Records.{evaluations_most}
use Rattle.update.specs.Memories.{Memory}
use Rattle.update.specs.Steps.{Outcome, done, Ending, paused, finished}
use Rattle.update.specs.Calls.{Said, refused, said, Left, leaving, Opened, RunOutcome, run_outcome, is_open, load_call, points_call, step_call}
use Rattle.update.specs.Points.{WordsIn}
use Rattle.demands.specs.Engine.{ours}
use Rattle.demands.specs.History.{Working, at_start, and_step, WorkedToDone, by_step, Opening, loads, replaces, History, finishes}
use Rattle.demands.specs.Asked.{LeastSets, ByRank, surviving, changed_from}
use Rattle.demands.specs.Demands.{ComesToDone, Update, rounds_due, circles_due, evaluations_due}
use Rattle.demands.proofs.Ours.{ours_2, ours_3}
use Rattle.demands.proofs.Circles.{loadable_by_rank}
use Rattle.session.specs.Session.{Told, step_then, steps_told, to_done}
use Rattle.session.specs.Lines.{UpdateLines, then_round, then_done, UpdateText, LoadText, ReplacementText}
use Rattle.session.specs.Commands.{UpdateDone}
use Rattle.session.proofs.Resting.{finished_state}

-- a call with another answer
pub answered : {A : Type 0} (left : Left A) (a : A) → left.answer ≡ a → left ≡ record { answer = a; next = left.next; memory = left.memory }
answered {A} left a h = ap (λ (x : A). record { answer = x; next = left.next; memory = left.memory }) h

-- an update that demand 3 holds to what was asked for
module _ {t : List ℕ} {S : System} {R : List (List ℕ)} {fresh : ℕ → Bool} {earlier v : Assignment} {due : ℕ → Bool} {climb : ℕ → ℕ} {changed : ℕ} {r₀ : Record} {m₀ : Memory}
    (u : Update ours t S R fresh earlier v due climb changed r₀ m₀) where
  -- what the steps behind n rounds tell
  record Tells (told : Told) (n : ℕ) : Type 0 where
    pub lines : UpdateLines R due climb changed n told.text
    pub worked : WorkedToDone ours t r₀ m₀ (circles_due R due) (evaluations_due R due climb) changed told.next told.memory

  steps_told_lem : (fuel n : ℕ) (r : Record) (m : Memory) → Working ours t r₀ m₀ n r m → rounds_due R due climb < n + fuel → Tells (steps_told fuel t r m) n
  unfolding steps_told
  steps_told_lem zero n r m w enough = absurd (omega (arith, u.last w))
  steps_told_lem (suc fuel) n r m w enough =
      let l : Left (Said Outcome) = step_call t m r in
      ⊎_elim
      (λ (e : n ≡ rounds_due R due climb).
      let h = (u.ends w e).answer in
      subst (λ (a : Said Outcome). Tells (step_then a l.next l.memory (steps_told fuel t)) n) (sym h) (record { lines = then_done e; worked = by_step w (answered l _ h) }))
      (λ (e : n < rounds_due R due climb).
      let f = u.turn n e in
      let h = (u.makes w f.0 f.1 f.2).answer in
      let rest = steps_told_lem fuel (suc n) l.next l.memory (and_step w (answered l _ h)) (omega arith) in
      subst (λ (a : Said Outcome). Tells (step_then a l.next l.memory (steps_told fuel t)) n) (sym h)
      (record { lines = then_round f.0 f.1 f.2 rest.lines; worked = rest.worked }))
      (eq-or-lt_of_le (u.last w))

-- ---- an opening

abbrev ending_in : Said RunOutcome → Ending
ending_in (refused n) = paused
ending_in (said a) = a.ending

not_paused : {n k c e x : ℕ} → said (run_outcome n paused) ≡ said (run_outcome k (finished c e x)) → ⊥
not_paused {c = c} {e} {x} h = let p : paused ≡ finished c e x = ap ending_in h in let z : ◌≡◌ {A = ℕ} 0 1 = cc in omega arith

module _ {t ns owns : List ℕ} {r : Record} {m : Memory} (o : Opening ours t ns owns r m) where
  abbrev S : System
  S = system t ns owns

  abbrev R : List (List ℕ)
  R = ranked (graph_of S)

  -- it is worked to done, with the limit of evaluations as its budget
  comes : ComesToDone ours t ns owns r m evaluations_most
  comes = ours_2.done t ns owns r r m m 0 o at_start evaluations_most (le_refl evaluations_most)

  abbrev v : Assignment
  v = at comes.memory.sets

  least : LeastSets S v
  least = (ours_2.holds t ns owns comes.next comes.memory comes.history).sets

  by_rank : ByRank (graph_of S) R
  by_rank = loadable_by_rank t ns owns (finished_state comes.history).sound

  module _ {fresh : ℕ → Bool} {earlier : Assignment} {due : ℕ → Bool} {climb : ℕ → ℕ} {changed : ℕ} (u : Update ours t S R fresh earlier v due climb changed r m) where
    few_rounds : rounds_due R due climb < evaluations_most
    few_rounds = ⊎_elim (λ h. h)
        (λ (h : evaluations_most ≤ rounds_due R due climb). absurd (not_paused
        (sym (u.pauses at_start evaluations_most (omega arith)) ∙ ap (λ (l : Left (Said RunOutcome)). l.answer) comes.run)))
        (lt_or_ge (rounds_due R due climb) evaluations_most)

    told : Tells u (to_done t r m) 0
    told = steps_told_lem u _ 0 r m at_start (omega (arith, few_rounds))

    told_text : (survives : ℕ → Bool) → changed ≡ changed_from S survives earlier v → UpdateText S fresh survives earlier (to_done t r m).text
    told_text survives e = record {
      sets = v;
      least = least;
      circles = R;
      ranked = by_rank;
      due = due;
      exactly = u.exactly;
      climb = climb;
      climbing = u.climbing;
      lines = subst (λ (n : ℕ). UpdateLines R due climb n 0 (to_done t r m).text) e told.lines;
    }

    told_done : (left : Left (Said Opened)) → left ≡ leaving is_open r m → UpdateDone t left ns owns (to_done t r m).next (to_done t r m).memory
    told_done left e = subst (λ (l : Left (Said Opened)). UpdateDone t l ns owns (to_done t r m).next (to_done t r m).memory) (sym e) (record {
      opens = refl;
      circles = circles_due R due;
      evaluations = evaluations_due R due climb;
      changed = changed;
      worked = told.worked;
      history = finishes o told.worked;
    })

-- ---- a load and a replacement

keep_no : (p : ℕ → Bool) (l : List ℕ) → ((x : ℕ) → p x ≡ false) → keep p l ≡ []
unfolding keep
keep_no p [] h = refl
keep_no p (x ∷ l) h = rw (h x) (keep_no p l h)

-- nothing was there that could have changed
none_changed : (S : System) (earlier v : Assignment) → 0 ≡ changed_from S (λ x. false) earlier v
unfolding changed_from
none_changed S earlier v = sym (ap length (keep_no (λ x. S.declared x && false && not (eqb (v x) (earlier x))) (up_from 0 S.size) (λ x. nothing (S.declared x) (not (eqb (v x) (earlier x))))))
  where
    nothing : (a b : Bool) → (a && false && b) ≡ false
    nothing true b = refl
    nothing false b = refl

-- what is told of an update that was opened: its text, and what it leaves
pub record Carried (t : List ℕ) (left : Left (Said Opened)) (ns owns : List ℕ) (Text : List ℕ → Type 0) (told : Told) : Type 0 where
  pub text : Text told.text
  pub done : UpdateDone t left ns owns told.next told.memory

pub load_carried : (t ns owns : List ℕ) (r r' : Record) (m m' : Memory) → Words t → Words owns → load_call t m r ns owns ≡ leaving is_open r' m'
    → Carried t (load_call t m r ns owns) ns owns (LoadText t ns owns) (to_done t r' m')
load_carried t ns owns r r' m m' w o h =
    let p = loads m r ns owns w o h in
    let u = ours_3.loading t ns owns r r' m m' w o h (v p) (least p) (R p) (by_rank p) in
    record { text = told_text p u (λ x. false) (none_changed (S p) (λ x. 0) (v p)); done = told_done p u (load_call t m r ns owns) h }

pub replacement_carried : (t ns owns : List ℕ) (r r' : Record) (m m' : Memory) → History ours t ns owns r m → (ps : List Part) → WordsIn ps
    → points_call t m r ps ≡ leaving is_open r' m'
    → Carried t (points_call t m r ps) (nodes_row t ns ps) (owns_row t ns owns ps) (ReplacementText t ns owns ps) (to_done t r' m')
replacement_carried t ns owns r r' m m' a ps w h =
    let p = replaces a ps w h refl refl in
    let old = (ours_2.holds t ns owns r m a).sets in
    let u = ours_3.replacing t ns owns r r' m m' a ps w h (at m.sets) (v p) old (least p) (R p) (by_rank p) in
    record {
      text = record { old = at m.sets; least = old; update = told_text p u (surviving (points_row t ns ps)) refl };
      done = told_done p u (points_call t m r ps) h;
    }
