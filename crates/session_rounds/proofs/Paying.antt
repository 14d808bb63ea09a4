-- What was to be told of an update's steps is what those print that have room, and what is left of them. Assumes nothing.
use mathlib.Core.Path.{◌≡◌, refl, sym, ap, ◌∙◌, subst}
use mathlib.Core.Bool.{Bool, false}
use mathlib.Core.List.{List, [], ◌++◌, append_assoc, append-nil}
use mathlib.Core.Logic.{⊎_elim}
use Prim.Native.Nat.{ℕ, zero, suc, ◌+◌, ◌-◌, ◌≤◌, ◌<◌}
use native.Mathlib.Nat.{le_trans}
use native.Mathlib.Omega.{arith}
use borrow.Author.Tests.{lt-ltb, le-ltb}
use lib.ListN.{length, length-append}
use lib.Seq.{length-take-le}
use Rattle.text_line.proofs.Values.{lt_or_ge}
use Rattle.circles.specs.Laws.{declared_count}
use Rattle.circles.proofs.Sequence.{ordered}
use Rattle.climb.specs.System.{graph_of}
use Rattle.wire.specs.Instances.{system}
use Rattle.wire.proofs.Lawful.{args_declared, args_closed, few_instances}
use Rattle.wire.proofs.Places.{declared_below}
use Rattle.update.specs.declared.Record.{Record}
use Rattle.update.specs.declared.Answer.{Answer}
use Rattle.update.specs.declared.Answer.TheVariants.{Round}
use Rattle.update.specs.Records.{is_open_kind}
use Rattle.update.specs.Memories.{Memory, nodes_of, owns_of}
use Rattle.update.specs.Refusals.{held_refusal, step_refusal}
use Rattle.update.specs.Steps.{Outcome, round, done, Made, step_of}
use Rattle.update.specs.Calls.{Said, refused, said, answer_says, Left, system_of, circles_of, with_sets, step_left, step_call}
use Rattle.update.proofs.Within.{beyond_means}
use Rattle.update.proofs.Leaving.{step_within_lem}
use Rattle.update_open.proofs.Answers.{left_carried}
use Rattle.update_judge.specs.Order.{Grounded, Holding, Going}
use Rattle.update_judge.proofs.Orders.{step_none, tree_sound}
use Rattle.session.specs.Session as session
use Rattle.session.specs.Session.{step_then, steps_told, text_before, outcome_text}
use Rattle.session_owed.specs.declared.Awaited.TheVariants.{Command}
use Rattle.session_rounds.specs.Telling.{Worked, behind_text, step_within, steps_within, Rests, ended, full, RoundsPaid, RoundsPay}
use Rattle.session_rounds.proofs.Answering.{text_long}
use Rattle.session_rounds.proofs.Stepped.{is_done, Keeps, step_keeps}

-- ---- one step of an update that is at work: it is carried out, and what it leaves can be worked on, or is held

abbrev made_of : List ℕ → Memory → Record → Made
made_of t m r = step_of (system_of t m r) (circles_of t m r) r m.earlier m.sets

module _ (t : List ℕ) (m : Memory) (r : Record) (g : Going t m r) where
  abbrev made : Made
  made = made_of t m r

  taken : step_call t m r ≡ step_left m made
  unfolding step_call
  taken = sym (left_carried (step_refusal t m r) r m (step_left m made) (step_none t m r g))

  few_circles : length (circles_of t m r) ≤ 4092
  unfolding declared_count
  few_circles =
      let ns = nodes_of m r.nodes in
      let owns = owns_of m r.nodes in
      let long : length (nodes_of m r.nodes) ≡ r.nodes = length-take-le r.nodes m.productions (omega (arith, g.footing.room.productions, g.footing.within.nodes)) in
      let sound = tree_sound t ns owns 0 g.tree in
      let few : length (nodes_of m r.nodes) ≤ 512 = omega (arith, g.footing.within.nodes) in
      let o = ordered (graph_of (system t ns owns)) (record { bound = declared_below t ns; closed = λ x d y h. args_closed t ns g.footing.table sound x d y (rw (args_declared t ns owns x d) at h) }) (omega arith) in
      le_trans o.count (few_instances t ns g.footing.table sound few)

  keeps : Keeps r m.sets made
  keeps = step_keeps (system_of t m r) (circles_of t m r) r m.earlier m.sets

  ground_next : Grounded t (with_sets m made.sets) made.next
  ground_next = record {
    table = g.footing.table;
    room = record {
      productions = g.footing.room.productions;
      owns = g.footing.room.owns;
      sets = omega (arith, g.footing.room.sets, keeps.size);
      earlier = g.footing.room.earlier;
    };
    within = (beyond_means made.next).0 (step_within_lem (system_of t m r) (circles_of t m r) m.earlier r m.sets few_circles ((beyond_means r).1 g.footing.within));
  }

  tree_next : held_refusal t (with_sets m made.sets) made.next ≡ 0
  tree_next = rw keeps.nodes g.tree

  going_next : is_done made.outcome ≡ false → Going t (with_sets m made.sets) made.next
  going_next e = record { footing = ground_next; held = keeps.held ∙ g.held; tree = tree_next; busy = ap is_open_kind (keeps.busy e) ∙ g.busy }

  holding_next : Holding t (with_sets m made.sets) made.next
  holding_next = record { footing = ground_next; tree = λ h. tree_next }

going_holds : {t : List ℕ} {m : Memory} {r : Record} → Going t m r → Holding t m r
going_holds g = record { footing = g.footing; tree = λ h. g.tree }

-- ---- texts behind each other

ahead_ahead : (x y : List ℕ) (told : session.Told) → text_before x (text_before y told) ≡ text_before (x ++ y) told
ahead_ahead x y told j = record { text = sym (append_assoc x y told.text) j; next = told.next; memory = told.memory }

-- ---- the steps in a row

-- one step, where its line has room
pub within_next : (n room : ℕ) (t : List ℕ) (r : Record) (m : Memory) (l : Left (Said Outcome)) → step_call t m r ≡ l → 19 ≤ room
    → steps_within (suc n) room t r m ≡ step_within l.answer l.next l.memory (steps_within n (room - 19) t)
unfolding steps_within
within_next n room t r m l e h = rw (le-ltb room 19 h) (ap (λ (k : Left (Said Outcome)). step_within k.answer k.next k.memory (steps_within n (room - 19) t)) e)

-- the same work under another description
paid_as : {t : List ℕ} {m : Memory} {r : Record} {turns room : ℕ} {w w' : Worked} → w ≡ w' → RoundsPaid t m r turns room w' → RoundsPaid t m r turns room w
paid_as {t} {m} {r} {turns} {room} e p = subst (λ (w : Worked). RoundsPaid t m r turns room w) (sym e) p

module _ (t : List ℕ) (m : Memory) (r : Record) (n room : ℕ) (g : Going t m r) where
  -- a line has no room
  pays_full : room < 19 → RoundsPaid t m r (suc n) room (steps_within (suc n) room t r m)
  unfolding steps_within
  pays_full h = rw (lt-ltb room 19 h) (record { rest = steps_told (suc n) t r m; whole = refl; few = omega arith; rests = full n refl g (omega arith); kept = refl; size = refl })

  -- or a step is told
  told_next : steps_told (suc n) t r m ≡ step_then (said (made_of t m r).outcome) (made_of t m r).next (with_sets m (made_of t m r).sets) (steps_told n t)
  unfolding steps_told
  told_next = ap (λ (l : Left (Said Outcome)). step_then l.answer l.next l.memory (steps_told n t)) (taken t m r g)

  module _ (h : 19 ≤ room) (d : Record) (m' : Memory) (keep : m' ≡ with_sets m m'.sets) (size : length m'.sets ≡ length m.sets) where
    -- behind a round those that follow
    pays_round : (o : Outcome) → steps_told (suc n) t r m ≡ text_before (outcome_text o) (steps_told n t d m') → RoundsPaid t m' d n (room - 19) (steps_within n (room - 19) t d m')
        → RoundsPaid t m r (suc n) room (behind_text (outcome_text o) (steps_within n (room - 19) t d m'))
    pays_round o e p =
        let w = steps_within n (room - 19) t d m' in
        let l = outcome_text o in
        let long : length (l ++ w.text) ≡ 19 + length w.text = length-append l w.text ∙ ap (λ (k : ℕ). k + length w.text) (text_long o) in
        let free : room - 19 - length w.text ≡ room - length (l ++ w.text) = omega arith in
        record {
          rest = p.rest;
          whole = e ∙ ap (text_before l) p.whole ∙ ahead_ahead l w.text p.rest;
          few = omega (arith, p.few);
          rests = subst (λ (k : ℕ). Rests t w.memory w.next k w.awaited p.rest) free p.rests;
          kept = p.kept ∙ ap (λ (k : Memory). with_sets k w.memory.sets) keep;
          size = p.size ∙ size;
        }

    -- done is the last
    pays_done : (o : Outcome) → steps_told (suc n) t r m ≡ record { text = outcome_text o; next = d; memory = m' } → Holding t m' d
        → RoundsPaid t m r (suc n) room (record { text = outcome_text o; awaited = Command; next = d; memory = m' })
    pays_done o e k = record {
      rest = record { text = []; next = d; memory = m' };
      whole = e ∙ (λ j. record { text = sym (append-nil (outcome_text o)) j; next = d; memory = m' });
      few = omega (arith, text_long o);
      rests = ended refl k;
      kept = keep;
      size = size;
    }

  pays_step : 19 ≤ room → ((d : Record) (m' : Memory) → Going t m' d → RoundsPaid t m' d n (room - 19) (steps_within n (room - 19) t d m'))
      → RoundsPaid t m r (suc n) room (steps_within (suc n) room t r m)
  pays_step h go = paid_as (within_next n room t r m (step_left m (made_of t m r)) (taken t m r g) h) (by (made_of t m r).outcome refl)
    where
      by : (o : Outcome) → (made_of t m r).outcome ≡ o → RoundsPaid t m r (suc n) room (step_within (said (made_of t m r).outcome) (made_of t m r).next (with_sets m (made_of t m r).sets) (steps_within n (room - 19) t))
      by (round x k c closed) e =
          rw e (pays_round h (made_of t m r).next (with_sets m (made_of t m r).sets) refl (keeps t m r g).size (round x k c closed)
          (told_next ∙ ap (λ (o : Outcome). step_then (said o) (made_of t m r).next (with_sets m (made_of t m r).sets) (steps_told n t)) e)
          (go (made_of t m r).next (with_sets m (made_of t m r).sets) (going_next t m r g (ap is_done e))))
      by (done x y z) e =
          rw e (pays_done h (made_of t m r).next (with_sets m (made_of t m r).sets) refl (keeps t m r g).size (done x y z)
          (told_next ∙ ap (λ (o : Outcome). step_then (said o) (made_of t m r).next (with_sets m (made_of t m r).sets) (steps_told n t)) e)
          (holding_next t m r g))

pub rounds_pay : RoundsPay
unfolding steps_told steps_within
rounds_pay t m r zero room g = record { rest = record { text = []; next = r; memory = m }; whole = refl; few = omega arith; rests = ended refl (going_holds g); kept = refl; size = refl }
rounds_pay t m r (suc n) room g =
    ⊎_elim (λ (h : room < 19). pays_full t m r n room g h) (λ (h : 19 ≤ room). pays_step t m r n room g h (λ d m' k. rounds_pay t m' d n (room - 19) k)) (lt_or_ge room 19)

-- ---- the same of a step as the code answers it

-- what it leaves: its answer, the record d and the memory m
abbrev pub left_by : Answer → Record → Memory → Left (Said Outcome)
left_by a d m = record { answer = answer_says a; next = d; memory = m }

is_over : Said Outcome → Bool
is_over (refused n) = false
is_over (said o) = is_done o

module _ (t : List ℕ) (m : Memory) (r : Record) (g : Going t m r) (a : Answer) (d : Record) (m' : Memory) (e : left_by a d m' ≡ step_call t m r) where
  -- the update is at work behind a round
  pub round_going : {x y z : ℕ} {k : Bool} → a ≡ Round x y z k → Going t m' d
  unfolding is_over
  round_going q =
      let u = e ∙ taken t m r g in
      let z : is_done (made_of t m r).outcome ≡ false = sym (ap (λ (l : Left (Said Outcome)). is_over l.answer) u) ∙ ap (λ (b : Answer). is_over (answer_says b)) q in
      subst (λ (l : Left (Said Outcome)). Going t l.memory l.next) (sym u) (going_next t m r g z)

  -- the tree is as it was
  pub same_nodes : d.nodes ≡ r.nodes
  same_nodes = ap (λ (l : Left (Said Outcome)). l.next.nodes) (e ∙ taken t m r g) ∙ (keeps t m r g).nodes
