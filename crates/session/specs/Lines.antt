-- What an update and a dump print, by what was asked for and by mathematics alone: no engine, record or memory is in it. Assumes nothing.
use Rattle.std.specs.Prelude.{◌≡◌, ◌↔◌, Bool, true, false, cond, List, ◌++◌, map, ℕ, suc, ◌<◌, eqb, length, get_or}
use Rattle.tree.specs.Points.{Part, nodes_row, owns_row, points_row}
use Rattle.circles.specs.Ranked.{circle_at, member}
use Rattle.circles.specs.Laws.{Rising}
use Rattle.climb.specs.System.{Assignment, System, graph_of}
use Rattle.wire.specs.Instances.{declared, system}
use Rattle.demands.specs.Work.{Due, Climbing, RoundTurn}
use Rattle.demands.specs.Asked.{LeastSets, ByRank, new_rule, surviving, value_before, changed_from}
use Rattle.demands.specs.Demands.{rounds_due, circles_due, evaluations_due}
use Rattle.text_frame.specs.Out.{round_text, done_text, dump_text}

-- ---- an update

-- 19.2, 23.6: the lines that are left after n rounds. R are the circles by rank, due i says whether circle i is worked on, climb i are the rounds of its climb,
-- and `changed` is what done reports
pub data UpdateLines (R : List (List ℕ)) (due : ℕ → Bool) (climb : ℕ → ℕ) (changed : ℕ) : ℕ → List ℕ → Type 0 where
  -- it is the turn of round k of circle i: its least instance, k, its size, and 1 in the last of its rounds
  then_round : {n : ℕ} {text : List ℕ} (i k : ℕ) → RoundTurn (length R) due climb i k n → UpdateLines R due climb changed (suc n) text
      → UpdateLines R due climb changed n (round_text (get_or (circle_at R i) 0 0) k (length (circle_at R i)) (cond (eqb k (climb i)) 1 0) ++ text)
  -- all rounds are made, and `12` comes last
  then_done : {n : ℕ} → n ≡ rounds_due R due climb → UpdateLines R due climb changed n (done_text (circles_due R due) (evaluations_due R due climb) changed)

-- 19.2, 23.6, 23.7: all that is printed for an update of a tree with the system S: `fresh` tells the instances with a rule in the new part, `survives` those
-- that were there before, and `earlier` are the values then. The least sets, the circles, which of them are due and how many rounds each takes are determined by
-- these
pub record UpdateText (S : System) (fresh survives : ℕ → Bool) (earlier : Assignment) (text : List ℕ) : Type 0 where
  pub sets : Assignment
  pub least : LeastSets S sets
  pub circles : List (List ℕ)
  pub ranked : ByRank (graph_of S) circles
  pub due : ℕ → Bool
  pub exactly : (i : ℕ) → (due i ≡ true) ↔ Due S fresh earlier sets (circle_at circles i)
  pub climb : ℕ → ℕ
  pub climbing : (i : ℕ) → i < length circles → Climbing S (circle_at circles i) sets (climb i)
  pub lines : UpdateLines circles due climb (changed_from S survives earlier sets) 0 text

-- 10.1, 11.4: a load: every instance is fresh, and none was there before
abbrev pub LoadText : List ℕ → List ℕ → List ℕ → List ℕ → Type 0
LoadText t ns owns text = UpdateText (system t ns owns) (λ x. true) (λ x. false) (λ x. 0) text

-- 9.4, 9.6, 10.1: a replacement at one point or several in the tree with the nodes ns and the own sets owns, whose least sets are `old`
pub record ReplacementText (t ns owns : List ℕ) (ps : List Part) (text : List ℕ) : Type 0 where
  pub old : Assignment
  pub least : LeastSets (system t ns owns) old
  pub update : UpdateText (system t (nodes_row t ns ps) (owns_row t ns owns ps)) (new_rule t (nodes_row t ns ps) (points_row t ns ps)) (surviving (points_row t ns ps))
      (value_before t ns ps old) text

-- ---- a dump

-- 18.2, 23.3: the declared instances of the tree and no others, rising, each with its value in the least sets
pub record SetsText (t ns owns text : List ℕ) : Type 0 where
  pub sets : Assignment
  pub least : LeastSets (system t ns owns) sets
  pub instances : List ℕ
  pub rising : Rising 0 instances
  pub exactly : (x : ℕ) → (member instances x ≡ true) ↔ (declared t ns x ≡ true)
  pub shows : text ≡ dump_text (map (λ x. record { instance = x; value = sets x }) instances)
