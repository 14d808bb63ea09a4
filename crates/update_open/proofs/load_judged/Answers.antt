-- What is refused changes nothing; otherwise each buffer is filled by one call. Assumes nothing.
use Rattle.std.proofs.Common.{sym, ◌∙◌, arith}
use Rattle.refusal.proofs.Distinct.{handed}
use Rattle.refusal.proofs.Orders.{front}
use Rattle.update.specs.Memories.{lent}
use Rattle.update.specs.Refusals.{new_order, waiver_order}
use Rattle.update_place.proofs.Fields.{is_loaded}
use Rattle.std.proofs.Common.{◌≡◌, List, ℕ, ◌++◌}
use Rattle.refusal.specs.Orders.{refusal_by}
use Rattle.update.specs.declared.Record.{Record}
use Rattle.update_judge.proofs.Orders.{load_past, Loads, loads}
use Rattle.update_open.proofs.Answers.{load_refused, load_carried}
use Rattle.update_open.proofs.load_judged.Goals as goal

fits : (t : List ℕ) (r : Record) (ns owns : List ℕ) → 0 ≡ refusal_by (new_order t r ns owns ++ waiver_order t ns) → Loads t ns owns
fits t r ns owns e = loads t r ns owns (front (new_order t r ns owns) (waiver_order t ns) (sym e))

pub place_tree-requires-clause-productions_in_bounds : goal.place_tree-requires-clause-productions_in_bounds
place_tree-requires-clause-productions_in_bounds c = let l = (fits c.args.table.now c.args.«record» c.args.productions.now c.args.owns.now c.in_ok-judge_loaded.ensures) in let g = c.requires.room in omega arith

pub place_tree-requires-clause-owns_len : goal.place_tree-requires-clause-owns_len
place_tree-requires-clause-owns_len c = (fits c.args.table.now c.args.«record» c.args.productions.now c.args.owns.now c.in_ok-judge_loaded.ensures).equal

pub place_tree-requires-clause-owns_in_bounds : goal.place_tree-requires-clause-owns_in_bounds
place_tree-requires-clause-owns_in_bounds c = let l = (fits c.args.table.now c.args.«record» c.args.productions.now c.args.owns.now c.in_ok-judge_loaded.ensures) in let g = c.requires.room in omega (arith, l.equal)

pub returns : goal.returns
returns c =
    let p = c.place_tree.ensures in
    load_carried _ _ _ _ _ _ _ _ (load_past _ _ _ _ _ c.requires ∙ sym c.in_ok-judge_loaded.ensures) c.one_point.ensures c.just_opened.ensures
    (is_loaded (lent c.args.held.now c.args.held_owns.now c.args.sets.now c.args.earlier.now) _ c.args.productions.now c.args.owns.now p.held_after p.held_owns_after p.sets_after p.earlier_after)

pub returns-in_err-judge_loaded : goal.returns-in_err-judge_loaded
returns-in_err-judge_loaded c = rw (handed _ _ c.from_residual.ensures.1) (load_refused _ _ _ _ _ _ (c.in_err-judge_loaded.ensures ∙ sym (load_past _ _ _ _ _ c.requires)))
