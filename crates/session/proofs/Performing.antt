-- A session is its text read and then performed: command by command. Assumes nothing.
use mathlib.Core.Path.{◌≡◌, refl, ap, sym}
use mathlib.Core.List.{List, ◌++◌}
use Prim.Native.Nat.{ℕ, zero, suc}
use lib.ListN.{length}
use Rattle.tree.specs.Handed.{announced, handed_row}
use Rattle.update.specs.declared.Record.{Record}
use Rattle.update.specs.Records.{empty_record}
use Rattle.update.specs.Memories.{Memory}
use Rattle.update.specs.Calls.{load_call, replace_call, points_call}
use Rattle.update.proofs.Several.{one_point}
use Rattle.text_frame.specs.declared.Frame.{Frame}
use Rattle.text_frame.specs.declared.Frame.TheVariants.{Rule, Node, Point as PointFrame, Change, Dump, Refused, Over}
use Rattle.text_frame.specs.declared.Change as change
use Rattle.text_frame.specs.declared.Change.TheVariants.{Load, Replace, Corrections}
use Rattle.text_frame.specs.Frames.{frame_at}
use Rattle.text_table.specs.Reading as table
use Rattle.text_table.specs.Reading.{Reading, reading_at}
use Rattle.text_tree.specs.Planting.{Nodes, good, bad, nodes_at}
use Rattle.session.specs.Naming.{Named, named, unnamed, points_at}
use Rattle.session.specs.Session.{Told, opened_then, dump_told, with_nodes, with_points, parts_then, changing, command, commands_from, own_memory, after_table, session}
use Rattle.session.specs.Script.{Asked, load, replace, Script, nodes_ask, parts_ask, one_part, change_asks, command_asks, script_from, behind_table, day_of}
use Rattle.session.specs.Performing.{performed, perform_all, perform_day, ReadThenPerform}

-- the rest of the text prints, from wherever a command leaves it, what its script performs
module _ (s t : List ℕ) (line : ℕ) (go : ℕ → ℕ → Record → Memory → List ℕ) (rest : ℕ → ℕ → Script)
    (on : (place next : ℕ) (r : Record) (m : Memory) → go place next r m ≡ perform_all t (rest place next) r m) where
  nodes_asked : (n : Nodes) (call : List ℕ → List ℕ → Told) (ask : List ℕ → List ℕ → Asked) (r : Record) (m : Memory)
      → ((ns owns : List ℕ) → call ns owns ≡ performed line t (ask ns owns) r m) → with_nodes n call go ≡ perform_all t (nodes_ask line n ask rest) r m
  unfolding perform_all
  nodes_asked (good ns owns place next) call ask r m same =
      let e = same ns owns in rw (e, on place next (performed line t (ask ns owns) r m).next (performed line t (ask ns owns) r m).memory)
  nodes_asked (bad refusal at) call ask r m same = refl

  parts_asked : (p : Named) (r : Record) (m : Memory) → with_points p (parts_then s t line r m go) ≡ perform_all t (parts_ask line s p rest) r m
  unfolding perform_all
  parts_asked (named qs place next) r m =
      nodes_asked (nodes_at (announced qs) s place next) (λ ns owns. opened_then line t (points_call t m r (handed_row qs ns owns))) (λ ns owns. replace (handed_row qs ns owns)) r m
      (λ ns owns. refl)
  parts_asked (unnamed refusal at) r m = refl

  change_asked : (c : change.Change) (place next : ℕ) (r : Record) (m : Memory) → changing s t c line place next r m go ≡ perform_all t (change_asks s c line place next rest) r m
  change_asked (Load count) place next r m = nodes_asked (nodes_at count s place next) (λ ns owns. opened_then line t (load_call t m r ns owns)) load r m (λ ns owns. refl)
  change_asked (Replace point count) place next r m =
      nodes_asked (nodes_at count s place next) (λ ns owns. opened_then line t (replace_call t m r point ns owns)) (λ ns owns. replace (one_part point ns owns)) r m
      (λ ns owns. ap (opened_then line t) (sym (one_point t m r (record { point = point; nodes = ns; owns = owns }))))
  change_asked (Corrections count) place next r m = parts_asked (points_at count s place next) r m

  command_asked : (f : Frame) (place next : ℕ) (r : Record) (m : Memory) → command s t f line place next r m go ≡ perform_all t (command_asks s f line place next rest) r m
  unfolding perform_all
  command_asked (Change c) place next r m = change_asked c place next r m
  command_asked Dump place next r m = let told = dump_told line t r m in ap (λ (x : List ℕ). told.text ++ x) (on place next told.next told.memory)
  command_asked Over place next r m = refl
  command_asked (Refused refusal at) place next r m = refl
  command_asked (Rule a) place next r m = refl
  command_asked (Node a b) place next r m = refl
  command_asked (PointFrame a b) place next r m = refl

commands_asked : (n : ℕ) (s t : List ℕ) (place line : ℕ) (r : Record) (m : Memory) → commands_from n s t place line r m ≡ perform_all t (script_from n s place line) r m
unfolding commands_from script_from perform_all
commands_asked zero s t place line r m = refl
commands_asked (suc n) s t place line r m =
    let step = frame_at s place line in
    command_asked s t line (commands_from n s t) (script_from n s) (commands_asked n s t) step.frame step.place step.line r m

by_table : (s : List ℕ) (x : Reading) → after_table s x ≡ perform_day (behind_table s x)
by_table s (table.done t place line) = commands_asked (length s) s t place line empty_record own_memory
by_table s (table.stop refusal line) = refl

pub read_then_perform : ReadThenPerform
unfolding session day_of
read_then_perform s = by_table s (reading_at s 0 1)
