-- What is owed where the text ends, between two lines or inside one; and what is owed at first. Assumes nothing.
use mathlib.Core.Path.{◌≡◌, refl, sym}
use mathlib.Core.Bool.{true, false, true≢false}
use mathlib.Core.List.{List, [], ◌∷◌}
use Prim.Native.Nat.{ℕ, suc, ◌+◌, ◌-◌}
use native.Mathlib.Omega.{arith}
use borrow.Author.Tests.{ne_eqb}
use lib.Dec.{eqb}
use lib.ListN.{length, replicate}
use Rattle.refusal.specs.declared.Refusal.TheVariants as why
use Rattle.update.specs.declared.Record.{Record}
use Rattle.update.specs.Memories.{Memory}
use Rattle.text_frame.specs.Frames.{frame_at}
use Rattle.text_table.specs.Reading as table
use Rattle.text_table.specs.Reading.{Reading, read_on, reading_at}
use Rattle.text_tree.specs.Planting.{nodes_at}
use Rattle.text_frame.specs.declared.Frame.TheVariants as frame
use Rattle.text_frame.specs.declared.Expected.TheVariants.{AtHeader}
use Rattle.text_table.proofs.Readings.{read_out, read_turn}
use Rattle.text_table.proofs.Passing.{none_left, broken_taken}
use Rattle.session.specs.Naming.{points_at}
use Rattle.session.specs.Session.{commands_from, session, after_table, own_memory}
use Rattle.session_owed.specs.Owed.{table_then, owed, Sound, Begun}
use Rattle.session_owed.specs.Laws.{listens, end_text, EndPays, AllOwed}
use Rattle.session_owed.specs.declared.Awaited.{Awaited}
use Rattle.session_owed.specs.declared.Awaited.TheVariants.{Table, Command, Naming, Nodes as NodesOf, Working, Stopped}
use Rattle.session_owed.proofs.Windows.{begun}

module _ (t ps os : List ℕ) (m : Memory) (r : Record) (line : ℕ) where
  -- the text has ended: no byte is left
  ended : (awaited : Awaited) → listens awaited ≡ true → Sound awaited t os m r → owed awaited t ps os m r line [] ≡ end_text awaited 0 line
  unfolding owed end_text commands_from points_at nodes_at
  ended (Table x) on sound = rw (read_out [] t x 0 line sound.1)
  ended Command on sound = refl
  ended (Naming count taken at) on sound =
      let k : count - taken ≡ suc (count - (taken + 1)) = omega (arith, sound.1.more) in
      rw (k, none_left [] 0 line (omega arith))
  ended (NodesOf coming count taken at) on sound =
      let k : count - taken ≡ suc (count - (taken + 1)) = omega (arith, sound.1) in
      rw (k, none_left [] 0 line (omega arith))
  ended (Working n) on sound = absurd (true≢false (sym on))
  ended Stopped on sound = refl

  -- inside a line
  module _ (b : ℕ) (w : List ℕ) (x : Begun (b ∷ w)) where
    broken : (frame_at (b ∷ w) 0 line).frame ≡ frame.Refused why.Line line
    broken = begun (b ∷ w) line x (omega arith)

    some_begun : eqb (suc (length w)) 0 ≡ false
    some_begun = ne_eqb (suc (length w)) 0 (λ e. omega arith)

    broken_off : (awaited : Awaited) → listens awaited ≡ true → Sound awaited t os m r → owed awaited t ps os m r line (b ∷ w) ≡ end_text awaited (suc (length w)) line
    unfolding owed end_text commands_from points_at nodes_at
    broken_off (Table x) on sound = rw (read_turn (b ∷ w) t x 0 line sound.1 (length w), broken, broken_taken t x line, some_begun)
    broken_off Command on sound = rw (broken, some_begun)
    broken_off (Naming count taken at) on sound =
        let k : count - taken ≡ suc (count - (taken + 1)) = omega (arith, sound.1.more) in
        rw (k, broken, some_begun)
    broken_off (NodesOf coming count taken at) on sound =
        let k : count - taken ≡ suc (count - (taken + 1)) = omega (arith, sound.1) in
        rw (k, broken, some_begun)
    broken_off (Working n) on sound = absurd (true≢false (sym on))
    broken_off Stopped on sound = refl

pub end_pays : EndPays
end_pays awaited t ps os m r line [] on sound x = ended t ps os m r line awaited on sound
end_pays awaited t ps os m r line (b ∷ w) on sound x = broken_off t ps os m r line b w x awaited on sound

-- ---- at first

pub all_owed : AllOwed
unfolding owed session reading_at
all_owed ps os r s = by_reading (read_on (length s) (replicate 2657 0) AtHeader s 0 1)
  where
    by_reading : (x : Reading) → table_then s own_memory x ≡ after_table s x
    by_reading (table.done t place line) = refl
    by_reading (table.stop refusal line) = refl
