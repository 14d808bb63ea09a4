-- A session begins as the program lends it its memory. Assumes nothing.
use mathlib.Core.Path.{refl}
use Prim.Native.Nat.{ℕ, ◌≤◌}
use native.Mathlib.Omega.{arith}
use lib.ListN.{length, replicate, length-replicate}
use lib.Seq.{take_all}
use Rattle.session.specs.Session.{own_memory}
use Rattle.update.specs.Within.{Roomy}
use Rattle.session_feed.specs.Laws.{first_out, ProgramStarts}

-- a zeroed array has its places
room : (n : ℕ) → n ≤ length (replicate {A = ℕ} n 0)
room n = omega (arith, length-replicate {A = ℕ} n 0)

own_roomy : Roomy own_memory
unfolding own_memory
own_roomy = record { productions = room 512; owns = room 512; sets = room 4096; earlier = room 4096 }

pub program_starts : ProgramStarts
unfolding first_out
program_starts = record {
  fits = record {
    wide = record { words_room = room 2657; window_room = room 29; parts_room = room 513; owns_room = room 521; room = own_roomy; print_room = room 131072 };
    begun = omega arith;
    line = record { few = omega arith; no_end = λ i k e. omega (arith, k) };
    sound = (tt, refl);
  };
  awaited = refl;
  line = refl;
  empty = refl;
  words = take_all 2657 (replicate 2657 0) (omega (arith, length-replicate {A = ℕ} 2657 0));
  memory = refl;
}
