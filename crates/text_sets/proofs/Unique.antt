-- What an answer says leads back to the answer, so no second answer or buffer fits what a dump says. Assumes nothing.
use mathlib.Core.Path.{◌≡◌, refl, ap}
use mathlib.Core.List.{List}
use Rattle.std.proofs.Common.{Result, Ok, Err}
use Prim.Native.Nat.{ℕ}
use Rattle.refusal.specs.Only.{After}
use Rattle.refusal.proofs.Distinct.{named, number_back}
use Rattle.refusal.proofs.Fitting.{only_said}
use Rattle.update.specs.Calls.{Said, refused, said}
use Rattle.refusal.specs.declared.Refusal.{Refusal}
use Rattle.text_sets.specs.Calls.{written_says, Wrote, wrote, dump_call}
use Rattle.text_sets.specs.Unique.{DumpsOne}

abbrev written_back : Said ℕ → Result ℕ Refusal
written_back (said n) = Ok n
written_back (refused n) = Err (named n)

written_back_lem : (w : Result ℕ Refusal) → written_back (written_says w) ≡ w
written_back_lem (Ok n) = refl
written_back_lem (Err r) = ap Err (number_back r)

abbrev wrote_back : Wrote → After (Result ℕ Refusal) (List ℕ)
wrote_back w = record { answer = written_back w.answer; found = w.buffer }

wrote_back_lem : (x : After (Result ℕ Refusal) (List ℕ)) → wrote_back (wrote x.answer x.found) ≡ x
wrote_back_lem x = ap (λ w. record { answer = w; found = x.found }) (written_back_lem x.answer)

abbrev saying : After (Result ℕ Refusal) (List ℕ) → Wrote
saying x = wrote x.answer x.found

pub dumps_one : DumpsOne
dumps_one t m r buffer = only_said saying wrote_back wrote_back_lem (dump_call t m r buffer)
