-- What a dump answers and leaves, from the refusal that its code found. Assumes nothing.
use mathlib.Core.Path.{◌≡◌, refl, sym, ◌∙◌}
use mathlib.Core.List.{List, [], ◌∷◌}
use Rattle.std.proofs.Common.{Ok, Err}
use Prim.Native.Nat.{ℕ, zero, suc, ◌≤◌, ◌<◌}
use native.Mathlib.Omega.{arith}
use borrow.Author.Tests.{lt-ltb, le-ltb}
use lib.Dec.{ltb}
use lib.ListN.{length}
use lib.Seq.{sets}
use Rattle.refusal.specs.Numbers.{number_of}
use Rattle.refusal.specs.declared.Refusal.{Refusal}
use Rattle.refusal.specs.declared.Refusal.TheVariants.{Buffer}
use Rattle.refusal.proofs.Distinct.{number_low}
use Rattle.update.specs.declared.Record.{Record}
use Rattle.update.specs.Memories.{Memory}
use Rattle.refusal.specs.Orders.{when, above, refusal_by}
use Rattle.update.specs.Refusals.{dump_refusal, look_order}
use Rattle.update.specs.Calls.{refused}
use Rattle.update_judge.proofs.Orders.{Looked, look_none}
use Rattle.text_sets.specs.Calls.{dumped_text, wrote, unless_written, dump_call}
use Rattle.refusal.proofs.Orders.{past, stopped, alone}

some : (n : ℕ) (buffer text : List ℕ) → 0 < n → record { answer = refused n; buffer = buffer } ≡ unless_written n buffer text
some zero buffer text h = absurd (omega arith)
some (suc n) buffer text h = refl

module _ (t : List ℕ) (m : Memory) (r : Record) (buffer : List ℕ) where
  abbrev number : ℕ
  number = dump_refusal t m r (length buffer) (length (dumped_text t m r))

  refused_by : (q : Refusal) → number_of q ≡ number → wrote (Err q) buffer ≡ dump_call t m r buffer
  unfolding dump_call
  refused_by q e = rw (← e) (some (number_of q) buffer (dumped_text t m r) (number_low q))

  -- past the look, only the text's room is left
  dump_past : Looked t m r → number ≡ when (ltb (length buffer) (length (dumped_text t m r))) 15
  unfolding dump_refusal
  dump_past k =
      let last = above 15 (length buffer) (length (dumped_text t m r)) in
      past (look_order t m r) (last ∷ []) (look_none t m r k) ∙ alone last

  pub dump_stopped : (q : Refusal) → number_of q ≡ refusal_by (look_order t m r) → wrote (Err q) buffer ≡ dump_call t m r buffer
  unfolding dump_refusal
  dump_stopped q e = refused_by q (stopped (look_order t m r) (above 15 (length buffer) (length (dumped_text t m r)) ∷ []) q e)

  pub dump_short : Looked t m r → length buffer < length (dumped_text t m r) → wrote (Err Buffer) buffer ≡ dump_call t m r buffer
  dump_short k h = refused_by Buffer (sym (dump_past k ∙ rw (lt-ltb (length buffer) (length (dumped_text t m r)) h)))

  pub dump_said : Looked t m r → length (dumped_text t m r) ≤ length buffer → (n : ℕ) (b : List ℕ) → n ≡ length (dumped_text t m r) → b ≡ sets buffer 0 (dumped_text t m r)
      → wrote (Ok n) b ≡ dump_call t m r buffer
  unfolding dump_call
  dump_said k h n b e f =
      let z : number ≡ 0 = dump_past k ∙ rw (le-ltb (length buffer) (length (dumped_text t m r)) h) in
      rw (z, e, f)
