-- A text is written, and refused, exactly when: one law for every text that goes into a lent buffer. Assumes nothing.
use mathlib.Core.Path.{◌≡◌, refl}
use mathlib.Core.Logic.{⊎_elim, ◌↔◌}
use mathlib.Core.List.{List}
use Rattle.std.proofs.Common.{Result, Ok, Err}
use Prim.Native.Nat.{ℕ, zero, suc, ◌≤◌, ◌<◌}
use native.Mathlib.Omega.{arith}
use borrow.Author.Tests.{le-leb, lt-leb}
use lib.ListN.{length}
use lib.Seq.{sets}
use Rattle.refusal.specs.Numbers.{number_of}
use Rattle.refusal.specs.declared.Refusal.{Refusal}
use Rattle.refusal.specs.declared.Refusal.TheVariants as why
use Rattle.text_line.proofs.Values.{lt_or_ge}
use Rattle.tree.specs.Refusals.{tree_refusal}
use Rattle.tree.specs.Refused.{TreeRefused, SoundTree}
use Rattle.tree.proofs.Refused.{tree_most, all_trees_exactly}
use Rattle.text_tree.specs.Text.{tree_text}
use Rattle.text_tree.specs.Written.{refusal_of, written_of, buffer_after}
use Rattle.text_tree.specs.Writes.{Writes, refused, by15, written, WriteTreeExactly}
use Rattle.text_tree.proofs.Numbers.{numbered}
use Rattle.text_tree.proofs.Writing.{refused_answer, refused_buffer}

-- `given` is the number of a judgement: a refusal's where what is to be written is broken by it, and 0 where it is right
pub record Gives (given : ℕ) (Broken : Refusal → Type 0) (Right : Type 0) : Type 0 where
  pub most : given < 18
  pub refused : (r : Refusal) → (number_of r ≡ given) ↔ Broken r
  pub right : (0 ≡ given) ↔ Right

module _ (Broken : Refusal → Type 0) (Right : Type 0) (buffer text : List ℕ) where
  abbrev Done : Result ℕ Refusal → List ℕ → Type 0
  Done a buffer' = Writes Broken Right buffer text a buffer'

  abbrev Says : ℕ → Result ℕ Refusal → List ℕ → Type 0
  Says given a buffer' = (a ≡ written_of given (length buffer) text) × (buffer' ≡ buffer_after given buffer text)

  short : length buffer < length text → Says 0 (Err why.Buffer) buffer
  short h = let k = lt-leb (length text) (length buffer) h in (rw k, rw k)

  fits : length text ≤ length buffer → Says 0 (Ok (length text)) (sets buffer 0 text)
  fits h = let k = le-leb (length text) (length buffer) h in (rw k, rw k)

  writes_to : (given : ℕ) → Gives given Broken Right → Done (written_of given (length buffer) text) (buffer_after given buffer text)
  writes_to zero g =
      ⊎_elim (λ (h : length buffer < length text). rw (lt-leb (length text) (length buffer) h) (by15 (g.right.0 refl) h))
      (λ (h : length text ≤ length buffer). rw (le-leb (length text) (length buffer) h) (written (g.right.0 refl) h)) (lt_or_ge (length buffer) (length text))
  writes_to (suc n) g = refused ((g.refused (refusal_of (suc n))).0 (numbered (suc n) (omega arith) g.most))

  writes_from : {a : Result ℕ Refusal} {buffer' : List ℕ} (given : ℕ) → Gives given Broken Right → Done a buffer' → Says given a buffer'
  writes_from given g (refused {r} b) = let e = (g.refused r).1 b in rw (← e) (refused_answer r (length buffer) text, refused_buffer r buffer text)
  writes_from given g (by15 w h) = rw (← (g.right.1 w)) (short h)
  writes_from given g (written w h) = rw (← (g.right.1 w)) (fits h)

  pub writes_exactly : (given : ℕ) → Gives given Broken Right → (a : Result ℕ Refusal) (buffer' : List ℕ) → Says given a buffer' ↔ Done a buffer'
  writes_exactly given g a buffer' = (λ e. rw (e.0, e.1) (writes_to given g), writes_from given g)

-- a tree
pub write_tree_exactly : WriteTreeExactly
write_tree_exactly t ns owns buffer =
    let x = all_trees_exactly t ns owns in
    writes_exactly (TreeRefused t ns owns) (SoundTree t ns owns) buffer (tree_text ns owns) (tree_refusal t ns owns)
    (record { most = omega (arith, tree_most t ns owns); refused = x.refused; right = x.sound })
