-- When a text is written into a lent buffer and when it is refused, said without the definitions that compute the answer. Assumes nothing.
use Rattle.std.specs.Prelude.{◌↔◌, List, ℕ, ◌≤◌, ◌<◌, length, Result, Ok, Err}
use Rattle.std.proofs.lemmas.List.Edits.{sets}
use Rattle.refusal.specs.declared.Refusal.{Refusal}
use Rattle.refusal.specs.declared.Refusal.TheVariants as why
use Rattle.tree.specs.Refused.{TreeRefused, SoundTree}
use Rattle.text_tree.specs.Text.{tree_text}
use Rattle.text_tree.specs.Calls.{WriteTreeSays}

-- 15.1, 15.12, 16.6: what is answered, and what the buffer holds then, where what is to be written is broken by a refusal or right: a refusal leaves the buffer
-- as it was; 15 is given where nothing else is and the buffer is shorter than the text; and else the text stands at the buffer's start
pub data Writes (Broken : Refusal → Type 0) (Right : Type 0) (buffer text : List ℕ) : Result ℕ Refusal → List ℕ → Type 0 where
  refused : {r : Refusal} → Broken r → Writes Broken Right buffer text (Err r) buffer
  by15 : Right → length buffer < length text → Writes Broken Right buffer text (Err why.Buffer) buffer
  written : Right → length text ≤ length buffer → Writes Broken Right buffer text (Ok (length text)) (sets buffer 0 text)

-- 15.12, 23.1: `write_tree` answers and leaves exactly that
abbrev pub WriteTreeExactly : Type 0
WriteTreeExactly = (t ns owns buffer : List ℕ) (a : Result ℕ Refusal) (buffer' : List ℕ)
    → WriteTreeSays t ns owns buffer a buffer' ↔ Writes (TreeRefused t ns owns) (SoundTree t ns owns) buffer (tree_text ns owns) a buffer'
