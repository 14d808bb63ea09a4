-- A step's answer and its line. Assumes nothing.
use mathlib.Core.Path.{◌≡◌, refl, ap, ◌∙◌, subst}
use mathlib.Core.Bool.{Bool, true, false, cond}
use mathlib.Core.List.{List, [], ◌∷◌}
use Prim.Native.Nat.{ℕ, ◌+◌, ◌<◌, ◌^◌}
use lib.ListN.{length}
use lib.Seq.{sets}
use Rattle.std.specs.Int.{from_bool}
use Rattle.text_line.specs.Text.{byte, two, three, four}
use Rattle.text_line.proofs.Fields.{line_length}
use Rattle.text_frame.specs.Out.{round_text, done_text}
use Rattle.update.specs.declared.Answer.{Answer}
use Rattle.update.specs.declared.Answer.TheVariants.{Round, Done}
use Rattle.update.specs.Steps.{Outcome, round, done}
use Rattle.update.specs.Calls.{Said, refused, answer_says}
use Rattle.session.specs.Session.{outcome_text}
use Rattle.session_rounds.specs.Telling.{Printable, AnswerPut}

-- ---- the numbers of each answer fit

module _ {a : Answer} (p : Printable (answer_says a)) where
  pub round_fits : {x y z : ℕ} {t : Bool} → a ≡ Round x y z t → (x < 2 ^ 16) × (y < 2 ^ 24) × (z < 2 ^ 16)
  round_fits e = subst (λ (b : Answer). Printable (answer_says b)) e p

  pub done_fits : {x y z : ℕ} → a ≡ Done x y z → (x < 2 ^ 16) × (y < 2 ^ 32) × (z < 2 ^ 16)
  done_fits e = subst (λ (b : Answer). Printable (answer_says b)) e p

-- and a refusal has no line
pub not_refused : {o : Said Outcome} {n : ℕ} → Printable o → o ≡ refused n → ⊥
not_refused p e = subst (λ (o : Said Outcome). Printable o) e p

-- ---- a flag's byte

pub byte_of : (t : Bool) → from_bool t ≡ cond t 1 0
byte_of true = refl
byte_of false = refl

-- ---- a line has 19 bytes

pub text_long : (o : Outcome) → length (outcome_text o) ≡ 19
unfolding round_text done_text
text_long (round least k size closed) = line_length (byte 0x11 ∷ two least ∷ three k ∷ two size ∷ byte (cond closed 1 0) ∷ [])
text_long (done circles evaluations changed) = line_length (byte 0x12 ∷ two circles ∷ four evaluations ∷ two changed ∷ [])

-- ---- what is put is the answer's text

module _ (out : List ℕ) (printed : ℕ) {a : Answer} {out' : List ℕ} {r : ℕ} (e : r ≡ printed + 19) where
  pub round_put : (x y z b : ℕ) (t : Bool) → a ≡ Round x y z t → b ≡ cond t 1 0 → out' ≡ sets out printed (round_text x y z b)
      → AnswerPut (answer_says a) printed out r out'
  round_put x y z b t v w h = rw v (record { place = e; long = text_long (round x y z t); shown = h ∙ ap (λ (k : ℕ). sets out printed (round_text x y z k)) w })

  pub done_put : (x y z : ℕ) → a ≡ Done x y z → out' ≡ sets out printed (done_text x y z) → AnswerPut (answer_says a) printed out r out'
  done_put x y z v h = rw v (record { place = e; long = text_long (done x y z); shown = h })
