-- The end of the input: what is answered, by what is waited for and whether a line has begun; and each number exactly when. Assumes nothing.
use mathlib.Core.Path.{◌≡◌, refl, ap, sym, ◌∙◌}
use mathlib.Core.Bool.{Bool, true, false, true≢false}
use mathlib.Core.List.{List, []}
use mathlib.Core.Logic.{◌↔◌}
use Prim.Native.Nat.{ℕ, ◌≤◌, ◌<◌, zero-le}
use native.Mathlib.Omega.{arith}
use borrow.Author.Tests.{le-leb, lt-leb}
use lib.Dec.{eqb}
use lib.ListN.{length}
use lib.Seq.{sets}
use Rattle.std.specs.Prelude.{Result, Ok, Err}
use Rattle.refusal.specs.Numbers.{number_of}
use Rattle.refusal.specs.declared.Refusal.{Refusal}
use Rattle.refusal.specs.declared.Refusal.TheVariants as why
use Rattle.refusal.proofs.Distinct.{number_one, number_low}
use Rattle.refusal.specs.Orders.{when}
use Rattle.text_frame.specs.Out.{refusal_text}
use Rattle.text_frame.proofs.Printed.{refusal_length}
use Rattle.text_tree.specs.Written.{refusal_of, written_of, buffer_after}
use Rattle.text_tree.proofs.Refusing.{writes_exactly}
use Rattle.session_owed.specs.Laws.{end_text}
use Rattle.session_owed.specs.declared.Awaited.{Awaited}
use Rattle.session_owed.specs.declared.Awaited.TheVariants.{Table, Command, Naming, Nodes, Working, Stopped}
use Rattle.session_memory.specs.Ending.{last_text, working, finish_answer, finish_out, FinishSays, inside, AtWork, Early, by10, FinishExactly}
use Rattle.session_memory.specs.declared.State.{State}

-- ---- what is to be written

-- a line has begun, and one is waited for
pub begun_text : (awaited : Awaited) (begun line : ℕ) → working awaited ≡ false → (awaited ≡ Stopped → ⊥) → eqb begun 0 ≡ false → end_text awaited begun line ≡ refusal_text 13 line
unfolding end_text
begun_text (Table x) begun line e f b = rw b
begun_text Command begun line e f b = rw b
begun_text (Naming count taken command) begun line e f b = rw b
begun_text (Nodes coming count taken command) begun line e f b = rw b
begun_text (Working turns) begun line e f b = absurd (true≢false e)
begun_text Stopped begun line e f b = absurd (f refl)

-- between two lines
pub inside_text : (awaited : Awaited) (begun line : ℕ) → inside awaited ≡ true → eqb begun 0 ≡ true → end_text awaited begun line ≡ refusal_text 14 line
unfolding end_text
inside_text (Table x) begun line e b = rw b
inside_text Command begun line e b = absurd (true≢false (sym e))
inside_text (Naming count taken command) begun line e b = rw b
inside_text (Nodes coming count taken command) begun line e b = rw b
inside_text (Working turns) begun line e b = absurd (true≢false (sym e))
inside_text Stopped begun line e b = absurd (true≢false (sym e))

pub outside_text : (awaited : Awaited) (begun line : ℕ) → inside awaited ≡ false → eqb begun 0 ≡ true → end_text awaited begun line ≡ []
unfolding end_text
outside_text (Table x) begun line e b = absurd (true≢false e)
outside_text Command begun line e b = rw b
outside_text (Naming count taken command) begun line e b = absurd (true≢false e)
outside_text (Nodes coming count taken command) begun line e b = absurd (true≢false e)
outside_text (Working turns) begun line e b = refl
outside_text Stopped begun line e b = refl

-- nothing more is waited for
pub stopped_text : (awaited : Awaited) (begun line : ℕ) → awaited ≡ Stopped → end_text awaited begun line ≡ []
unfolding end_text
stopped_text awaited begun line e = rw e

-- ---- the last line

module _ (out : List ℕ) (n line : ℕ) where
  -- what is answered for it, and what the buffer is then
  abbrev Puts : Result ℕ Refusal → List ℕ → Type 0
  Puts r out' = (r ≡ written_of 0 (length out) (refusal_text n line)) × (out' ≡ buffer_after 0 out (refusal_text n line))

  pub put_short : length out < 13 → Puts (Err why.Buffer) out
  put_short h =
      let l = refusal_length n line in
      let k = lt-leb (length (refusal_text n line)) (length out) (omega arith) in
      (rw k, rw k)

  pub put_whole : 13 ≤ length out → (r : ℕ) → r ≡ 13 → (out' : List ℕ) → out' ≡ sets out 0 (refusal_text n line) → Puts (Ok r) out'
  put_whole h r e out' f =
      let l = refusal_length n line in
      let k = le-leb (length (refusal_text n line)) (length out) (omega arith) in
      (rw k (ap Ok (omega arith)), rw k f)

-- ---- the answer

module _ (s : State) (out : List ℕ) where
  pub busy : working s.awaited ≡ true → FinishSays s out (Err why.Busy) out
  unfolding finish_answer finish_out refusal_of
  busy w = (rw w, rw w)

  pub ends : working s.awaited ≡ false → (text : List ℕ) → last_text s ≡ text → (r : Result ℕ Refusal) (out' : List ℕ) → r ≡ written_of 0 (length out) text → out' ≡ buffer_after 0 out text
      → FinishSays s out r out'
  unfolding finish_answer finish_out
  ends w text e r out' a b = (rw (w, e) a, rw (w, e) b)

  pub ends_silent : working s.awaited ≡ false → last_text s ≡ [] → FinishSays s out (Ok 0) out
  ends_silent w e = let k = le-leb 0 (length out) zero-le in ends w [] e (Ok 0) out (rw k) (rw k)

-- ---- exactly when

no_work : (awaited : Awaited) → working awaited ≡ false → AtWork awaited → ⊥
no_work awaited w (turns, e) = true≢false (sym (ap working e) ∙ w)

at_work_lem : (awaited : Awaited) → working awaited ≡ true → AtWork awaited
at_work_lem (Table x) w = absurd (true≢false (sym w))
at_work_lem Command w = absurd (true≢false (sym w))
at_work_lem (Naming count taken command) w = absurd (true≢false (sym w))
at_work_lem (Nodes coming count taken command) w = absurd (true≢false (sym w))
at_work_lem (Working turns) w = (turns, refl)
at_work_lem Stopped w = absurd (true≢false (sym w))

early : (awaited : Awaited) (b : Bool) → working awaited ≡ b → (r : Refusal) → (number_of r ≡ when b 10) ↔ Early awaited r
early awaited true e r = (λ h. rw (number_one r why.Busy h) (by10 (at_work_lem awaited e)), λ w. busy_number w)
  where
    busy_number : {r : Refusal} → Early awaited r → number_of r ≡ 10
    busy_number (by10 w) = refl
early awaited false e r = (λ h. absurd (omega (arith, number_low r)), λ w. absurd (never w))
  where
    never : {r : Refusal} → Early awaited r → ⊥
    never (by10 w) = no_work awaited e w

late : (awaited : Awaited) (b : Bool) → working awaited ≡ b → (0 ≡ when b 10) ↔ (AtWork awaited → ⊥)
late awaited true e = (λ h. absurd (omega arith), λ f. absurd (f (at_work_lem awaited e)))
late awaited false e = (λ h. no_work awaited e, λ f. refl)

low : (b : Bool) → when b 10 < 18
low true = omega arith
low false = omega arith

pub finish_exactly : FinishExactly
unfolding finish_answer finish_out
finish_exactly s out =
    let b = working s.awaited in
    writes_exactly (Early s.awaited) (AtWork s.awaited → ⊥) out (last_text s) (when b 10) (record { most = low b; refused = early s.awaited b refl; right = late s.awaited b refl })
