-- Statements that no two answers fit: equations with a definition, and with what an answer says where the saying leads back to the answer. Assumes nothing.
use Rattle.std.proofs.Common.{Result}
use mathlib.Core.Path.{◌≡◌, ap, sym, ◌∙◌}
use Rattle.refusal.specs.Only.{Only, After}
use Rattle.refusal.specs.declared.Refusal.{Refusal}
use Rattle.refusal.specs.Numbers.{verdict_of}
use Rattle.refusal.proofs.Distinct.{verdict_one}
use Prim.Native.Nat.{ℕ}

pub only_equal : {A : Type 0} (d : A) → Only (λ (a : A). a ≡ d)
only_equal d = record { one = λ a b p q. p ∙ sym q }

-- the answer and the lent memory, each by an equation
pub only_both : {A B : Type 0} (d : A) (e : B) → Only (λ (x : After A B). (x.answer ≡ d) × (x.found ≡ e))
only_both d e = record { one = λ a b p q. (λ i. record { answer = (p.0 ∙ sym q.0) i; found = (p.1 ∙ sym q.1) i }) }

pub only_said : {A B : Type 0} (says : A → B) (back : B → A) → ((a : A) → back (says a) ≡ a) → (d : B) → Only (λ (a : A). says a ≡ d)
only_said says back led d = record { one = λ a b p q. sym (led a) ∙ ap back (p ∙ sym q) ∙ led b }

pub only_verdict : (n : ℕ) → Only (λ (v : Result (Unit {0}) Refusal). verdict_of v ≡ n)
only_verdict n = record { one = λ v w p q. verdict_one v w (p ∙ sym q) }
