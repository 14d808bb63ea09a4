-- What a walk's answer says. Assumes nothing.
use Rattle.std.specs.Prelude.{ℕ, ◌≤◌, ◌≡◌, List, ◌++◌, length, drop, Result, Ok, Err}
use Rattle.refusal.specs.declared.Refusal.{Refusal}
use Rattle.refusal.specs.Numbers.{number_of}
use Rattle.tree.specs.Tree.{judge_nodes}

-- the walk stands at `next`, no earlier than `least`, and whatever is wanted behind it is judged from there on
pub record Passed (t ns : List ℕ) (at least : ℕ) (wanted : List ℕ) (next : ℕ) : Type 0 where
  pub low : least ≤ next
  pub high : next ≤ length ns
  pub rest : (ss : List ℕ) → judge_nodes t (drop at ns) (wanted ++ ss) ≡ judge_nodes t (drop next ns) ss

-- or it met what is refused, whatever is wanted behind
abbrev pub Says : List ℕ → List ℕ → ℕ → ℕ → List ℕ → Result ℕ Refusal → Type 0
Says t ns at least wanted (Ok next) = Passed t ns at least wanted next
Says t ns at least wanted (Err r) = (ss : List ℕ) → judge_nodes t (drop at ns) (wanted ++ ss) ≡ number_of r
