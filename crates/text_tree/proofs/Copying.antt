-- The first elements of one list stored into another. Assumes nothing.
use Rattle.std.proofs.Common.{◌≡◌, ap, sym, ◌∙◌, List, ◌++◌, ℕ, ◌+◌, ◌≤◌, length, take, drop, arith}
use Rattle.std.proofs.lemmas.List.{length-take-le}
use Rattle.std.proofs.lemmas.List.Edits.{sets, sets-eq}
use Rattle.std.proofs.Math.Seq.{take-append_seam}

-- the first n elements in front of what lies behind are those stored there
pub front_stored : {A : Type 0} (to from x : List A) (n : ℕ) → n ≤ length from → n ≤ length to → x ≡ take n from → x ++ drop n to ≡ sets to 0 (take n from)
front_stored to from x n h k e =
    let l : length (take n from) ≡ n = length-take-le n from h in
    let m : 0 + length (take n from) ≡ n = omega arith in
    rw e (sym (sets-eq (take n from) to 0 (omega arith) ∙ ap (λ (i : ℕ). take n from ++ drop i to) m))

-- what was stored from the front on stands there
pub front : (d s : List ℕ) → length s ≤ length d → take (length s) (sets d 0 s) ≡ s
front d s h = ap (take (length s)) (sets-eq s d 0 (omega arith)) ∙ take-append_seam s (drop (0 + length s) d)
