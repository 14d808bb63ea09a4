-- Parts of a list that are written over: `paste` element by element, and the turn of each loop. Assumes nothing.
use mathlib.Core.Path.{◌≡◌, ap, sym, ◌∙◌}
use mathlib.Core.List.{List, ◌++◌}
use Prim.Native.Nat.{ℕ, ◌+◌, ◌-◌, ◌≤◌, ◌<◌}
use native.Mathlib.Omega.{arith}
use lib.ListN.{length, get_or, set, take, drop, replicate, get_or-append}
use lib.Seq.{paste, length_paste_head, length-take-le, get_or-take, get_or-drop, get_or-append-add}
use Rattle.std.proofs.lemmas.List.Edits.{fill_from_more}

module _ {A : Type 0} (d : List A) (at : ℕ) (s : List A) (n : ℕ) (z : A) (hd : at ≤ length d) (hs : n ≤ length s) where
  head_long : length (take at d ++ take n s) ≡ at + n
  head_long = length_paste_head d at s n hd hs

  pub paste_before : (x : ℕ) → x < at → get_or (paste d at s n) x z ≡ get_or d x z
  paste_before x h =
      get_or-append (take at d ++ take n s) (drop (at + n) d) z x (omega (arith, head_long))
      ∙ get_or-append (take at d) (take n s) z x (omega (arith, length-take-le at d hd))
      ∙ get_or-take at d x z h

  pub paste_inside : (j : ℕ) → j < n → get_or (paste d at s n) (at + j) z ≡ get_or s j z
  paste_inside j h =
      get_or-append (take at d ++ take n s) (drop (at + n) d) z (at + j) (omega (arith, head_long))
      ∙ ap (λ (k : ℕ). get_or (take at d ++ take n s) (k + j) z) (sym (length-take-le at d hd))
      ∙ get_or-append-add (take at d) (take n s) j z
      ∙ get_or-take n s j z h

  pub paste_behind : (x : ℕ) → at + n ≤ x → get_or (paste d at s n) x z ≡ get_or d x z
  paste_behind x h =
      let e : length (take at d ++ take n s) + (x - (at + n)) ≡ x = omega (arith, head_long) in
      let f : at + n + (x - (at + n)) ≡ x = omega arith in
      ap (λ (k : ℕ). get_or (paste d at s n) k z) (sym e)
      ∙ get_or-append-add (take at d ++ take n s) (drop (at + n) d) (x - (at + n)) z
      ∙ get_or-drop (at + n) d (x - (at + n)) z
      ∙ ap (λ (k : ℕ). get_or d k z) f

-- ---- a loop that writes y over a slice: after i turns the first i are y

pub one_more : {A : Type 0} (d l : List A) (i : ℕ) (y : A) → l ≡ paste d 0 (replicate i y) i → i < length d → set l i y ≡ paste d 0 (replicate (i + 1) y) (i + 1)
one_more d l i y e h =
    let z : 0 + i ≡ i = omega arith in
    ap (λ s. set s i y) e ∙ ap (λ k. set (paste d 0 (replicate i y) i) k y) (sym z) ∙ fill_from_more d 0 i y (omega arith)
