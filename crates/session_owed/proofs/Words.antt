-- The words for points, one by one: as points, and what the points announce. Assumes nothing.
use mathlib.Core.Path.{◌≡◌, refl, ap, sym, subst, ◌∙◌}
use mathlib.Core.Logic.{⊎_elim}
use mathlib.Core.List.{List, [], map}
use Prim.Native.Nat.{ℕ, zero, suc, ◌+◌, ◌-◌, ◌%◌, ◌≤◌, ◌<◌, min}
use native.Mathlib.Decide.{ℕ_discrete}
use native.Mathlib.Omega.{arith}
use denote.Param.Members.{Mut, Called}
use lib.ListN.{length, get_or, take, drop, length-take, length-drop, get_or-map, get_or-eq_default}
use lib.Seq.{get_or-take, get_or-drop, drop-cons, ext_get_or}
use Rattle.std.specs.Array.{IsFromFnResultFrom}
use Rattle.std.specs.List.{sum_by}
use Rattle.std.proofs.lemmas.List.{length-map, drop_all, take-take, take_all}
use Rattle.std.proofs.lemmas.List.Sums.{sum_by-cons}
use Rattle.text_line.proofs.Values.{lt_or_ge}
use Rattle.tree.specs.declared.Point.{Point}
use Rattle.tree.specs.Points.{point_at}
use Rattle.tree.specs.Handed.{places_from, announced}
use Rattle.session_owed.specs.Owed.{word_point, points_in, named_in}

-- ---- the words as points

-- calls that change nothing give each element
module _ {F A : Type 0} (g : Mut F (ℕ × Unit {0}) A) (f : F) (h : ℕ → A) (same : (i : ℕ) (x : A) (q : F) → Called g f (i, tt) x q → (q ≡ f) × (x ≡ h i)) where
  pub made_at : (xs : List A) (i n k : ℕ) (d : A) → IsFromFnResultFrom g f xs i n → i ≤ k → k < i + n → get_or xs k d ≡ h k
  made_at xs i zero k d r a b = absurd (omega arith)
  made_at xs i (suc n) k d r a b =
      let s = same i r.1 r.0 r.3 in
      elim (ℕ_discrete i k) [
        | yes e ↦ rw (← e) (r.2.1 d ∙ s.1)
        | no e ↦ made_at xs (i + 1) n k d (subst (λ (q : F). IsFromFnResultFrom g q xs (i + 1) n) s.0 r.4) (omega arith) (omega arith)
      ]

module _ (os : List ℕ) where
  words_length : length (points_in os) ≡ min 8 (length os - 513)
  unfolding points_in
  words_length = length-map (take 8 (drop 513 os)) word_point ∙ length-take 8 (drop 513 os) ∙ ap (min 8) (length-drop 513 os)

  word_at : (i : ℕ) → i < 8 → point_at (points_in os) i ≡ word_point (get_or os (513 + i) 0)
  unfolding points_in
  word_at i h = get_or-map word_point (take 8 (drop 513 os)) i 0 ∙ ap word_point (get_or-take 8 (drop 513 os) i 0 h ∙ get_or-drop 513 os i 0)

  pub all_points : (points : List Point) → 521 ≤ length os → length points ≡ 8 → ((i : ℕ) → i < 8 → point_at points i ≡ word_point (get_or os (513 + i) 0)) → points ≡ points_in os
  all_points points w e same =
      ext_get_or (record { node = 0; count = 0 }) points (points_in os) (omega (arith, words_length)) (λ i l. same i (omega arith) ∙ sym (word_at i (omega arith)))

-- ---- what they announce

take_nil : (n : ℕ) → take {A = ℕ} n [] ≡ []
take_nil zero = refl
take_nil (suc n) = refl

take_least : (n k : ℕ) (xs : List ℕ) → take n (take k xs) ≡ take (min n k) xs
take_least n k xs =
    ⊎_elim
    (λ (l : n < k). let e : min n k ≡ n = omega arith in rw e (take-take n k xs (omega arith)))
    (λ (l : k ≤ n). let e : min n k ≡ k = omega arith in rw e (take_all n (take k xs) (omega (arith, length-take k xs))))
    (lt_or_ge n k)

abbrev pub count_of : ℕ → ℕ
count_of w = w % 4294967296

places_sum : (ws : List ℕ) (i n : ℕ) → announced (places_from i n (map word_point ws)) ≡ sum_by count_of (take n (drop i ws))
unfolding places_from announced
places_sum ws i zero = omega arith
places_sum ws i (suc n) =
    let p = get_or-map word_point ws i 0 in
    let r = places_sum ws (suc i) n in
    ⊎_elim
    (λ (l : i < length ws). rw (drop-cons ws i 0 l, sum_by-cons count_of, ← r, p) refl)
    (λ (l : length ws ≤ i).
    let none : drop (suc i) ws ≡ [] = drop_all (suc i) ws (omega arith) in
    let past : get_or ws i 0 ≡ 0 = get_or-eq_default ws 0 l in
    rw (drop_all i ws l, p, past) (omega (arith, r ∙ ap (λ (l : List ℕ). sum_by count_of (take n l)) none ∙ ap (sum_by count_of) (take_nil n))))
    (lt_or_ge i (length ws))

-- of the points behind the eighth nothing
pub named_sum : (n : ℕ) (os : List ℕ) → announced (named_in n os) ≡ sum_by count_of (take (min n 8) (drop 513 os))
unfolding points_in
named_sum n os = places_sum (take 8 (drop 513 os)) 0 n ∙ ap (sum_by count_of) (take_least n 8 (drop 513 os))
