-- Due and the first due circle, as the loops over the arrays find them. Assumes nothing.
use mathlib.Core.Path.{◌≡◌, refl, sym, ap, ◌∙◌}
use mathlib.Core.Bool.{Bool, true, false, cond, not, ◌&&◌, ◌||◌, or-true}
use mathlib.Core.Logic.{⊎_elim}
use mathlib.Core.List.Memᴰ
use mathlib.Core.List.{List, [], ◌∷◌}
use Prim.Native.Nat.{ℕ, zero, suc, ◌+◌, ◌-◌, ◌≤◌, ◌<◌, max, zero-le}
use native.Mathlib.Nat.{le_refl}
use native.Mathlib.Numerals.{add-one}
use native.Mathlib.Omega.{arith}
use lib.Dec.{eqb, ltb}
use borrow.Author.Tests.{eq-eqb, ltb-true}
use lib.ListN.{length, get_or}
use lib.Seq.{slice, length-slice}
use Rattle.circles.specs.Graph.{◌∈◌}
use Rattle.circles.specs.Arrays.{given, graph_of}
use Rattle.circles.specs.Ranked.{circle_at, member, any_of}
use Rattle.climb.specs.System.{System}
use Rattle.climb.specs.Climb.{least_from}
use Rattle.climb.specs.Circuit.{due_of}
use Rattle.climb.specs.Memory.{at}
use Rattle.climb.specs.Inner.Wired.{Span}
use Rattle.climb.proofs.Lists.{and_is, any_cong, le_or_lt}
use Rattle.update.specs.declared.Record.{Record}
use Rattle.update.specs.Steps.{sown_of, due_from}
use Rattle.update_round.specs.Inner.Arranged.{Arranged}
use Rattle.update_round.specs.Inner.Tests.{moved_in, due_in, due_at, reading}

given_in : (n a b y : ℕ) → y ∈ given n a b → y < n
given_in n a b = by (ltb a n) (ltb b n) (λ h. ltb-true a n h) (λ h. ltb-true b n h)
  where
    by : (s t : Bool) → (s ≡ true → a < n) → (t ≡ true → b < n) → (y : ℕ) → y ∈ cond s (a ∷ cond t (b ∷ []) []) (cond t (b ∷ []) []) → y < n
    by true true p q y (Memᴰ.head e) = rw e (p refl)
    by true true p q y (Memᴰ.tail (Memᴰ.head e)) = rw e (q refl)
    by true true p q y (Memᴰ.tail (Memᴰ.tail m)) = elim m [ ]
    by true false p q y (Memᴰ.head e) = rw e (p refl)
    by true false p q y (Memᴰ.tail m) = elim m [ ]
    by false true p q y (Memᴰ.head e) = rw e (q refl)
    by false true p q y (Memᴰ.tail m) = elim m [ ]
    by false false p q y m = elim m [ ]

-- ---- a circle in its place

-- the members of a circle of the declared slots: some, no more than there are slots, each declared
pub record Place (n : ℕ) (a b C : List ℕ) : Type 0 where
  pub some : 0 < length C
  pub most : length C ≤ n
  pub declared : (k : ℕ) → k < length C → (graph_of n a b).declared (get_or C k 0) ≡ true
  pub span : Span C n 0 (length C)

member_here : (l : List ℕ) (i : ℕ) → i < length l → member l (get_or l i 0) ≡ true
member_here [] i h = absurd (omega arith)
member_here (y ∷ l) zero h = rw (eq-eqb y y refl)
member_here (y ∷ l) (suc i) h = rw (member_here l i (omega arith)) (or-true (eqb (get_or l i 0) y))

module _ {R : List (List ℕ)} {n : ℕ} {a b label m e : List ℕ} {count : ℕ} (w : Arranged R n a b label m e count) (i : ℕ) (h : i < count)
    {C : List ℕ} (c : C ≡ slice (get_or e i 0) (get_or e (i + 1) 0) m) where
  pub circle_is : C ≡ circle_at R i
  circle_is = c ∙ rw add-one (sym (w.circle i h))

  pub place : Place n a b C
  place =
      let l : length C ≡ get_or e (suc i) 0 - get_or e i 0 = ap length (circle_is ∙ w.circle i h) ∙ length-slice (get_or e i 0) (get_or e (suc i) 0) m (w.room i h) in
      let d : (k : ℕ) → k < length C → (graph_of n a b).declared (get_or C k 0) ≡ true = λ k s. w.declared i h (get_or C k 0) (rw (← circle_is) (member_here C k s)) in
      record {
        some = omega (arith, w.rise i h);
        most = omega (arith, w.most i h);
        declared = d;
        span = record { rise = zero-le; room = le_refl (length C); inside = λ k s t. ltb-true (get_or C k 0) n (and_is {a = ltb (get_or C k 0) n} (d k t)).0 };
      }

  -- outside a circle is what has another label
  pub due_same : (r : Record) (earlier sets : List ℕ) → due_in n a b label r (at earlier) (at sets) (get_or C 0 0) C ≡ due_at (reading n a b) R r earlier sets i
  unfolding due_in due_of
  due_same r earlier sets =
      rw circle_is (any_cong (λ x. sown_of r x || any_of (moved_in label (at earlier) (at sets) (get_or (circle_at R i) 0 0)) (given n (get_or a x 65534) (get_or b x 65534)))
      (λ x. sown_of r x || any_of (λ y. not (member (circle_at R i) y) && not (eqb (at sets y) (at earlier y))) (given n (get_or a x 65534) (get_or b x 65534))) (circle_at R i)
      (λ x j. ap (λ (t : Bool). sown_of r x || t) (any_cong (moved_in label (at earlier) (at sets) (get_or (circle_at R i) 0 0))
      (λ y. not (member (circle_at R i) y) && not (eqb (at sets y) (at earlier y))) (given n (get_or a x 65534) (get_or b x 65534))
      (λ y u. ap (λ (t : Bool). not t && not (eqb (at sets y) (at earlier y))) (sym (w.placed i h y (given_in n (get_or a x 65534) (get_or b x 65534) y u)))))))

-- ---- the first due

module _ (S : System) (R : List (List ℕ)) (r : Record) (earlier sets : List ℕ) where
  -- what is left to look at from i on
  abbrev pub look_from : ℕ → ℕ → ℕ
  look_from count i = least_from (due_at S R r earlier sets) (count - i) i

  pub look_all : (count : ℕ) → count ≡ length R → due_from S R r earlier sets ≡ look_from count r.rank
  unfolding due_from
  look_all count e = rw e

  pub look_here : (count i : ℕ) → i < count → due_at S R r earlier sets i ≡ true → i ≡ look_from count i
  unfolding least_from
  look_here count i l h = let e : count - i ≡ suc (count - suc i) = omega arith in rw (e, h)

  pub look_on : (count i : ℕ) → i < count → due_at S R r earlier sets i ≡ false → look_from count i ≡ look_from count (suc i)
  unfolding least_from
  look_on count i l h = let e : count - i ≡ suc (count - suc i) = omega arith in rw (e, h)

  look_over : (count i : ℕ) → count ≤ i → i ≡ look_from count i
  unfolding least_from
  look_over count i l = let e : count - i ≡ 0 = omega arith in rw e

  -- a rank past the last
  pub look_end : (count i m : ℕ) → count ≡ length R → count ≤ i → (r.rank ≤ count → i ≤ count) → due_from S R r earlier sets ≡ look_from count i
      → m ≡ max r.rank count → m ≡ due_from S R r earlier sets
  look_end count i m e l u h k = ⊎_elim
      (λ (g : r.rank ≤ count). let q : m ≡ i = omega (arith, u g) in q ∙ look_over count i l ∙ sym h)
      (λ (g : count < r.rank). let q : m ≡ r.rank = omega arith in q ∙ look_over count r.rank (omega arith) ∙ sym (look_all count e)) (le_or_lt r.rank count)
