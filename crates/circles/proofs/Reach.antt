-- The search that computes says what `Reaches` says. Assumes nothing.
use Prim.Native.Nat.{ℕ, zero, suc, ◌+◌, ◌<◌, ◌≤◌, zero-le, suc-le-suc}
use native.Mathlib.Nat.{le_trans, suc_inj, le-suc}
use native.Mathlib.Omega.{arith}
use mathlib.Core.Path.{◌≡◌, refl, sym, ap, subst, ◌∙◌}
use mathlib.Core.Bool.{Bool, true, false, ◌||◌, false≢true}
use mathlib.Core.List.{List, [], ◌∷◌, map}
use mathlib.Core.Logic.{◌⊎◌, inl, inr, ⊎_elim}
use lib.ListN.{length}
use lib.Dec.{eqb}
use borrow.Author.Tests.{eqb-true, eq-eqb}
use Rattle.circles.specs.Graph.{Graph, Reads, Reaches, here, there}
use Rattle.circles.specs.Ranked.{any_of, slots, has, wider, widened, reaching}
use Rattle.circles.proofs.Paths.{one, join, closed_back}
use Rattle.circles.proofs.Lists.{or_parts, or_one, or_two, any_of_lem, of_any, map_at, map_long}

-- ---- sets of slots, by their size

count : List Bool → ℕ
count [] = 0
count (true ∷ r) = suc (count r)
count (false ∷ r) = count r

count_le : (S : List Bool) → count S ≤ length S
unfolding count
count_le [] = zero-le
count_le (true ∷ r) = suc-le-suc (count_le r)
count_le (false ∷ r) = le_trans (count_le r) (le-suc (length r))

has_below : (S : List Bool) (i : ℕ) → has S i ≡ true → i < length S
unfolding has
has_below [] i h = absurd (false≢true h)
has_below (s ∷ r) zero h = suc-le-suc zero-le
has_below (s ∷ r) (suc i) h = suc-le-suc (has_below r i h)

some_counted : (S : List Bool) (i : ℕ) → has S i ≡ true → 0 < count S
unfolding has count
some_counted [] i h = absurd (false≢true h)
some_counted (true ∷ r) i h = suc-le-suc zero-le
some_counted (false ∷ r) zero h = absurd (false≢true h)
some_counted (false ∷ r) (suc i) h = some_counted r i h

-- a larger set is the same or has more
grows : (S S' : List Bool) → length S ≡ length S' → ((x : ℕ) → has S x ≡ true → has S' x ≡ true) → (S ≡ S') ⊎ (count S < count S')
unfolding has count
grows [] [] e f = inl refl
grows [] (s ∷ r) e f = absurd (omega arith)
grows (s ∷ r) [] e f = absurd (omega arith)
grows (true ∷ r) (true ∷ r') e f = ⊎_elim (λ q. inl (ap (λ (l : List Bool). true ∷ l) q)) (λ l. inr (suc-le-suc l)) (grows r r' (suc_inj e) (λ x h. f (suc x) h))
grows (true ∷ r) (false ∷ r') e f = absurd (false≢true (f 0 refl))
grows (false ∷ r) (true ∷ r') e f = ⊎_elim (λ q. inr (omega (arith, ap count q))) (λ l. inr (omega arith)) (grows r r' (suc_inj e) (λ x h. f (suc x) h))
grows (false ∷ r) (false ∷ r') e f = ⊎_elim (λ q. inl (ap (λ (l : List Bool). false ∷ l) q)) (λ l. inr l) (grows r r' (suc_inj e) (λ x h. f (suc x) h))

module _ (G : Graph) where
  wider_long : (S : List Bool) → length (wider G S) ≡ G.size
  unfolding wider
  wider_long S = map_long (λ x. has S x || any_of (has S) (G.args x)) false G.size

  -- what a turn adds
  wider_at : (S : List Bool) (x : ℕ) → x < G.size → has (wider G S) x ≡ (has S x || any_of (has S) (G.args x))
  unfolding wider has
  wider_at S x h = map_at (λ x. has S x || any_of (has S) (G.args x)) false G.size x h

  widened_long : (k : ℕ) (S : List Bool) → length S ≡ G.size → length (widened k G S) ≡ G.size
  unfolding widened
  widened_long zero S e = e
  widened_long (suc k) S e = widened_long k (wider G S) (wider_long S)

  -- each turn is sound
  wider_sound : (P : ℕ → Type 0) (S : List Bool) → length S ≡ G.size → ((w z : ℕ) → P z → Reads G w z → P w) → ((x : ℕ) → has S x ≡ true → P x) → (x : ℕ) → has (wider G S) x ≡ true → P x
  wider_sound P S e step all x h =
      let xl : x < G.size = omega (arith, wider_long S, has_below (wider G S) x h) in
      ⊎_elim (λ u. all x u)
      (λ u. let w = any_of_lem (has S) (G.args x) u in
      step x w.0 (all w.0 w.2) (record { from = xl; to = omega (arith, e, has_below S w.0 w.2); argument = w.1 }))
      (or_parts (has S x) (any_of (has S) (G.args x)) (sym (wider_at S x xl) ∙ h))

  widened_sound : (P : ℕ → Type 0) → ((w z : ℕ) → P z → Reads G w z → P w) → (k : ℕ) (S : List Bool) → length S ≡ G.size → ((x : ℕ) → has S x ≡ true → P x) → (x : ℕ) → has (widened k G S) x ≡ true → P x
  unfolding widened
  widened_sound P step zero S e all x h = all x h
  widened_sound P step (suc k) S e all x h = widened_sound P step k (wider G S) (wider_long S) (wider_sound P S e step all) x h

  -- every turn keeps what is there
  kept_once : (S : List Bool) → length S ≡ G.size → (x : ℕ) → has S x ≡ true → has (wider G S) x ≡ true
  kept_once S e x h = wider_at S x (omega (arith, e, has_below S x h)) ∙ or_one (has S x) (any_of (has S) (G.args x)) h

  kept : (k : ℕ) (S : List Bool) → length S ≡ G.size → (x : ℕ) → has S x ≡ true → has (widened k G S) x ≡ true
  unfolding widened
  kept zero S e x h = h
  kept (suc k) S e x h = kept k (wider G S) (wider_long S) x (kept_once S e x h)

  -- a set to which a turn adds nothing stays as it is
  still : (k : ℕ) (S : List Bool) → wider G S ≡ S → widened k G S ≡ S
  unfolding widened
  still zero S h = refl
  still (suc k) S h = ap (widened k G) h ∙ still k S h

  -- k turns come to an end, or add k slots
  ends_or_grows : (k : ℕ) (S : List Bool) → length S ≡ G.size → (wider G (widened k G S) ≡ widened k G S) ⊎ (count S + k ≤ count (widened k G S))
  unfolding widened
  ends_or_grows zero S e = inr (omega arith)
  ends_or_grows (suc k) S e =
      ⊎_elim
      (λ same. inl (subst (λ (W : List Bool). wider G W ≡ W) (sym (ap (widened k G) (sym same) ∙ still k S (sym same))) (sym same)))
      (λ less. ⊎_elim (λ u. inl u) (λ u. inr (omega arith)) (ends_or_grows k (wider G S) (wider_long S)))
      (grows S (wider G S) (e ∙ sym (wider_long S)) (kept_once S e))

  -- a set to which a turn adds nothing has, with z, all that read z
  fixed_closed : (S : List Bool) → wider G S ≡ S → (w z : ℕ) → has S z ≡ true → Reads G w z → has S w ≡ true
  fixed_closed S same w z h g =
      ap (λ (W : List Bool). has W w) (sym same) ∙ wider_at S w g.from ∙ or_two (has S w) (any_of (has S) (G.args w)) (of_any (has S) g.argument h)

  only_long : (y : ℕ) → length (map (λ x. eqb x y) (slots G)) ≡ G.size
  only_long y = map_long (λ x. eqb x y) false G.size

  only_at : (y x : ℕ) → x < G.size → has (map (λ x. eqb x y) (slots G)) x ≡ eqb x y
  unfolding has
  only_at y x h = map_at (λ x. eqb x y) false G.size x h

  pub reaching_sound : (x y : ℕ) → has (reaching G y) x ≡ true → Reaches G x y
  unfolding reaching
  reaching_sound x y h =
      widened_sound (λ w. Reaches G w y) (λ w z p e. join (one e) p) G.size (map (λ x. eqb x y) (slots G)) (only_long y)
      (λ w u. let wl : w < G.size = omega (arith, only_long y, has_below (map (λ x. eqb x y) (slots G)) w u) in
      subst (λ (m : ℕ). Reaches G w m) (eqb-true w y (sym (only_at y w wl) ∙ u)) here)
      x h

  pub reaching_complete : (x y : ℕ) → y < G.size → Reaches G x y → has (reaching G y) x ≡ true
  unfolding reaching
  reaching_complete x y yl p =
      let S : List Bool = map (λ x. eqb x y) (slots G) in
      let hy : has S y ≡ true = only_at y y yl ∙ eq-eqb y y refl in
      let W : List Bool = widened G.size G S in
      let fix : wider G W ≡ W = ⊎_elim (λ u. u) (λ u. absurd (omega (arith, some_counted S y hy, count_le W, widened_long G.size S (only_long y)))) (ends_or_grows G.size S (only_long y)) in
      closed_back (λ w. has W w ≡ true) (kept G.size S (only_long y) y hy) (λ w z h g. fixed_closed W fix w z h g) p

  -- a path ends at a slot where it begins at one, and the other way round
  pub end_below : {x y : ℕ} → x < G.size → Reaches G x y → y < G.size
  end_below h here = h
  end_below h (there p e) = e.to
