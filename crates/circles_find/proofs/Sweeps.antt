-- Looks along a chain of readers. Assumes nothing.
use Prim.Native.Nat.{ℕ, ◌+◌, ◌*◌, ◌/◌, ◌<◌}
use native.Mathlib.Decide.{ℕ_discrete}
use native.Mathlib.Nat.{le_refl}
use native.Mathlib.Omega.{arith}
use mathlib.Core.Path.{◌≡◌, refl, sym, ap, subst₃, ◌∙◌}
use mathlib.Core.List.{List}
use mathlib.Core.Logic.{dite}
use lib.ListN.{get_or, set, length-set}
use lib.Seq.{get_or-set_same, get_or-set_other}
use Rattle.circles_find.specs.Inner.Search.{Visited, skipped, added, Looks, begin, look, Next, Room}
use Rattle.circles_find.proofs.Stamps.{stamped_set}
use Rattle.circles_find.proofs.Chains.{Upto, upto_more}
use Rattle.circles_find.proofs.Front.{Front, Grew, looked, grew_join}

-- what one look keeps and does, with nothing known of the search
pub record Kept (n y x : ℕ) (okay : List ℕ) (k : ℕ) (m m' q' : List ℕ) (r : ℕ) : Type 0 where
  pub room : Room n x m' q' r
  pub stays : (z : ℕ) → get_or m z 0 ≡ x → get_or m' z 0 ≡ x
  pub seen : y < n → get_or okay y 0 ≡ k → get_or m' y 0 ≡ x

pub visited_kept : {n y x : ℕ} {okay : List ℕ} {k : ℕ} {m q m' q' : List ℕ} {t r : ℕ} → Room n x m q t → Visited n y x okay k m q m' q' t r → Kept n y x okay k m m' q' r
visited_kept {n} {y} {x} {okay} {k} {m} {t} h (skipped s em eq er) =
    subst₃ (λ m' q' r. Kept n y x okay k m m' q' r) (sym em) (sym eq) (sym er) (record { room = h; stays = λ z u. u; seen = s })
visited_kept {n} {y} {x} {okay} {k} {m} {q} {t} h (added yl yk ne em eq er) =
    let at_y : get_or (set m y x) y 0 ≡ x = get_or-set_same m y x 0 (omega (arith, h.marks)) in
    subst₃ (λ m' q' r. Kept n y x okay k m m' q' r) (sym em) (sym eq) (sym er) (record {
      room = record { marks = omega (arith, length-set m y x, h.marks); queue = omega (arith, length-set m y x, length-set q t y, h.queue); counted = omega (arith, h.counted, stamped_set x m y (omega (arith, h.marks)) ne) };
      stays = λ z u. dite (ℕ_discrete z y) (λ c. ap (λ (u : ℕ). get_or (set m y x) u 0) c ∙ at_y) (λ c. get_or-set_other m y z x 0 c ∙ u);
      seen = λ _ _. at_y;
    })

-- the slot of the place i is seen, where it is allowed
abbrev pub Seen : ℕ → List ℕ → ℕ → List ℕ → ℕ → Type 0
Seen x okay k m i = get_or okay (i / 2) 0 ≡ k → get_or m (i / 2) 0 ≡ x

-- the look at the slot of e keeps what is seen and adds that
pub seen_more : {f : ℕ → ℕ} {n v x : ℕ} {okay : List ℕ} {k : ℕ} {m m' q' : List ℕ} {e r : ℕ} (e' : ℕ) → e < 2 * n → Upto f (2 * n) v (Seen x okay k m) e → Kept n (e / 2) x okay k m m' q' r → Next f (2 * n) v (e + 1) e' → Upto f (2 * n) v (Seen x okay k m') e'
seen_more {x} {okay} {k} {m'} e' el u kp t = upto_more (Seen x okay k m') e' u (λ i _ p h. kp.stays (i / 2) (p h)) (kp.seen (omega arith)) t

-- the looks of a sweep, in a search
pub looks_front : {n : ℕ} {E : ℕ → ℕ → Type 0} {okay : List ℕ} {k x : ℕ} {m₀ m q : List ℕ} {t v : ℕ} {P : ℕ → Type 0} → Front n E okay k x m₀ m q t → v < n → get_or m v 0 ≡ x → ((y : ℕ) → P y → y < n → E v y)
    → {m' q' : List ℕ} {r : ℕ} → Looks n P x okay k m q t m' q' r → Front n E okay k x m₀ m' q' r × Grew x m q m' q' t r
looks_front {t} f vl vm e begin = (f, record { stays = λ z u. u; same = λ i l. refl; longer = le_refl t })
looks_front {v} f vl vm e (look y py ls vs) =
    let ih = looks_front f vl vm e ls in
    let lk = looked ih.0 vl (ih.1.stays v vm) (e y py) vs in
    (lk.front, grew_join ih.1 lk.grew)
