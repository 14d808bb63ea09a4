-- A search by marks and a queue: what holds all through it, what one look at y does, and what is found at its end. Assumes nothing.
use Prim.Native.Nat.{ℕ, ◌+◌, ◌<◌, ◌≤◌}
use native.Mathlib.Nat.{le_refl, le_trans}
use native.Mathlib.Decide.{ℕ_discrete}
use native.Mathlib.Omega.{arith}
use mathlib.Core.Path.{◌≡◌, refl, sym, ap, subst, subst₃, ◌∙◌}
use mathlib.Core.List.{List}
use mathlib.Core.Logic.{◌⊎◌, inl, inr, ⊎_elim, dite}
use lib.ListN.{get_or, length, set, length-set}
use lib.Seq.{get_or-set_same, get_or-set_other}
use Rattle.circles.specs.Graph.{Path⁺, here, there}
use Rattle.circles_find.specs.Inner.Search.{stamped, Visited, skipped, added, Room, Clean, Via, Found, Lone}
use Rattle.circles.proofs.Paths.{closed}
use Rattle.circles_find.proofs.Stamps.{stamped_lt, stamped_set, stamped_le}

-- the marks m and the queue q, of t entries, in a search from x by E through what okay allows, which found the marks m₀
pub record Front (n : ℕ) (E : ℕ → ℕ → Type 0) (okay : List ℕ) (k x : ℕ) (m₀ m q : List ℕ) (t : ℕ) : Type 0 where
  pub long : n ≤ length m₀
  pub lenm : length m ≡ length m₀
  pub lenq : length m₀ ≤ length q
  pub counted : t ≤ stamped x m
  pub begun : get_or m x 0 ≡ x
  pub head : (0 < t) × (get_or q 0 0 ≡ x)
  pub queued : (i : ℕ) → i < t → (get_or q i 0 < n) × (get_or m (get_or q i 0) 0 ≡ x)
  pub marked : (y : ℕ) → y < n → get_or m y 0 ≡ x → (i : ℕ) × (i < t) × (get_or q i 0 ≡ y)
  pub sound : (y : ℕ) → y < n → get_or m y 0 ≡ x → Path⁺ (Via E okay k) x y
  pub frame : (y : ℕ) → (get_or m y 0 ≡ x) ⊎ (get_or m y 0 ≡ get_or m₀ y 0)

-- the first h of the queue are done with: all that they step to is marked
pub record Done (E : ℕ → ℕ → Type 0) (okay : List ℕ) (k x : ℕ) (m q : List ℕ) (h : ℕ) : Type 0 where
  pub all : (i : ℕ) → i < h → (z : ℕ) → Via E okay k (get_or q i 0) z → get_or m z 0 ≡ x

-- what looks keep
pub record Grew (x : ℕ) (m q m' q' : List ℕ) (t t' : ℕ) : Type 0 where
  pub stays : (z : ℕ) → get_or m z 0 ≡ x → get_or m' z 0 ≡ x
  pub same : (i : ℕ) → i < t → get_or q' i 0 ≡ get_or q i 0
  pub longer : t ≤ t'

pub record Looked (n : ℕ) (E : ℕ → ℕ → Type 0) (okay : List ℕ) (k x : ℕ) (m₀ m q : List ℕ) (t y : ℕ) (m' q' : List ℕ) (r : ℕ) : Type 0 where
  pub front : Front n E okay k x m₀ m' q' r
  pub grew : Grew x m q m' q' t r
  pub seen : y < n → get_or okay y 0 ≡ k → get_or m' y 0 ≡ x

pub seen_at : {n : ℕ} {E : ℕ → ℕ → Type 0} {okay : List ℕ} {k x : ℕ} {m₀ m q : List ℕ} {t y : ℕ} {m' q' : List ℕ} {r : ℕ} → Looked n E okay k x m₀ m q t y m' q' r → (z : ℕ) → y ≡ z → z < n → get_or okay z 0 ≡ k → get_or m' z 0 ≡ x
seen_at {n} {okay} {k} {x} {m'} w z e l o = subst (λ (u : ℕ). u < n → get_or okay u 0 ≡ k → get_or m' u 0 ≡ x) e w.seen l o

pub grew_join : {x : ℕ} {m q m' q' m'' q'' : List ℕ} {t t' t'' : ℕ} → Grew x m q m' q' t t' → Grew x m' q' m'' q'' t' t'' → Grew x m q m'' q'' t t''
grew_join f g = record {
  stays = λ z e. g.stays z (f.stays z e);
  same = λ i l. g.same i (le_trans l f.longer) ∙ f.same i l;
  longer = le_trans f.longer g.longer;
}

pub done_kept : {E : ℕ → ℕ → Type 0} {okay : List ℕ} {k x : ℕ} {m q m' q' : List ℕ} {h t t' : ℕ} → h ≤ t → Grew x m q m' q' t t' → Done E okay k x m q h → Done E okay k x m' q' h
done_kept {E} {okay} {k} {x} {m} hl g d = record {
  all = λ i l z v. g.stays z (d.all i l z (subst (λ (u : ℕ). Via E okay k u z) (g.same i (le_trans l hl)) v));
}

pub front_le : {n : ℕ} {E : ℕ → ℕ → Type 0} {okay : List ℕ} {k x : ℕ} {m₀ m q : List ℕ} {t : ℕ} → Front n E okay k x m₀ m q t → t ≤ length m₀
front_le {x} {m} f = omega (arith, f.counted, f.lenm, stamped_le x m)

pub front_room : {n : ℕ} {E : ℕ → ℕ → Type 0} {okay : List ℕ} {k x : ℕ} {m₀ m q : List ℕ} {t : ℕ} → Front n E okay k x m₀ m q t → Room n x m q t
front_room f = record { marks = omega (arith, f.long, f.lenm); queue = omega (arith, f.lenm, f.lenq); counted = f.counted }

-- the entry at h is done with too, where all that it steps to is marked
pub done_more : {E : ℕ → ℕ → Type 0} {okay : List ℕ} {k x : ℕ} {m q : List ℕ} {h : ℕ} (v : ℕ) → get_or q h 0 ≡ v → ((z : ℕ) → Via E okay k v z → get_or m z 0 ≡ x) → Done E okay k x m q h → Done E okay k x m q (h + 1)
done_more {E} {okay} {k} {x} {m} {q} {h} v e all d = record {
  all = λ i l z w. dite (ℕ_discrete i h)
      (λ c. all z (subst (λ (u : ℕ). Via E okay k u z) (ap (λ (j : ℕ). get_or q j 0) c ∙ e) w))
      (λ c. d.all i (omega (arith, c)) z w);
}

module _ {n : ℕ} {E : ℕ → ℕ → Type 0} {okay : List ℕ} {k x : ℕ} {m₀ : List ℕ} where
  room : (m q : List ℕ) (t y : ℕ) → Front n E okay k x m₀ m q t → y < n → (get_or m y 0 ≡ x → ⊥) → t < length m₀
  room m q t y f l ne = omega (arith, f.counted, f.lenm, stamped_lt x m y (omega (arith, f.lenm, f.long)) ne)

  -- the marks and the queue after y is added
  module _ (m q : List ℕ) (t y v : ℕ) (f : Front n E okay k x m₀ m q t) (vl : v < n) (vm : get_or m v 0 ≡ x) (yl : y < n) (yk : get_or okay y 0 ≡ k) (ne : get_or m y 0 ≡ x → ⊥) (e : E v y) where
    at_y : get_or (set m y x) y 0 ≡ x
    at_y = get_or-set_same m y x 0 (omega (arith, f.lenm, f.long))

    at_t : get_or (set q t y) t 0 ≡ y
    at_t = get_or-set_same q t y 0 (omega (arith, f.lenq, room m q t y f yl ne))

    old : (i : ℕ) → i < t → get_or (set q t y) i 0 ≡ get_or q i 0
    old i l = get_or-set_other q t i y 0 (λ c. omega (arith, c))

    still : (z : ℕ) → get_or m z 0 ≡ x → get_or (set m y x) z 0 ≡ x
    still z h = dite (ℕ_discrete z y) (λ c. ap (λ (u : ℕ). get_or (set m y x) u 0) c ∙ at_y) (λ c. get_or-set_other m y z x 0 c ∙ h)

    in_queue : (i : ℕ) → i < t + 1 → (get_or (set q t y) i 0 < n) × (get_or (set m y x) (get_or (set q t y) i 0) 0 ≡ x)
    in_queue i l =
        dite (ℕ_discrete i t)
        (λ c. subst (λ (u : ℕ). (u < n) × (get_or (set m y x) u 0 ≡ x)) (sym (ap (λ (j : ℕ). get_or (set q t y) j 0) c ∙ at_t)) (yl, at_y))
        (λ c. let il : i < t = omega (arith, c) in
        subst (λ (u : ℕ). (u < n) × (get_or (set m y x) u 0 ≡ x)) (sym (old i il)) ((f.queued i il).0, still _ (f.queued i il).1))

    of_marks : (z : ℕ) → z < n → get_or (set m y x) z 0 ≡ x → (i : ℕ) × (i < t + 1) × (get_or (set q t y) i 0 ≡ z)
    of_marks z zl h =
        dite (ℕ_discrete z y)
        (λ c. (t, omega arith, at_t ∙ sym c))
        (λ c. let w = f.marked z zl (sym (get_or-set_other m y z x 0 c) ∙ h) in (w.0, omega (arith, w.1), old w.0 w.1 ∙ w.2))

    is_sound : (z : ℕ) → z < n → get_or (set m y x) z 0 ≡ x → Path⁺ (Via E okay k) x z
    is_sound z zl h =
        dite (ℕ_discrete z y)
        (λ c. subst (λ (u : ℕ). Path⁺ (Via E okay k) x u) (sym c) (there (f.sound v vl vm) (e, yk)))
        (λ c. f.sound z zl (sym (get_or-set_other m y z x 0 c) ∙ h))

    in_frame : (z : ℕ) → (get_or (set m y x) z 0 ≡ x) ⊎ (get_or (set m y x) z 0 ≡ get_or m₀ z 0)
    in_frame z =
        dite (ℕ_discrete z y)
        (λ c. inl (ap (λ (u : ℕ). get_or (set m y x) u 0) c ∙ at_y))
        (λ c. ⊎_elim (λ h. inl (get_or-set_other m y z x 0 c ∙ h)) (λ h. inr (get_or-set_other m y z x 0 c ∙ h)) (f.frame z))

    looked_added : Looked n E okay k x m₀ m q t y (set m y x) (set q t y) (t + 1)
    looked_added = record {
      front = record {
        long = f.long;
        lenm = length-set m y x ∙ f.lenm;
        lenq = omega (arith, length-set q t y, f.lenq);
        counted = omega (arith, f.counted, stamped_set x m y (omega (arith, f.lenm, f.long)) ne);
        begun = still x f.begun;
        head = (omega (arith, f.head.0), old 0 f.head.0 ∙ f.head.1);
        queued = in_queue;
        marked = of_marks;
        sound = is_sound;
        frame = in_frame;
      };
      grew = record { stays = still; same = old; longer = omega arith };
      seen = λ _ _. at_y;
    }

  pub looked : {m q m' q' : List ℕ} {t r y v : ℕ} → Front n E okay k x m₀ m q t → v < n → get_or m v 0 ≡ x → (y < n → E v y) → Visited n y x okay k m q m' q' t r → Looked n E okay k x m₀ m q t y m' q' r
  looked {m} {q} {t} {y} {v} f vl vm e (skipped h em eq er) =
      subst₃ (λ m' q' r. Looked n E okay k x m₀ m q t y m' q' r) (sym em) (sym eq) (sym er)
      (record { front = f; grew = record { stays = λ z u. u; same = λ i l. refl; longer = le_refl t }; seen = h })
  looked {m} {q} {t} {y} {v} f vl vm e (added yl yk ne em eq er) =
      subst₃ (λ m' q' r. Looked n E okay k x m₀ m q t y m' q' r) (sym em) (sym eq) (sym er) (looked_added m q t y v f vl vm yl yk ne (e yl))

  -- the search begins: x alone is marked and queued
  pub started : (q : List ℕ) → n ≤ length m₀ → length m₀ ≤ length q → Clean n x m₀ → Front n E okay k x (set m₀ x x) (set m₀ x x) (set q 0 x) 1
  started q lm lq cl =
      let xl : x < length m₀ = omega (arith, cl.small) in
      let at_x : get_or (set m₀ x x) x 0 ≡ x = get_or-set_same m₀ x x 0 xl in
      let at-0 : get_or (set q 0 x) 0 0 ≡ x = get_or-set_same q 0 x 0 (omega (arith, xl)) in
      let is_x : (y : ℕ) → y < n → get_or (set m₀ x x) y 0 ≡ x → y ≡ x =
      λ y yl h. dite (ℕ_discrete y x) (λ c. c) (λ c. absurd (cl.none y yl (sym (get_or-set_other m₀ x y x 0 c) ∙ h))) in
      record {
        long = omega (arith, length-set m₀ x x, lm);
        lenm = refl;
        lenq = omega (arith, length-set m₀ x x, length-set q 0 x, lq);
        counted = omega (arith, stamped_set x m₀ x xl (cl.none x cl.small));
        begun = at_x;
        head = (omega arith, at-0);
        queued = λ i l. let c : i ≡ 0 = omega arith in
            subst (λ (u : ℕ). (u < n) × (get_or (set m₀ x x) u 0 ≡ x)) (sym (ap (λ (j : ℕ). get_or (set q 0 x) j 0) c ∙ at-0)) (cl.small, at_x);
        marked = λ y yl h. (0, omega arith, at-0 ∙ sym (is_x y yl h));
        sound = λ y yl h. subst (λ (u : ℕ). Path⁺ (Via E okay k) x u) (sym (is_x y yl h)) here;
        frame = λ y. inr refl;
      }

  -- the search ends: the whole queue is done with
  pub ended : {m q : List ℕ} {h t : ℕ} → x < n → ((u v : ℕ) → E u v → v < n) → Front n E okay k x m₀ m q t → Done E okay k x m q h → t ≤ h → Found n E okay k x m₀ m
  ended {m} {q} xl below f d l = record {
    sound = f.sound;
    complete = λ y p. (closed (λ z. (z < n) × (get_or m z 0 ≡ x)) (xl, f.begun)
        (λ u z w e. let i = f.marked u w.0 w.1 in
        (below u z e.0, d.all i.0 (le_trans i.1 l) z (subst (λ (u : ℕ). Via E okay k u z) (sym i.2) e)))
        p).1;
    frame = f.frame;
  }

  -- said of the marks before x was marked
  pub found_before : {m : List ℕ} → Found n E okay k x (set m₀ x x) m → Found n E okay k x m₀ m
  found_before {m} f = record {
    sound = f.sound;
    complete = f.complete;
    frame = λ y. dite (ℕ_discrete y x)
        (λ c. inl (ap (λ (u : ℕ). get_or m u 0) c ∙ f.complete x here))
        (λ c. ⊎_elim (λ h. inl h) (λ h. inr (h ∙ get_or-set_other m₀ x y x 0 c)) (f.frame y));
  }

  -- where one alone is queued, x alone is marked
  pub lone : {m q : List ℕ} {t : ℕ} → Front n E okay k x m₀ m q t → Lone n x m t
  lone {q} f = record {
    alone = λ e y yl h. let w = f.marked y yl h in
        let z : w.0 ≡ 0 = omega (arith, w.1, e) in
        sym w.2 ∙ ap (λ (i : ℕ). get_or q i 0) z ∙ f.head.1;
  }
