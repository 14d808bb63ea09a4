-- What a loop over the places of a circle shows at each turn. Assumes nothing.
use mathlib.Core.Path.{◌≡◌, refl, sym, ap, ◌∙◌}
use mathlib.Core.Bool.{Bool, true, false, cond, not, ◌||◌, or-false}
use mathlib.Core.List.{List, [], ◌∷◌, map}
use Prim.Native.Nat.{ℕ, ◌+◌, ◌≤◌, ◌<◌}
use native.Mathlib.Nat.{le_trans}
use native.Mathlib.Omega.{arith}
use lib.Dec.{eqb, ltb}
use borrow.Author.Tests.{ne_eqb, ltb-true, ltb-false}
use lib.ListN.{length, get_or, set, drop, length-map}
use lib.Seq.{sets as row, sets-eq}
use Rattle.std.proofs.lemmas.List.{drop_more, at_drop_all}
use Rattle.sets.specs.Operations.{value_of}
use Rattle.sets.specs.declared.Op.{Op}
use Rattle.circles.specs.Arrays as arrays
use Rattle.circles.specs.Arrays.{given}
use Rattle.circles.specs.Ranked.{member, lone_of}
use Rattle.circles.proofs.Lists.{default_is}
use Rattle.climb.specs.System.{Assignment}
use Rattle.climb.specs.Memory.{stores, puts}
use Rattle.climb.specs.Inner.Wired.{read_of, Span, Rows, Wiring}
use Rattle.climb.proofs.Lists.{and_is}
use Rattle.climb.proofs.Storing.{puts_map}

-- ---- what is left of a circle

pub rows_span : {owns a b left rule m : List ℕ} {n start end : ℕ} → Rows owns a b left rule m n start end → Span m n start end
rows_span s = record { rise = s.rise; room = s.room; inside = λ q c d. (s.row q c d).below }

-- the declared members of a whole wiring have their rows
pub wiring_rows : {owns a b left rule m : List ℕ} {n start end : ℕ} → Wiring owns a b left rule n → start ≤ end → end ≤ length m
    → ((p : ℕ) → start ≤ p → p < end → (arrays.graph_of n a b).declared (get_or m p 0) ≡ true) → Rows owns a b left rule m n start end
wiring_rows {a = a} {m = m} {n = n} w l r d = record {
  rise = l;
  room = r;
  row = λ p s e.
      let h : get_or m p 0 < n = ltb-true (get_or m p 0) n (and_is {a = ltb (get_or m p 0) n} (d p s e)).0 in
      record {
        below = h;
        firsts = le_trans h w.firsts;
        seconds = le_trans h w.seconds;
        lefts = le_trans h w.lefts;
        rules = le_trans h w.rules;
        ruled = w.ruled (get_or m p 0) (d p s e);
        owned = w.owned (get_or m p 0) (d p s e);
      };
}

-- ---- one turn over a circle m, of which from place i on drop i m is left, and the end

pub stores_more : (s m : List ℕ) (g : Assignment) (i x w : ℕ) → i < length m → x ≡ get_or m i 0 → w ≡ g x → stores (set s x w) (drop (i + 1) m) g ≡ stores s (drop i m) g
unfolding stores
stores_more s m g i x w h e d = rw (drop_more m i 0, d, e)

pub stores_end : (s m : List ℕ) (g : Assignment) (i : ℕ) → length m ≤ i → stores s (drop i m) g ≡ s
unfolding stores
stores_end s m g i h = at_drop_all (λ C. stores s C g) m i h

pub puts_more : (s m ws : List ℕ) (i x : ℕ) → i < length m → i < length ws → x ≡ get_or m i 0
    → puts (set s x (get_or ws i 0)) (drop (i + 1) m) (drop (i + 1) ws) ≡ puts s (drop i m) (drop i ws)
unfolding puts
puts_more s m ws i x h k e = rw (drop_more m i 0, drop_more ws i 0, e)

pub puts_end : (s m ws : List ℕ) (i : ℕ) → length m ≤ i → puts s (drop i m) (drop i ws) ≡ s
unfolding puts
puts_end s m ws i h = at_drop_all (λ C. puts s C (drop i ws)) m i h

-- the values of a row, stored together
pub stored_together : (s s' m ws ws' : List ℕ) (g : Assignment) → length m ≤ length ws → ws' ≡ row ws 0 (map g m) → s' ≡ puts s m ws' → s' ≡ stores s m g
stored_together s s' m ws ws' g l d e = e ∙ ap (puts s m) (d ∙ sets-eq (map g m) ws 0 (omega (arith, length-map m g))) ∙ puts_map m s g (drop (0 + length (map g m)) ws)

-- ---- the value of an equation

pub value_is : (op : Op) (own n : ℕ) (v : Assignment) (a b : List ℕ) (x y z y' z' : ℕ) → x < length a → x < length b → y' ≡ get_or a x 0 → z' ≡ get_or b x 0
    → y ≡ read_of n v y' → z ≡ read_of n v z' → value_of op own y z ≡ value_of op own (read_of n v (get_or a x 65534)) (read_of n v (get_or b x 65534))
value_is op own n v a b x y z y' z' h k e d p q = rw (p, q, e, d, default_is a x 0 65534 h, default_is b x 0 65534 k)

-- ---- lone

pub lone_many : (n : ℕ) (a b C : List ℕ) → (length C ≡ 1 → ⊥) → false ≡ lone_of (arrays.graph_of n a b) C
unfolding lone_of
lone_many n a b [] h = refl
lone_many n a b (x ∷ []) h = absurd (h refl)
lone_many n a b (x ∷ y ∷ C) h = refl

member_given : (n a b x : ℕ) → x < n → member (given n a b) x ≡ (eqb x a || eqb x b)
member_given n a b x h = by (ltb a n) (ltb b n) (λ e. ne_eqb x a (λ q. omega (arith, ltb-false a n e))) (λ e. ne_eqb x b (λ q. omega (arith, ltb-false b n e)))
  where
    by : (s t : Bool) → (s ≡ false → eqb x a ≡ false) → (t ≡ false → eqb x b ≡ false)
        → member (cond s (a ∷ cond t (b ∷ []) []) (cond t (b ∷ []) [])) x ≡ (eqb x a || eqb x b)
    by true true p q = ap (λ (z : Bool). eqb x a || z) (or-false (eqb x b))
    by true false p q = ap (λ (z : Bool). eqb x a || z) (sym (q refl))
    by false true p q = or-false (eqb x b) ∙ ap (λ (z : Bool). z || eqb x b) (sym (p refl))
    by false false p q = sym (rw (p refl, q refl))

-- a sole member that neither of its arguments is
pub lone_one : (n : ℕ) (a b C : List ℕ) (x y z : ℕ) → length C ≡ 1 → x ≡ get_or C 0 0 → x < n → n ≤ length a → n ≤ length b → y ≡ get_or a x 0 → z ≡ get_or b x 0
    → lone_of (arrays.graph_of n a b) C ≡ not (eqb x y || eqb x z)
unfolding lone_of
lone_one n a b [] x y z h e s ra rb p q = absurd (omega arith)
lone_one n a b (w ∷ v ∷ C) x y z h e s ra rb p q = absurd (omega arith)
lone_one n a b (w ∷ []) x y z h e s ra rb p q = rw (← e, ← default_is a x 0 65534 (le_trans s ra), ← default_is b x 0 65534 (le_trans s rb), ← p, ← q, member_given n y z x s)
