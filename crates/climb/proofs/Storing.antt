-- Stores in memory: what they leave at each place, and that a round in memory is a stage of the climb. Assumes nothing.
use mathlib.Core.Path.{◌≡◌, refl, sym, ap, ◌∙◌, fun_ext}
use mathlib.Core.Bool.{Bool, true, false, cond, ◌||◌, or-true}
use mathlib.Core.Logic.{⊎_elim}
use mathlib.Core.List.{List, [], ◌∷◌, ◌++◌, map}
use Prim.Native.Nat.{ℕ, suc, ◌<◌}
use lib.Dec.{eqb}
use borrow.Author.Tests.{eqb-true, eqb-false, eq-eqb}
use lib.ListN.{length, set, length-set}
use lib.Seq.{get_or-set_same, get_or-set_other}
use Rattle.circles.specs.Ranked.{member, all_of, lone_of}
use Rattle.circles.proofs.Lists.{all_cong}
use Rattle.climb.specs.System.{Assignment, System, graph_of}
use Rattle.climb.specs.Climb.{stage, still_of}
use Rattle.climb.specs.Inside.{GainingIn}
use Rattle.climb.specs.Memory.{at, stores, puts, empty_on, round_on, still_on, Within, InMemory}
use Rattle.climb.proofs.Lists.{either, member_of}
use Rattle.climb.proofs.Stages.{stage_round}
use Rattle.climb.proofs.Rounds.{lone_once}

pub length_stores : (C s : List ℕ) (g : Assignment) → length (stores s C g) ≡ length s
unfolding stores
length_stores [] s g = refl
length_stores (c ∷ C) s g = length_stores C (set s c (g c)) g ∙ length-set s c (g c)

pub stores_at : (C s : List ℕ) (g : Assignment) → Within C s → (x : ℕ) → at (stores s C g) x ≡ cond (member C x) (g x) (at s x)
unfolding stores
stores_at [] s g h x = refl
stores_at (c ∷ C) s g h x =
    stores_at C (set s c (g c)) g (λ y m. rw (length-set s c (g c)) (h y (rw m (or-true (eqb y c))))) x
    ∙ ⊎_elim here there (either (eqb x c))
  where
    same : (b : Bool) (n : ℕ) → cond b n n ≡ n
    same true n = refl
    same false n = refl

    here : eqb x c ≡ true → cond (member C x) (g x) (at (set s c (g c)) x) ≡ cond (eqb x c || member C x) (g x) (at s x)
    here e =
        let p : x ≡ c = eqb-true x c e in
        let q : c < length s = h c (rw (eq-eqb c c refl)) in
        rw (e, p, get_or-set_same s c (g c) 0 q) (same (member C c) (g c))

    there : eqb x c ≡ false → cond (member C x) (g x) (at (set s c (g c)) x) ≡ cond (eqb x c || member C x) (g x) (at s x)
    there e = rw (e, get_or-set_other s c x (g c) 0 (eqb-false x c e))

-- the values of g in their order, whatever stands behind them, are g's
pub puts_map : (C s : List ℕ) (g : Assignment) (r : List ℕ) → puts s C (map g C ++ r) ≡ stores s C g
unfolding puts stores
puts_map [] s g r = refl
puts_map (c ∷ C) s g r = puts_map C (set s c (g c)) g r

-- ---- a round in memory is a stage

module _ (S : System) (C : List ℕ) (v : Assignment) (s : List ℕ) (inside : Within C s) where
  round_stage : (k : ℕ) → at s ≡ stage S (member C) v k → at (round_on S C s) ≡ stage S (member C) v (suc k)
  round_stage k e = fun_ext (λ x. stores_at C s (S.eval (at s)) inside x
      ∙ ap (λ (u : Assignment). cond (member C x) (S.eval u x) (u x)) e ∙ sym (stage_round S (member C) v k x))

  still_on_lem : still_on S C s ≡ all_of (λ x. eqb (at (round_on S C s) x) (at s x)) C
  still_on_lem = sym (all_cong (λ x. eqb (at (round_on S C s) x) (at s x)) (λ x. eqb (S.eval (at s) x) (at s x)) C
      (λ x m. ap (λ (n : ℕ). eqb n (at s x)) (stores_at C s (S.eval (at s)) inside x ∙ ap (λ (z : Bool). cond z (S.eval (at s) x) (at s x)) (member_of C x m))))

  still_stage : (k : ℕ) → at s ≡ stage S (member C) v k → still_on S C s ≡ still_of S C v k
  unfolding still_of
  still_stage k e = still_on_lem
      ∙ ap (λ (u : Assignment). all_of (λ x. eqb (u x) (at s x)) C) (round_stage k e)
      ∙ ap (λ (u : Assignment). all_of (λ x. eqb (stage S (member C) v (suc k) x) (u x)) C) e

  empty_stage : at s ≡ v → at (empty_on C s) ≡ stage S (member C) v 0
  unfolding stage
  empty_stage e = fun_ext (λ x. stores_at C s (λ x. 0) inside x ∙ ap (λ (u : Assignment). cond (member C x) 0 (u x)) e)

  lone_stage : GainingIn S (member C) → lone_of (graph_of S) C ≡ true → at s ≡ v → at (round_on S C s) ≡ stage S (member C) v 1
  lone_stage g h e = fun_ext (λ x. stores_at C s (S.eval (at s)) inside x
      ∙ ap (λ (u : Assignment). cond (member C x) (S.eval u x) (u x)) e ∙ sym ((lone_once S C g h v).value x))

  pub in_memory : InMemory S C v s
  in_memory = record { emptied = empty_stage; round = round_stage; still = still_stage; altered = still_on_lem; lone = lone_stage }
