-- The waiver test is what it means, and where it finds nothing each circle is a climb. Assumes nothing.
use mathlib.Core.Path.{◌≡◌, refl, sym, ap, ◌∙◌}
use mathlib.Core.Bool.{true, false, true≢false, cond}
use mathlib.Core.List.{List, [], ◌∷◌, map}
use mathlib.Core.Logic.{⊎_elim}
use Prim.Native.Nat.{ℕ, zero, suc, ◌*◌}
use native.Mathlib.Omega.{arith}
use lib.Dec.{eqb}
use lib.ListN.{length, get_or}
use borrow.Author.Tests.{eqb-true, eq-eqb, ne_eqb}
use Rattle.sets.specs.declared.Argument.{Argument}
use Rattle.sets.specs.Arguments.{arguments_of, waived_of}
use Rattle.sets.specs.declared.Op.TheVariants.{Constant}
use Rattle.table.specs.Words.{head_at, constant_at}
use Rattle.table.specs.Equations.{op_number, operations, op_of, equation_at}
use Rattle.table.specs.Judge.{judge_table}
use Rattle.tree.specs.Tree.{judge_nodes}
use Rattle.circles.specs.Graph.{◌∈◌, Closed}
use Rattle.circles.specs.Ranked.{circle_at, member, any_of, up_from, labels_of, label_at, ranked}
use Rattle.circles.specs.Laws.{Ordered}
use Rattle.circles.proofs.Lists.{any_of_lem, of_any, of_slots}
use Rattle.circles.proofs.Sequence.{circles, ordered}
use Rattle.climb.specs.System.{graph_of}
use Rattle.climb.specs.Waived.{WaivedOutside}
use Rattle.climb.proofs.Lists.{either, none_any}
use Rattle.climb.proofs.Systems.{outside_lawful, none_lawful}
use Rattle.wire.specs.Instances.{declared, place_of, rule_at, op_at, named, args_at, waived_at, system, waived}
use Rattle.wire.specs.Arrays.{second_at, rule_in}
use Rattle.wire.specs.Waivers.{graph, waives, Waiver, EveryTreeWaives, CirclesLawful, WaivedWired, Plain, PlainFree, PlainLawful}
use Rattle.wire.proofs.Places.{declared_below, place_defined, defined_has, defined_op}
use Rattle.wire.proofs.Lawful.{args_declared, args_closed, waived_declared, waived_by, waived_at_lem, waived_read, tree_lawful}

module _ (t ns : List ℕ) (g : judge_table t ≡ 0) (e : judge_nodes t ns (0 ∷ []) ≡ 0) where
  closed : Closed (graph t ns)
  closed = record { bound = declared_below t ns; closed = λ x d y m. args_closed t ns g e x d y (rw (args_declared t ns [] x d) at m) }

  abbrev label : ℕ → ℕ
  label x = label_at (labels_of (graph t ns)) x

  pub read_declared : (x y : ℕ) → y ∈ waived t ns x → declared t ns y ≡ true
  read_declared x y m = closed.closed x (waived_by t ns x y m) y (waived_read t ns [] x y m)

  to : waives t ns ≡ true → Waiver t ns
  unfolding waives
  to h =
      let f = any_of_lem (λ x. any_of (λ y. eqb (label y) (label x)) (waived t ns x)) (up_from 0 (8 * length ns)) h in
      let i = any_of_lem (λ y. eqb (label y) (label f.0)) (waived t ns f.0) f.2 in
      let d = waived_by t ns f.0 i.0 i.1 in
      record {
        x = f.0;
        y = i.0;
        instance = d;
        argument = waived_at_lem t ns f.0 i.0 i.1;
        together = ((circles (graph t ns) closed).one f.0 i.0 d (read_declared f.0 i.0 i.1)).0 (sym (eqb-true (label i.0) (label f.0) i.2));
      }

  from : Waiver t ns → waives t ns ≡ true
  unfolding waives
  from w =
      let m : w.y ∈ waived t ns w.x = rw (waived_declared t ns w.x w.instance) w.argument in
      let s = ((circles (graph t ns) closed).one w.x w.y w.instance (read_declared w.x w.y m)).1 w.together in
      of_any (λ x. any_of (λ y. eqb (label y) (label x)) (waived t ns x)) (of_slots w.x (8 * length ns) (declared_below t ns w.x w.instance))
      (of_any (λ y. eqb (label y) (label w.x)) m (eq-eqb (label w.y) (label w.x) (sym s)))

pub every_tree_waives : EveryTreeWaives
every_tree_waives t ns g e = record {
  some = (to t ns g e, from t ns g e);
  none = (
    λ h w. absurd (true≢false (sym (from t ns g e w) ∙ h)),
    λ f. ⊎_elim (λ (h : waives t ns ≡ true). absurd (f (to t ns g e h))) (λ h. h) (either (waives t ns)),
  );
}

pub circles_lawful : CirclesLawful
circles_lawful t ns owns g e few tw ow h =
    outside_lawful (system t ns owns) (waived t ns) (tree_lawful t ns owns g e tw ow) (ranked (graph_of (system t ns owns))) outside
  where
    o : Ordered (graph t ns) (ranked (graph t ns))
    o = ordered (graph t ns) (closed t ns g e) (omega (arith, few))

    outside : WaivedOutside (waived t ns) (ranked (graph t ns))
    outside i x m y w = ⊎_elim
        (λ (k : member (circle_at (ranked (graph t ns)) i) y ≡ true).
        let d = o.declared i x m in
        absurd (h (record { x = x; y = y; instance = d; argument = waived_at_lem t ns x y w; together = (o.together i x m y).0 k })))
        (λ k. k) (either (member (circle_at (ranked (graph t ns)) i) y))

-- ---- in the arrays

nine_of : (f : Argument → ℕ) (h c n : ℕ)
    → map f (waived_of (get_or (operations h c) n (Constant c))) ≡ cond (eqb n 9) (get_or (map f (arguments_of (get_or (operations h c) n (Constant c)))) 1 65535 ∷ []) []
unfolding arguments_of waived_of
nine_of f h c zero = refl
nine_of f h c (suc zero) = refl
nine_of f h c (suc (suc zero)) = refl
nine_of f h c (suc (suc (suc zero))) = refl
nine_of f h c (suc (suc (suc (suc zero)))) = refl
nine_of f h c (suc (suc (suc (suc (suc zero))))) = refl
nine_of f h c (suc (suc (suc (suc (suc (suc zero)))))) = refl
nine_of f h c (suc (suc (suc (suc (suc (suc (suc zero))))))) = refl
nine_of f h c (suc (suc (suc (suc (suc (suc (suc (suc zero)))))))) = refl
nine_of f h c (suc (suc (suc (suc (suc (suc (suc (suc (suc zero))))))))) = refl
nine_of f h c (suc (suc (suc (suc (suc (suc (suc (suc (suc (suc n)))))))))) = rw (ne_eqb (suc (suc (suc (suc (suc (suc (suc (suc (suc (suc n)))))))))) 9 (λ e. omega arith))

pub waived_wired : WaivedWired
unfolding waived_at args_at op_at equation_at op_of rule_in second_at
waived_wired t ns x d = rw d (nine_of (named t ns (place_of t ns x).node) (head_at t (rule_at t ns x)) (constant_at t (rule_at t ns x)) (op_number (head_at t (rule_at t ns x))))

-- ---- a table without operation 9

waives_none : (h c n : ℕ) → (n ≡ 9 → ⊥) → waived_of (get_or (operations h c) n (Constant c)) ≡ []
unfolding waived_of
waives_none h c zero f = refl
waives_none h c (suc zero) f = refl
waives_none h c (suc (suc zero)) f = refl
waives_none h c (suc (suc (suc zero))) f = refl
waives_none h c (suc (suc (suc (suc zero)))) f = refl
waives_none h c (suc (suc (suc (suc (suc zero))))) f = refl
waives_none h c (suc (suc (suc (suc (suc (suc zero)))))) f = refl
waives_none h c (suc (suc (suc (suc (suc (suc (suc zero))))))) f = refl
waives_none h c (suc (suc (suc (suc (suc (suc (suc (suc zero)))))))) f = refl
waives_none h c (suc (suc (suc (suc (suc (suc (suc (suc (suc zero))))))))) f = absurd (f refl)
waives_none h c (suc (suc (suc (suc (suc (suc (suc (suc (suc (suc n)))))))))) f = refl

rule_none : (t : List ℕ) (rule : ℕ) → (op_number (head_at t rule) ≡ 9 → ⊥) → waived_of (equation_at t rule).op ≡ []
unfolding equation_at op_of
rule_none t rule f = waives_none (head_at t rule) (constant_at t rule) (op_number (head_at t rule)) f

plain_none : (t ns : List ℕ) → judge_table t ≡ 0 → judge_nodes t ns (0 ∷ []) ≡ 0 → Plain t → (x : ℕ) → waived t ns x ≡ []
unfolding waived_at
plain_none t ns g e p x = ⊎_elim
    (λ (d : declared t ns x ≡ true).
    let f = place_defined t ns g e x d in
    let n : waived_of (op_at t ns x) ≡ [] = ap waived_of (defined_op t ns 0 e f) ∙ rule_none t _ (p _ _ _ (defined_has t ns g e d f).1) in
    rw (d, n))
    (λ (d : declared t ns x ≡ false). rw d) (either (declared t ns x))

pub plain_free : PlainFree
unfolding waives
plain_free t ns g e p = none_any (λ x. any_of (λ y. eqb (label_at (labels_of (graph t ns)) y) (label_at (labels_of (graph t ns)) x)) (waived t ns x)) (up_from 0 (8 * length ns))
    (λ x m. ap (any_of (λ y. eqb (label_at (labels_of (graph t ns)) y) (label_at (labels_of (graph t ns)) x))) (plain_none t ns g e p x))

pub plain_lawful : PlainLawful
plain_lawful t ns owns g e tw ow p = record {
  free = (every_tree_waives t ns g e).none.0 (plain_free t ns g e p);
  lawful = none_lawful (system t ns owns) (waived t ns) (tree_lawful t ns owns g e tw ow) (plain_none t ns g e p);
}
