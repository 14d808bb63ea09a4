-- Where each slot is sure the graph is closed, and the other way round. Assumes nothing.
use Prim.Native.Nat.{ℕ, ◌≤◌, ◌<◌}
use mathlib.Core.Path.{◌≡◌, refl, subst}
use mathlib.Core.List.{List}
use mathlib.Core.Logic.{◌⊎◌, inl, inr, ⊎_elim}
use lib.ListN.{length, get_or}
use Rattle.circles.specs.Graph.{Closed}
use Rattle.circles.specs.Arrays.{graph_of}
use Rattle.circles_find.proofs.Holding.{in_given, is_declared, was_declared, arg_reads, reads_arg}
use Rattle.bench_ranks.specs.Inner.Slots.{Stands, Sure}

module _ (n : ℕ) (a b : List ℕ) (la : n ≤ length a) (lb : n ≤ length b) where
  pub closed_of : ((x : ℕ) → x < n → Sure n a b x) → Closed (graph_of n a b)
  closed_of f = record {
    bound = λ x d. (was_declared n a b la lb x d).0;
    closed = λ x d y m.
        let (h, e) = was_declared n a b la lb x d in
        let s = f x h e in
        let (_, yl, _, w) = reads_arg n a b la lb x y e (record { from = h; to = (in_given n (get_or a x 65534) (get_or b x 65534) y m).0; argument = m }) in
        is_declared n a b la lb y yl (⊎_elim (λ u. subst (Stands n a) u s.0 yl) (λ u. subst (Stands n a) u s.1 yl) w);
  }

  stands_of : Closed (graph_of n a b) → (x y : ℕ) → x < n → (get_or a x 0 ≡ 65534 → ⊥) → (get_or a x 0 ≡ y) ⊎ (get_or b x 0 ≡ y) → Stands n a y
  stands_of C x y h e w yl =
      (was_declared n a b la lb y (C.closed x (is_declared n a b la lb x h e) y (arg_reads n a b la lb x y (h, yl, e, w)).argument)).1

  pub sure_of : Closed (graph_of n a b) → (x : ℕ) → x < n → Sure n a b x
  sure_of C x h e = (stands_of C x (get_or a x 0) h e (inl refl), stands_of C x (get_or b x 0) h e (inr refl))
