-- Six instances among 24 slots: 0 reads 8 and 16; 8, 12, 16 and 20 read one another in a ring; 4 reads nothing. Assumes nothing.
use Rattle.std.specs.Prelude.{ℕ, ◌≡◌, refl, List, [], ◌∷◌}
use Rattle.circles.specs.Arrays.{graph_of}
use Rattle.circles.specs.Ranked.{keep, first_of, up_from, has, wider, widened, reaching, reachings, label_in, labels_by, labels_of, circle_of, settled, ready, takeable, ranking, ranked_by, ranked}
use Rattle.circles.specs.Marks.{not_declared, no_slot}

abbrev U : ℕ
U = not_declared

abbrev N : ℕ
N = no_slot

ga : List ℕ
ga = 8 ∷ U ∷ U ∷ U ∷ N ∷ U ∷ U ∷ U ∷ 12 ∷ U ∷ U ∷ U ∷ 16 ∷ U ∷ U ∷ U ∷ 20 ∷ U ∷ U ∷ U ∷ 8 ∷ U ∷ U ∷ U ∷ []

gb : List ℕ
gb = 16 ∷ U ∷ U ∷ U ∷ N ∷ U ∷ U ∷ U ∷ N ∷ U ∷ U ∷ U ∷ N ∷ U ∷ U ∷ U ∷ N ∷ U ∷ U ∷ U ∷ N ∷ U ∷ U ∷ U ∷ []

ranked_here : ranked (graph_of 24 ga gb) ≡ (4 ∷ []) ∷ (8 ∷ 12 ∷ 16 ∷ 20 ∷ []) ∷ (0 ∷ []) ∷ []
unfolding ga gb keep first_of up_from has wider widened reaching reachings label_in labels_by labels_of circle_of settled ready takeable ranking ranked_by ranked
ranked_here = refl
