-- Four buffers that are filled as a load fills them are the memory that `loaded` names. Assumes nothing.
use mathlib.Core.Path.{◌≡◌}
use mathlib.Core.List.{List}
use Prim.Native.Nat.{ℕ}
use lib.ListN.{length, replicate}
use Rattle.update.specs.Memories.{Memory, filled, loaded}

pub is_loaded : (m m' : Memory) (ns owns : List ℕ)
    → m'.productions ≡ filled ns m.productions
    → m'.owns ≡ filled owns m.owns
    → m'.sets ≡ replicate (length m.sets) 0
    → m'.earlier ≡ replicate (length m.earlier) 0
    → m' ≡ loaded m ns owns
unfolding loaded
is_loaded m m' ns owns p o s b = λ i. record { productions = p i; owns = o i; sets = s i; earlier = b i }
