-- What the ranking says as it goes. Assumes nothing.
use Rattle.std.specs.Prelude.{ℕ, ◌-◌, ◌<◌, ◌≤◌, ◌/◌, ◌%◌, ◌≡◌, Bool, true, false, List, ◌⊎◌, get_or, length, eqb}
use Rattle.circles.specs.Graph.{Graph}
use Rattle.circles.specs.Ranked.{keep, up_from, label_at, labels_of, ranked}
use Rattle.circles.specs.Arrays.{graph_of, joined, ends_from, over}
use Rattle.circles_find.specs.Inner.Search.{Stated, Marked, Arg}
use Rattle.circles.specs.Marks.{slots_most}
use Rattle.sets.specs.Members.{digit}

-- a Bool says whether P holds
pub record Says (P : Type 0) (r : Bool) : Type 0 where
  pub if_true : r ≡ true → P
  pub if_false : r ≡ false → P → ⊥

-- y, an argument of the circle l, is none, or in l, or in a taken circle
abbrev pub Settled : ℕ → List ℕ → List ℕ → ℕ → ℕ → Type 0
Settled n label taken l y = (n ≤ y) ⊎ ((get_or label y 0 ≡ l) ⊎ ((get_or label y 0 < n) × (get_or taken (get_or label y 0) 0 ≡ 1)))

-- both arguments of x, in the circle l, are settled
pub record Free (n : ℕ) (a b label taken : List ℕ) (l x : ℕ) : Type 0 where
  pub one : Settled n label taken l (get_or a x 0)
  pub two : Settled n label taken l (get_or b x 0)

-- r is the first of l's members from x on that is not free, or is past the end
pub record Advanced (n : ℕ) (a b label taken : List ℕ) (l x r : ℕ) : Type 0 where
  pub from : x ≤ r
  pub past : (z : ℕ) → x ≤ z → z < r → z < n → get_or label z 0 ≡ l → Free n a b label taken l z
  pub stop : r < n → (get_or label r 0 ≡ l) × (Free n a b label taken l r → ⊥)

-- ---- the ready circles: one bit each, 64 to a word; the 65th word has a bit for each word that is not 0

-- l is ready
abbrev pub In : List ℕ → ℕ → Type 0
In ready l = digit (l % 64) (get_or ready (l / 64) 0) ≡ 1

pub record Bits (ready : List ℕ) : Type 0 where
  pub long : length ready ≡ 65
  pub fits : (k : ℕ) → get_or ready k 0 < 18446744073709551616
  pub told : (k : ℕ) → k < 64 → 0 < get_or ready k 0 → digit k (get_or ready 64 0) ≡ 1
  pub true : (k : ℕ) → k < 64 → digit k (get_or ready 64 0) ≡ 1 → 0 < get_or ready k 0

-- the bit of l is set
pub record Put (l : ℕ) (ready ready' : List ℕ) : Type 0 where
  pub bits : Bits ready'
  pub here : In ready' l
  pub stays : (j : ℕ) → j < slots_most → In ready j → In ready' j
  pub only : (j : ℕ) → j < slots_most → (j ≡ l → ⊥) → In ready' j → In ready j

-- the least bit is found and cleared; 4096 where there is none
pub record Pulled (ready ready' : List ℕ) (r : ℕ) : Type 0 where
  pub bits : Bits ready'
  pub none : (j : ℕ) → j < slots_most → j < r → In ready j → ⊥
  pub hit : r < slots_most → In ready r
  pub gone : In ready' r → r < slots_most → ⊥
  pub only : (j : ℕ) → j < slots_most → In ready' j → In ready j
  pub stays : (j : ℕ) → j < slots_most → (j ≡ r → ⊥) → In ready j → In ready' j

-- ---- cursors

-- the cursor c of the circle l: all members before it are free, and it stands at a member or past the end
pub record Cursor (n : ℕ) (a b label taken : List ℕ) (l c : ℕ) : Type 0 where
  pub past : (z : ℕ) → z < c → z < n → get_or label z 0 ≡ l → Free n a b label taken l z
  pub at : c < n → get_or label c 0 ≡ l

-- where it stands at a member, that is not free
pub record Sure (n : ℕ) (a b label taken : List ℕ) (l c : ℕ) : Type 0 where
  pub held : c < n → Free n a b label taken l c → ⊥

pub record Cursors (n : ℕ) (a b label taken cur : List ℕ) : Type 0 where
  pub long : n ≤ length cur
  pub each : (l : ℕ) → l < n → get_or label l 0 ≡ l → Cursor n a b label taken l (get_or cur l 0)

-- cursors move on; what gets past the end is made ready
pub record Moved (n : ℕ) (a b label taken cur ready cur' ready' : List ℕ) : Type 0 where
  pub cursors : Cursors n a b label taken cur'
  pub bits : Bits ready'
  pub sure : (l : ℕ) → l < n → get_or label l 0 ≡ l → (get_or cur' l 0 ≡ get_or cur l 0) ⊎ Sure n a b label taken l (get_or cur' l 0)
  pub ended : (l : ℕ) → l < n → get_or label l 0 ≡ l → n ≤ get_or cur l 0 → n ≤ get_or cur' l 0
  pub made : (l : ℕ) → l < n → get_or label l 0 ≡ l → get_or cur l 0 < n → n ≤ get_or cur' l 0 → In ready' l
  pub stays : (l : ℕ) → l < slots_most → In ready l → In ready' l
  pub only : (l : ℕ) → l < slots_most → In ready' l → (In ready l) ⊎ ((l < n) × (get_or label l 0 ≡ l) × (get_or cur l 0 < n) × (n ≤ get_or cur' l 0))

-- where the cursor of w's circle stands at w, w is not free
pub record SureAt (n : ℕ) (a b label taken cur : List ℕ) (w : ℕ) : Type 0 where
  pub at : get_or label w 0 < n → get_or cur (get_or label w 0) 0 ≡ w → Free n a b label taken (get_or label w 0) w → ⊥

-- between two turns, with the circles below i looked at: of them those that can be taken next are ready
pub record Turn (n : ℕ) (a b label taken cur ready : List ℕ) (i : ℕ) : Type 0 where
  pub flags : n ≤ length taken
  pub long : n ≤ length cur
  pub bits : Bits ready
  pub each : (l : ℕ) → l < i → l < n → get_or label l 0 ≡ l → Cursor n a b label taken l (get_or cur l 0)
  pub sure : (l : ℕ) → l < i → l < n → get_or label l 0 ≡ l → Sure n a b label taken l (get_or cur l 0)
  pub is_ready : (l : ℕ) → l < slots_most → In ready l → (l < i) × (l < n) × (get_or label l 0 ≡ l) × (get_or taken l 0 ≡ 1 → ⊥) × (n ≤ get_or cur l 0)
  pub all_ready : (l : ℕ) → l < i → l < n → get_or label l 0 ≡ l → (get_or taken l 0 ≡ 1 → ⊥) → n ≤ get_or cur l 0 → In ready l
  pub done : (l : ℕ) → l < n → get_or label l 0 ≡ l → get_or taken l 0 ≡ 1 → n ≤ get_or cur l 0

-- nothing is taken or ready
pub record Outset (n : ℕ) (taken cur ready : List ℕ) : Type 0 where
  pub flags : n ≤ length taken
  pub long : n ≤ length cur
  pub bits : Bits ready
  pub untaken : (y : ℕ) → get_or taken y 0 ≡ 1 → ⊥
  pub unready : (y : ℕ) → y < slots_most → In ready y → ⊥

-- ---- members

-- the slots from k on that have the label l
unfoldable pub members_from : ℕ → List ℕ → ℕ → ℕ → List ℕ
members_from n label l k = keep (λ x. eqb (get_or label x 0) l) (up_from k (n - k))

-- ---- the whole

-- just what is declared has a label, and what a declared slot reads has one
pub record Covered (n : ℕ) (a b label : List ℕ) : Type 0 where
  pub marked : (x : ℕ) → x < n → Stated a x → Marked n label x
  pub stated : (x : ℕ) → x < n → Marked n label x → Stated a x
  pub reads : (x y : ℕ) → Arg n a b x y → Marked n label y

-- label has the labels as they compute
pub record Agrees (n : ℕ) (a b label : List ℕ) : Type 0 where
  pub at : (x : ℕ) → x < n → get_or label x 0 ≡ label_at (labels_of (graph_of n a b)) x

-- 6.1, 6.2: members, ends and count are what the ranked circles are as arrays
pub record Listed (G : Graph) (members₀ ends₀ members ends : List ℕ) (count : ℕ) : Type 0 where
  pub listed : members ≡ over (joined (ranked G)) members₀
  pub ended : ends ≡ over (ends_from 0 (ranked G)) ends₀
  pub counted : count ≡ length (ranked G)
