-- A tree's lines, one by one. Assumes nothing.
use mathlib.Core.Path.{◌≡◌, refl, ap, sym, ◌∙◌}
use mathlib.Core.List.{List, []}
use Rattle.std.proofs.Common.{Result, Ok, Err}
use Prim.Native.Nat.{ℕ, suc, ◌+◌, ◌-◌, ◌≤◌, ◌<◌}
use native.Mathlib.Omega.{arith}
use native.Mathlib.Numerals.{add-one}
use lib.ListN.{set}
use lib.Seq.{sets}
use Rattle.refusal.specs.declared.Refusal.{Refusal}
use Rattle.refusal.specs.declared.Refusal.TheVariants as why
use Rattle.text_frame.specs.Frames.{frame_at}
use Rattle.text_tree.specs.Planting.{Nodes, good, bad, node_before, node_then, nodes_at, load_then, tree_at}
use Rattle.text_tree.specs.Growing.{tree_read, tree_answer, stray, Stored}
use Rattle.text_frame.specs.declared.Frame.{Frame}
use Rattle.text_frame.specs.declared.Frame.TheVariants.{Rule, Node, Point, Change, Dump, Refused, Over}
use Rattle.text_frame.specs.declared.Change as change
use Rattle.text_frame.specs.declared.Change.TheVariants.{Load, Replace, Corrections}
use Rattle.text_frame.specs.declared.Step.{Step}
use Rattle.text_frame.specs.Calls.{misread}
use Rattle.text_frame.specs.declared.Misread.{Misread}
use Rattle.text_tree.specs.declared.ReadTree.{ReadTree}
use Rattle.text_tree.proofs.Trees.{nodes_forth}

-- ---- frames of another type

pub no_refusal : (f : Frame) (line : ℕ) → ((r : Refusal) (l : ℕ) → f ≡ Refused r l → ⊥) → Err (misread why.Frame line) ≡ tree_answer (stray f line)
no_refusal (Rule a) line k = refl
no_refusal (Node a b) line k = refl
no_refusal (Point a b) line k = refl
no_refusal (Change a) line k = refl
no_refusal Dump line k = refl
no_refusal (Refused a b) line k = absurd (k a b refl)
no_refusal Over line k = refl

no_node : (f : Frame) (line : ℕ) (rest : Nodes) → ((p o : ℕ) → f ≡ Node p o → ⊥) → node_then f line rest ≡ stray f line
no_node (Rule a) line rest k = refl
no_node (Node a b) line rest k = absurd (k a b refl)
no_node (Point a b) line rest k = refl
no_node (Change a) line rest k = refl
no_node Dump line rest k = refl
no_node (Refused a b) line rest k = refl
no_node Over line rest k = refl

pub no_change : (f : Frame) (line : ℕ) (rest : ℕ → Nodes) → ((c : change.Change) → f ≡ Change c → ⊥) → load_then f line rest ≡ stray f line
no_change (Rule a) line rest k = refl
no_change (Node a b) line rest k = refl
no_change (Point a b) line rest k = refl
no_change (Change a) line rest k = absurd (k a refl)
no_change Dump line rest k = refl
no_change (Refused a b) line rest k = refl
no_change Over line rest k = refl

pub no_load : (c : change.Change) (line : ℕ) (rest : ℕ → Nodes) → ((n : ℕ) → c ≡ Load n → ⊥) → load_then (Change c) line rest ≡ stray (Change c) line
no_load (Load a) line rest k = absurd (k a refl)
no_load (Replace a b) line rest k = refl
no_load (Corrections a) line rest k = refl

-- a stray frame is bad
record Strayed (f : Frame) (line : ℕ) : Type 0 where
  pub refusal : Refusal
  pub at : ℕ
  pub is : stray f line ≡ bad refusal at

strayed : (f : Frame) (line : ℕ) → Strayed f line
strayed (Rule a) line = record { refusal = why.Frame; at = line; is = refl }
strayed (Node a b) line = record { refusal = why.Frame; at = line; is = refl }
strayed (Point a b) line = record { refusal = why.Frame; at = line; is = refl }
strayed (Change a) line = record { refusal = why.Frame; at = line; is = refl }
strayed Dump line = record { refusal = why.Frame; at = line; is = refl }
strayed (Refused r l) line = record { refusal = r; at = l; is = refl }
strayed Over line = record { refusal = why.Frame; at = line; is = refl }

-- ---- the nodes of n lines, with some of them stored

-- the answer where n nodes are asked for
abbrev pub answer_of : ℕ → Nodes → Result ReadTree Misread
answer_of n (good ps owns place line) = Ok (tree_read n place line)
answer_of n (bad refusal line) = Err (misread refusal line)

-- memory with the nodes stored from i on
abbrev pub put_at : ℕ → Nodes → List ℕ → List ℕ
put_at i (good ps owns place line) a = sets a i ps
put_at i (bad refusal line) a = []

abbrev pub put_owns_at : ℕ → Nodes → List ℕ → List ℕ
put_owns_at i (good ps owns place line) a = sets a i owns
put_owns_at i (bad refusal line) a = []

answer_before : (n p o : ℕ) (rest : Nodes) → answer_of n (node_before p o rest) ≡ answer_of n rest
answer_before n p o (good ps owns place line) = refl
answer_before n p o (bad refusal line) = refl

put_before : (i p o : ℕ) (rest : Nodes) (a : List ℕ) → put_at i (node_before p o rest) a ≡ put_at (suc i) rest (set a i p)
put_before i p o (good ps owns place line) a = refl
put_before i p o (bad refusal line) a = refl

put_owns_before : (i p o : ℕ) (rest : Nodes) (a : List ℕ) → put_owns_at i (node_before p o rest) a ≡ put_owns_at (suc i) rest (set a i o)
put_owns_before i p o (good ps owns place line) a = refl
put_owns_before i p o (bad refusal line) a = refl

by_count : (n : ℕ) (s : List ℕ) (place line : ℕ) (x : Nodes) → nodes_at n s place line ≡ x → answer_of n x ≡ tree_answer x
by_count n s place line (good ps owns end next) e = ap (λ (k : ℕ). Ok (tree_read k end next)) (sym (nodes_forth n s place line ps owns end next e).count)
by_count n s place line (bad refusal l) e = refl

stored_all : (n i : ℕ) (x : Nodes) (a b a' b' : List ℕ) (at l : ℕ) → answer_of n x ≡ Ok (tree_read n at l) → put_at 0 x a ≡ a' → put_owns_at 0 x b ≡ b' → Stored x a b a' b'
stored_all n i (good ps owns place line) a b a' b' at l e p q = (sym p, sym q)
stored_all n i (bad refusal line) a b a' b' at l e p q = tt

stored_none : (n : ℕ) (x : Nodes) (a b a' b' : List ℕ) (r : Refusal) (l : ℕ) → answer_of n x ≡ Err (misread r l) → Stored x a b a' b'
stored_none n (good ps owns place line) a b a' b' r l e = absurd (let z : ◌≡◌ {A = ℕ} 0 1 = cc in omega arith)
stored_none n (bad refusal line) a b a' b' r l e = tt

-- where the reading stands: i nodes are read and stored, and reading on from here gives the same
pub record Onward (s : List ℕ) (count place line : ℕ) (a₀ b₀ a b : List ℕ) (i at l : ℕ) : Type 0 where
  pub answer : answer_of count (nodes_at count s place line) ≡ answer_of count (nodes_at (count - i) s at l)
  pub productions : put_at 0 (nodes_at count s place line) a₀ ≡ put_at i (nodes_at (count - i) s at l) a
  pub owns : put_owns_at 0 (nodes_at count s place line) b₀ ≡ put_owns_at i (nodes_at (count - i) s at l) b

module _ (s : List ℕ) (count place line : ℕ) (a₀ b₀ : List ℕ) where
  abbrev all : Nodes
  all = nodes_at count s place line

  module _ (a b : List ℕ) (i at l : ℕ) (k : Onward s count place line a₀ b₀ a b i at l) where
    -- at the end
    pub onward_end : count ≤ i → (Ok (tree_read count at l) ≡ tree_answer all) × Stored all a₀ b₀ a b
    unfolding nodes_at
    onward_end h =
        let z : count - i ≡ 0 = omega arith in
        let e : answer_of count all ≡ Ok (tree_read count at l) = k.answer ∙ ap (λ (m : ℕ). answer_of count (nodes_at m s at l)) z in (
          sym e ∙ by_count count s place line all refl,
          stored_all count i all a₀ b₀ a b at l e (k.productions ∙ ap (λ (m : ℕ). put_at i (nodes_at m s at l) a) z) (k.owns ∙ ap (λ (m : ℕ). put_owns_at i (nodes_at m s at l) b) z),
        )

    module _ (less : i < count) (r : Step) (found : r ≡ frame_at s at l) where
      turn : nodes_at (count - i) s at l ≡ node_then r.frame l (nodes_at (count - (i + 1)) s r.place r.line)
      unfolding nodes_at
      turn =
          let z : count - i ≡ suc (count - (i + 1)) = omega arith in
          ap (λ (m : ℕ). nodes_at m s at l) z ∙ ap (λ (x : Step). node_then x.frame l (nodes_at (count - (i + 1)) s x.place x.line)) (sym found)

      -- a line that is no node's
      pub onward_stop : ((p o : ℕ) → r.frame ≡ Node p o → ⊥) → (x : Result ReadTree Misread) → x ≡ tree_answer (stray r.frame l)
          → (x ≡ tree_answer all) × Stored all a₀ b₀ a b
      onward_stop q x e =
          let w = strayed r.frame l in
          let g : nodes_at (count - i) s at l ≡ bad w.refusal w.at = turn ∙ no_node r.frame l (nodes_at (count - (i + 1)) s r.place r.line) q ∙ w.is in
          let f : answer_of count all ≡ Err (misread w.refusal w.at) = k.answer ∙ ap (answer_of count) g in
          (e ∙ ap tree_answer w.is ∙ sym f ∙ by_count count s place line all refl, stored_none count all a₀ b₀ a b w.refusal w.at f)

      -- a node's
      pub onward_next : (p o : ℕ) → r.frame ≡ Node p o → (a' b' : List ℕ) → a' ≡ set a i p → b' ≡ set b i o → Onward s count place line a₀ b₀ a' b' (i + 1) r.place r.line
      onward_next p o f a' b' x y =
          let more : Nodes = nodes_at (count - (i + 1)) s r.place r.line in
          let g : nodes_at (count - i) s at l ≡ node_before p o more = turn ∙ ap (λ (v : Frame). node_then v l more) f in
          record {
            answer = k.answer ∙ ap (answer_of count) g ∙ answer_before count p o more;
            productions = k.productions ∙ ap (λ (v : Nodes). put_at i v a) g ∙ put_before i p o more a ∙ (λ j. put_at (sym (add-one i) j) more (sym x j));
            owns = k.owns ∙ ap (λ (v : Nodes). put_owns_at i v b) g ∙ put_owns_before i p o more b ∙ (λ j. put_owns_at (sym (add-one i) j) more (sym y j));
          }

-- the command's own line
module _ (s : List ℕ) (place line : ℕ) (r : Step) (found : r ≡ frame_at s place line) where
  by_load : tree_at s place line ≡ load_then r.frame line (λ n. nodes_at n s r.place r.line)
  unfolding tree_at
  by_load = ap (λ (x : Step). load_then x.frame line (λ n. nodes_at n s x.place x.line)) (sym found)

  pub load_lines : (n : ℕ) → r.frame ≡ Change (Load n) → tree_at s place line ≡ nodes_at n s r.place r.line
  load_lines n e = by_load ∙ ap (λ (f : Frame). load_then f line (λ m. nodes_at m s r.place r.line)) e

  pub load_stray : load_then r.frame line (λ n. nodes_at n s r.place r.line) ≡ stray r.frame line → (x : Result ReadTree Misread) → x ≡ tree_answer (stray r.frame line) → (a b a' b' : List ℕ)
      → (x ≡ tree_answer (tree_at s place line)) × Stored (tree_at s place line) a b a' b'
  load_stray q x e a b a' b' =
      let w = strayed r.frame line in
      let g : tree_at s place line ≡ bad w.refusal w.at = by_load ∙ q ∙ w.is in
      rw g (e ∙ ap tree_answer w.is, tt)
