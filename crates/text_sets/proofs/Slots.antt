-- The text of a dump, slot by slot, and what a look at the held tree shows of it. Assumes nothing.
use mathlib.Core.Path.{◌≡◌, refl, ap, sym, ◌∙◌}
use mathlib.Core.Bool.{Bool, true, false, cond}
use mathlib.Core.List.{List, [], ◌∷◌, ◌++◌, map}
use Prim.Native.Nat.{ℕ, suc, ◌+◌, ◌-◌, ◌*◌, ◌≤◌, ◌<◌}
use native.Mathlib.Omega.{arith}
use native.Mathlib.Numerals.{add-one}
use lib.ListN.{length, take, length-append}
use lib.Seq.{sets}
use Rattle.text_line.specs.Text.{byte, two, eight}
use Rattle.text_line.proofs.Fields.{line_length}
use Rattle.text_line.proofs.Out.{sets_append}
use Rattle.table.proofs.Limits.{limits}
use Rattle.circles.specs.Ranked.{keep, up_from}
use Rattle.climb.specs.Memory.{at}
use Rattle.wire.specs.Instances.{declared}
use Rattle.tree.proofs.Numbered.{judged_numbered}
use Rattle.update.specs.declared.Record.{Record}
use Rattle.update.specs.Memories.{Memory, nodes_of, owns_of}
use Rattle.update.specs.Refusals.{held_refusal}
use Rattle.update.specs.Calls.{dumped}
use Rattle.update_judge.specs.Order.{Grounded}
use Rattle.update_judge.proofs.Orders.{tree_sound}
use Rattle.text_frame.specs.Out.{set_text, dump_text}
use Rattle.text_sets.specs.Telling.{held_in, told_from, slot_text, Tellable}
use Rattle.text_sets.specs.Calls.{dumped_text}

pub set_length : (x v : ℕ) → length (set_text x v) ≡ 23
unfolding set_text
set_length x v = line_length (byte 0x13 ∷ two x ∷ eight v ∷ [])

module _ (t ns l : List ℕ) where
  by_slot : (x : ℕ) (k : List ℕ) (b : Bool) → dump_text (map (held_in l) (cond b (x ∷ k) k)) ≡ cond b (set_text x (at l x)) [] ++ dump_text (map (held_in l) k)
  unfolding dump_text
  by_slot x k true = refl
  by_slot x k false = refl

  pub slot_next : (x n : ℕ) → told_from t ns l x (suc n) ≡ slot_text t ns l x ++ told_from t ns l (suc x) n
  unfolding told_from slot_text keep up_from
  slot_next x n = by_slot x (keep (declared t ns) (up_from (suc x) n)) (declared t ns x)

  pub slot_none : (x : ℕ) → told_from t ns l x 0 ≡ []
  unfolding told_from keep up_from dump_text
  slot_none x = refl

  pub slot_told : (x : ℕ) → declared t ns x ≡ true → slot_text t ns l x ≡ set_text x (at l x)
  unfolding slot_text
  slot_told x e = rw e

  pub slot_empty : (x : ℕ) → declared t ns x ≡ false → slot_text t ns l x ≡ []
  unfolding slot_text
  slot_empty x e = rw e

  -- what is left of the text at slot x of `most`
  abbrev pub rest : ℕ → ℕ → List ℕ
  rest most x = told_from t ns l x (most - x)

  pub rest_all : (most : ℕ) → rest most 0 ≡ told_from t ns l 0 most
  rest_all most = let e : most - 0 ≡ most = omega arith in ap (told_from t ns l 0) e

  module _ (most x : ℕ) where
    pub rest_next : x < most → rest most x ≡ slot_text t ns l x ++ rest most (x + 1)
    rest_next h =
        let e : most - x ≡ suc (most - (x + 1)) = omega arith in
        ap (told_from t ns l x) e ∙ slot_next x (most - (x + 1)) ∙ ap (λ (k : ℕ). slot_text t ns l x ++ told_from t ns l k (most - (x + 1))) (sym (add-one x))

    pub rest_length : x < most → length (rest most x) ≡ length (slot_text t ns l x) + length (rest most (x + 1))
    rest_length h = ap length (rest_next h) ∙ length-append (slot_text t ns l x) (rest most (x + 1))

    pub rest_none : most ≤ x → rest most x ≡ []
    rest_none h = let e : most - x ≡ 0 = omega arith in ap (told_from t ns l x) e ∙ slot_none x

    pub stored_next : x < most → (buffer : List ℕ) (place : ℕ)
        → sets buffer place (rest most x) ≡ sets (sets buffer place (slot_text t ns l x)) (place + length (slot_text t ns l x)) (rest most (x + 1))
    stored_next h buffer place = ap (sets buffer place) (rest_next h) ∙ sets_append (slot_text t ns l x) (rest most (x + 1)) buffer place

-- the dump of a record's tree is that of its nodes
pub dump_told_lem : (t : List ℕ) (m : Memory) (r : Record) → told_from t (take r.nodes m.productions) m.sets 0 (8 * r.nodes) ≡ dumped_text t m r
unfolding told_from dumped
dump_told_lem t m r = refl

-- a sound table and tree, within their limits
pub tellable : (t : List ℕ) (m : Memory) (r : Record) → Grounded t m r → held_refusal t m r ≡ 0 → Tellable t m.productions m.sets r.nodes
tellable t m r g e = record {
  limits = limits t g.table;
  numbered = judged_numbered t (nodes_of m r.nodes) (0 ∷ []) (tree_sound t (nodes_of m r.nodes) (owns_of m r.nodes) 0 e);
  few = g.within.nodes;
  long = omega (arith, g.room.productions, g.within.nodes);
  slots = omega (arith, g.room.sets, g.within.nodes);
}
