-- Writing a tree: what is answered, lengths, and where each line goes. Assumes nothing.
use mathlib.Core.Path.{◌≡◌, refl, ap, sym, ◌∙◌}
use mathlib.Core.List.{List, [], ◌∷◌}
use mathlib.Core.Logic.{⊎_elim}
use Rattle.std.proofs.Common.{Err}
use Prim.Native.Nat.{ℕ, zero, suc, ◌+◌, ◌*◌, ◌≤◌, ◌<◌, ◌^◌}
use native.Mathlib.Omega.{arith}
use lib.ListN.{length, length-append}
use lib.Seq.{sets}
use Rattle.text_line.specs.Text.{field, eight, line_text}
use Rattle.text_line.proofs.Values.{lt_or_ge}
use Rattle.text_line.proofs.Fields.{fields_join, line_length}
use Rattle.text_line.proofs.Out.{sets_append}
use Rattle.refusal.specs.Numbers.{number_of}
use Rattle.refusal.specs.declared.Refusal.{Refusal}
use Rattle.refusal.specs.Orders.{refusal_by}
use Rattle.refusal.proofs.Distinct.{number_low}
use Rattle.table.specs.Judge.{judge_table}
use Rattle.refusal.proofs.Orders.{or_none}
use Rattle.tree.specs.Refusals.{tree_refusal}
use Rattle.tree.proofs.Handed.{too_large, unequal}
use Rattle.text_frame.specs.Text.{fields_of, text_of}
use Rattle.text_frame.specs.declared.Frame.TheVariants.{Node, Change}
use Rattle.text_frame.specs.declared.Change.TheVariants.{Load}
use Rattle.text_tree.specs.Text.{nodes_text, tree_text}
use Rattle.text_tree.specs.Written.{refusal_of, written_of, buffer_after}
use Rattle.text_tree.proofs.Numbers.{by_number}

-- what is answered for a refusal, and what becomes of the buffer
answer_by : (n room : ℕ) (text : List ℕ) → 0 < n → Err (refusal_of n) ≡ written_of n room text
answer_by zero room text h = absurd (omega arith)
answer_by (suc n) room text h = refl

pub refused_answer : (r : Refusal) (room : ℕ) (text : List ℕ) → Err r ≡ written_of (number_of r) room text
refused_answer r room text = ap Err (sym (by_number r)) ∙ answer_by (number_of r) room text (number_low r)

buffer_by : (n : ℕ) (buffer text : List ℕ) → 0 < n → buffer ≡ buffer_after n buffer text
buffer_by zero buffer text h = absurd (omega arith)
buffer_by (suc n) buffer text h = refl

pub refused_buffer : (r : Refusal) (buffer text : List ℕ) → buffer ≡ buffer_after (number_of r) buffer text
refused_buffer r buffer text = buffer_by (number_of r) buffer text (number_low r)

-- the lines of a tree, as the two numbers that are written
pub node_shown : (p o : ℕ) → p < 2 ^ 8 → line_text (field 4 (1280 + p) ∷ field 16 o ∷ []) ≡ text_of (Node p o)
unfolding text_of fields_of
node_shown p o h = fields_join 2 5 2 p (eight o ∷ []) h

pub load_shown : (n : ℕ) → line_text (field 2 6 ∷ field 4 n ∷ []) ≡ text_of (Change (Load n))
unfolding text_of fields_of
load_shown n = refl

-- how long they are
pub node_length : (p o : ℕ) → length (text_of (Node p o)) ≡ 21
unfolding text_of fields_of
node_length p o = line_length (fields_of (Node p o))

pub load_length : (n : ℕ) → length (text_of (Change (Load n))) ≡ 7
unfolding text_of fields_of
load_length n = line_length (fields_of (Change (Load n)))

-- nodes
pub node_stored : {ps owns ps' owns' : List ℕ} (p o place : ℕ) (l : List ℕ) → ps ≡ p ∷ ps' → owns ≡ o ∷ owns'
    → sets l place (nodes_text ps owns) ≡ sets (sets l place (text_of (Node p o))) (place + 21) (nodes_text ps' owns')
unfolding nodes_text
node_stored {ps' = ps'} {owns' = owns'} p o place l e f =
    rw (e, f) (sets_append (text_of (Node p o)) (nodes_text ps' owns') l place ∙ ap (λ (n : ℕ). sets (sets l place (text_of (Node p o))) (place + n) (nodes_text ps' owns')) (node_length p o))

pub nodes_none : (ps owns : List ℕ) → length ps ≡ 0 → nodes_text ps owns ≡ []
unfolding nodes_text
nodes_none [] owns e = refl
nodes_none (p ∷ ps) owns e = absurd (omega arith)

nodes_length : (ps owns : List ℕ) → length ps ≡ length owns → length (nodes_text ps owns) ≡ 21 * length ps
unfolding nodes_text
nodes_length [] owns e = refl
nodes_length (p ∷ ps) [] e = absurd (omega arith)
nodes_length (p ∷ ps) (o ∷ owns) e =
    length-append (text_of (Node p o)) (nodes_text ps owns) ∙ omega (arith, node_length p o, nodes_length ps owns (omega arith))

pub tree_length : (ps owns : List ℕ) → length ps ≡ length owns → length (tree_text ps owns) ≡ 7 + 21 * length ps
unfolding tree_text
tree_length ps owns e = length-append (text_of (Change (Load (length ps)))) (nodes_text ps owns) ∙ omega (arith, load_length (length ps), nodes_length ps owns e)

pub tree_stored : (ps owns l : List ℕ) → sets l 0 (tree_text ps owns) ≡ sets (sets l 0 (text_of (Change (Load (length ps))))) 7 (nodes_text ps owns)
unfolding tree_text
tree_stored ps owns l =
    let z : 0 + length (text_of (Change (Load (length ps)))) ≡ 7 = omega (arith, load_length (length ps)) in
    sets_append (text_of (Change (Load (length ps)))) (nodes_text ps owns) l 0
    ∙ ap (λ (n : ℕ). sets (sets l 0 (text_of (Change (Load (length ps))))) n (nodes_text ps owns)) z

-- a tree that is not refused
pub record Handed (ps owns : List ℕ) : Type 0 where
  pub few : length ps ≤ 512
  pub equal : length ps ≡ length owns

table_first : (t ps owns : List ℕ) → tree_refusal t ps owns ≡ 0 → judge_table t ≡ 0
unfolding tree_refusal refusal_by
table_first t ps owns e = (or_none (judge_table t) _ e).0

pub handed : (t ps owns : List ℕ) → tree_refusal t ps owns ≡ 0 → Handed ps owns
handed t ps owns e =
    let j : judge_table t ≡ 0 = table_first t ps owns e in
    let few : length ps ≤ 512 = ⊎_elim (λ h. absurd (omega (arith, too_large t ps owns j h))) (λ h. h) (lt_or_ge 512 (length ps)) in
    let low : length owns ≤ length ps = ⊎_elim (λ h. absurd (omega (arith, unequal t ps owns j few (λ k. omega arith)))) (λ h. h) (lt_or_ge (length ps) (length owns)) in
    let high : length ps ≤ length owns = ⊎_elim (λ h. absurd (omega (arith, unequal t ps owns j few (λ k. omega arith)))) (λ h. h) (lt_or_ge (length owns) (length ps)) in
    record { few = few; equal = omega arith }
