-- The lines of nodes and of a tree are read exactly as they stand. Assumes nothing.
use mathlib.Core.Path.{◌≡◌, refl, ap, sym, ◌∙◌}
use mathlib.Core.List.{List}
use Prim.Native.Nat.{ℕ, zero, suc, ◌+◌, ◌<◌}
use native.Mathlib.Omega.{arith}
use lib.ListN.{length}
use Rattle.refusal.specs.declared.Refusal.{Refusal}
use Rattle.refusal.specs.declared.Refusal.TheVariants as why
use Rattle.text_line.specs.Exactly.{NoLine}
use Rattle.text_frame.specs.Frames.{line_after, frame_at}
use Rattle.text_frame.specs.Exactly.{IsFrame, Astray}
use Rattle.text_frame.specs.declared.Step.{Step}
use Rattle.text_frame.specs.declared.Frame.{Frame}
use Rattle.text_frame.specs.declared.Frame.TheVariants.{Node, Change}
use Rattle.text_frame.specs.declared.Change.TheVariants.{Load, Replace, Corrections}
use Rattle.text_frame.proofs.Exactly.{Expects, bad as no_line, astray, there, Stray, refused, ended, strange, expects, found_bad, found_there, found_stray, Grouped, a_rule as is-rule, a_node as is-node, a_point as is-point, a_change as is-change, a_dump as is-dump, grouped, rule_type_lem, change_type_lem, right_length_lem}
use Rattle.text_tree.specs.Planting.{Nodes, good, bad, node_before, node_then, nodes_at, load_then, tree_at}
use Rattle.text_tree.specs.Refused.{NodeLines, none, node, NodesRead, all, by13, by14, NodesExactly, LinesRead, first13, first14, nodes, LinesExactly}

-- ---- by the frame that is found

-- a frame of another type than a node's
other_group : {line type : ℕ} {f : Frame} → Grouped f type → (type ≡ 5 → ⊥) → (rest : Nodes) → node_then f line rest ≡ bad why.Frame line
other_group (is-rule r) h rest = refl
other_group (is-node p o) h rest = absurd (h refl)
other_group (is-point r n) h rest = refl
other_group (is-change c) h rest = refl
other_group is-dump h rest = refl

node_stray : {line : ℕ} {f : Frame} → Stray line 5 f → (rest : Nodes) → node_then f line rest ≡ bad why.Frame line
node_stray refused rest = refl
node_stray ended rest = refl
node_stray (strange w h) rest = other_group (grouped w) h rest

-- and than a load's
other_command : {line type : ℕ} {f : Frame} → Grouped f type → (type ≡ 6 → ⊥) → (rest : ℕ → Nodes) → load_then f line rest ≡ bad why.Frame line
other_command (is-rule r) h rest = refl
other_command (is-node p o) h rest = refl
other_command (is-point r n) h rest = refl
other_command (is-change (Load n)) h rest = absurd (h refl)
other_command (is-change (Replace r n)) h rest = refl
other_command (is-change (Corrections n)) h rest = refl
other_command is-dump h rest = refl

load_stray : {line : ℕ} {f : Frame} → Stray line 6 f → (rest : ℕ → Nodes) → load_then f line rest ≡ bad why.Frame line
load_stray refused rest = refl
load_stray ended rest = refl
load_stray (strange w h) rest = other_command (grouped w) h rest

-- a frame of type 5 is a node of 20 digits, and one of type 6 a load of 6
record IsNode (s : List ℕ) (place : ℕ) : Type 0 where
  production : ℕ
  own : ℕ
  frame : IsFrame s place (Node production own) 5 20

record IsLoad (s : List ℕ) (place : ℕ) : Type 0 where
  count : ℕ
  frame : IsFrame s place (Change (Load count)) 6 6

module _ {s : List ℕ} {place : ℕ} where
  a_node : {f : Frame} {type n : ℕ} → type ≡ 5 → Grouped f type → IsFrame s place f type n → IsNode s place
  a_node e (is-rule r) w = absurd (omega (arith, (rule_type_lem r).1))
  a_node e (is-node p o) w = record { production = p; own = o; frame = rw (right_length_lem w.fields) at w }
  a_node e (is-point r n) w = absurd (omega arith)
  a_node e (is-change c) w = absurd (omega (arith, (change_type_lem c).0))
  a_node e is-dump w = absurd (omega arith)

  a_load : {f : Frame} {type n : ℕ} → type ≡ 6 → Grouped f type → IsFrame s place f type n → IsLoad s place
  a_load e (is-rule r) w = absurd (omega (arith, (rule_type_lem r).1))
  a_load e (is-node p o) w = absurd (omega arith)
  a_load e (is-point r n) w = absurd (omega arith)
  a_load e (is-change (Load n)) w = record { count = n; frame = rw (right_length_lem w.fields) at w }
  a_load e (is-change (Replace r n)) w = absurd (omega arith)
  a_load e (is-change (Corrections n)) w = absurd (omega arith)
  a_load e is-dump w = absurd (omega arith)

module _ (s : List ℕ) where
  -- ---- one line of several nodes'

  step_bad : (n place line : ℕ) → NoLine s place → nodes_at (suc n) s place line ≡ bad why.Line line
  unfolding nodes_at
  step_bad n place line w = ap (λ (x : Step). node_then x.frame line (nodes_at n s x.place x.line)) (found_bad s place line w)

  step_stray : (n place line : ℕ) → Astray s place 5 → nodes_at (suc n) s place line ≡ bad why.Frame line
  unfolding nodes_at
  step_stray n place line w = node_stray (found_stray s place line 5 w) (nodes_at n s (frame_at s place line).place (frame_at s place line).line)

  step_node : (n place line p o : ℕ) → IsFrame s place (Node p o) 5 20 → nodes_at (suc n) s place line ≡ node_before p o (nodes_at n s (place + 21) (line_after line))
  unfolding nodes_at
  step_node n place line p o w = ap (λ (x : Step). node_then x.frame line (nodes_at n s x.place x.line)) (found_there s place line w)

  -- ---- what is read stands there

  one_more : {n place line p o : ℕ} {x : Nodes} → IsFrame s place (Node p o) 5 20 → NodesRead s n (place + 21) (line_after line) x → NodesRead s (suc n) place line (node_before p o x)
  one_more w (all l e) = all (node w l) (omega arith)
  one_more w (by13 l h b) = by13 (node w l) (omega arith) b
  one_more w (by14 l h b) = by14 (node w l) (omega arith) b

  nodes_to : (n place line : ℕ) → NodesRead s n place line (nodes_at n s place line)
  unfolding nodes_at
  nodes_to zero place line = all none refl
  nodes_to (suc n) place line = by (expects s place line 5) (nodes_to n (place + 21) (line_after line))
    where
      by : Expects s place 5 → NodesRead s n (place + 21) (line_after line) (nodes_at n s (place + 21) (line_after line)) → NodesRead s (suc n) place line (nodes_at (suc n) s place line)
      by (no_line w) rest = rw (step_bad n place line w) (by13 none (omega arith) w)
      by (astray w) rest = rw (step_stray n place line w) (by14 none (omega arith) w)
      by (there f m w) rest = let d = a_node refl (grouped w.fields) w in rw (step_node n place line d.production d.own d.frame) (one_more d.frame rest)

  -- ---- and what stands there is read

  all_from : {place line end next : ℕ} {ps os : List ℕ} → NodeLines s place line ps os end next → good ps os end next ≡ nodes_at (length ps) s place line
  unfolding nodes_at
  all_from none = refl
  all_from (node {place} {line} {p} {o} {ps = ps} w l) = ap (node_before p o) (all_from l) ∙ sym (step_node (length ps) place line p o w)

  bad_from : {place line at l : ℕ} {ps os : List ℕ} (r : Refusal) (m n : ℕ) → NodeLines s place line ps os at l → length ps < n → ((k : ℕ) → nodes_at (suc k) s at l ≡ bad r m) → bad r m ≡ nodes_at n s place line
  bad_from r m zero l h f = absurd (omega arith)
  bad_from r m (suc n) none h f = sym (f n)
  bad_from r m (suc n) (node {place} {line} {p} {o} w l) h f = ap (node_before p o) (bad_from {place = place + 21} {line = line_after line} r m n l (omega arith) f) ∙ sym (step_node n place line p o w)

  nodes_from : {n place line : ℕ} {x : Nodes} → NodesRead s n place line x → x ≡ nodes_at n s place line
  nodes_from {n} {place} {line} (all l e) = rw (← e) (all_from l)
  nodes_from {n} {place} {line} (by13 {at = at} {l = m} l h w) = bad_from why.Line m n l h (λ k. step_bad k at m w)
  nodes_from {n} {place} {line} (by14 {at = at} {l = m} l h w) = bad_from why.Frame m n l h (λ k. step_stray k at m w)

  -- ---- a tree's lines

  tree_bad : (place line : ℕ) → NoLine s place → tree_at s place line ≡ bad why.Line line
  unfolding tree_at
  tree_bad place line w = ap (λ (x : Step). load_then x.frame line (λ n. nodes_at n s x.place x.line)) (found_bad s place line w)

  tree_stray : (place line : ℕ) → Astray s place 6 → tree_at s place line ≡ bad why.Frame line
  unfolding tree_at
  tree_stray place line w = load_stray (found_stray s place line 6 w) (λ n. nodes_at n s (frame_at s place line).place (frame_at s place line).line)

  tree_load : (place line n : ℕ) → IsFrame s place (Change (Load n)) 6 6 → tree_at s place line ≡ nodes_at n s (place + 7) (line_after line)
  unfolding tree_at
  tree_load place line n w = ap (λ (x : Step). load_then x.frame line (λ n. nodes_at n s x.place x.line)) (found_there s place line w)

  tree_to : (place line : ℕ) → LinesRead s place line (tree_at s place line)
  tree_to place line = by (expects s place line 6)
    where
      by : Expects s place 6 → LinesRead s place line (tree_at s place line)
      by (no_line w) = rw (tree_bad place line w) (first13 w)
      by (astray w) = rw (tree_stray place line w) (first14 w)
      by (there f m w) = let d = a_load refl (grouped w.fields) w in rw (tree_load place line d.count d.frame) (nodes d.frame (nodes_to d.count (place + 7) (line_after line)))

  tree_from : {place line : ℕ} {x : Nodes} → LinesRead s place line x → x ≡ tree_at s place line
  tree_from {place} {line} (first13 w) = sym (tree_bad place line w)
  tree_from {place} {line} (first14 w) = sym (tree_stray place line w)
  tree_from {place} {line} (nodes {n} w r) = nodes_from r ∙ sym (tree_load place line n w)

pub nodes_exactly : NodesExactly
nodes_exactly s n place line x = (λ e. rw e (nodes_to s n place line), nodes_from s)

pub lines_exactly : LinesExactly
lines_exactly s place line x = (λ e. rw e (tree_to s place line), tree_from s)
