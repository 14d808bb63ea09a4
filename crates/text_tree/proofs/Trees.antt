-- Trees written and read back, and read and written back. Assumes nothing.
use mathlib.Core.Path.{◌≡◌, refl, ap, sym, ◌∙◌}
use mathlib.Core.List.{List, [], ◌∷◌, ◌++◌, append_assoc, append-nil}
use Prim.Native.Nat.{ℕ, zero, suc, ◌+◌}
use native.Mathlib.Omega.{arith}
use native.Mathlib.Nat.{add-zero}
use lib.ListN.{length, take, drop, length-append}
use lib.Seq.{take-add, drop-drop}
use Rattle.text_frame.specs.Frames.{frame_at, line_after}
use Rattle.text_frame.specs.Text.{text_of}
use Rattle.text_tree.specs.Text.{nodes_text, tree_text}
use Rattle.text_tree.specs.Planting.{Nodes, good, bad, node_before, node_then, nodes_at, load_then, tree_at}
use Rattle.text_frame.specs.Laws.{shifted, Fits, Forth, lines_after}
use Rattle.text_tree.specs.Laws.{AllFit, TreeBack, TreeForthAll}
use Rattle.text_frame.specs.declared.Step.{Step}
use Rattle.text_frame.specs.declared.Frame.{Frame}
use Rattle.text_frame.specs.declared.Frame.TheVariants.{Rule, Node, Point, Change, Dump, Refused, Over}
use Rattle.text_frame.specs.declared.Change.TheVariants.{Load, Replace, Corrections}
use Rattle.text_frame.proofs.Back.{frame_behind, frame_back}
use Rattle.text_frame.proofs.Forth.{frame_forth}
use Rattle.text_frame.proofs.Bounds.{Bounded, bounded}

-- a frame that was written stands behind any text
pub frame_at_lem : (pre : List ℕ) (f : Frame) (rest : List ℕ) (line : ℕ) → Fits f
    → frame_at (pre ++ (text_of f ++ rest)) (length pre) line ≡ record { frame = f; place = length (pre ++ text_of f); line = line_after line }
frame_at_lem pre f rest line h =
    let e : length pre + length (text_of f) ≡ length (pre ++ text_of f) = sym (length-append pre (text_of f)) in
    ap (λ (p : ℕ). frame_at (pre ++ (text_of f ++ rest)) p line) (sym (add-zero (length pre))) ∙ frame_behind pre (text_of f ++ rest) 0 line ∙ ap (shifted (length pre)) (frame_back f rest line h)
    ∙ ap (λ (p : ℕ). record { frame = f; place = p; line = line_after line }) e

pub nodes_back : (ps owns pre rest : List ℕ) (line : ℕ) → AllFit ps owns
    → nodes_at (length ps) (pre ++ (nodes_text ps owns ++ rest)) (length pre) line ≡ good ps owns (length (pre ++ nodes_text ps owns)) (lines_after (length ps) line)
unfolding nodes_at nodes_text
nodes_back [] [] pre rest line fit = ap (λ (l : List ℕ). good [] [] (length l) line) (sym (append-nil pre))
nodes_back [] (o ∷ owns) pre rest line fit = absurd fit
nodes_back (p ∷ ps) [] pre rest line fit = absurd fit
nodes_back (p ∷ ps) (o ∷ owns) pre rest line fit =
    let t : List ℕ = text_of (Node p o) in
    let more : List ℕ = nodes_text ps owns in
    let e : pre ++ ((t ++ more) ++ rest) ≡ pre ++ (t ++ (more ++ rest)) = ap (λ (x : List ℕ). pre ++ x) (append_assoc t more rest) in
    let d : pre ++ (t ++ (more ++ rest)) ≡ (pre ++ t) ++ (more ++ rest) = sym (append_assoc pre t (more ++ rest)) in
    let f = frame_at_lem pre (Node p o) (more ++ rest) line (fit.0, fit.1.0) in
    let g : nodes_at (length ps) (pre ++ (t ++ (more ++ rest))) (length (pre ++ t)) (line_after line) ≡ good ps owns (length ((pre ++ t) ++ more)) (lines_after (length ps) (line_after line)) =
    ap (λ (x : List ℕ). nodes_at (length ps) x (length (pre ++ t)) (line_after line)) d ∙ nodes_back ps owns (pre ++ t) rest (line_after line) fit.1.1 in
    let w : length ((pre ++ t) ++ more) ≡ length (pre ++ (t ++ more)) = ap length (append_assoc pre t more) in
    rw e (rw f (rw g (ap (λ (k : ℕ). good (p ∷ ps) (o ∷ owns) k (lines_after (length ps) (line_after line))) w)))

pub tree_back : TreeBack
unfolding tree_at tree_text
tree_back ps owns rest line fit few =
    let t : List ℕ = text_of (Change (Load (length ps))) in
    let more : List ℕ = nodes_text ps owns in
    let e : (t ++ more) ++ rest ≡ t ++ (more ++ rest) = append_assoc t more rest in
    let f = frame_back (Change (Load (length ps))) (more ++ rest) line few in
    rw e (rw f (nodes_back ps owns t rest (line_after line) fit))

-- a row of nodes that was read
pub record Rowed (s : List ℕ) (place n : ℕ) (ps owns : List ℕ) (end : ℕ) : Type 0 where
  pub text : take (length (nodes_text ps owns)) (drop place s) ≡ nodes_text ps owns
  pub behind : end ≡ place + length (nodes_text ps owns)
  pub fit : AllFit ps owns
  pub count : length ps ≡ n

record Read (f : Frame) (rest : Nodes) (ps owns : List ℕ) (end next : ℕ) : Type 0 where
  pub p : ℕ
  pub o : ℕ
  pub qs : List ℕ
  pub rs : List ℕ
  pub node : f ≡ Node p o
  pub others : rest ≡ good qs rs end next
  pub productions : ps ≡ p ∷ qs
  pub sets : owns ≡ o ∷ rs

node_first : (p o : ℕ) (rest : Nodes) (ps owns : List ℕ) (end next : ℕ) → node_before p o rest ≡ good ps owns end next → Read (Node p o) rest ps owns end next
node_first p o (good qs rs a l) ps owns end next e = record {
  p = p;
  o = o;
  qs = qs;
  rs = rs;
  node = refl;
  others = let x : a ≡ end = cc in let y : l ≡ next = cc in cc;
  productions = cc;
  sets = cc;
}
node_first p o (bad r l) ps owns end next e = absurd (let z : ◌≡◌ {A = ℕ} 0 1 = cc in omega arith)

first_node : (f : Frame) (line : ℕ) (rest : Nodes) (ps owns : List ℕ) (end next : ℕ) → node_then f line rest ≡ good ps owns end next → Read f rest ps owns end next
first_node (Rule a) line rest ps owns end next e = absurd (let z : ◌≡◌ {A = ℕ} 0 1 = cc in omega arith)
first_node (Node p o) line rest ps owns end next e = node_first p o rest ps owns end next e
first_node (Point a b) line rest ps owns end next e = absurd (let z : ◌≡◌ {A = ℕ} 0 1 = cc in omega arith)
first_node (Change a) line rest ps owns end next e = absurd (let z : ◌≡◌ {A = ℕ} 0 1 = cc in omega arith)
first_node Dump line rest ps owns end next e = absurd (let z : ◌≡◌ {A = ℕ} 0 1 = cc in omega arith)
first_node (Refused a b) line rest ps owns end next e = absurd (let z : ◌≡◌ {A = ℕ} 0 1 = cc in omega arith)
first_node Over line rest ps owns end next e = absurd (let z : ◌≡◌ {A = ℕ} 0 1 = cc in omega arith)

-- two parts of a text, one behind the other
pub join_parts : (s a b : List ℕ) (place : ℕ) → take (length a) (drop place s) ≡ a → take (length b) (drop (place + length a) s) ≡ b → take (length (a ++ b)) (drop place s) ≡ a ++ b
join_parts s a b place e f =
    rw (length-append a b, take-add (length a) (length b) (drop place s), drop-drop (length a) place s, e, f)

no_nodes : (s : List ℕ) (place : ℕ) → Rowed s place 0 [] [] place
unfolding nodes_text
no_nodes s place = record { text = refl; behind = omega arith; fit = tt; count = refl }

one_more : (s : List ℕ) (place line n p o : ℕ) (qs rs : List ℕ) (end : ℕ) → (frame_at s place line).frame ≡ Node p o → Rowed s (frame_at s place line).place n qs rs end → Rowed s place (suc n) (p ∷ qs) (o ∷ rs) end
unfolding nodes_text
one_more s place line n p o qs rs end e w =
    let b : Bounded (Node p o) = rw e at (bounded s place line) in
    let fit : Fits (frame_at s place line).frame = rw e b in
    let f : Forth s place line (Node p o) = rw e at (frame_forth s place line fit) in
    let k : (frame_at s place line).place ≡ place + length (text_of (Node p o)) = f.behind in
    let rest : take (length (nodes_text qs rs)) (drop (place + length (text_of (Node p o))) s) ≡ nodes_text qs rs = rw k at w.text in
    record {
      text = join_parts s (text_of (Node p o)) (nodes_text qs rs) place f.text rest;
      behind = omega (arith, k, w.behind, length-append (text_of (Node p o)) (nodes_text qs rs));
      fit = (b.0, (b.1, w.fit));
      count = ap suc w.count;
    }

same_row : (s : List ℕ) (place n : ℕ) (ps owns : List ℕ) (end : ℕ) (qs rs : List ℕ) → ps ≡ qs → owns ≡ rs → Rowed s place n qs rs end → Rowed s place n ps owns end
same_row s place n ps owns end qs rs a b w = rw (a, b) w

pub nodes_forth : (n : ℕ) (s : List ℕ) (place line : ℕ) (ps owns : List ℕ) (end next : ℕ) → nodes_at n s place line ≡ good ps owns end next → Rowed s place n ps owns end
unfolding nodes_at
nodes_forth zero s place line ps owns end next e =
    let x : ps ≡ [] = cc in
    let y : owns ≡ [] = cc in
    let z : end ≡ place = cc in
    rw (x, y, z) (no_nodes s place)
nodes_forth (suc n) s place line ps owns end next e =
    let step : Step = frame_at s place line in
    let r = first_node step.frame line (nodes_at n s step.place step.line) ps owns end next e in
    same_row s place (suc n) ps owns end (r.p ∷ r.qs) (r.o ∷ r.rs) r.productions r.sets
    (one_more s place line n r.p r.o r.qs r.rs end r.node (nodes_forth n s step.place step.line r.qs r.rs end next r.others))

-- a tree
record Loaded (s : List ℕ) (place line : ℕ) (ps owns : List ℕ) (end next : ℕ) : Type 0 where
  pub n : ℕ
  pub load : (frame_at s place line).frame ≡ Change (Load n)
  pub nodes : nodes_at n s (frame_at s place line).place (frame_at s place line).line ≡ good ps owns end next

first_load : (s : List ℕ) (place line : ℕ) (f : Frame) (ps owns : List ℕ) (end next : ℕ) → (frame_at s place line).frame ≡ f
    → load_then f line (λ n. nodes_at n s (frame_at s place line).place (frame_at s place line).line) ≡ good ps owns end next → Loaded s place line ps owns end next
first_load s place line (Rule a) ps owns end next h e = absurd (let z : ◌≡◌ {A = ℕ} 0 1 = cc in omega arith)
first_load s place line (Node a b) ps owns end next h e = absurd (let z : ◌≡◌ {A = ℕ} 0 1 = cc in omega arith)
first_load s place line (Point a b) ps owns end next h e = absurd (let z : ◌≡◌ {A = ℕ} 0 1 = cc in omega arith)
first_load s place line (Change (Load n)) ps owns end next h e = record { n = n; load = h; nodes = e }
first_load s place line (Change (Replace a b)) ps owns end next h e = absurd (let z : ◌≡◌ {A = ℕ} 0 1 = cc in omega arith)
first_load s place line (Change (Corrections a)) ps owns end next h e = absurd (let z : ◌≡◌ {A = ℕ} 0 1 = cc in omega arith)
first_load s place line Dump ps owns end next h e = absurd (let z : ◌≡◌ {A = ℕ} 0 1 = cc in omega arith)
first_load s place line (Refused a b) ps owns end next h e = absurd (let z : ◌≡◌ {A = ℕ} 0 1 = cc in omega arith)
first_load s place line Over ps owns end next h e = absurd (let z : ◌≡◌ {A = ℕ} 0 1 = cc in omega arith)

pub tree_forth : TreeForthAll
unfolding tree_at tree_text
tree_forth s place line ps owns end next e =
    let r = first_load s place line (frame_at s place line).frame ps owns end next refl e in
    let w = nodes_forth r.n s (frame_at s place line).place (frame_at s place line).line ps owns end next r.nodes in
    let n : ℕ = length ps in
    let h : (frame_at s place line).frame ≡ Change (Load n) = r.load ∙ ap (λ (m : ℕ). Change (Load m)) (sym w.count) in
    let b : Bounded (Change (Load n)) = rw h at (bounded s place line) in
    let fit : Fits (frame_at s place line).frame = rw h b in
    let f : Forth s place line (Change (Load n)) = rw h at (frame_forth s place line fit) in
    let k : (frame_at s place line).place ≡ place + length (text_of (Change (Load n))) = f.behind in
    let rest : take (length (nodes_text ps owns)) (drop (place + length (text_of (Change (Load n)))) s) ≡ nodes_text ps owns = rw k at w.text in
    record {
      text = join_parts s (text_of (Change (Load n))) (nodes_text ps owns) place f.text rest;
      behind = omega (arith, k, w.behind, length-append (text_of (Change (Load n))) (nodes_text ps owns));
      fit = w.fit;
    }
