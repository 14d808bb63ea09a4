-- What a sound list of nodes says of its nodes, and a subtree exchanged for another of its symbol. Assumes nothing.
use Prim.Native.Nat.{ℕ, zero, suc, ◌+◌, ◌<◌}
use mathlib.Core.Path.{◌≡◌, refl, ap, sym, ◌∙◌}
use mathlib.Core.List.{List, [], ◌∷◌, ◌++◌, append_assoc}
use lib.ListN.{length, get_or, take, drop, length-append, length-drop, take-append-drop}
use lib.Seq.{drop-cons, drop-drop}
use native.Mathlib.Nat.{zero-add, suc-add, add_assoc}
use native.Mathlib.Decide.{dec_lt, ℕ_discrete}
use native.Mathlib.Omega.{arith}
use Rattle.table.specs.Words.{production_count, left_of, child_count, children_from, children}
use lib.Dec.{ltb, eqb}
use borrow.Author.Tests.{eq-eqb, ne_eqb}
use mathlib.Core.Bool.{cond}
use Rattle.tree.specs.Tree.{judge_nodes, size, span_end}
use Rattle.tree.proofs.Nodes.{judge_none, node_number, node_over, node_wrong, node_step}

pub row_length : (t : List ℕ) (p n k : ℕ) → length (children_from t p n k) ≡ n
unfolding children_from
row_length t p zero k = refl
row_length t p (suc n) k = ap suc (row_length t p n (suc k))

module _ (t : List ℕ) where
  pub no_end : (s : ℕ) (ss : List ℕ) → judge_nodes t [] (s ∷ ss) ≡ 0 → ⊥
  unfolding judge_nodes
  no_end s ss e = omega arith

  pub no_over : (n : ℕ) (ns : List ℕ) → judge_nodes t (n ∷ ns) [] ≡ 0 → ⊥
  no_over n ns e = elim (dec_lt n (production_count t)) [
    | yes h ↦ omega (arith, node_over t n ns h)
    | no h ↦ omega (arith, node_number t n ns [] (omega arith))
  ]

  -- what a sound list of nodes says of its first node
  pub record First (n : ℕ) (ns : List ℕ) (s : ℕ) (ss : List ℕ) : Type 0 where
    pub number : n < production_count t
    pub left : left_of t n ≡ s
    pub rest : judge_nodes t ns (children t n ++ ss) ≡ 0

  pub first : (n : ℕ) (ns : List ℕ) (s : ℕ) (ss : List ℕ) → judge_nodes t (n ∷ ns) (s ∷ ss) ≡ 0 → First n ns s ss
  first n ns s ss e = elim (dec_lt n (production_count t)) [
    | yes h ↦ elim (ℕ_discrete (left_of t n) s) [
      | yes l ↦ record { number = h; left = l; rest = sym (node_step t n ns s ss h l) ∙ e }
      | no l ↦ absurd (omega (arith, node_wrong t n ns s ss h l))
    ]
    | no h ↦ absurd (omega (arith, node_number t n ns (s ∷ ss) (omega arith)))
  ]

  -- sound nodes in front of others use up what they answer
  pub frame : (ps ws : List ℕ) → judge_nodes t ps ws ≡ 0 → (ss ys : List ℕ) → judge_nodes t (ps ++ ys) (ws ++ ss) ≡ judge_nodes t ys ss
  frame [] [] e ss ys = refl
  frame [] (s ∷ ws) e ss ys = absurd (no_end s ws e)
  frame (n ∷ ps) [] e ss ys = absurd (no_over n ps e)
  frame (n ∷ ps) (s ∷ ws) e ss ys =
      let f = first n ps s ws e in
      node_step t n (ps ++ ys) s (ws ++ ss) f.number f.left ∙ rw (← append_assoc) (frame ps (children t n ++ ws) f.rest ss ys)

  -- their size is their length
  pub frame_size : (ps ws : List ℕ) → judge_nodes t ps ws ≡ 0 → (k : ℕ) (ys : List ℕ) → size t (ps ++ ys) (length ws + k) ≡ length ps + size t ys k
  unfolding size
  frame_size [] [] e k ys = simp zero-add
  frame_size [] (s ∷ ws) e k ys = absurd (no_end s ws e)
  frame_size (n ∷ ps) [] e k ys = absurd (no_over n ps e)
  frame_size (n ∷ ps) (s ∷ ws) e k ys =
      let f = first n ps s ws e in
      rw (suc-add (length ws) k, suc-add (length ps))
      (ap suc (ap (size t (ps ++ ys)) (sym (add_assoc (child_count t n) (length ws) k) ∙ ap (λ j. j + k) (sym (length-append (children t n) ws ∙ ap (λ j. j + length ws) (row_length t n (child_count t n) 0)))) ∙ frame_size ps (children t n ++ ws) f.rest k ys))

  -- a node in a sound list of nodes: what is wanted from it on
  pub record From (ns : List ℕ) (r : ℕ) : Type 0 where
    pub wanted : List ℕ
    pub number : get_or ns r 0 < production_count t
    pub sound : judge_nodes t (drop r ns) (left_of t (get_or ns r 0) ∷ wanted) ≡ 0

  pub from : (ns ws : List ℕ) → judge_nodes t ns ws ≡ 0 → (r : ℕ) → r < length ns → From ns r
  from [] ws e r h = absurd (omega arith)
  from (n ∷ ns) [] e r h = absurd (no_over n ns e)
  from (n ∷ ns) (s ∷ ss) e zero h =
      let f = first n ns s ss e in
      record { wanted = ss; number = f.number; sound = rw f.left e }
  from (n ∷ ns) (s ∷ ss) e (suc r) h =
      let f = first n ns s ss e in
      let g = from ns (children t n ++ ss) f.rest r (omega arith) in
      record { wanted = g.wanted; number = g.number; sound = g.sound }

  -- sound nodes for the symbols ws and then ss part into those for ws and those for ss
  pub parts : (ns ws ss : List ℕ) → judge_nodes t ns (ws ++ ss) ≡ 0 → judge_nodes t (take (size t ns (length ws)) ns) ws ≡ 0
  unfolding size
  parts [] [] ss e = judge_none t
  parts [] (s ∷ ws) ss e = absurd (no_end s (ws ++ ss) e)
  parts (n ∷ ns) [] ss e = judge_none t
  parts (n ∷ ns) (s ∷ ws) ss e =
      let f = first n ns s (ws ++ ss) e in
      let g : judge_nodes t ns (children t n ++ ws ++ ss) ≡ 0 = rw append_assoc f.rest in
      let l : length (children t n ++ ws) ≡ child_count t n + length ws = length-append (children t n) ws ∙ ap (λ j. j + length ws) (row_length t n (child_count t n) 0) in
      node_step t n (take (size t ns (child_count t n + length ws)) ns) s ws f.number f.left
      ∙ rw (← l) (parts ns (children t n ++ ws) ss g)

  -- the subtree at a node is sound for the node's symbol
  pub subtree_sound : (ns ws : List ℕ) → judge_nodes t ns ws ≡ 0 → (r : ℕ) → r < length ns → judge_nodes t (take (size t (drop r ns) 1) (drop r ns)) (left_of t (get_or ns r 0) ∷ []) ≡ 0
  subtree_sound ns ws e r h = let f = from ns ws e r h in parts (drop r ns) (left_of t (get_or ns r 0) ∷ []) f.wanted f.sound

  -- every number of a sound list of nodes is below the count
  pub sound_number : (ns ws : List ℕ) → judge_nodes t ns ws ≡ 0 → (r : ℕ) → r < length ns → get_or ns r 0 < production_count t
  sound_number ns ws e r h = (from ns ws e r h).number

  -- what is answered where a subtree of s stands in front of cs
  after : ℕ → List ℕ → List ℕ → ℕ
  after s cs [] = 7
  after s cs (w ∷ ws) = cond (eqb s w) (judge_nodes t cs ws) 7

  alone : (ps cs : List ℕ) (s : ℕ) → judge_nodes t ps (s ∷ []) ≡ 0 → (ws : List ℕ) → judge_nodes t (ps ++ cs) ws ≡ after s cs ws
  unfolding after
  alone [] cs s e ws = absurd (no_end s [] e)
  alone (n ∷ ps) cs s e [] = node_over t n (ps ++ cs) (first n ps s [] e).number
  alone (n ∷ ps) cs s e (w ∷ ws) = elim (ℕ_discrete s w) [
    | yes q ↦ rw (eq-eqb s w q, ← q) (frame (n ∷ ps) (s ∷ []) e ws cs)
    | no q ↦ let f = first n ps s [] e in rw (ne_eqb s w q) (node_wrong t n (ps ++ cs) w ws f.number (λ l. q (sym f.left ∙ l)))
  ]

  module _ (old new cs : List ℕ) (s : ℕ) (o : judge_nodes t old (s ∷ []) ≡ 0) (n : judge_nodes t new (s ∷ []) ≡ 0) where
    -- a subtree exchanged for another of its symbol: the whole is judged as before
    pub exchange : (xs ws : List ℕ) → judge_nodes t (xs ++ (old ++ cs)) ws ≡ judge_nodes t (xs ++ (new ++ cs)) ws
    unfolding judge_nodes
    exchange [] ws = alone old cs s o ws ∙ sym (alone new cs s n ws)
    exchange (x ∷ xs) [] = refl
    exchange (x ∷ xs) (w ∷ ws) = ap (λ r. cond (ltb x (production_count t)) (cond (eqb (left_of t x) w) r 7) 6) (exchange xs (children t x ++ ws))

  -- the same by places: r's subtree, exchanged in a sound list of nodes
  pub replaced : (ns new ws : List ℕ) (r : ℕ) → r < length ns → judge_nodes t ns ws ≡ 0 → judge_nodes t new (left_of t (get_or ns r 0) ∷ []) ≡ 0
      → judge_nodes t (take r ns ++ (new ++ drop (span_end t ns r) ns)) ws ≡ 0
  unfolding span_end
  replaced ns new ws r h e n =
      let k = size t (drop r ns) 1 in
      let old = take k (drop r ns) in
      let whole : take r ns ++ (old ++ drop (r + k) ns) ≡ ns = rw (← drop-drop k r ns, take-append-drop k (drop r ns)) (take-append-drop r ns) in
      sym (exchange old new (drop (r + k) ns) (left_of t (get_or ns r 0)) (subtree_sound ns ws e r h) n (take r ns) ws) ∙ ap (λ l. judge_nodes t l ws) whole ∙ e

  -- k of the subtrees that are wanted, and one more at least, have fewer nodes than there are
  pub inside : (ps ws : List ℕ) → judge_nodes t ps ws ≡ 0 → (k : ℕ) (ys : List ℕ) → k < length ws → size t (ps ++ ys) k < length ps
  unfolding size
  inside [] [] e k ys h = absurd (omega arith)
  inside [] (s ∷ ws) e k ys h = absurd (no_end s ws e)
  inside (n ∷ ps) [] e k ys h = absurd (no_over n ps e)
  inside (n ∷ ps) (s ∷ ws) e zero ys h = omega arith
  inside (n ∷ ps) (s ∷ ws) e (suc k) ys h =
      omega (arith, inside ps (children t n ++ ws) (first n ps s ws e).rest (child_count t n + k) ys (omega (arith, length-append (children t n) ws, row_length t n (child_count t n) 0)))

  -- behind a node of a sound list its children are wanted first
  pub record Kids (ns : List ℕ) (q : ℕ) : Type 0 where
    pub wanted : List ℕ
    pub sound : judge_nodes t (drop (suc q) ns) (children t (get_or ns q 0) ++ wanted) ≡ 0

  pub kids : (ns ws : List ℕ) → judge_nodes t ns ws ≡ 0 → (q : ℕ) → q < length ns → Kids ns q
  kids ns ws e q h =
      let f = from ns ws e q h in
      let g : judge_nodes t (get_or ns q 0 ∷ drop (suc q) ns) (left_of t (get_or ns q 0) ∷ f.wanted) ≡ 0 = rw (← drop-cons ns q 0 h) f.sound in
      record { wanted = f.wanted; sound = (first (get_or ns q 0) (drop (suc q) ns) _ _ g).rest }

  -- a node's children lie among the nodes, whatever stands behind them
  pub child_inside : (ns ws ys : List ℕ) → judge_nodes t ns ws ≡ 0 → (q : ℕ) → q < length ns → (k : ℕ) → k < child_count t (get_or ns q 0)
      → suc q + size t (drop (suc q) ns ++ ys) k < length ns
  child_inside ns ws ys e q h k b =
      let f = kids ns ws e q h in
      let p = get_or ns q 0 in
      omega (arith, length-drop (suc q) ns, inside (drop (suc q) ns) (children t p ++ f.wanted) f.sound k ys (omega (arith, length-append (children t p) f.wanted, row_length t p (child_count t p) 0)))

  pub sound_some : (ns : List ℕ) (s : ℕ) → judge_nodes t ns (s ∷ []) ≡ 0 → 0 < length ns
  sound_some ns s e = omega (arith, inside ns (s ∷ []) e 0 [] (omega arith))
