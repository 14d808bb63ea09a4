-- What was read is written back: each frame's fields stand in its line. Assumes nothing.
use mathlib.Core.Path.{◌≡◌, refl, ap, sym, ◌∙◌}
use mathlib.Core.List.{List}
use mathlib.Core.Bool.{Bool, true, false, cond}
use Prim.Native.Nat.{ℕ, zero, suc, ◌+◌, ◌*◌}
use native.Mathlib.Omega.{arith}
use borrow.Author.Tests.{eqb-true}
use lib.Dec.{eqb, ltb}
use lib.ListN.{length, take, drop}
use Rattle.text_line.specs.Hex.{num_at}
use Rattle.text_line.specs.Text.{width_of, line_at, line_text}
use Rattle.text_line.specs.declared.Line.{Line}
use Rattle.text_line.specs.declared.Line.TheVariants.{Digits, Bad, End}
use Rattle.text_line.proofs.Fields.{Stand, line_forth, line_length}
use Rattle.text_frame.specs.Frames.{wrong_length, sized, header_of, symbol_of, production_of, equation_of, node_of, load_of, replace_of, dump_of, corrections_of, correction_of, kind_of, frame_of, step_of, frame_at, child_at}
use Rattle.text_frame.specs.Text.{fields_of, text_of}
use Rattle.text_frame.specs.Laws.{Fits, Forth, ForthAll}
use Rattle.text_frame.specs.declared.Frame.{Frame}
use Rattle.text_frame.specs.declared.Frame.TheVariants.{Rule}
use Rattle.text_frame.specs.declared.Rule.TheVariants.{Production}

-- the fields of a frame that fits are those of the line of n digits at a place
pub record Faith (s : List ℕ) (place n : ℕ) (f : Frame) : Type 0 where
  pub width : Fits f → n ≡ width_of (fields_of f)
  pub stand : Fits f → Stand s place (fields_of f)

either : (P : Frame → Type 0) (b : Bool) (x y : Frame) → (b ≡ true → P x) → (b ≡ false → P y) → P (cond b x y)
either P true x y g h = g refl
either P false x y g h = h refl

module _ (s : List ℕ) (place n line : ℕ) where
  faith_wrong : Faith s place n (wrong_length line)
  faith_wrong = record { width = λ f. absurd f; stand = λ f. absurd f }

  -- a kind with the length that it asks for
  faith_sized : (asked : ℕ) (f : Frame) → (n ≡ asked → Faith s place n f) → Faith s place n (sized n asked line f)
  faith_sized asked f g = either (Faith s place n) (eqb n asked) f (wrong_length line) (λ e. g (eqb-true n asked e)) (λ e. faith_wrong)

  at : (k o p : ℕ) → p ≡ place + o → num_at k s (place + o) ≡ num_at k s p
  at k o p e = ap (num_at k s) (sym e)

  faith_header : num_at 2 s place ≡ 1 → Faith s place n (header_of s place n line)
  unfolding header_of fields_of
  faith_header k = faith_sized 6 _ (λ e. record { width = λ f. e; stand = λ f. (sym k, (at 2 2 (place + 2) (omega arith), (at 2 4 (place + 2 + 2) (omega arith), tt))) })

  faith_symbol : num_at 2 s place ≡ 2 → Faith s place n (symbol_of s place n line)
  unfolding symbol_of fields_of
  faith_symbol k = faith_sized 6 _ (λ e. record { width = λ f. e; stand = λ f. (sym k, (at 2 2 (place + 2) (omega arith), (at 2 4 (place + 2 + 2) (omega arith), tt))) })

  faith_equation : num_at 2 s place ≡ 4 → Faith s place n (equation_of s place n line)
  unfolding equation_of fields_of
  faith_equation k = faith_sized 28 _ (λ e. record { width = λ f. e; stand = λ f. (sym k, (at 2 2 (place + 2) (omega arith), (at 2 4 (place + 2 + 2) (omega arith), (at 2 6 (place + 2 + 2 + 2) (omega arith), (at 2 8 (place + 2 + 2 + 2 + 2) (omega arith), (at 2 10 (place + 2 + 2 + 2 + 2 + 2) (omega arith), (at 16 12 (place + 2 + 2 + 2 + 2 + 2 + 2) (omega arith), tt))))))) })

  faith_node : num_at 2 s place ≡ 5 → Faith s place n (node_of s place n line)
  unfolding node_of fields_of
  faith_node k = faith_sized 20 _ (λ e. record { width = λ f. e; stand = λ f. (sym k, (at 2 2 (place + 2) (omega arith), (at 16 4 (place + 2 + 2) (omega arith), tt))) })

  faith_load : num_at 2 s place ≡ 6 → Faith s place n (load_of s place n line)
  unfolding load_of fields_of
  faith_load k = faith_sized 6 _ (λ e. record { width = λ f. e; stand = λ f. (sym k, (at 4 2 (place + 2) (omega arith), tt)) })

  faith_replace : num_at 2 s place ≡ 7 → Faith s place n (replace_of s place n line)
  unfolding replace_of fields_of
  faith_replace k = faith_sized 10 _ (λ e. record { width = λ f. e; stand = λ f. (sym k, (at 4 2 (place + 2) (omega arith), (at 4 6 (place + 2 + 4) (omega arith), tt))) })

  faith_dump : num_at 2 s place ≡ 8 → Faith s place n (dump_of n line)
  unfolding dump_of fields_of
  faith_dump k = faith_sized 2 _ (λ e. record { width = λ f. e; stand = λ f. (sym k, tt) })

  faith_corrections : num_at 2 s place ≡ 9 → Faith s place n (corrections_of s place n line)
  unfolding corrections_of fields_of
  faith_corrections k = faith_sized 4 _ (λ e. record { width = λ f. e; stand = λ f. (sym k, (at 2 2 (place + 2) (omega arith), tt)) })

  faith_correction : num_at 2 s place ≡ 11 → Faith s place n (correction_of s place n line)
  unfolding correction_of fields_of
  faith_correction k = faith_sized 10 _ (λ e. record { width = λ f. e; stand = λ f. (sym k, (at 4 2 (place + 2) (omega arith), (at 4 6 (place + 2 + 4) (omega arith), tt))) })

  -- a production's fields, by its own child count
  abbrev count : ℕ
  count = num_at 2 s (place + 4)

  abbrev made : ℕ → Frame
  made c = Rule (Production (num_at 2 s (place + 2)) c (record { one = child_at s place c 0; two = child_at s place c 1; three = child_at s place c 2; four = child_at s place c 3 }))

  faith_made : (c : ℕ) → num_at 2 s place ≡ 3 → count ≡ c → n ≡ 6 + 2 * c → Faith s place n (made c)
  unfolding fields_of
  faith_made zero k q e = record { width = λ f. e; stand = λ f. (sym k, (at 2 2 (place + 2) refl, (sym q ∙ at 2 4 (place + 2 + 2) (omega arith), tt))) }
  faith_made (suc zero) k q e = record { width = λ f. e; stand = λ f. (sym k, (at 2 2 (place + 2) refl, (sym q ∙ at 2 4 (place + 2 + 2) (omega arith), (at 2 6 (place + 2 + 2 + 2) (omega arith), tt)))) }
  faith_made (suc (suc zero)) k q e = record { width = λ f. e; stand = λ f. (sym k, (at 2 2 (place + 2) refl, (sym q ∙ at 2 4 (place + 2 + 2) (omega arith), (at 2 6 (place + 2 + 2 + 2) (omega arith), (at 2 8 (place + 2 + 2 + 2 + 2) (omega arith), tt))))) }
  faith_made (suc (suc (suc zero))) k q e = record { width = λ f. e; stand = λ f. (sym k, (at 2 2 (place + 2) refl, (sym q ∙ at 2 4 (place + 2 + 2) (omega arith), (at 2 6 (place + 2 + 2 + 2) (omega arith), (at 2 8 (place + 2 + 2 + 2 + 2) (omega arith), (at 2 10 (place + 2 + 2 + 2 + 2 + 2) (omega arith), tt)))))) }
  faith_made (suc (suc (suc (suc zero)))) k q e = record { width = λ f. e; stand = λ f. (sym k, (at 2 2 (place + 2) refl, (sym q ∙ at 2 4 (place + 2 + 2) (omega arith), (at 2 6 (place + 2 + 2 + 2) (omega arith), (at 2 8 (place + 2 + 2 + 2 + 2) (omega arith), (at 2 10 (place + 2 + 2 + 2 + 2 + 2) (omega arith), (at 2 12 (place + 2 + 2 + 2 + 2 + 2 + 2) (omega arith), tt))))))) }
  faith_made (suc (suc (suc (suc (suc c))))) k q e = record { width = λ f. absurd (omega (arith, f.1.0)); stand = λ f. absurd (omega (arith, f.1.0)) }

  faith_production : num_at 2 s place ≡ 3 → Faith s place n (production_of s place n line)
  unfolding production_of
  faith_production k =
      either (Faith s place n) (ltb n 6) (wrong_length line) (sized n (6 + 2 * count) line (made count)) (λ e. faith_wrong) (λ e. faith_sized (6 + 2 * count) (made count) (λ q. faith_made count k refl q))

  -- a frame of any type
  abbrev P : Frame → Type 0
  P = Faith s place n

  pub faith : P (frame_of s place n line)
  unfolding frame_of kind_of
  faith =
      let t : ℕ = num_at 2 s place in
      either P (eqb t 1) _ _ (λ e. faith_header (eqb-true t 1 e)) (λ _. either P (eqb t 2) _ _ (λ e. faith_symbol (eqb-true t 2 e)) (λ _.
      either P (eqb t 3) _ _ (λ e. faith_production (eqb-true t 3 e)) (λ _. either P (eqb t 4) _ _ (λ e. faith_equation (eqb-true t 4 e)) (λ _.
      either P (eqb t 5) _ _ (λ e. faith_node (eqb-true t 5 e)) (λ _. either P (eqb t 6) _ _ (λ e. faith_load (eqb-true t 6 e)) (λ _.
      either P (eqb t 7) _ _ (λ e. faith_replace (eqb-true t 7 e)) (λ _. either P (eqb t 8) _ _ (λ e. faith_dump (eqb-true t 8 e)) (λ _.
      either P (eqb t 9) _ _ (λ e. faith_corrections (eqb-true t 9 e)) (λ _. either P (eqb t 11) _ _ (λ e. faith_correction (eqb-true t 11 e)) (λ _. faith_wrong))))))))))

-- a line's frame, and where it ends
pub forth_line : (s : List ℕ) (place n line : ℕ) → line_at s place ≡ Digits n → Fits (frame_of s place n line)
    → (take (length (text_of (frame_of s place n line))) (drop place s) ≡ text_of (frame_of s place n line)) × (place + (n + 1) ≡ place + length (text_of (frame_of s place n line)))
unfolding text_of
forth_line s place n line l f =
    let g : Frame = frame_of s place n line in
    let w : n ≡ width_of (fields_of g) = (faith s place n line).width f in
    let m : length (line_text (fields_of g)) ≡ width_of (fields_of g) + 1 = line_length (fields_of g) in
    let l' : line_at s place ≡ Digits (width_of (fields_of g)) = l ∙ ap Digits w in
    (ap (λ (k : ℕ). take k (drop place s)) m ∙ sym (line_forth (fields_of g) s place l' ((faith s place n line).stand f)), omega arith)

by_line : (s : List ℕ) (place line : ℕ) (l : Line) → line_at s place ≡ l → Fits (step_of s place line l).frame → Forth s place line (step_of s place line l).frame
unfolding frame_at
by_line s place line (Digits n) e f =
    let g = forth_line s place n line e f in
    record { text = g.0; behind = rw e g.1; next = rw e }
by_line s place line Bad e f = absurd f
by_line s place line End e f = absurd f

pub frame_forth : ForthAll
unfolding frame_at
frame_forth s place line f = by_line s place line (line_at s place) refl f
