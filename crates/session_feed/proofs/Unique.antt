-- No second answer of `feed` fits: the bytes that a turn takes, the turn, the row of turns and what is answered are each the only ones. Assumes nothing.
use mathlib.Core.Path.{◌≡◌, refl, ap, sym, ◌∙◌, subst}
use mathlib.Core.Bool.{Bool, true, false, true≢false}
use mathlib.Core.List.{List, ◌++◌}
use mathlib.Core.Logic.{⊎_elim}
use Prim.Native.Nat.{ℕ, ◌+◌, ◌-◌, ◌≤◌, ◌<◌}
use native.Mathlib.Omega.{arith}
use lib.ListN.{length, get_or, take, drop, length-append, length-drop, take-append-drop}
use lib.Seq.{length-take-le, get_or-take, take-take, take-append-add}
use Rattle.std.specs.Prelude.{Result, Ok, Err}
use Rattle.refusal.specs.Only.{After}
use Rattle.refusal.specs.Numbers.{number_of}
use Rattle.refusal.specs.declared.Refusal.{Refusal}
use Rattle.refusal.proofs.Distinct.{number_one, number_low}
use Rattle.text_line.proofs.Values.{lt_or_ge}
use Rattle.session_owed.specs.Owed.{Begun, Whole}
use Rattle.session_owed.specs.declared.Awaited.{Awaited}
use Rattle.session_owed.specs.declared.Awaited.TheVariants.{Working, Stopped}
use Rattle.session_memory.specs.declared.State.{State}
use Rattle.session_memory.specs.Suspended.{Suspended}
use Rattle.session_memory.specs.Gathering.{Gathers}
use Rattle.session_feed.specs.declared.Fed.{Fed}
use Rattle.session_feed.specs.Feeding.{fed_to, Feeds, FeedSays, takes, refuses}
use Rattle.session_feed.specs.Unique.{Lent, desk_of, FeedsOne}
use Rattle.session_feed.specs.Running.{Moment, silent, after_rounds, rounds_then, after_bytes, heard_then, after_line, Goes, over, works, waits, hears, Runs, full, last, on}

-- ---- bytes that are gathered: b those of the begun line, d those of the piece

abbrev line_with : List ℕ → List ℕ → ℕ → List ℕ
line_with b d k = b ++ take k d

module _ (b d : List ℕ) (k k' : ℕ) where
  line_long : k ≤ length d → length (line_with b d k) ≡ length b + k
  line_long h = length-append b (take k d) ∙ ap (λ (n : ℕ). length b + n) (length-take-le k d h)

  line_front : k ≤ k' → take (length b + k) (line_with b d k') ≡ line_with b d k
  line_front h = take-append-add b (take k' d) k ∙ ap (λ (l : List ℕ). b ++ l) (take-take k k' d h)

-- a line that is decided is not the start of a longer one
no_longer : (b d : List ℕ) (k k' : ℕ) → k < k' → k' ≤ length d → Whole (line_with b d k) → length (line_with b d k') ≤ 29
    → ((i : ℕ) → i + 1 < length (line_with b d k') → get_or (line_with b d k') i 0 ≡ 10 → ⊥) → ⊥
no_longer b d k k' h r w few clean =
    let s = line_long b d k k' (omega arith) in
    let s' = line_long b d k' k r in
    let n = length b + k in
    clean (n - 1) (omega (arith, s, s', w.some))
    (sym (get_or-take n (line_with b d k') (n - 1) 0 (omega (arith, s, w.some))) ∙ ap (λ (l : List ℕ). get_or l (n - 1) 0) (line_front b d k k' (omega arith))
    ∙ ap (λ (i : ℕ). get_or (line_with b d k) (i - 1) 0) (sym s) ∙ w.ends (omega (arith, s, s')))

not_both : (l : List ℕ) → Whole l → Begun l → ⊥
not_both l w b = b.no_end (length l - 1) (omega (arith, w.some)) (w.ends (omega (arith, b.few)))

-- the line of which the piece is taken up to `place`
abbrev line_to : List ℕ → ℕ → List ℕ → ℕ → ℕ → List ℕ
line_to piece from window begun place = line_with (take begun window) (drop from piece) (place - from)

module _ {piece : List ℕ} {from : ℕ} {window : List ℕ} {begun n place : ℕ} {w : List ℕ} where
  inside : {whole : Bool} → Gathers piece from window begun n place whole w → place - from ≤ length (drop from piece)
  inside {whole = true} g = omega (arith, (g.moved refl).1, length-drop from piece)
  inside {whole = false} g = omega (arith, g.used refl, length-drop from piece)

  line_whole : Gathers piece from window begun n place true w → Whole (line_to piece from window begun place)
  line_whole g = subst Whole g.taken (g.decided refl)

  line_begun : Gathers piece from window begun n place false w → Begun (line_to piece from window begun place)
  line_begun g = subst Begun g.taken (g.waits refl)

  line_few : {whole : Bool} → Gathers piece from window begun n place whole w → length (line_to piece from window begun place) ≤ 29
  line_few {whole = true} g = (line_whole g).few
  line_few {whole = false} g = omega (arith, (line_begun g).few)

  line_no_end : {whole : Bool} → Gathers piece from window begun n place whole w → (i : ℕ) → i + 1 < length (line_to piece from window begun place) → get_or (line_to piece from window begun place) i 0 ≡ 10 → ⊥
  line_no_end {whole = true} g i h e = (line_whole g).no_end i h e
  line_no_end {whole = false} g i h e = (line_begun g).no_end i (omega arith) e

  window_then : {whole : Bool} → Gathers piece from window begun n place whole w → w ≡ line_to piece from window begun place ++ drop (begun + (place - from)) window
  window_then g = sym (take-append-drop n w) ∙ (λ j. g.taken j ++ g.rest j) ∙ ap (λ (k : ℕ). line_to piece from window begun place ++ drop k window) g.count

module _ {piece : List ℕ} {from : ℕ} {window : List ℕ} {begun n n' place place' : ℕ} {w w' : List ℕ} where
  not_sooner : {whole : Bool} → Gathers piece from window begun n place true w → Gathers piece from window begun n' place' whole w' → place - from < place' - from → ⊥
  not_sooner g g' h = no_longer (take begun window) (drop from piece) (place - from) (place' - from) h (inside g') (line_whole g) (line_few g') (line_no_end g')

  -- a line that is decided is not undecided
  not_waiting : Gathers piece from window begun n place true w → Gathers piece from window begun n' place' false w' → ⊥
  not_waiting g g' =
      ⊎_elim (λ (h : place - from < place' - from). not_sooner g g' h)
      (λ (h : place' - from ≤ place - from).
      let e : place - from ≡ place' - from = omega (arith, inside g, g'.used refl, length-drop from piece) in
      not_both (line_to piece from window begun place) (line_whole g) (subst (λ (k : ℕ). Begun (line_with (take begun window) (drop from piece) k)) (sym e) (line_begun g')))
      (lt_or_ge (place - from) (place' - from))

-- how far the piece is taken, how many bytes the line has then, and the window
pub record SameGathered (n n' place place' : ℕ) (w w' : List ℕ) : Type 0 where
  pub count : n ≡ n'
  pub place_same : place ≡ place'
  pub window_same : w ≡ w'

module _ {piece : List ℕ} {from : ℕ} {window : List ℕ} {begun n n' place place' : ℕ} {w w' : List ℕ} where
  same_place : {whole : Bool} → Gathers piece from window begun n place whole w → Gathers piece from window begun n' place' whole w' → place ≡ place'
  same_place {whole = true} g g' =
      ⊎_elim (λ (h : place - from < place' - from). absurd (not_sooner g g' h))
      (λ (h : place' - from ≤ place - from).
      ⊎_elim (λ (k : place' - from < place - from). absurd (not_sooner g' g k)) (λ (k : place - from ≤ place' - from). let o = g.forward in let o' = g'.forward in omega arith)
      (lt_or_ge (place' - from) (place - from)))
      (lt_or_ge (place - from) (place' - from))
  same_place {whole = false} g g' = g.used refl ∙ sym (g'.used refl)

  pub gathers_one : {whole : Bool} → Gathers piece from window begun n place whole w → Gathers piece from window begun n' place' whole w' → SameGathered n n' place place' w w'
  gathers_one g g' =
      let e = same_place g g' in
      record {
        count = g.count ∙ ap (λ (k : ℕ). begun + (k - from)) e ∙ sym g'.count;
        place_same = e;
        window_same = window_then g ∙ ap (λ (k : ℕ). line_to piece from window begun k ++ drop (begun + (k - from)) window) e ∙ sym (window_then g');
      }

-- ---- a turn

pub record Same (q r : Moment) (a b : Bool) : Type 0 where
  pub moments : q ≡ r
  pub mores : a ≡ b

speaks : {awaited : Awaited} → silent awaited ≡ false → awaited ≡ Stopped → ⊥
speaks h e = true≢false (sym (ap silent e) ∙ h)

idles : {awaited : Awaited} {turns : ℕ} → silent awaited ≡ false → awaited ≡ Working turns → ⊥
idles h e = true≢false (sym (ap silent e) ∙ h)

both : {awaited : Awaited} {turns : ℕ} → awaited ≡ Stopped → awaited ≡ Working turns → ⊥
both e f = let z : ◌≡◌ {A = ℕ} 0 1 = cc in omega arith

goes_one : {piece : List ℕ} {p q r : Moment} {a b : Bool} → Goes piece p q a → Goes piece p r b → Same q r a b
goes_one (over h e) (over h' e') = record { moments = e ∙ sym e'; mores = refl }
goes_one (over h e) (works turns k e') = absurd (both h k)
goes_one (over h e) (waits n place w s g e') = absurd (speaks s h)
goes_one (over h e) (hears n place w s g e') = absurd (speaks s h)
goes_one (works turns k e) (over h e') = absurd (both h k)
goes_one {p = p} (works turns k e) (works turns' k' e') =
    let t : turns ≡ turns' = cc in
    record { moments = e ∙ ap (λ (i : ℕ). after_rounds p (rounds_then p i)) t ∙ sym e'; mores = refl }
goes_one (works turns k e) (waits n place w s g e') = absurd (idles s k)
goes_one (works turns k e) (hears n place w s g e') = absurd (idles s k)
goes_one (waits n place w s g e) (over h e') = absurd (speaks s h)
goes_one (waits n place w s g e) (works turns k e') = absurd (idles s k)
goes_one {p = p} (waits n place w s g e) (waits n' place' w' s' g' e') =
    let x = gathers_one g g' in
    record { moments = e ∙ (λ j. after_bytes p (x.count j) (x.place_same j) (x.window_same j)) ∙ sym e'; mores = refl }
goes_one (waits n place w s g e) (hears n' place' w' s' g' e') = absurd (not_waiting g' g)
goes_one (hears n place w s g e) (over h e') = absurd (speaks s h)
goes_one (hears n place w s g e) (works turns k e') = absurd (idles s k)
goes_one (hears n place w s g e) (waits n' place' w' s' g' e') = absurd (not_waiting g g')
goes_one {p = p} (hears n place w s g e) (hears n' place' w' s' g' e') =
    let x = gathers_one g g' in
    record { moments = e ∙ (λ j. after_line p (x.place_same j) (x.window_same j) (heard_then p (x.count j) (x.window_same j))) ∙ sym e'; mores = refl }

-- ---- turns in a row

pub runs_one : {piece : List ℕ} {p q r : Moment} {a b : Bool} → Runs piece p q a → Runs piece p r b → Same q r a b
runs_one (full h e) (full h' e') = record { moments = e ∙ sym e'; mores = refl }
runs_one (full h e) (last s g) = absurd (h s)
runs_one (full h e) (on s g x) = absurd (h s)
runs_one (last s g) (full h e) = absurd (h s)
runs_one (last s g) (last s' g') = goes_one g g'
runs_one (last s g) (on s' g' x) = absurd (true≢false (sym (goes_one g g').mores))
runs_one (on s g x) (full h e) = absurd (h s)
runs_one (on s g x) (last s' g') = absurd (true≢false (goes_one g g').mores)
runs_one {piece = piece} {r = r} {b = b} (on s g x) (on s' g' x') = runs_one x (subst (λ (m : Moment). Runs piece m r b) (sym (goes_one g g').moments) x')

-- ---- an answer

abbrev found : Result Fed Refusal → Lent → List ℕ → After (Result Fed Refusal) (After Lent (List ℕ))
found x b o = record { answer = x; found = record { answer = b; found = o } }

abbrev lent_of : Suspended → Lent
lent_of d = record { words = d.words; window = d.window; parts = d.parts; part_owns = d.part_owns; memory = d.memory }

module _ {d : Suspended} {piece : List ℕ} {from : ℕ} {out : List ℕ} {b c : Lent} {o o' : List ℕ} where
  taken_one : {s s' : State} {place place' printed printed' : ℕ} {more more' : Bool} → Feeds d piece from out (desk_of b s) place printed more o
      → Feeds d piece from out (desk_of c s') place' printed' more' o' → found (Ok (fed_to s place printed more)) b o ≡ found (Ok (fed_to s' place' printed' more')) c o'
  taken_one f f' =
      let e = runs_one f.runs f'.runs in
      let m = e.moments in
      let words : b.words ≡ c.words =
      sym (take-append-drop 2657 b.words) ∙ (λ j. (m j).here.words ++ (f.words_rest ∙ sym f'.words_rest) j) ∙ take-append-drop 2657 c.words in
      (λ j. found (Ok (fed_to (m j).here.state (m j).place (m j).printed (e.mores j)))
      (record { words = words j; window = (m j).here.window; parts = (m j).here.parts; part_owns = (m j).here.part_owns; memory = (m j).here.memory }) (m j).out)

refused_one : (d : Suspended) {out : List ℕ} {b c : Lent} {o o' : List ℕ} {q q' : Refusal} → number_of q ≡ number_of q' → desk_of b d.state ≡ d → o ≡ out
    → desk_of c d.state ≡ d → o' ≡ out → found (Err q) b o ≡ found (Err q') c o'
refused_one d {q = q} {q' = q'} n e f e' f' j = found (Err (number_one q q' n j)) (lent_of ((e ∙ sym e') j)) ((f ∙ sym f') j)

says_one : {d : Suspended} {piece : List ℕ} {from : ℕ} {out : List ℕ} {b c : Lent} {o o' : List ℕ} {x y : Result Fed Refusal} → FeedSays d piece from out (desk_of b) o x
    → FeedSays d piece from out (desk_of c) o' y → found x b o ≡ found y c o'
says_one (takes z f g) (takes z' f' g') = taken_one g g'
says_one (takes z f g) (refuses {q = q} n e u) = let k = number_low q in absurd (omega arith)
says_one (refuses {q = q} n e u) (takes z f g) = let k = number_low q in absurd (omega arith)
says_one {d = d} (refuses n e u) (refuses n' e' u') = refused_one d (sym n ∙ n') e u e' u'

pub feeds_one : FeedsOne
feeds_one d piece from out = record { one = λ x y p q. says_one p q }
