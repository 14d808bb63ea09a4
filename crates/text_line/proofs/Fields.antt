-- Lines of fields: written ones are read back, and what was read is written back. Once for every kind of frame. Assumes nothing.
use mathlib.Core.Path.{◌≡◌, refl, ap, sym, ◌∙◌}
use mathlib.Core.List.{List, [], ◌∷◌, ◌++◌, append_assoc}
use mathlib.Core.Bool.{true}
use mathlib.Core.Logic.{⊎_elim}
use Prim.Native.Nat.{ℕ, zero, suc, ◌+◌, ◌*◌, ◌/◌, ◌%◌, ◌^◌, ◌-◌, ◌≤◌, ◌<◌}
use native.Mathlib.Omega.{arith}
use borrow.Author.Tests.{lt-ltb, le-ltb, le-leb}
use lib.ListN.{length, get_or, take, drop, length-append, length-drop, get_or-append}
use lib.Seq.{get_or_at, get_or-append-add, get_or-drop, take-add, take-suc, drop-drop}
use Rattle.text_line.specs.Hex.{is_hex, digits_at, num_at, hex_of, hex_digits}
use Rattle.text_line.specs.Text.{Field, field, byte, digits_of, width_of, line_at, line_text}
use Rattle.text_line.specs.Laws.{Written}
use Rattle.text_line.specs.declared.Line.TheVariants.{Digits}
use Rattle.text_line.proofs.Values.{lt_or_ge}
use Rattle.text_line.proofs.Rows.{Whole, row_is, row_hex, line_whole, line_says}
use Rattle.text_line.proofs.Out.{hex_length, hex_join, num_in, num_forth}

-- each byte of a list is a digit
abbrev pub AllHex : List ℕ → Type 0
AllHex xs = (j : ℕ) → j < length xs → is_hex (get_or xs j 0) ≡ true

hex_is : (n : ℕ) → n < 16 → is_hex (hex_of n) ≡ true
unfolding hex_of is_hex
hex_is n h =
    ⊎_elim (λ k. simp (lt-ltb n 10 k, le-leb 48 (48 + n) (omega arith), lt-ltb (48 + n) 58 (omega arith)))
    (λ k. simp (le-ltb n 10 k, le-leb 48 (87 + n) (omega arith), le-ltb (87 + n) 58 (omega arith), le-leb 97 (87 + n) (omega arith), lt-ltb (87 + n) 103 (omega arith))) (lt_or_ge n 10)

all_append : (xs ys : List ℕ) → AllHex xs → AllHex ys → AllHex (xs ++ ys)
all_append xs ys p q j h =
    ⊎_elim (λ k. rw (get_or-append xs ys 0 j k) (p j k))
    (λ k. let e : j ≡ length xs + (j - length xs) = omega arith in
    ap (λ (i : ℕ). is_hex (get_or (xs ++ ys) i 0)) e ∙ ap is_hex (get_or-append-add xs ys (j - length xs) 0) ∙ q (j - length xs) (omega (arith, length-append xs ys))) (lt_or_ge j (length xs))

one_hex : (d : ℕ) → is_hex d ≡ true → AllHex (d ∷ [])
one_hex d e zero h = e
one_hex d e (suc j) h = absurd (omega arith)

all_digits : (k v : ℕ) → AllHex (hex_digits k v)
unfolding hex_digits
all_digits zero v = λ j h. absurd (omega arith)
all_digits (suc k) v = all_append (hex_digits k (v / 16)) (hex_of (v % 16) ∷ []) (all_digits k (v / 16)) (one_hex (hex_of (v % 16)) (hex_is (v % 16) (omega arith)))

pub digits_length : (fs : List Field) → length (digits_of fs) ≡ width_of fs
digits_length [] = refl
digits_length (f ∷ fs) = length-append (hex_digits f.width f.value) (digits_of fs) ∙ omega (arith, hex_length f.width f.value, digits_length fs)

pub line_length : (fs : List Field) → length (line_text fs) ≡ width_of fs + 1
unfolding line_text
line_length fs = length-append (digits_of fs) (10 ∷ []) ∙ omega (arith, digits_length fs)

digits_hex : (fs : List Field) → AllHex (digits_of fs)
digits_hex [] = λ j h. absurd (omega arith)
digits_hex (f ∷ fs) = all_append (hex_digits f.width f.value) (digits_of fs) (all_digits f.width f.value) (digits_hex fs)

digits_split : (us bs : List Field) → digits_of (us ++ bs) ≡ digits_of us ++ digits_of bs
digits_split [] bs = refl
digits_split (a ∷ us) bs = ap (λ (x : List ℕ). hex_digits a.width a.value ++ x) (digits_split us bs) ∙ sym (append_assoc (hex_digits a.width a.value) (digits_of us) (digits_of bs))

-- digits and then LF are a line
line_of : (xs rest : List ℕ) → AllHex xs → 2 ≤ length xs → length xs ≤ 28 → length xs % 2 ≡ 0 → line_at (xs ++ (10 ∷ rest)) 0 ≡ Digits (length xs)
unfolding is_hex
line_of xs rest p a b c =
    let lf : get_or (xs ++ (10 ∷ rest)) (0 + length xs) 0 ≡ 10 = let y : 0 + length xs ≡ length xs = omega arith in rw y (get_or_at xs 10 rest 0 (length xs) refl) in
    let hex : (j : ℕ) → j < length xs → is_hex (get_or (xs ++ (10 ∷ rest)) (0 + j) 0) ≡ true = λ j k. let y : 0 + j ≡ j = omega arith in rw y (rw (get_or-append xs (10 ∷ rest) 0 j k) (p j k)) in
    let row : digits_at 29 (xs ++ (10 ∷ rest)) 0 ≡ length xs = row_is 29 (length xs) (xs ++ (10 ∷ rest)) 0 (omega arith) hex (ap is_hex lf) in
    let in' : 0 < length (xs ++ (10 ∷ rest)) = omega (arith, length-append xs (10 ∷ rest)) in
    sym (line_whole (xs ++ (10 ∷ rest)) 0 (length xs) (sym row) in' a b c lf)

line_then : (fs : List Field) (rest : List ℕ) → line_text fs ++ rest ≡ digits_of fs ++ (10 ∷ rest)
unfolding line_text
line_then fs rest = append_assoc (digits_of fs) (10 ∷ []) rest

pub line_back : Written
line_back fs rest a b c =
    let l : length (digits_of fs) ≡ width_of fs = digits_length fs in
    rw (line_then fs rest) (line_of (digits_of fs) rest (digits_hex fs) (omega arith) (omega arith) (ap (λ (n : ℕ). n % 2) l ∙ c) ∙ ap Digits l)

-- the field f behind the fields us and before the fields bs
pub field_back : (us : List Field) (f : Field) (bs : List Field) (rest : List ℕ) → f.value < 16 ^ f.width → num_at f.width (line_text (us ++ (f ∷ bs)) ++ rest) (width_of us) ≡ f.value
field_back us f bs rest h =
    let h' : List ℕ = hex_digits f.width f.value in
    let e : line_text (us ++ (f ∷ bs)) ++ rest ≡ digits_of us ++ (h' ++ (digits_of bs ++ (10 ∷ rest))) =
    line_then (us ++ (f ∷ bs)) rest ∙ ap (λ (x : List ℕ). x ++ (10 ∷ rest)) (digits_split us (f ∷ bs)) ∙ append_assoc (digits_of us) (h' ++ digits_of bs) (10 ∷ rest) ∙ ap (λ (x : List ℕ). digits_of us ++ x) (append_assoc h' (digits_of bs) (10 ∷ rest)) in
    ap (λ (x : List ℕ). num_at f.width x (width_of us)) e ∙ num_in (digits_of us) (digits_of bs ++ (10 ∷ rest)) f.width f.value (width_of us) (digits_length us) h

-- fields side by side: those that stand at a place of a text
abbrev pub Stand : List ℕ → ℕ → List Field → Type 0
Stand s place [] = Unit {0}
Stand s place (f ∷ fs) = (f.value ≡ num_at f.width s place) × Stand s (place + f.width) fs

fields_forth : (fs : List Field) (s : List ℕ) (place : ℕ) → Stand s place fs → ((j : ℕ) → j < width_of fs → is_hex (get_or s (place + j) 0) ≡ true) → digits_of fs ≡ take (width_of fs) (drop place s)
fields_forth [] s place e h = refl
fields_forth (f ∷ fs) s place e h =
    let n = num_forth f.width s place (λ j i. h j (omega arith)) in
    let m = fields_forth fs s (place + f.width) e.1 (λ j i. let x : place + f.width + j ≡ place + (f.width + j) = omega arith in rw x (h (f.width + j) (omega arith))) in
    rw (e.0, n, m, take-add, drop-drop)

-- the line at a place is the text of the fields that stand there
pub line_forth : (fs : List Field) (s : List ℕ) (place : ℕ) → line_at s place ≡ Digits (width_of fs) → Stand s place fs → line_text fs ≡ take (width_of fs + 1) (drop place s)
unfolding line_text
line_forth fs s place l e =
    let w : Whole s place (width_of fs) = line_says s place (width_of fs) l in
    let k : width_of fs < length (drop place s) = simp length-drop (omega (arith, w.inside)) in
    let d = fields_forth fs s place e (λ j i. row_hex 29 s place j (omega (arith, w.row))) in
    let t : take (width_of fs + 1) (drop place s) ≡ take (width_of fs) (drop place s) ++ (10 ∷ []) =
    let a : width_of fs + 1 ≡ suc (width_of fs) = omega arith in rw (a, take-suc (drop place s) (width_of fs) 0 k, get_or-drop, w.ended) in
    rw (d, t)

-- two fields side by side are one
pub fields_join : (k x j y : ℕ) (fs : List Field) → y < 16 ^ j → line_text (field (k + j) (x * 16 ^ j + y) ∷ fs) ≡ line_text (field k x ∷ field j y ∷ fs)
unfolding line_text
fields_join k x j y fs h = ap (λ (l : List ℕ). l ++ digits_of fs ++ (10 ∷ [])) (hex_join k j x y h) ∙ ap (λ (l : List ℕ). l ++ (10 ∷ [])) (append_assoc (hex_digits k x) (hex_digits j y) (digits_of fs))

-- and behind a field
pub join_second : (f : Field) (k x j y : ℕ) (fs : List Field) → y < 16 ^ j → line_text (f ∷ field (k + j) (x * 16 ^ j + y) ∷ fs) ≡ line_text (f ∷ field k x ∷ field j y ∷ fs)
unfolding line_text
join_second f k x j y fs h =
    let d : digits_of (field (k + j) (x * 16 ^ j + y) ∷ fs) ≡ digits_of (field k x ∷ field j y ∷ fs) = ap (λ (l : List ℕ). l ++ digits_of fs) (hex_join k j x y h) ∙ append_assoc (hex_digits k x) (hex_digits j y) (digits_of fs) in
    ap (λ (l : List ℕ). hex_digits f.width f.value ++ l ++ (10 ∷ [])) d

-- the last byte of a field by itself
pub peel : (k v : ℕ) (fs : List Field) → line_text (field (k + 2) v ∷ fs) ≡ line_text (field k (v / 256) ∷ byte (v % 256) ∷ fs)
peel k v fs = let e : v ≡ v / 256 * 256 + v % 256 = omega arith in ap (λ (x : ℕ). line_text (field (k + 2) x ∷ fs)) e ∙ fields_join k (v / 256) 2 (v % 256) fs (omega arith)

pub peel_second : (f : Field) (k v : ℕ) (fs : List Field) → line_text (f ∷ field (k + 2) v ∷ fs) ≡ line_text (f ∷ field k (v / 256) ∷ byte (v % 256) ∷ fs)
peel_second f k v fs = let e : v ≡ v / 256 * 256 + v % 256 = omega arith in ap (λ (x : ℕ). line_text (f ∷ field (k + 2) x ∷ fs)) e ∙ join_second f k (v / 256) 2 (v % 256) fs (omega arith)
