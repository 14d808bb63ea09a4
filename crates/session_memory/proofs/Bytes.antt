-- Bytes of a piece behind those of a begun line: what stands in the window then, and that some byte or the piece's end decides. Assumes nothing.
use Rattle.std.proofs.Common.{◌≡◌, ◌≢◌, ℕ, ◌+◌, ◌-◌, ◌≤◌, ◌<◌, ◌⊎◌, ⊎_elim, min, Bool, true, false, nat_eq, nat_lt, cond, List, ◌++◌, length, get_or, take, drop, Option, Some, None, position, refl, ap, sym, ◌∙◌, arith}
use Rattle.std.specs.List.{position_or_len}
use Rattle.std.proofs.lemmas.List.{length-append, length-take, length-drop, length-take-le, get_or-take, get_or_append_left, get_or-append_right, take_all, take_min, drop_min}
use Rattle.std.proofs.lemmas.Slice.{take-put_mid, drop-put_mid}
use Rattle.std.proofs.lemmas.List.Quantifiers.{position-Some}
use Rattle.std.proofs.lemmas.List.Sums.{fails_before_first}
use borrow.Rule.Slice.PartMut.{put_mid}
use lib.Seq.{take-take}
use borrow.Author.Tests.{eqb-true, eqb-false, ltb-false}
use Rattle.text_line.proofs.Values.{lt_or_ge}
use Rattle.session_owed.specs.Owed.{Begun, Whole}
use Rattle.session_memory.specs.Gathering.{Gathers, Gathering, AlwaysGathers}

-- LF
abbrev pub is_end : ℕ → Bool
is_end b = nat_eq b 10

-- the bytes of a piece that can be the line's
abbrev pub coming : List ℕ → ℕ → ℕ → List ℕ
coming piece from begun = take (29 - begun) (drop from piece)

-- how many of them are, by the place of their first LF, and whether the line is decided then
abbrev pub taken_of : Option ℕ → List ℕ → ℕ
taken_of (Some i) xs = i + 1
taken_of None xs = length xs

abbrev pub whole_of : Option ℕ → ℕ → Bool
whole_of (Some i) n = true
whole_of None n = nat_eq n 29

none_passes : (xs : List ℕ) → position is_end xs ≡ None → (k : ℕ) → k < length xs → is_end (get_or xs k 0) ≡ false
none_passes xs e k h = fails_before_first is_end xs k 0 (behind (nat_lt (position_or_len is_end xs) (length xs)) refl e)
  where
    behind : (b : Bool) → nat_lt (position_or_len is_end xs) (length xs) ≡ b → ◌≡◌ {A = Option ℕ} (cond b (Some (position_or_len is_end xs)) None) None → k < position_or_len is_end xs
    behind true q d = absurd (cc)
    behind false q d = let l = ltb-false (position_or_len is_end xs) (length xs) q in omega arith

taken_in : (o : Option ℕ) (xs : List ℕ) → position is_end xs ≡ o → (k : ℕ) → k ≡ taken_of o xs → k ≤ length xs
taken_in (Some i) xs e k is = let p = position-Some is_end xs i 0 e in omega (arith, p.0)
taken_in None xs e k is = omega arith

module _ (piece : List ℕ) (from : ℕ) (window : List ℕ) (begun : ℕ) (long : 29 ≤ length window) (few : begun ≤ 28) (line : Begun (take begun window)) where
  abbrev bytes : List ℕ
  bytes = drop from piece

  -- k bytes have been put behind the line's
  module _ (k : ℕ) (inside : k ≤ length bytes) (room : begun + k ≤ 29) (w : List ℕ) (taken : take (begun + k) w ≡ take begun window ++ take k bytes) (rest : drop (begun + k) w ≡ drop (begun + k) window) where
    abbrev joined : List ℕ
    joined = take begun window ++ take k bytes

    size : length joined ≡ begun + k
    size = omega (arith, length-append (take begun window) (take k bytes), length-take begun window, length-take k bytes)

    -- where the first m of them are no LF
    no_end : (m : ℕ) → m ≤ k → ((i : ℕ) → i < m → get_or bytes i 0 ≡ 10 → ⊥) → (i : ℕ) → i < begun + m → get_or joined i 0 ≡ 10 → ⊥
    no_end m le clean i h e =
        let n : length (take begun window) ≡ begun = length-take-le begun window (omega arith) in
        ⊎_elim
        (λ (l : i < begun). line.no_end i (omega arith) (sym (get_or_append_left (take begun window) (take k bytes) 0 i (omega arith)) ∙ e))
        (λ (l : begun ≤ i). clean (i - begun) (omega arith) (sym (get_or-take k bytes (i - begun) 0 (omega arith)) ∙ sym (get_or-append_right (take begun window) (take k bytes) begun i 0 n l) ∙ e))
        (lt_or_ge i begun)

    gathers : (whole : Bool) → (whole ≡ true → Whole joined × (0 < k)) → (whole ≡ false → Begun joined × (k ≡ length bytes)) → Gathers piece from window begun (begun + k) (from + k) whole w
    gathers whole d u =
        let z : from + k - from ≡ k = omega arith in
        let s : length bytes ≡ length piece - from = length-drop from piece in
        record {
          forward = omega arith;
          count = omega arith;
          taken = rw z taken;
          rest = rest;
          decided = λ t. rw taken (d t).0;
          moved = λ t. let p = (d t).1 in (omega arith, omega arith);
          waits = λ t. rw taken (u t).0;
          used = λ t. let p = (u t).1 in omega arith;
        }

  -- as many come as their first LF says
  pub gathered : (o : Option ℕ) → position is_end (coming piece from begun) ≡ o → (k : ℕ) → k ≡ taken_of o (coming piece from begun) → (w : List ℕ) → take (begun + k) w ≡ take begun window ++ take k bytes
      → drop (begun + k) w ≡ drop (begun + k) window → Gathers piece from window begun (begun + k) (from + k) (whole_of o (begun + k)) w
  gathered (Some i) e k is w taken rest =
      let p = position-Some is_end (coming piece from begun) i 0 e in
      let m = length-take (29 - begun) bytes in
      let n = length-take-le begun window (omega arith) in
      let inside : k ≤ length bytes = omega (arith, p.0) in
      let room : begun + k ≤ 29 = omega (arith, p.0) in
      let s = size k inside room w taken rest in
      let clean : (j : ℕ) → j < i → get_or bytes j 0 ≡ 10 → ⊥ = λ j h d. eqb-false (get_or (coming piece from begun) j 0) 10 (p.2 j h) (get_or-take (29 - begun) bytes j 0 (omega arith) ∙ d) in
      let last : get_or bytes i 0 ≡ 10 = sym (get_or-take (29 - begun) bytes i 0 (omega (arith, p.0))) ∙ eqb-true (get_or (coming piece from begun) i 0) 10 p.1 in
      gathers k inside room w taken rest true
      (λ t. (
        record {
          some = omega arith;
          few = omega arith;
          no_end = λ j h. no_end k inside room w taken rest i (omega arith) clean j (omega arith);
          ends = λ h. get_or-append_right (take begun window) (take k bytes) begun (length (joined k inside room w taken rest) - 1) 0 n (omega arith) ∙ get_or-take k bytes (length (joined k inside room w taken rest) - 1 - begun) 0 (omega arith) ∙ ap (λ (j : ℕ). get_or bytes j 0) (omega arith) ∙ last;
        },
        omega arith,
      ))
      (λ t. absurd (cc))
  gathered None e k is w taken rest =
      let m = length-take (29 - begun) bytes in
      let inside : k ≤ length bytes = omega arith in
      let room : begun + k ≤ 29 = omega arith in
      let s = size k inside room w taken rest in
      let clean : (j : ℕ) → j < k → get_or bytes j 0 ≡ 10 → ⊥ = λ j h d.
      eqb-false (get_or (coming piece from begun) j 0) 10 (none_passes (coming piece from begun) e j (omega arith)) (get_or-take (29 - begun) bytes j 0 (omega arith) ∙ d) in
      gathers k inside room w taken rest (nat_eq (begun + k) 29)
      (λ t. let q = eqb-true (begun + k) 29 t in (
        record { some = omega arith; few = omega arith; no_end = λ j h. no_end k inside room w taken rest k (omega arith) clean j (omega arith); ends = λ h. absurd (omega arith) },
        omega arith,
      ))
      (λ t. let q = eqb-false (begun + k) 29 t in (
        record { few = let r : begun + k ≢ 29 = q in omega arith; no_end = λ j h. no_end k inside room w taken rest k (omega arith) clean j (omega arith) },
        let r : begun + k ≢ 29 = q in omega arith,
      ))

  -- as the code takes them: from which byte, and how many at the most
  pub gathered_put : (start most : ℕ) → start ≡ min from (length piece) → most ≡ min (length (take (length piece - start) (drop start piece))) (29 - begun) → (xs : List ℕ) → xs ≡ take most (take (length piece - start) (drop start piece))
      → (o : Option ℕ) → o ≡ position is_end xs → (k : ℕ) → k ≡ taken_of o xs → (ys : List ℕ) → ys ≡ take k xs → Gathers piece from window begun (begun + k) (from + k) (whole_of o (begun + k)) (put_mid begun (begun + k - begun) window ys)
  gathered_put start most a b xs c o d k e ys f =
      let s : take (length piece - start) (drop start piece) ≡ bytes = take_all (length piece - start) (drop start piece) (omega (arith, length-drop start piece)) ∙ ap (λ (n : ℕ). drop n piece) a ∙ drop_min from piece in
      let n : most ≡ min (29 - begun) (length bytes) = b ∙ ap (λ (l : List ℕ). min (length l) (29 - begun)) s ∙ (let x = length bytes in omega arith) in
      let g : xs ≡ coming piece from begun = c ∙ (λ i. take (n i) (s i)) ∙ take_min (29 - begun) bytes in
      let l = length-take (29 - begun) bytes in
      let q : k ≤ length (coming piece from begun) = taken_in o (coming piece from begun) (sym (d ∙ ap (position is_end) g)) k (e ∙ ap (taken_of o) g) in
      let h : ys ≡ take k bytes = f ∙ ap (take k) g ∙ take-take k (29 - begun) bytes (omega arith) in
      let y : length ys ≡ k = ap length h ∙ length-take-le k bytes (omega arith) in
      gathered o (sym (d ∙ ap (position is_end) g)) k (e ∙ ap (taken_of o) g) (put_mid begun (begun + k - begun) window ys)
      (take-put_mid begun (begun + k - begun) window ys (begun + k) (omega arith) (omega arith) ∙ ap (λ (z : List ℕ). take begun window ++ z) h)
      (drop-put_mid begun (begun + k - begun) window ys (begun + k) (omega arith) (omega arith) (omega arith))

-- ---- there are always such bytes

put_length : (a k : ℕ) (xs ys : List ℕ) → a + k ≤ length xs → length ys ≡ k → length (put_mid a k xs ys) ≡ length xs
put_length a k xs ys h e = simp (length-append, length-take, length-drop) (omega arith)

pub always_gathers : AlwaysGathers
always_gathers piece from window begun long few line = go (position is_end (coming piece from begun)) refl
  where
    go : (o : Option ℕ) → position is_end (coming piece from begun) ≡ o → Gathering piece from window begun
    go o e =
        let k = taken_of o (coming piece from begun) in
        let ys = take k (drop from piece) in
        let q = taken_in o (coming piece from begun) e k refl in
        let l = length-take (29 - begun) (drop from piece) in
        let n : length ys ≡ k = length-take-le k (drop from piece) (omega arith) in
        record {
          count = begun + k;
          place = from + k;
          whole = whole_of o (begun + k);
          then = put_mid begun k window ys;
          gathers = gathered piece from window begun long few line o e k refl (put_mid begun k window ys) (take-put_mid begun k window ys (begun + k) (omega arith) (omega arith)) (drop-put_mid begun k window ys (begun + k) (omega arith) (omega arith) n);
          size = put_length begun k window ys (omega arith) n;
        }
