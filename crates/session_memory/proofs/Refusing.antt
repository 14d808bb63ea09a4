-- Memory that is no session's is refused by each number exactly when its check holds and none before it does: the order is right. Assumes nothing.
use mathlib.Core.Path.{◌≡◌, refl, sym, ◌∙◌}
use mathlib.Core.Bool.{Bool, true, false, cond, ◌&&◌, true≢false}
use mathlib.Core.List.{List, [], ◌∷◌}
use mathlib.Core.Logic.{◌⊎◌, inl, inr, ⊎_elim, ◌↔◌}
use Prim.Native.Nat.{ℕ, ◌≤◌, ◌<◌}
use native.Mathlib.Omega.{arith}
use borrow.Author.Tests.{eqb-true, eqb-false, eq-eqb, ne_eqb, le-leb, lt-leb}
use lib.Dec.{eqb, leb}
use Rattle.refusal.specs.Orders.{when, refusal_by, Agrees, Right}
use Rattle.refusal.proofs.Orders.{or_none, agree_meant, agree_outside, agree_judged, or_zero, order_gives, right_joined}
use Rattle.text_line.proofs.Values.{lt_or_ge}
use Rattle.table.proofs.Refused.{frame_most}
use Rattle.tree.proofs.Refused.{six_or_seven}
use Rattle.climb.proofs.Lists.{either}
use Rattle.update.specs.declared.Record.{Record}
use Rattle.update.specs.Memories.{Memory, nodes_of, owns_of}
use Rattle.update.specs.Refusals.{short, held_refusal, ground_order, step_order, step_refusal}
use Rattle.update.proofs.Refusing.{ground_right, step_right}
use Rattle.update.proofs.Within.{short_means, beyond_means}
use Rattle.update_judge.specs.Order.{Holding}
use Rattle.update_judge.proofs.Orders.{going, step_none}
use Rattle.session_owed.specs.Owed.{Sound}
use Rattle.session_owed.specs.declared.Awaited.{Awaited}
use Rattle.session_owed.specs.declared.Awaited.TheVariants.{Table, Command, Naming, Nodes, Working, Stopped}
use Rattle.text_frame.specs.declared.Expected.{Expected}
use Rattle.text_frame.specs.Walk.{entry_of}
use Rattle.session_memory.specs.Suspended.{Suspended, Wide, Fits, table_of}
use Rattle.session_memory.specs.Refusals.{lacking, narrow, overrun, misnamed, sofar_refusal, StopsBefore, walk_order, if_held, kept_order, awaited_order, settled_order, state_order, state_refusal}
use Rattle.session_memory.specs.Refused.{AllStateGives}
use Rattle.session_memory.proofs.Arriving.{sofar_none, none_sofar, stops_to, stops_from, ends_to, ends_from, sofar_low}
use Rattle.session_memory.proofs.Meaning.{narrow_means, overrun_means, misnamed_means}

agree_lacking : {P : Type 0} (k : ℕ) (b : Bool) → 0 < k → (b ≡ false) ↔ P → Agrees (lacking k b P)
agree_lacking {P} k b z f = agree_meant k b z (fails b f) f
  where
    fails : (b : Bool) → (b ≡ false) ↔ P → (b ≡ true) ↔ (P → ⊥)
    fails true f = (λ h p. true≢false (f.1 p), λ n. refl)
    fails false f = (λ h p. true≢false (sym h), λ n. absurd (n (f.0 refl)))

-- ---- in a table

module _ (t : List ℕ) (y : Expected) where
  abbrev w : ℕ
  w = sofar_refusal t y

  low : w ≤ 5 → cond (leb w 5) w 0 ≡ w
  low u = rw (le-leb w 5 u)

  high : w ≡ 11 → cond (leb w 5) w 0 ≡ 0
  high e = rw e

  -- a frame that the walk stops at gives 1 to 5
  low_stop : (n : ℕ) → StopsBefore t y n → n ≤ 5
  low_stop n s = omega (arith, frame_most t (entry_of s.place), s.number)

  stop_to : (n : ℕ) → 0 < n → cond (leb w 5) w 0 ≡ n → (leb 1 n && leb n 5 ≡ true) × StopsBefore t y n
  stop_to n z h = ⊎_elim
      (λ (u : w ≤ 5). let e : w ≡ n = sym (low u) ∙ h in (rw (le-leb 1 n z, le-leb n 5 (omega arith)), stops_to t y n z (omega arith) e))
      (λ (e : w ≡ 11). let d = high e in absurd (omega arith))
      (sofar_low t y)

  stop_from : (n : ℕ) → 0 < n → StopsBefore t y n → cond (leb w 5) w 0 ≡ n
  stop_from n z s = let e = stops_from t y n z s in low (omega (arith, low_stop n s)) ∙ e

  none_to : cond (leb w 5) w 0 ≡ 0 → (n : ℕ) → 0 < n → StopsBefore t y n → ⊥
  none_to h n z s = let e = stop_from n z s in omega arith

  -- where it stops before y at no frame it comes to y or to the end
  still : ((n : ℕ) → 0 < n → StopsBefore t y n → ⊥) → (w ≡ 0) ⊎ (w ≡ 11)
  still f = ⊎_elim
      (λ (u : w ≤ 5). ⊎_elim (λ (l : 0 < w). absurd (f w l (stops_to t y w l u refl))) (λ (l : w ≤ 0). inl (omega arith)) (lt_or_ge 0 w))
      inr
      (sofar_low t y)

  none_from : ((n : ℕ) → 0 < n → StopsBefore t y n → ⊥) → cond (leb w 5) w 0 ≡ 0
  none_from f = ⊎_elim (λ (e : w ≡ 0). rw e) high (still f)

  walk_right : Right (walk_order t y)
  walk_right = (
    record { some = λ n z. (stop_to n z, λ p. stop_from n z p.1); none = (none_to, none_from) },
    λ f. (
      agree_meant 11 (eqb w 11) (omega arith)
          (λ h. ends_to t y (eqb-true w 11 h), λ c. eq-eqb w 11 (ends_from t y c))
          (λ h. sofar_none t y (⊎_elim (λ (e : w ≡ 0). e) (λ (e : w ≡ 11). absurd (eqb-false w 11 h e)) (still f)), λ s. let e = none_sofar t y s in ne_eqb w 11 (λ d. omega arith)),
      λ s. tt,
    ),
  )

  -- the walk's number is the order's
  pub walk_number : refusal_by (walk_order t y) ≡ sofar_refusal t y
  unfolding refusal_by
  walk_number = ⊎_elim
      (λ (u : w ≤ 5). rw (low u, ne_eqb w 11 (λ e. omega arith)) (or_zero w))
      (λ (e : w ≡ 11). rw e)
      (sofar_low t y)

-- ---- by what is waited for

-- the held tree's 6/7, if there is one
agree_held : (b : Bool) (n : ℕ) → (n ≡ 0) ⊎ ((6 ≤ n) × (n ≤ 7)) → Agrees (if_held b n)
agree_held true n o =
    let a = agree_judged 6 7 n o in
    record { some = λ k z. (λ e. let p = (a.some k z).0 e in (p.0, (refl, p.1)), λ p. p.1.1); none = (λ e h. e, λ f. f refl) }
agree_held false n o = record {
  some = λ k z. (λ e. absurd (omega arith), λ p. absurd (true≢false (sym p.1.0)));
  none = (λ e h. absurd (true≢false (sym h)), λ f. refl);
}

module _ (t os : List ℕ) (m : Memory) (r : Record) where
  pub kept_right : Right (kept_order t m r)
  kept_right = right_joined (ground_order t m r) (if_held r.held (held_refusal t m r) ∷ []) (ground_right t m r)
      (λ g. (agree_held r.held (held_refusal t m r) (six_or_seven t (nodes_of m r.nodes) (owns_of m r.nodes) 0), λ s. tt))

  awaited_right : (awaited : Awaited) → Right (awaited_order awaited t os m r)
  awaited_right (Table x) = walk_right t x
  awaited_right Command = kept_right
  awaited_right (Naming count taken line) = (agree_lacking 11 (misnamed count taken os) (omega arith) (misnamed_means count taken os), λ s. kept_right)
  awaited_right (Nodes order count taken line) = (agree_outside 11 count taken (omega arith), λ s. kept_right)
  awaited_right (Working turns) = step_right t m r
  awaited_right Stopped = tt

  -- none refuses exactly where the awaited is sound
  kept_sound : (refusal_by (kept_order t m r) ≡ 0) ↔ Holding t m r
  kept_sound =
      let g = (order_gives (kept_order t m r) kept_right).none in (
        λ e. let s = g.0 e in record { footing = record { table = s.1.0; room = (short_means m).0 s.0; within = (beyond_means r).0 s.1.1.0 }; tree = s.1.1.1 },
        λ k. g.1 ((short_means m).1 k.footing.room, (k.footing.table, ((beyond_means r).1 k.footing.within, k.tree))),
      )

  awaited_sound : (awaited : Awaited) → (refusal_by (awaited_order awaited t os m r) ≡ 0) ↔ Sound awaited t os m r
  unfolding step_refusal refusal_by
  awaited_sound (Table x) = (λ e. sofar_none t x (sym (walk_number t x) ∙ e), λ s. walk_number t x ∙ none_sofar t x s)
  awaited_sound Command = kept_sound
  awaited_sound (Naming count taken line) = (
    λ e. let a = or_none (when (misnamed count taken os) 11) (refusal_by (kept_order t m r)) e in
        (kept_sound.0 a.1, (agree_lacking 11 (misnamed count taken os) (omega arith) (misnamed_means count taken os)).none.0 a.0),
    λ s. rw ((misnamed_means count taken os).1 s.1) (kept_sound.1 s.0),
  )
  awaited_sound (Nodes order count taken line) = (
    λ e. let a = or_none (when (leb count taken) 11) (refusal_by (kept_order t m r)) e in
        (kept_sound.0 a.1, (agree_outside 11 count taken (omega arith)).none.0 a.0),
    λ s. rw (lt-leb count taken s.1) (kept_sound.1 s.0),
  )
  awaited_sound (Working turns) = (going t m r, step_none t m r)
  awaited_sound Stopped = (λ e. tt, λ s. refl)

  -- 15 only where the engine's buffers are short
  awaited_short : (awaited : Awaited) → refusal_by (awaited_order awaited t os m r) ≡ 15 → short m ≡ true
  awaited_short (Table x) e = absurd (((order_gives (walk_order t x) (walk_right t x)).some 15 (omega arith)).0 e).1.1
  awaited_short Command e = ((order_gives (kept_order t m r) kept_right).some 15 (omega arith)).0 e
  awaited_short (Naming count taken line) e = (((order_gives (awaited_order (Naming count taken line) t os m r) (awaited_right (Naming count taken line))).some 15 (omega arith)).0 e).1
  awaited_short (Nodes order count taken line) e = (((order_gives (awaited_order (Nodes order count taken line) t os m r) (awaited_right (Nodes order count taken line))).some 15 (omega arith)).0 e).1
  awaited_short (Working turns) e = ((order_gives (step_order t m r) (step_right t m r)).some 15 (omega arith)).0 e
  awaited_short Stopped e = absurd (((order_gives [] tt).some 15 (omega arith)).0 e)

-- ---- a state and its memory

module _ (d : Suspended) (out : List ℕ) where
  abbrev IsWide : Type 0
  IsWide = Wide d.words d.window d.parts d.part_owns d.memory out

  abbrev waited : ℕ
  waited = refusal_by (awaited_order d.state.awaited (table_of d) d.part_owns d.memory d.state.«record»)

  state_right : Right (state_order d out)
  state_right = (
    agree_lacking 15 (narrow d out) (omega arith) (narrow_means d out),
    λ w. (
      agree_lacking 11 (overrun d.state.begun d.window) (omega arith) (overrun_means d.state.begun d.window),
      λ l.
          awaited_right (table_of d) d.part_owns d.memory d.state.«record» d.state.awaited,
    ),
  )

  -- what a call is refused by that finds a buffer short, or none
  pub given_short : (IsWide → ⊥) → state_refusal d out ≡ 15
  unfolding state_refusal refusal_by
  given_short n = ⊎_elim (λ (h : narrow d out ≡ true). rw h) (λ (h : narrow d out ≡ false). absurd (n ((narrow_means d out).0 h))) (either (narrow d out))

  pub given_wide : IsWide → state_refusal d out ≡ refusal_by (settled_order d.state (table_of d) d.window d.part_owns d.memory)
  unfolding state_refusal refusal_by
  given_wide w = rw ((narrow_means d out).1 w)

  -- none refuses a session's
  fits_to : state_refusal d out ≡ 0 → Fits d out
  unfolding state_refusal refusal_by
  fits_to e =
      let a = or_none (when (narrow d out) 15) _ e in
      let b = or_none (when (overrun d.state.begun d.window) 11) waited a.1 in
      let l = (agree_lacking 11 (overrun d.state.begun d.window) (omega arith) (overrun_means d.state.begun d.window)).none.0 b.0 in
      record {
        wide = (agree_lacking 15 (narrow d out) (omega arith) (narrow_means d out)).none.0 a.0;
        begun = l.0;
        line = l.1;
        sound = (awaited_sound (table_of d) d.part_owns d.memory d.state.«record» d.state.awaited).0 b.1;
      }

  fits_from : Fits d out → state_refusal d out ≡ 0
  unfolding state_refusal refusal_by
  fits_from f =
      rw ((narrow_means d out).1 f.wide, (overrun_means d.state.begun d.window).1 (f.begun, f.line))
      ((awaited_sound (table_of d) d.part_owns d.memory d.state.«record» d.state.awaited).1 f.sound)

  -- nor is one that is wide by 15
  narrow_to : state_refusal d out ≡ 15 → IsWide → ⊥
  unfolding refusal_by
  narrow_to e w = ⊎_elim
      (λ (o : overrun d.state.begun d.window ≡ true). let g : state_refusal d out ≡ 11 = given_wide w ∙ rw o in omega arith)
      (λ (o : overrun d.state.begun d.window ≡ false).
      let g : waited ≡ 15 = rw o at (sym (given_wide w) ∙ e) in
      true≢false (sym (awaited_short (table_of d) d.part_owns d.memory d.state.«record» d.state.awaited g) ∙ (short_means d.memory).1 w.room))
      (either (overrun d.state.begun d.window))

pub all_state_gives : AllStateGives
unfolding state_refusal
all_state_gives d out = record { order = order_gives (state_order d out) (state_right d out); fits = (fits_to d out, fits_from d out); short = (narrow_to d out, given_short d out) }
