-- What the search's front says of a turn, of its start and of its end. Assumes nothing.
use Rattle.std.proofs.Common.{ℕ, ◌≡◌, ◌<◌, List, get_or, arith, refl, sym, subst, ap, ◌∙◌, ◌⊎◌, inl, inr}
use mathlib.Core.Logic.{⊎_elim}
use lib.ListN.{length-set}
use Rattle.circles_find.specs.Inner.Search.{Arg, Stated, Visited}
use Rattle.circles_find.proofs.Rounds.{way_stated}
use Rattle.circles_find.proofs.Front.{Front, Looked, grew_join, done_kept, looked, started, ended, found_before, front_le, front_room, done_more, seen_at}
use Rattle.circles_find.proofs.search.mark_reads.Goals as goal

module _ {n : ℕ} (a b : List ℕ) {okay : List ℕ} {k x : ℕ} {m₀ m q : List ℕ} {t v : ℕ} (f : Front n (Arg n a b) okay k x m₀ m q t) where
  -- the slot of a turn is in the search; what is in the queue is the start or allowed, so it is declared
  entry : {h : ℕ} → Stated a x → ((y : ℕ) → y < n → get_or okay y 0 ≡ k → Stated a y) → h < t → v ≡ get_or q h 0 → (v < n) × (get_or m v 0 ≡ x) × Stated a v
  entry {h} sx so l e =
      let w = f.queued h l in
      let small : v < n = subst (λ (u : ℕ). u < n) (sym e) w.0 in
      let marked : get_or m v 0 ≡ x = ap (λ (u : ℕ). get_or m u 0) e ∙ w.1 in
      (small, marked, way_stated n a b okay k sx so (f.sound v small marked))

  -- one look at an argument of it
  one_look : {m' q' : List ℕ} {r y : ℕ} → (v < n) × (get_or m v 0 ≡ x) × Stated a v → (get_or a v 0 ≡ y) ⊎ (get_or b v 0 ≡ y) → Visited n y x okay k m q m' q' t r → Looked n (Arg n a b) okay k x m₀ m q t y m' q' r
  one_look w h = looked f w.0 w.1 (λ yl. (w.0, yl, w.2, h))

pub loop-head-init : goal.loop-head-init
loop-head-init c =
    let r = c.requires.n_le_slots_most in
    (rw c.from.ensures (started c.args.queue.now r.3 r.4 r.2), record { all = λ i l. absurd (omega arith) }, omega arith, omega (arith, r.2.small))

pub look-tail-requires-in-loop-head : goal.look-tail-requires-in-loop-head
look-tail-requires-in-loop-head c =
    let g = c.args.g in
    let p = c.requires in
    let f = c.loop-head.invariant.0 in
    let w = entry g.a.now g.b.now f p.stated.0 p.stated.1 c.loop-head-test.true c.from-v.ensures in
    (p.n_le_slots_most.0, p.n_le_slots_most.1, front_room (one_look g.a.now g.b.now f w (inl refl) c.look-tail.ensures).front)

pub loop-head-preserved : goal.loop-head-preserved
loop-head-preserved c =
    let g = c.args.g in
    let p = c.requires in
    let l = c.loop-head in
    let f = l.invariant.0 in
    let v = c.from-v.result in
    let w = entry g.a.now g.b.now f p.stated.0 p.stated.1 c.loop-head-test.true c.from-v.ensures in
    let first = one_look g.a.now g.b.now f w (inl refl) c.look-tail.ensures in
    let second = one_look g.a.now g.b.now first.front (w.0, first.grew.stays v w.1, w.2) (inr refl) c.look-tail-in-loop-head.ensures in
    let both = grew_join first.grew second.grew in (
      second.front,
      done_more v (both.same l.head c.loop-head-test.true ∙ sym c.from-v.ensures)
          (λ z h. ⊎_elim
          (λ o. second.grew.stays z (seen_at first z o h.0.1 h.1))
          (λ o. seen_at second z o h.0.1 h.1)
          h.0.3)
          (done_kept l.invariant.2 both l.invariant.1),
      omega (arith, both.longer, c.loop-head-test.true),
      omega (arith, front_le second.front, length-set c.args.mark.now c.args.s.x c.args.s.x),
    )

pub returns : goal.returns
returns c = let i = c.loop-head.invariant in found_before (ended c.requires.n_le_slots_most.2.small (λ u v e. e.1) i.0 i.1 c.loop-head-test.false)
