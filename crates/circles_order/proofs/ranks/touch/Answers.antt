-- The cursor moves where it stands at w. Assumes nothing.
use Rattle.std.proofs.Common.{ℕ, ◌≡◌, ◌<◌, List, get_or, arith, sym, ap, subst, ◌∙◌}
use Rattle.circles_find.specs.Inner.Labels.{Kin}
use Rattle.circles_order.specs.Inner.Turns.{Advanced}
use Rattle.circles_order.proofs.Cursors.{moved_none, moved_on, moved_past, sure_at}
use Rattle.circles_order.proofs.ranks.touch.Goals as goal

-- the circle is its own label's
own : {n : ℕ} {label after : List ℕ} {w j : ℕ} → Kin n label after → w < n → get_or label w 0 < n → j ≡ get_or label w 0 → get_or label j 0 ≡ j
own {label} {w} K wl h e = subst (λ (u : ℕ). get_or label u 0 ≡ u) (sym e) (K.own w wl h)

-- how its cursor moved
gone : {n : ℕ} {a b label taken : List ℕ} (cur : List ℕ) {l w j d : ℕ} → j ≡ l → get_or cur j 0 ≡ w → Advanced n a b label taken l w d → Advanced n a b label taken j (get_or cur j 0) d
gone {n} {a} {b} {label} {taken} cur {l} {j} {d} e f A = subst (λ (u : ℕ). Advanced n a b label taken u (get_or cur j 0) d) (sym e) (subst (λ (u : ℕ). Advanced n a b label taken l u d) (sym f) A)

pub returns-then-cur-j : goal.returns-then-cur-j
returns-then-cur-j c =
    let p = c.requires in
    let e = c.from-j.ensures ∙ ap (λ (u : ℕ). get_or c.args.r.labels.label.now u 0) c.from.ensures in
    (moved_none p.kin.0.few p.cursors.0 p.cursors.1, record { at = λ h q. absurd (c.if-cur-j.true (ap (λ (u : ℕ). get_or c.args.cur.now u 0) e ∙ q)) })

pub returns-then-r-from : goal.returns-then-r-from
returns-then-r-from c =
    let p = c.requires.kin in
    let C = c.requires.cursors.0 in
    let j = c.from-j.result in
    let e = c.from-j.ensures ∙ ap (λ (u : ℕ). get_or c.args.r.labels.label.now u 0) c.from.ensures in
    let small : j < c.args.r.g.n = omega (arith, e, p.4) in
    let at : get_or c.args.cur.now j 0 < c.args.r.g.n = omega (arith, p.3, c.if-cur-j.false) in
    let o = own p.0 p.3 p.4 e in
    let A = gone c.args.cur.now c.from-j.ensures c.if-cur-j.false c.advance-d.ensures in
    (moved_past p.0.few C small o at A c.put.ensures (omega arith), sure_at p.0.few C small o at A c.args.w p.3 (sym e))

pub returns-else-r-from : goal.returns-else-r-from
returns-else-r-from c =
    let p = c.requires.kin in
    let C = c.requires.cursors.0 in
    let j = c.from-j.result in
    let e = c.from-j.ensures ∙ ap (λ (u : ℕ). get_or c.args.r.labels.label.now u 0) c.from.ensures in
    let small : j < c.args.r.g.n = omega (arith, e, p.4) in
    let at : get_or c.args.cur.now j 0 < c.args.r.g.n = omega (arith, p.3, c.if-cur-j.false) in
    let o = own p.0 p.3 p.4 e in
    let A = gone c.args.cur.now c.from-j.ensures c.if-cur-j.false c.advance-d.ensures in
    (moved_on p.0.few C small o at A c.requires.cursors.1 (omega arith), sure_at p.0.few C small o at A c.args.w p.3 (sym e))
