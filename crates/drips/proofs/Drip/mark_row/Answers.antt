-- `drips::Drip::mark_row` meets its contract: the row is outside the clip, or it has no pixel, or its pixels are marked.
-- Assumes nothing.
use native.Mathlib.Omega.{arith}
use Rattle.drips.proofs.RowLaws.{row-outside, row-none, row-marked, row-markable}
use Rattle.drips.proofs.Drip.mark_row.Goals.{then-y-self-via-then-y-self, then-y-self-via-else-y-self+then-self-y}
use Rattle.drips.proofs.Drip.mark_row.Goals as goal

pub returns-then-y-self : goal.returns-then-y-self
returns-then-y-self c =
    let a = c.args in
    row-outside a.self.ink a.self.clip a.self.feed a.from a.past a.j c.requires.0.opened.rows a.marks.now
    (λ top bottom. elim c.then-y-self.branch [
      | then-y-self-via-then-y-self w ↦ omega (arith, w.if-y-self.true)
      | then-y-self-via-else-y-self+then-self-y w ↦ omega (arith, w.if-self-y.true)
    ])

pub mark_rect-requires : goal.mark_rect-requires
mark_rect-requires c =
    let a = c.args in
    let e = c.left_of-left.ensures in
    let f = c.right_of-right.ensures in
    rw (e, f)
    (row-markable a.self.ink a.self.clip a.self.feed a.from a.past a.j c.requires.0 c.requires.1 (omega (arith, c.if-y-self.false)) (omega (arith, c.if-self-y.false))
    (omega (arith, c.if-left-right.true)))

pub returns-then-left-right : goal.returns-then-left-right
returns-then-left-right c =
    let a = c.args in
    row-marked a.self.ink a.self.clip a.self.feed a.from a.past a.j a.marks.now (omega (arith, c.if-y-self.false)) (omega (arith, c.if-self-y.false))
    (rw (← c.left_of-left.ensures, ← c.right_of-right.ensures) c.mark_rect.ensures)

pub returns-else-left-right : goal.returns-else-left-right
returns-else-left-right c =
    let a = c.args in
    row-none a.self.ink a.self.clip a.self.feed a.from a.past a.j a.marks.now (omega (arith, c.left_of-left.ensures, c.right_of-right.ensures, c.if-left-right.false))
