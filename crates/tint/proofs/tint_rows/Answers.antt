-- `tint::tint_rows` meets its contract: what remains of the rectangle, painted on the memory now, is the rectangle painted on the memory at the start.
-- Assumes nothing.
use mathlib.Core.Path.{refl, ◌∙◌}
use Prim.Native.Nat.{◌+◌}
use Rattle.paint.specs.Paint.{tallied}
use Rattle.paint.proofs.Loops.{rows-begin, rows-go-on, rows-ended}
use Rattle.tint.proofs.FillLaws.{down-row}
use Rattle.tint.proofs.tint_rows.Goals as goal

pub loop-j-init : goal.loop-j-init
loop-j-init c = (rows-begin, refl)

pub loop-j-preserved : goal.loop-j-preserved
loop-j-preserved c =
    let l = c.loop-j in
    let a = c.args in (
      rows-go-on l.invariant.0 (a.y + l.j) c.loop-j-test.true refl
          (c.tint_row-n.ensures ∙ down-row a.s a.keep.now a.flip.now a.adds.now a.x a.y a.w l.j (tallied l.mem l.n)),
      c.tint_row-n.auto.old ∙ l.invariant.1,
    )

pub returns : goal.returns
returns c = rows-ended c.loop-j.invariant.0 c.loop-j-test.false
