-- `add_marks` meets its contract: adding the marks from here on leaves what adding all from the first does.
-- Assumes nothing.
use mathlib.Core.Path.{refl, sym, ◌∙◌}
use Rattle.bitmap.proofs.Turns.{mark-turn, no-mark-turn, marks-done}
use Rattle.bitmap.proofs.add_marks.Goals.{then-marks-k, else-marks-k}
use Rattle.bitmap.proofs.add_marks.Goals as goal

pub loop-k-init : goal.loop-k-init
loop-k-init c = refl

pub loop-k-preserved : goal.loop-k-preserved
loop-k-preserved c =
    let loop = c.loop-k in
    let args = c.args in
    let h = c.loop-k-test.true in
    elim c.if-marks-k.branch [
      | then-marks-k w ↦ rw (w.s-is ∙ w.set_bit.ensures) (mark-turn loop.s args.at args.marks.now loop.k args.past h w.if-marks-k.true ∙ loop.invariant)
      | else-marks-k w ↦ rw w.s-is (no-mark-turn loop.s args.at args.marks.now loop.k args.past h w.if-marks-k.false ∙ loop.invariant)
    ]

pub returns : goal.returns
returns c = sym (marks-done _ _ _ _ _ c.loop-k-test.false) ∙ c.loop-k.invariant
