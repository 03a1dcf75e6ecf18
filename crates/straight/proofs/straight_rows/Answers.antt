-- `straight::straight_rows` meets its contract: what remains of the rectangle, painted on the memory now, is the rectangle painted on the memory at the start.
-- Assumes nothing.
use native.Mathlib.Nat.{mul-zero, mul-le-mul}
use native.Mathlib.Omega.{arith}
use mathlib.Core.Path.{ap, ◌∙◌}
use Prim.Native.Nat.{ℕ, ◌+◌, ◌^◌}
use Rattle.paint.proofs.Turns.{nth_in}
use Rattle.paint.proofs.Loops.{rows-begin, rows_fill, rows-full, rows-sum}
use Rattle.straight.proofs.StraightLaws.{nth-from, can-row}
use Rattle.straight.proofs.straight_rows.Goals as goal

pub loop-i-init : goal.loop-i-init
loop-i-init c = rw mul-zero rows-begin

pub place-j-requires : goal.place-j-requires
place-j-requires c = (c.loop-i-test.true, omega (arith, c.requires.high))

pub straight_row-changed-requires : goal.straight_row-changed-requires
straight_row-changed-requires c =
    let a = c.args in
    let k = c.loop-i in
    let number = nth_in a.to_top 0 a.h k.i c.loop-i-test.true in
    let e = c.place-j.ensures in
    rw k.invariant.left.long (can-row c.requires c.place-j.result (omega arith))

pub overflow_add-changed : goal.overflow_add-changed
overflow_add-changed c =
    let j = c.place-j in
    omega (
      arith,
      rows-sum c.loop-i.invariant (omega (arith, c.requires.wide)) (omega (arith, c.requires.high))
          c.loop-i-test.true (c.args.t.y + j.result) c.straight_row-changed.ensures,
    )

pub loop-i-preserved : goal.loop-i-preserved
loop-i-preserved c =
    let a = c.args in
    let k = c.loop-i in
    let j = c.place-j in
    rows_fill k.invariant (a.t.y + j.result) c.loop-i-test.true
    (ap (λ (r : ℕ). a.t.y + r) j.ensures ∙ nth-from a.to_top a.t.y a.h k.i) c.straight_row-changed.ensures

pub overflow_mul-result : goal.overflow_mul-result
overflow_mul-result c =
    omega (arith, mul-le-mul {n₁ = c.args.w} {m₁ = c.args.h} {n₂ = 2 ^ 13} {m₂ = 2 ^ 13} (omega (arith, c.requires.wide)) (omega (arith, c.requires.high)))

pub returns : goal.returns
returns c = rows-full c.loop-i.invariant c.loop-i-test.false
