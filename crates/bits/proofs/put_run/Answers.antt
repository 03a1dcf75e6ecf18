-- `bits::put_run` meets its contract: each turn puts the next pixel of the row, from where it begins.
-- Assumes nothing.
use native.Mathlib.Omega.{arith}
use mathlib.Core.Path.{◌≡◌, refl, ap, ◌∙◌}
use Prim.Native.Nat.{ℕ, ◌+◌, ◌-◌}
use Rattle.surface.proofs.Bytes.{product_lt}
use Rattle.paint.specs.Paint.{tallied}
use Rattle.paint.proofs.Loops.{row-begins, row_room, row-goes-on, row-ended}
use Rattle.bits.specs.Bits.{coloured, bit_of}
use Rattle.bits.proofs.BitLaws.{run-held, run-dab}
use Rattle.bits.proofs.put_run.Goals as goal

pub loop-i-init : goal.loop-i-init
loop-i-init c = row-begins

pub overflow_mul-i : goal.overflow_mul-i
overflow_mul-i c =
    let p = c.requires in
    omega (arith, product_lt 3 3 {a = c.loop-i.i} {b = c.args.n} (omega (arith, p.1.0)) (omega (arith, p.1.1, p.0.0.0.small.bytes)))

pub overflow_add-at : goal.overflow_add-at
overflow_add-at c =
    let p = c.requires in
    omega (arith, (run-held c.args.p.target p.0.0.1 c.args.x c.args.y c.loop-i.i c.args.n _ p.1.1 c.place_in_rows-at.ensures p.0.1.0 c.loop-i-test.true).inside)

pub put_bit-r-requires : goal.put_bit-r-requires
put_bit-r-requires c =
    let p = c.requires in
    let left = c.loop-i.invariant in
    let more = c.loop-i-test.true in
    rw left.left.long (run-held c.args.p.target p.0.0.1 c.args.x c.args.y c.loop-i.i c.args.n _ p.1.1 c.place_in_rows-at.ensures p.0.1.0 more, row_room left p.0.1.1 more)

pub loop-i-preserved : goal.loop-i-preserved
loop-i-preserved c =
    let a = c.args in
    let k = c.loop-i in
    let z : k.i ≡ a.x + k.i - a.x = omega arith in
    row-goes-on k.invariant (a.x + k.i) c.loop-i-test.true refl
    (c.put_bit-r.ensures ∙ run-dab a.p.target c.requires.0.0.1 a.x a.y k.i c.args.n _ c.requires.1.1 c.place_in_rows-at.ensures _ (tallied k.mem k.r))
    (ap (λ (d : ℕ). coloured a.p (bit_of a.byte (a.k + d))) z)

pub shape_of-mem : goal.shape_of-mem
shape_of-mem c = c.loop-i.invariant.left.long

pub returns : goal.returns
returns c = row-ended c.loop-i.invariant c.loop-i-test.false
