-- `bits::mono_run` meets its contract: each turn takes the pixels of the row that one byte of its source gives.
-- Assumes nothing.
use native.Mathlib.Omega.{arith}
use mathlib.Core.Path.{sym, ◌∙◌}
use Rattle.paint.specs.Paint.{tallied}
use Rattle.paint.proofs.Tallies.{room-left}
use Rattle.paint.proofs.Loops.{row-begins, row-takes, row-ended}
use Rattle.bits.proofs.BitLaws.{byte-once}
use Rattle.bits.proofs.mono_run.Goals as goal

pub loop-i-init : goal.loop-i-init
loop-i-init g c = row-begins

pub mono_in_rows-byte-requires : goal.mono_in_rows-byte-requires
mono_in_rows-byte-requires g c =
    let row = c.requires.0 in
    let k = c.loop-i in
    rw k.invariant.left.long (record { small = row.small; mono = row.mono; on = row.source k.i c.loop-i-test.true }, row.from_flat)

pub put_run-r-requires : goal.put_run-r-requires
put_run-r-requires g c =
    let p = c.requires in
    let row = p.0 in
    let left = c.loop-i.invariant in
    let u = c.loop-i-test.true in
    rw left.left.long (
      (
        (row.colour, row.flat),
        (
          record { wide = omega (arith, u, row.target.wide); on = λ q l h. row.target.on q (omega arith) (omega (arith, u)) },
          room-left row.room left.left.upto (omega (arith, u)),
        ),
      ),
      (omega arith, p.1),
    )

pub loop-i-preserved : goal.loop-i-preserved
loop-i-preserved g c =
    let p = c.requires in
    let k = c.loop-i in
    let m = c.min-m in
    let u = c.loop-i-test.true in
    row-takes k.invariant m.result (omega (arith, u))
    (c.put_run-r.ensures
    ∙ byte-once p.0 k.i m.result _ (tallied k.mem k.r) u (omega (arith, u)) (omega arith) (sym c.mono_in_rows-byte.ensures.0))

pub shape_of-mem : goal.shape_of-mem
shape_of-mem g c = c.loop-i.invariant.left.long

pub returns : goal.returns
returns g c = row-ended c.loop-i.invariant c.loop-i-test.false
