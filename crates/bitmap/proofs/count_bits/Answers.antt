-- `count_bits` meets its contract: those counted and those left are all.
-- Assumes nothing.
use native.Mathlib.Omega.{arith}
use Rattle.pages.proofs.Search.{count_none}
use Rattle.bitmap.specs.Bits.{bits_in}
use Rattle.bitmap.proofs.Turns.{count-skip, count-rest}
use Rattle.bitmap.proofs.count_bits.Goals as goal

pub loop-k-preserved-then-rest-eq0 : goal.loop-k-preserved-then-rest-eq0
loop-k-preserved-then-rest-eq0 c =
    let args = c.args in
    let k = c.loop-k.k in
    omega (arith, count-skip args.s.now args.at k c.rest_of-rest.result c.loop-k-test.true c.rest_of-rest.ensures c.if-rest-eq0.true)

pub loop-k-preserved : goal.loop-k-preserved
loop-k-preserved c =
    let args = c.args in
    let k = c.loop-k.k in
    omega (arith, count-rest args.s.now args.at k c.rest_of-rest.result c.loop-k-test.true c.rest_of-rest.ensures)

pub returns : goal.returns
returns c =
    let args = c.args in
    omega (arith, count_none (bits_in args.s.now args.at) c.loop-k.k 4096 c.loop-k-test.false)
