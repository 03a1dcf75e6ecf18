-- `wash::count_rows` meets its contract: what was counted, and what remains, is all.
-- Assumes nothing.
use native.Mathlib.Omega.{arith}
use mathlib.Core.Path.{sym, ◌∙◌}
use Rattle.wash.proofs.Counting.{rows-turn, rows-done}
use Rattle.wash.proofs.count_rows.Goals as goal

pub loop-j-preserved : goal.loop-j-preserved
loop-j-preserved c =
    let a = c.args in
    let p = c.requires in
    let l = c.loop-j in
    (rw c.count_row-r.ensures.0 (rows-turn a.adds.now a.w a.h l.j l.r c.loop-j-test.true ∙ l.invariant.0), omega (arith, c.count_row-r.ensures.1, p.0, l.invariant.1))

pub returns : goal.returns
returns c =
    let a = c.args in
    let l = c.loop-j in
    sym (rows-done a.adds.now a.w a.h l.j l.r c.loop-j-test.false) ∙ l.invariant.0
