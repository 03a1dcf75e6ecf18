-- `pages::count_marked` meets its contract: those counted and those left are all.
-- Assumes nothing.
use native.Mathlib.Omega.{arith}
use Rattle.pages.proofs.Search.{count_set, count-clear, count_none}
use Rattle.pages.proofs.count_marked.Goals as goal

pub loop-marked-preserved : goal.loop-marked-preserved
loop-marked-preserved c =
    let h = c.loop-marked-test.true in
    let marked = count_set c.args.marks.now c.loop-marked.marked-index 4096 h in
    let clear = count-clear c.args.marks.now c.loop-marked.marked-index 4096 h in
    grind (arith, marked, clear)

pub returns : goal.returns
returns c = omega (arith, count_none c.args.marks.now c.loop-marked.marked-index 4096 c.loop-marked-test.false)
