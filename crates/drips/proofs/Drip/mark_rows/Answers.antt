-- `drips::Drip::mark_rows` meets its contract: the rows left, marked now, are all of them, marked at the start.
-- Assumes nothing.
use Prim.Native.Nat.{◌+◌, ◌*◌}
use Rattle.drips.proofs.RowLaws.{rows_take, rows-done}
use Rattle.drips.proofs.Drip.mark_rows.Goals as goal

pub loop-j-init : goal.loop-j-init
loop-j-init c =
    rw (c.first_row-j.ensures, c.min-end.ensures, c.past_row.ensures)

pub loop-j-preserved : goal.loop-j-preserved
loop-j-preserved c =
    let a = c.args in
    rows_take a.self.ink.target a.self.clip a.self.feed (4 * a.taken) (4 * (a.taken + a.n)) c.loop-j.j _ _ c.loop-j-test.true c.mark_row.ensures
    c.loop-j.invariant

pub returns : goal.returns
returns c =
    let a = c.args in
    rows-done a.self.ink.target a.self.clip a.self.feed (4 * a.taken) (4 * (a.taken + a.n)) c.loop-j.j _ _ c.loop-j-test.false c.loop-j.invariant
