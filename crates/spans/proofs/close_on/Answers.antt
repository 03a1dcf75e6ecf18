-- `spans::close_on` meets its contract: both tests go by the pixel's last byte.
-- Assumes nothing.
use native.Mathlib.Omega.{arith}
use borrow.Author.Tests.{lt-ltb, le-ltb}
use Prim.Native.Nat.{◌<◌}
use Rattle.surface.proofs.OnLaws.{end_byte, on-by-end}
use Rattle.spans.proofs.close_on.Goals as goal

pub returns-then-last-row_bytes : goal.returns-then-last-row_bytes
returns-then-last-row_bytes c =
    let a = c.args in
    let h : end_byte a.s a.x < c.row_bytes.result = omega arith in
    rw (on-by-end a.s a.len a.x a.y c.requires.0.some, ← c.row_bytes.ensures.0, lt-ltb _ _ h, c.close_at.ensures)

pub returns-else-last-row_bytes : goal.returns-else-last-row_bytes
returns-else-last-row_bytes c =
    let a = c.args in
    rw (on-by-end a.s a.len a.x a.y c.requires.0.some, ← c.row_bytes.ensures.0, le-ltb _ _ c.if-last-row_bytes.false)
