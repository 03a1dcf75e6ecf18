-- `spans::on_surface` meets its contract: the last byte decides.
-- Assumes nothing.
use borrow.Author.Tests.{lt-ltb, le-ltb}
use Rattle.surface.proofs.OnLaws.{on-decided}
use Rattle.spans.proofs.on_surface.Goals as goal

pub returns-then-x-row_pixels : goal.returns-then-x-row_pixels
returns-then-x-row_pixels c =
    let a = c.args in
    rw (on-decided a.s a.len a.x a.y, ← c.row_pixels.ensures, lt-ltb _ _ c.if-x-row_pixels.true, c.byte_at.ensures, c.last_byte.ensures.0)

pub returns-else-x-row_pixels : goal.returns-else-x-row_pixels
returns-else-x-row_pixels c =
    let a = c.args in
    rw (on-decided a.s a.len a.x a.y, ← c.row_pixels.ensures, le-ltb _ _ c.if-x-row_pixels.false)
