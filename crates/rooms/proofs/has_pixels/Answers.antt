-- `rooms::has_pixels` meets its contract: by the product.
-- Assumes nothing.
use borrow.Author.Tests.{leb-true}
use Rattle.surface.proofs.OnLaws.{pos-of-ne}
use Rattle.rooms.proofs.RoomLaws.{mono-fits, colour-fits}
use Rattle.rooms.proofs.has_pixels.Goals as goal

pub returns-then-s-eq0 : goal.returns-then-s-eq0
returns-then-s-eq0 c = λ e. mono-fits _ _ c.if-s-eq0.true (leb-true _ _ (rw c.row_bytes-row.ensures.0 at e))

pub returns : goal.returns
returns c = λ e. colour-fits _ _ (pos-of-ne c.if-s-eq0.false) (leb-true _ _ (rw c.row_bytes-row.ensures.0 at e))
