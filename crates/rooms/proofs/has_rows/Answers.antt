-- `rooms::has_rows` meets its contract: by the product.
-- Assumes nothing.
use borrow.Author.Tests.{leb-true}
use Rattle.rooms.proofs.RoomLaws.{tiled-fits, flat-fits}
use Rattle.rooms.proofs.has_rows.Goals as goal

pub returns-then-s : goal.returns-then-s
returns-then-s c = λ e. tiled-fits _ _ _ c.if-s.true (leb-true _ _ e)

pub returns : goal.returns
returns c = λ e. flat-fits _ _ _ c.if-s.false (leb-true _ _ e)
