-- `rooms::rect_in` meets its contract: in the room that is there every pixel is on, and elsewhere the last one decides.
-- Assumes nothing.
use mathlib.Core.Path.{sym, ◌∙◌}
use borrow.Author.Tests.{leb-true}
use Rattle.surface.proofs.OnLaws.{and_left, and_right}
use Rattle.rooms.proofs.RoomLaws.{has-rect}
use Rattle.rooms.proofs.rect_in.Goals as goal

pub returns-then-has_pixels-has_rows : goal.returns-then-has_pixels-has_rows
returns-then-has_pixels-has_rows c =
    sym (has-rect (record {
      across = c.has_pixels.ensures (and_left c.has_pixels.result c.has_rows.result c.if-has_pixels-has_rows.true);
      down = c.has_rows.ensures (and_right c.has_pixels.result c.has_rows.result c.if-has_pixels-has_rows.true);
    }) _ _ _ _
    (leb-true _ _ (sym c.fits.ensures ∙ and_left c.fits.result c.fits-2.result c.if-fits.true))
    (leb-true _ _ (sym c.fits-2.ensures ∙ and_right c.fits.result c.fits-2.result c.if-fits.true)))
