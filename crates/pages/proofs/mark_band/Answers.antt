-- `pages::mark_band` meets its contract: the pages of a band are all those from its first byte's to its last byte's.
-- Assumes nothing.
use mathlib.Core.Path.{sym, ap₂, ◌∙◌}
use Prim.Native.Nat.{ℕ, ◌+◌, ◌-◌}
use native.Mathlib.Omega.{arith}
use Rattle.pages.specs.Pages.{marked_at}
use Rattle.pages.specs.Extent.{starts}
use Rattle.pages.proofs.Bands.{band-marks}
use Rattle.pages.proofs.RectLaws.{last-page-fits, band-filled}
use Rattle.pages.proofs.mark_band.Goals as goal

pub overflow_add-last_page : goal.overflow_add-last_page
overflow_add-last_page c = record { fits = omega (arith, last-page-fits c.requires) }

pub mark_pages-requires : goal.mark_pages-requires
mark_pages-requires c = omega (arith, last-page-fits c.requires)

pub returns : goal.returns
returns c =
    c.mark_pages.ensures
    ∙ ap₂ (λ (first last : ℕ). marked_at (starts first (last + 1 - first)) c.args.marks.now) c.first_page-first.ensures c.last_page.ensures
    ∙ sym (band-marks (band-filled c.requires) c.args.marks.now)
