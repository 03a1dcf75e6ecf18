-- `trail::mark` meets its contract: all pages of the rectangle, or those that the walk finds.
-- Assumes nothing.
use mathlib.Core.Path.{sym, ap, ◌∙◌}
use Prim.Native.Nat.{◌-◌}
use lib.ListN.{length}
use Rattle.command.specs.Decode.{target}
use Rattle.pages.specs.declared.Extent.{Extent}
use Rattle.pages.specs.Pages.{marked_at}
use Rattle.pages.specs.Extent.{starts}
use Rattle.pages.proofs.ExtentLaws.{extent-whole, extent-past}
use Rattle.acts.specs.Deed.{bank_of}
use Rattle.trail.specs.Trail.{box_by}
use Rattle.trail.proofs.Wets.{lies}
use Rattle.trail.proofs.mark.Goals as goal

pub mark_pages-requires : goal.mark_pages-requires
mark_pages-requires c =
    let a = c.args in
    let b = box_by a.r a.blit.taken (length a.words.now) in
    rw c.extent_of-e.ensures (extent-past (target a.r) b.x b.y b.w b.h a.count)

pub returns-then-e : goal.returns-then-e
returns-then-e c =
    let a = c.args in
    let b = bank_of a.r a.pattern.now in
    let whole = sym (ap (λ (e : Extent). e.whole) c.extent_of-e.ensures) ∙ c.if-e.true in
    c.mark_pages.ensures
    ∙ ap (λ (e : Extent). marked_at (starts e.first (e.past - e.first)) a.marks.now) c.extent_of-e.ensures
    ∙ sym (extent-whole (lies b a.blit a.words.now a.mem.now a.count c.requires) whole a.marks.now)
