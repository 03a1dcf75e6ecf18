-- `trail::extent_of` meets its contract: that of its rectangle.
-- Assumes nothing.
use mathlib.Core.Path.{ap₂, ◌∙◌}
use Rattle.surface.specs.declared.Surface.{Surface}
use Rattle.cuts.specs.declared.Cut.{Cut}
use Rattle.pages.specs.Extent.{extent_of}
use Rattle.trail.proofs.Boxes.{sized}
use Rattle.trail.proofs.extent_of.Goals as goal

pub extent_of-requires : goal.extent_of-requires
extent_of-requires c =
    rw (c.target_surface.ensures, c.box_of-c.ensures) (sized c.args.r c.args.taken c.args.n c.requires)

pub returns : goal.returns
returns c =
    c.extent_of.ensures
    ∙ ap₂ (λ (s : Surface) (b : Cut). extent_of s b.x b.y b.w b.h c.args.count) c.target_surface.ensures c.box_of-c.ensures
