-- `trail::data_cut` meets its contract.
-- Assumes nothing.
use mathlib.Core.Path.{ap₂, ◌∙◌}
use Rattle.host.specs.declared.Feed.{Feed}
use Rattle.cuts.specs.declared.Cut.{Cut}
use Rattle.drips.specs.Drips.{data_box}
use Rattle.trail.proofs.Boxes.{fill-boxable}
use Rattle.trail.proofs.data_cut.Goals as goal

pub data_box-requires : goal.data_box-requires
data_box-requires c =
    rw (c.decode_feed.ensures, c.fill_cut.ensures) (fill-boxable c.args.r c.args.taken c.args.n c.requires.1 c.requires.0)

pub returns : goal.returns
returns c =
    c.data_box.ensures ∙ ap₂ (λ (f : Feed) (k : Cut). data_box f k c.args.taken c.args.n) c.decode_feed.ensures c.fill_cut.ensures
