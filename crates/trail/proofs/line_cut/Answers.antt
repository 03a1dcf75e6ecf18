-- `trail::line_cut` meets its contract.
-- Assumes nothing.
use mathlib.Core.Path.{ap₂, ◌∙◌}
use Rattle.cuts.proofs.CutLaws.{clip-bits}
use Rattle.table.proofs.Verdicts.{line-placed}
use Rattle.dots.specs.Dots.{line_box}
use Rattle.trail.proofs.line_cut.Goals as goal

pub line_box-requires : goal.line_box-requires
line_box-requires c =
    rw (c.decode_line.ensures, c.decode_clip.ensures) (line-placed c.args.r, clip-bits c.args.r)

pub returns : goal.returns
returns c = c.line_box.ensures ∙ ap₂ line_box c.decode_line.ensures c.decode_clip.ensures
