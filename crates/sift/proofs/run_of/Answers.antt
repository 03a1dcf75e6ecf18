-- `sift::run_of` meets its contract: by the layout.
-- Assumes nothing.
use Rattle.sift.proofs.SiftLaws.{run-flat, run-tiled}
use Rattle.sift.proofs.run_of.Goals as goal

pub returns-then-s : goal.returns-then-s
returns-then-s c =
    run-tiled c.args.s c.requires.0 c.args.x c.args.y c.if-s.true c.byte_at-at.ensures c.min.ensures

pub returns : goal.returns
returns c =
    run-flat c.args.s c.requires.0 c.args.x c.args.y c.if-s.false c.byte_at-at.ensures
