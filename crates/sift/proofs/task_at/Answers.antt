-- `sift::task_at` meets its contract: by the test for a stretch.
-- Assumes nothing.
use Rattle.scale.specs.Stretch.{taken_at, pixel_task}
use Rattle.sift.specs.Sift.{task_at}
use Rattle.sift.proofs.task_at.Goals as goal

pub returns-then-v : goal.returns-then-v
unfolding task_at pixel_task taken_at
returns-then-v c = rw (c.if-v.true, c.place_of.ensures.0, c.place_of-then-v.ensures.0)

pub returns : goal.returns
unfolding task_at
returns c = rw c.if-v.false
