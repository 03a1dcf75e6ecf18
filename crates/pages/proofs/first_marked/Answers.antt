-- `pages::first_marked` meets its contract: the search from here on finds what that from the start does.
-- Assumes nothing.
use mathlib.Core.Path.{◌∙◌}
use Rattle.pages.proofs.Search.{first-here, first-later, first-none}
use Rattle.pages.proofs.first_marked.Goals as goal

pub returns-then-marks-k : goal.returns-then-marks-k
returns-then-marks-k c = first-here _ _ _ c.loop-k-test.true c.if-marks-k.true ∙ c.loop-k.invariant

pub loop-k-preserved : goal.loop-k-preserved
loop-k-preserved c = first-later _ _ _ c.loop-k-test.true c.if-marks-k.false ∙ c.loop-k.invariant

pub returns : goal.returns
returns c = first-none _ _ _ c.loop-k-test.false ∙ c.loop-k.invariant
