-- `pages::mark_pages` meets its contract: the pages left to mark, marked now, are all of them, marked at the start.
-- Assumes nothing.
use mathlib.Core.Path.{refl, sym, ◌∙◌}
use Rattle.pages.proofs.MarkLaws.{starts-cons, starts_none}
use Rattle.pages.proofs.mark_pages.Goals as goal

pub loop-page-init : goal.loop-page-init
loop-page-init c = refl

pub loop-page-preserved : goal.loop-page-preserved
loop-page-preserved c = starts-cons _ _ _ c.loop-page-test.true ∙ c.loop-page.invariant

pub returns : goal.returns
returns c = sym (starts_none _ _ _ c.loop-page-test.false) ∙ c.loop-page.invariant
