-- `pages::no_marks` meets its contract.
-- Assumes nothing.
use mathlib.Core.Path.{refl}
use Rattle.pages.specs.Pages.{no_marks}
use Rattle.pages.proofs.no_marks.Goals as goal

pub returns : goal.returns
unfolding no_marks
returns c = refl
