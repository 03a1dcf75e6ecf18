-- `trail::mark_some` meets its contract: all pixels of the cut, or those that pass the test.
-- Assumes nothing.
use mathlib.Core.Path.{sym, ap, ◌∙◌}
use mathlib.Core.List.{List}
use Rattle.surface.specs.Pixels.{Px}
use Rattle.pages.specs.Pages.{marking}
use Rattle.trail.proofs.mark_some.Goals as goal

pub returns-then-count-c : goal.returns-then-count-c
returns-then-count-c c =
    c.mark_rect.ensures
    ∙ ap (λ (ps : List Px). marking c.args.v.task.ink.target ps c.args.marks.now) (sym (c.requires.1 c.if-count-c.true))
