-- `ppm::Page::say` meets its contract: what the text that is left gives, said on the page now, the whole text gives, said on the page at the start.
-- Assumes nothing.
use lib.ListN.{drop}
use Rattle.ppm.specs.declared.Page.{Page}
use Rattle.ppm.specs.Says.{Says}
use Rattle.ppm.proofs.Page.say.Given as goal

abbrev pub invariant-loop-b : goal.invariant-loop-b
invariant-loop-b l = (p : Page) → Says (drop l.b-index l.text) l.self p → Says l.text l.initial.self p
