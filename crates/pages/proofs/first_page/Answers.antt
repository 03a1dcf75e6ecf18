-- `pages::first_page` meets its contract.
-- Assumes nothing.
use mathlib.Core.Path.{ap}
use native.Mathlib.Omega.{arith}
use Rattle.pages.specs.Pages.{page_of}
use Rattle.pages.proofs.RectLaws.{column-small}
use Rattle.pages.proofs.first_page.Goals as goal

pub overflow_mul-x : goal.overflow_mul-x
overflow_mul-x c = record { fits = omega (arith, column-small c.args.x c.requires.0 c.requires.1) }

pub byte_at-requires : goal.byte_at-requires
byte_at-requires c =
    record { small = c.requires.0; across = omega (arith, column-small c.args.x c.requires.0 c.requires.1); down = omega arith }

pub returns : goal.returns
returns c =
    ap page_of c.byte_at.ensures
