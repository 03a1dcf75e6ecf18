-- `ppm::Page::number` meets its contract: what the places that are left give, said on the page now, the number gives, said on the page at the start.
-- Assumes nothing.
use mathlib.Core.Path.{◌≡◌}
use Prim.Native.Nat.{◌/◌, ◌^◌}
use Rattle.ppm.specs.declared.Page.{Page}
use Rattle.ppm.specs.Text.{digits, decimal}
use Rattle.ppm.specs.Says.{Says}
use Rattle.ppm.proofs.Page.number.Given as goal

abbrev pub invariant-loop-k : goal.invariant-loop-k
invariant-loop-k l = ((p : Page) → Says (digits l.k l.n) l.self p → Says (decimal l.n) l.initial.self p) × (l.power ≡ 10 ^ l.k / 10)
