-- `pages::last_page` meets its contract.
-- Assumes nothing.
use mathlib.Core.Path.{ap}
use Prim.Native.Nat.{◌+◌}
use native.Mathlib.Nat.{mul-le-mul_right}
use native.Mathlib.Omega.{arith}
use Rattle.pages.specs.Pages.{page_of}
use Rattle.pages.proofs.RectLaws.{column-small}
use Rattle.pages.proofs.last_page.Goals as goal

pub overflow_mul-column : goal.overflow_mul-column
overflow_mul-column c =
    let a = c.args in
    let sized = c.requires.0 in
    record { fits = omega (arith, column-small (a.x + a.w) sized.colour.small sized.wide) }

pub overflow_sub-column : goal.overflow_sub-column
overflow_sub-column c =
    let a = c.args in
    omega (arith, c.requires.0.colour.some, mul-le-mul_right {m = 1} {n = a.x + a.w} a.s.bytes (omega arith))

pub byte_at-requires : goal.byte_at-requires
byte_at-requires c =
    let a = c.args in
    let sized = c.requires.0 in
    record {
      small = sized.colour.small;
      across = omega (arith, column-small (a.x + a.w) sized.colour.small sized.wide);
      down = omega (arith, sized.high);
    }

pub returns : goal.returns
returns c =
    ap page_of c.byte_at.ensures
