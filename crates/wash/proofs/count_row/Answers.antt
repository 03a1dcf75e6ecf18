-- `wash::count_row` meets its contract: a row goes by eights.
-- Assumes nothing.
use native.Mathlib.Omega.{arith}
use native.Mathlib.Nat.{mul-le-mul_left}
use mathlib.Core.Path.{ap₂, ◌∙◌}
use Prim.Native.Nat.{ℕ, ◌+◌, ◌*◌, ◌/◌}
use Rattle.wash.proofs.Counting.{by-eights}
use Rattle.wash.proofs.count_row.Goals as goal

pub returns : goal.returns
returns c =
    let a = c.args in (
      ap₂ (λ (m n : ℕ). a.w / 8 * m + n) c.count_few.ensures.0 c.count_few-2.ensures.0 ∙ by-eights a.adds.now a.first a.w,
      omega (arith, mul-le-mul_left (a.w / 8) c.count_few.ensures.1, c.count_few-2.ensures.1),
    )
