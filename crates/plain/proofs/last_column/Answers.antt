-- `plain::last_column` meets its contract: by the test for mono.
-- Assumes nothing.
use native.Mathlib.Omega.{arith}
use native.Mathlib.Nat.{mul-le-mul_left}
use mathlib.Core.Path.{sym}
use Prim.Native.Nat.{◌≤◌}
use Rattle.surface.proofs.OnLaws.{pos-of-ne}
use Rattle.host.proofs.Places.{mono-column, colour-column}
use Rattle.plain.proofs.last_column.Goals as goal

pub returns-then-feed-eq0 : goal.returns-then-feed-eq0
returns-then-feed-eq0 c = sym (mono-column c.args.feed c.args.i c.if-feed-eq0.true)

pub overflow_mul-result : goal.overflow_mul-result
overflow_mul-result c = let four : c.args.feed.bytes ≤ 4 = omega arith in omega (arith, mul-le-mul_left c.args.i four)

pub overflow_add-result : goal.overflow_add-result
overflow_add-result c = let four : c.args.feed.bytes ≤ 4 = omega arith in omega (arith, mul-le-mul_left c.args.i four)

pub returns : goal.returns
returns c = omega (arith, colour-column c.args.feed c.args.i c.if-feed-eq0.false, pos-of-ne c.if-feed-eq0.false)
