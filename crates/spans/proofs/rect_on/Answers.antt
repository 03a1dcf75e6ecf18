-- `spans::rect_on` meets its contract: an empty rectangle has no pixel, and of any other the last corner decides.
-- Assumes nothing.
use native.Mathlib.Omega.{arith}
use mathlib.Core.Bool.{false}
use Rattle.spans.proofs.Corner.{rect-corner, rect-none}
use Rattle.spans.proofs.rect_on.Goals as goal

pub returns-then-h-eq0 : goal.returns-then-h-eq0
returns-then-h-eq0 c = cc (rect-none false false c.args.s c.args.len c.args.x c.args.y c.args.w c.args.h (λ p q. omega arith))

pub returns-else-h-eq0 : goal.returns-else-h-eq0
returns-else-h-eq0 c = rw (rect-corner false false c.args.s c.args.len c.args.x c.args.y c.args.w c.args.h (omega arith) (omega arith)) (cc)
