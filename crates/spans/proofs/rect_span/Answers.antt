-- `spans::rect_span` meets its contract: an empty rectangle has an empty span, any other that of its two corners.
-- Assumes nothing.
use native.Mathlib.Omega.{arith}
use mathlib.Core.Path.{sym, ap₂}
use mathlib.Core.Bool.{false}
use Prim.Native.Nat.{ℕ, ◌+◌, ◌-◌}
use Rattle.spans.specs.Span.{span}
use Rattle.surface.proofs.Rows.{byte_at-small}
use Rattle.spans.proofs.Spans.{rect-empty}
use Rattle.spans.proofs.Spans.{rect-span as span-of-rect}
use Rattle.spans.proofs.rect_span.Goals as goal
use Rattle.spans.proofs.rect_span.Goals.{then-w-eq0-via-then-w-eq0, then-w-eq0-via-else-w-eq0+then-h-eq0}

pub returns-then-w-eq0 : goal.returns-then-w-eq0
returns-then-w-eq0 c = elim c.then-w-eq0.branch [
  | then-w-eq0-via-then-w-eq0 w ↦ sym (rect-empty false false c.args.s c.args.x c.args.y c.args.w c.args.h (λ p q. omega (arith, w.if-w-eq0.true)))
  | then-w-eq0-via-else-w-eq0+then-h-eq0 w ↦ sym (rect-empty false false c.args.s c.args.x c.args.y c.args.w c.args.h (λ p q. omega (arith, w.if-h-eq0.true)))
]

pub overflow_add-result : goal.overflow_add-result
overflow_add-result c =
    omega (
      arith,
      c.byte_at-high.ensures,
      byte_at-small {y = c.args.y + (c.args.h - 1)} (record { small = c.requires.small; across = c.last_byte.ensures.1; down = omega arith }),
    )

pub returns : goal.returns
returns c = rw (span-of-rect false false c.args.s c.args.x c.args.y c.args.w c.args.h (omega arith) (omega arith) (c.requires.column (omega arith))) (ap₂ (λ (m n : ℕ). span m (n + 1)) (cc) (cc))
