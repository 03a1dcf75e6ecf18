-- `spans::box_on` meets its contract: an empty rectangle has no pixel, and of any other the last corner decides.
-- Assumes nothing.
use native.Mathlib.Omega.{arith}
use mathlib.Core.Path.{◌≡◌, sym, ap₂, ◌∙◌}
use mathlib.Core.Bool.{false}
use Prim.Native.Nat.{◌+◌, ◌-◌}
use Rattle.surface.specs.Place.{on_surface}
use Rattle.spans.proofs.Corner.{rect-corner, rect-none}
use Rattle.spans.proofs.box_on.Goals as goal

pub returns-then-h-eq0 : goal.returns-then-h-eq0
returns-then-h-eq0 c = cc (rect-none false false c.args.s c.args.len 0 0 c.args.w c.args.h (λ p q. omega arith))

pub returns-else-h-eq0 : goal.returns-else-h-eq0
returns-else-h-eq0 c = let a = c.args in
    let x : a.w - 1 ≡ 0 + (a.w - 1) = omega arith in
    let y : a.h - 1 ≡ 0 + (a.h - 1) = omega arith in
    c.close_on.ensures ∙ ap₂ (on_surface a.s a.len) x y ∙ sym (rect-corner false false a.s a.len 0 0 a.w a.h (omega arith) (omega arith))
