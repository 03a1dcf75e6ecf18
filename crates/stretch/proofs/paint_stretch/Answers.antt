-- `stretch::paint_stretch` meets its contract: nothing is left to paint, or the walks begin at the first pixel; in turn, each pixel has its source as it was.
-- Assumes nothing.
use native.Mathlib.Omega.{arith}
use mathlib.Core.Path.{◌≡◌, sym, ap, ◌∙◌}
use mathlib.Core.Bool.{true, false}
use lib.ListN.{length}
use Rattle.surface.specs.Pixels.{rect}
use Rattle.surface.proofs.OnLaws.{pos-of-ne}
use Rattle.rect.specs.Fast.{straight}
use Rattle.rect.proofs.Straight.{coloured}
use Rattle.stretch.specs.Row.{open_task}
use Rattle.stretch.specs.Asked.{Begins}
use Rattle.stretch.proofs.Straight.{straight-only}
use Rattle.stretch.proofs.Order.{nothing_left, in-turn, straight-turn}
use Rattle.stretch.proofs.paint_stretch.Goals as goal

pub returns-then-w-eq0 : goal.returns-then-w-eq0
returns-then-w-eq0 c =
    let a = c.args in
    nothing_left a.t a.pattern a.mem.now a.x a.y a.w a.h (λ w h. omega (arith, c.then-w-eq0.either))

pub straight_rows-requires : goal.straight_rows-requires
straight_rows-requires c =
    let both = straight-only c.args.t _ c.if-t-is_straight.true in
    let is : straight (open_task c.args.t) ≡ true = sym (ap straight c.task_of.ensures) ∙ sym c.is_straight.ensures ∙ both.1 in
    let begins : Begins c.args.t _ c.args.x c.args.y c.args.w c.args.h (length c.args.mem.now) = record { can = c.requires; wide = pos-of-ne c.if-w-eq0.false; high = pos-of-ne c.if-h-eq0.false; rows_at = c.start-rows.ensures } in
    (begins, (pos-of-ne (coloured (open_task c.args.t) is), both.0))

pub returns-then-t-is_straight : goal.returns-then-t-is_straight
returns-then-t-is_straight c =
    let a = c.args in
    let is : straight (open_task a.t) ≡ true = sym (ap straight c.task_of.ensures) ∙ sym c.is_straight.ensures ∙ (straight-only c.args.t _ c.if-t-is_straight.true).1 in
    c.straight_rows.ensures ∙ straight-turn a.t is a.pattern a.mem.now (rect false false a.x a.y a.w a.h) ∙ in-turn c.requires a.pattern a.mem.now

pub mixed_rows-requires : goal.mixed_rows-requires
mixed_rows-requires c =
    rw c.brush_of.ensures.0 (record { can = c.requires; wide = pos-of-ne c.if-w-eq0.false; high = pos-of-ne c.if-h-eq0.false; rows_at = c.start-rows.ensures })

pub returns : goal.returns
returns c =
    let a = c.args in
    let e = c.brush_of.ensures in
    (rw (e.0, e.1) at c.mixed_rows.ensures) ∙ in-turn c.requires a.pattern a.mem.now
