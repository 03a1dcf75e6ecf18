-- `blocks::move_band` meets its contract: the columns so far have come.
-- Assumes nothing.
use mathlib.Core.Path.{refl}
use Prim.Native.Nat.{◌+◌, ◌≤◌}
use native.Mathlib.Omega.{arith}
use Rattle.blocks.specs.Blocks.{origin_byte}
use Rattle.blocks.proofs.Blocks.{row_small, put-beside, Part, part-put}
use Rattle.blocks.proofs.move_band.Goals as goal

pub overflow_add-x : goal.overflow_add-x
overflow_add-x c = let g = c.requires.0 in omega (arith, g.wide, row_small _ g.small)

pub overflow_add-sx : goal.overflow_add-sx
overflow_add-sx c = let g = c.requires.0 in omega (arith, g.wide', row_small _ g.small')

pub loop-i-preserved : goal.loop-i-preserved
loop-i-preserved c =
    let a = c.args in
    let p = c.requires in
    let inv = c.loop-i.invariant in
    let i = c.loop-i.i in
    let inner = c.to_edge.ensures in
    let k = c.to_edge-k.ensures in
    let r = c.to_edge-k.result in
    let fits : i + r ≤ a.n = omega (arith, inner.0, k.0) in
    let part : Part a.b a.n a.h (a.b.x + i) a.b.y (a.b.sx + i) a.b.sy i 0 r a.h =
    record { left = refl; top = omega arith; left' = refl; top' = omega arith; wide = fits; high = omega arith } in (
      put-beside a.b.to (origin_byte a.b a.mem.now) a.b.x a.b.y (i + r) a.h (omega (arith, p.0.wide)) i r (omega arith) (omega arith) inv.0
          (part-put a.b p.0 part a.b.x a.b.y i a.h (λ q j. omega arith) inv.0 c.move_block.ensures),
      fits,
    )
