-- `blocks::move_blocks` meets its contract: the rows so far have come.
-- Assumes nothing.
use mathlib.Core.Path.{refl}
use Prim.Native.Nat.{◌+◌, ◌≤◌}
use native.Mathlib.Omega.{arith}
use Rattle.blocks.specs.Blocks.{origin_byte}
use Rattle.blocks.proofs.Blocks.{put-below, Part, part-put}
use Rattle.blocks.proofs.move_blocks.Goals as goal

pub loop-j-preserved : goal.loop-j-preserved
loop-j-preserved c =
    let a = c.args in
    let p = c.requires in
    let inv = c.loop-j.invariant in
    let j = c.loop-j.j in
    let inner = c.to_edge.ensures in
    let k = c.to_edge-k.ensures in
    let r = c.to_edge-k.result in
    let fits : j + r ≤ a.h = omega (arith, inner.0, k.0) in
    let part : Part a.b a.n a.h a.b.x (a.b.y + j) a.b.sx (a.b.sy + j) 0 j a.n r =
    record { left = omega arith; top = refl; left' = omega arith; top' = refl; wide = omega arith; high = fits } in (
      put-below a.b.to (origin_byte a.b a.mem.now) a.b.x a.b.y a.n (j + r) p.wide j r (omega arith) (omega arith) inv.0
          (part-put a.b p part a.b.x a.b.y a.n j (λ q i. omega arith) inv.0 c.move_band.ensures),
      fits,
    )
