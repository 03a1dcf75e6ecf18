-- `wash::Washing::wash_row` meets its contract: the pieces so far are changed.
-- Assumes nothing.
use mathlib.Core.Path.{sym, ap, subst, ◌∙◌}
use Prim.Native.Nat.{ℕ, ◌+◌, ◌-◌, ◌*◌, ◌%◌, ◌<◌}
use native.Mathlib.Nat.{mod-lt}
use native.Mathlib.Omega.{arith}
use Rattle.surface.specs.Place.{byte_at}
use Rattle.tint.specs.Masking.{blended}
use Rattle.blocks.specs.Blocks.{Put}
use Rattle.blocks.proofs.Blocks.{row_small}
use Rattle.wash.specs.Wash.{washed}
use Rattle.wash.proofs.Pieces.{piece-at, piece-put, piece-more}
use Rattle.wash.proofs.Washing.wash_row.Goals as goal

pub overflow_add-x : goal.overflow_add-x
overflow_add-x c = let p = c.requires in omega (arith, p.wide, row_small _ p.small)

pub overflow_add-x-in-loop-i : goal.overflow_add-x-in-loop-i
overflow_add-x-in-loop-i c = let p = c.requires in omega (arith, p.wide, row_small _ p.small, c.loop-i-test.true)

pub byte_at-at-requires : goal.byte_at-at-requires
byte_at-at-requires c =
    let p = c.requires in
    record { small = p.small; across = omega (arith, p.wide, row_small _ p.small, c.loop-i-test.true); down = omega (arith, p.high) }

pub tint_bytes-requires : goal.tint_bytes-requires
tint_bytes-requires c =
    let e = c.to_edge-k.ensures in
    let l = c.loop-i in
    let a = c.args in
    let p = c.requires in
    let low = mod-lt l.i p.steps.some in (
      λ i h. rw (c.byte_at-at.ensures, ← piece-at a.self.now.s a.self.now.keep a.self.now.flip (a.x + l.i) a.y _ (e.2 p.tiled) i h, l.invariant.0.long)
          (p.held (a.x + l.i + i) (omega arith) (omega (arith, e.0))),
      omega (arith, p.room, p.steps.few, e.2 p.tiled),
      omega (arith, p.room, p.steps.few, e.2 p.tiled),
    )

pub loop-i-preserved : goal.loop-i-preserved
loop-i-preserved c =
    let e = c.to_edge-k.ensures in
    let k = c.to_edge-k.result in
    let l = c.loop-i in
    let a = c.args in
    let p = c.requires in
    let from = a.first + l.i % (8 * a.self.now.s.bytes) in
    let piece = piece-put a.self.now.s a.self.now.keep a.self.now.flip (a.x + l.i) a.y k (e.2 p.tiled) from l.mem
    (λ i h u. subst (λ (n : ℕ). byte_at a.self.now.s i a.y < n) (sym l.invariant.0.long) (p.held i (omega arith) (omega (arith, e.0)))) in
    let made = c.tint_bytes.ensures ∙ ap (λ (at : ℕ). blended a.self.now.keep a.self.now.flip from at k l.mem) c.byte_at-at.ensures in (
      piece-more a.self.now.s a.self.now.keep a.self.now.flip a.first (8 * a.self.now.s.bytes) a.x a.y a.n l.i k p.steps p.wide (omega (arith, e.0)) (omega (arith, e.2 p.tiled))
          p.keeps p.flips l.invariant.0
          (subst (Put a.self.now.s (washed a.self.now.s a.self.now.keep a.self.now.flip (λ q. from + (q.x - (a.x + l.i))) l.mem) (a.x + l.i) a.y k 1 l.mem) (sym made) piece),
      omega (arith, e.0),
    )
