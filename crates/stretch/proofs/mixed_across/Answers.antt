-- `stretch::mixed_across` meets its contract: each turn gives its pixel what the values of the pattern's row give it, and the walk goes on.
-- Assumes nothing.
use native.Mathlib.Omega.{arith}
use mathlib.Core.Path.{refl, ap}
use Prim.Native.Nat.{ℕ, ◌+◌, ◌-◌}
use Rattle.paint.proofs.Loops.{row-begins, row_room, row-goes-on, row-ended}
use Rattle.scale.specs.Stretch.{taken_at}
use Rattle.stretch.proofs.Taken.{can-step, steps_on, walk_begins, walk-place}
use Rattle.stretch.proofs.Mixed.{taken-given}
use Rattle.stretch.proofs.mixed_across.Goals as goal

pub loop-i-init : goal.loop-i-init
loop-i-init c = let b = c.args.b.now.band in (row-begins, walk_begins b.stretch.columns b.x b.begins)

pub overflow_add-at : goal.overflow_add-at
overflow_add-at c = omega (arith, c.requires.0.0.wide, c.loop-i-test.true)

pub overflow_sub-walk : goal.overflow_sub-walk
overflow_sub-walk c =
    let k = c.loop-i in
    omega (arith, walk-place c.args.b.now.band.stretch.columns _ k.invariant.1, (c.requires.0.0.each k.i c.loop-i-test.true).left)

pub source_at-s-requires : goal.source_at-s-requires
source_at-s-requires c =
    let b = c.args.b.now in
    let k = c.loop-i in
    rw (walk-place b.band.stretch.columns _ k.invariant.1, k.invariant.0.left.long, c.requires.1)
    (record { small = c.requires.0.0.small; on = (c.requires.0.0.each k.i c.loop-i-test.true).from }, b.by_source)

pub get_pixel-old-requires : goal.get_pixel-old-requires
get_pixel-old-requires c =
    let k = c.loop-i in
    rw k.invariant.0.left.long (c.requires.0.0.each k.i c.loop-i-test.true).on

pub put_value-r-requires : goal.put_value-r-requires
put_value-r-requires c =
    let k = c.loop-i in
    rw k.invariant.0.left.long ((c.requires.0.0.each k.i c.loop-i-test.true).on, row_room k.invariant.0 c.requires.0.1 c.loop-i-test.true)

pub next-walk-requires : goal.next-walk-requires
next-walk-requires c =
    let b = c.args.b.now.band in
    let k = c.loop-i in
    can-step b.x b.w k.i c.requires.0.0.first c.requires.0.0.last k.invariant.1 c.loop-i-test.true

pub loop-i-preserved : goal.loop-i-preserved
unfolding taken_at
loop-i-preserved c =
    let b = c.args.b.now.band in
    let k = c.loop-i in
    let more = c.loop-i-test.true in
    let given =
    taken-given b.stretch c.args.quads.now k.mem (b.x + k.i) c.args.y (ap (λ (z : ℕ). z - 16384) (walk-place b.stretch.columns _ k.invariant.1)) c.requires.1
    c.source_at-s.ensures c.get_pixel-old.ensures c.pattern_column-column.ensures.0 c.quad_at-k.ensures.0 c.merge-v.ensures in (
      row-goes-on k.invariant.0 (b.x + k.i) more refl c.put_value-r.ensures given,
      steps_on b.x b.w k.i c.requires.0.0.first c.requires.0.0.last k.invariant.1 more c.next-walk.ensures,
    )

pub returns : goal.returns
returns c = row-ended c.loop-i.invariant.0 c.loop-i-test.false
