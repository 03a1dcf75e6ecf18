-- `host::Blit::draw_byte` meets its contract: what is left of the byte's pixels, drawn on what stands now, is the byte drawn on what stood.
-- Assumes nothing.
use native.Mathlib.Omega.{arith}
use mathlib.Core.Path.{ap}
use mathlib.Core.List.{[], ◌∷◌}
use Prim.Native.Nat.{◌+◌, ◌%◌}
use Rattle.paint.specs.Paint.{tallied}
use Rattle.paint.proofs.Tallies.{room-left}
use Rattle.paint.proofs.Loops.{left-begins}
use Rattle.host.specs.Host.{pixel, run}
use Rattle.host.specs.Draw.{host_touches}
use Rattle.host.proofs.Places.{whole-width, step-some, column-small}
use Rattle.host.proofs.Drawing.{none-drawn, draw-takes, draw-ended, run-turn, run-done, byte-run, byte-none}
use Rattle.host.proofs.Blit.draw_byte.Goals as goal

pub nonzero_div-j : goal.nonzero_div-j
nonzero_div-j c = step-some c.args.self.now.feed c.requires.0.rows

pub returns-then-self-j : goal.returns-then-self-j
returns-then-self-j c =
    let a = c.args in
    none-drawn a.self.now.ink a.self.now.pattern a.self.now.clip a.self.now.feed (tallied a.mem.now a.n) (byte-none a.self.now.feed a.last a.word a.o c.if-self-j.true)

pub nonzero_rem-column : goal.nonzero_rem-column
nonzero_rem-column c = step-some c.args.self.now.feed c.requires.0.rows

pub whole_pixels-start-requires : goal.whole_pixels-start-requires
whole_pixels-start-requires c =
    (c.requires.0.rows.sizes.bytes, omega (arith, column-small c.args.self.now.feed c.requires.0.rows c.args.o))

pub overflow_add-column : goal.overflow_add-column
overflow_add-column c = omega (arith, column-small c.args.self.now.feed c.requires.0.rows c.args.o)

pub whole_pixels-end-requires : goal.whole_pixels-end-requires
whole_pixels-end-requires c =
    (c.requires.0.rows.sizes.bytes, omega (arith, column-small c.args.self.now.feed c.requires.0.rows c.args.o))

pub loop-i-init : goal.loop-i-init
loop-i-init c =
    let a = c.args in
    left-begins (ap (host_touches a.self.now.ink a.self.now.pattern a.self.now.clip a.self.now.feed)
    (byte-run a.self.now.feed a.last a.word a.o c.if-self-j.false c.whole_pixels-start.ensures c.whole_pixels-end.ensures))

pub value_of-v-requires : goal.value_of-v-requires
value_of-v-requires c = (c.requires.0.rows.sizes.bytes, omega arith)

pub draw_pixel-r-requires : goal.draw_pixel-r-requires
draw_pixel-r-requires c =
    let left = c.loop-i.invariant in
    let w = whole-width c.args.self.now.feed (c.args.o % c.args.self.now.feed.step + 1) in
    let f = c.whole_pixels-end.ensures in
    let u = c.loop-i-test.true in
    rw left.long (c.requires.0, (omega arith, (c.if-self-j.false, room-left c.requires.1 left.upto (omega arith))))

pub loop-i-preserved : goal.loop-i-preserved
loop-i-preserved c =
    let a = c.args in
    let b = a.self.now in
    let k = c.loop-i in
    let v = c.value_of-v in
    draw-takes b.ink b.pattern b.clip b.feed (run b.feed a.last a.word a.o k.i _) (pixel k.i _ v.result ∷ []) _ k.invariant
    (run-turn b.feed a.last a.word a.o k.i _ v.result c.loop-i-test.true v.ensures) (omega arith) c.draw_pixel-r.ensures

pub shape_of-mem : goal.shape_of-mem
shape_of-mem c = c.loop-i.invariant.long

pub returns : goal.returns
returns c =
    let a = c.args in
    draw-ended a.self.now.ink a.self.now.pattern a.self.now.clip a.self.now.feed (run-done a.self.now.feed a.last a.word a.o _ _ c.loop-i-test.false) c.loop-i.invariant
