-- `plain::Blit::draw_word` meets its contract: each turn takes the bytes of the word that lie in row j, the first of which is byte `column` of it.
-- Assumes nothing.
use native.Mathlib.Omega.{arith}
use native.Mathlib.Nat.{div-add-mod', mod-lt, add-mul, mul-le-mul_right}
use mathlib.Core.List.{[]}
use Prim.Native.Nat.{◌*◌}
use Rattle.plain.specs.Plain.{plain_ink}
use Rattle.host.proofs.Places.{step-some}
use Rattle.host.proofs.Drawing.{draw-ended, word-begins, word_room, word-takes, word-ended}
use Rattle.plain.proofs.Stretch.{past-none}
use Rattle.plain.proofs.Blit.draw_word.Goals as goal

pub overflow_mul-j : goal.overflow_mul-j
overflow_mul-j c = omega (arith, c.requires.0.few)

pub nonzero_div-j : goal.nonzero_div-j
nonzero_div-j c = step-some c.args.self.feed c.requires.0.opened.rows

pub overflow_mul-column : goal.overflow_mul-column
overflow_mul-column c = omega (arith, c.requires.0.few)

pub nonzero_rem-column : goal.nonzero_rem-column
nonzero_rem-column c = step-some c.args.self.feed c.requires.0.opened.rows

pub loop-t-init : goal.loop-t-init
loop-t-init c =
    let a = c.args in
    (word-begins, λ l. (omega (arith, div-add-mod' (4 * a.taken) a.self.feed.step), mod-lt (4 * a.taken) (step-some a.self.feed c.requires.0.opened.rows)))

pub shape_of-mem-then-self-j : goal.shape_of-mem-then-self-j
shape_of-mem-then-self-j c = c.loop-t.invariant.0.left.long

pub returns-then-self-j : goal.returns-then-self-j
returns-then-self-j c =
    let k = c.loop-t in
    let a = c.args in
    let at = k.invariant.1 c.loop-t-test.true in
    draw-ended (plain_ink a.self.plain) [] a.self.clip a.self.feed
    (past-none a.self.feed a.last a.word (step-some a.self.feed c.requires.0.opened.rows) _ _ (omega (arith, at.0, mul-le-mul_right a.self.feed.step c.if-self-j.true))) k.invariant.0.left

pub overflow_sub-step : goal.overflow_sub-step
overflow_sub-step c = omega (arith, (c.loop-t.invariant.1 c.loop-t-test.true).1)

pub overflow_sub-t : goal.overflow_sub-t
overflow_sub-t c = omega arith

pub draw-r-requires : goal.draw-r-requires
draw-r-requires c =
    let k = c.loop-t in
    let taken = c.loop-t-test.true in
    let at = k.invariant.1 taken in
    rw k.invariant.0.left.long (
      c.requires.0.opened,
      (
        record {
          place = omega (arith, at.0, taken);
          inside = omega (arith, taken);
          held = omega (arith, at.1);
          row = c.if-self-j.false;
        },
        word_room k.invariant.0 c.requires.0.opened.rows.sizes c.requires.1 taken,
      ),
    )

pub overflow_add-j : goal.overflow_add-j
overflow_add-j c = omega (arith, c.if-self-j.false, c.requires.0.opened.rows.sizes.height)

pub overflow_add-t : goal.overflow_add-t
overflow_add-t c = omega (arith, c.min-m.ensures)

pub loop-t-smaller : goal.loop-t-smaller
loop-t-smaller c =
    let taken = c.loop-t-test.true in
    let at = c.loop-t.invariant.1 taken in
    omega (arith, taken, at.1)

pub loop-t-preserved : goal.loop-t-preserved
loop-t-preserved c =
    let k = c.loop-t in
    let a = c.args in
    let taken = c.loop-t-test.true in
    let at = k.invariant.1 taken in
    let m = c.min-m in (
      word-takes k.invariant.0 c.requires.0.opened.rows.sizes m.result (omega (arith, taken)) (rw at.0 c.draw-r.ensures),
      λ more. (omega (arith, taken, at.0, at.1, add-mul k.j 1 a.self.feed.step), step-some a.self.feed c.requires.0.opened.rows),
    )

pub shape_of-mem : goal.shape_of-mem
shape_of-mem c = c.loop-t.invariant.0.left.long

pub returns : goal.returns
returns c = word-ended c.loop-t.invariant.0 c.loop-t-test.false
