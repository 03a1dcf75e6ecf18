-- `blocks::solid_blocks` meets its contract: the later rows are counted against the first, and the rows so far have the value's bytes.
-- Assumes nothing.
use mathlib.Core.Path.{◌≡◌, subst}
use Prim.Native.Nat.{ℕ, ◌+◌, ◌*◌, ◌≤◌}
use native.Mathlib.Omega.{arith}
use Rattle.blocks.specs.Blocks.{Put}
use Rattle.blocks.proofs.Even.{column_byte, even-put, put-even, rows-go, rows_more}
use Rattle.blocks.proofs.EvenRows.{below-begins, below_next, below-fits, below_all, row-few, row-itself, whole-made}
use Rattle.blocks.proofs.solid_blocks.Goals as goal

pub loop-j-init : goal.loop-j-init
loop-j-init c =
    let a = c.args in
    let p = c.requires in
    below-begins (row-few a.s a.v a.x0 a.y0 a.w a.h a.mem.now p.0 p.1.1 _ c.solid_line-changed.ensures) p.1.1

pub overflow_add-changed : goal.overflow_add-changed
overflow_add-changed c =
    let p = c.requires.0 in
    omega (arith, below-fits c.loop-j.invariant (omega (arith, p.wide)) (omega (arith, p.high)) c.loop-j-test.true c.unlike_row-changed.ensures)

pub loop-j-preserved : goal.loop-j-preserved
loop-j-preserved c = below_next c.loop-j.invariant c.loop-j-test.true c.unlike_row-changed.ensures

pub loop-there-init : goal.loop-there-init
loop-there-init c =
    let a = c.args in
    let p = c.requires in (
      even-put a.s a.v a.x0 a.y0 a.w a.h p.0 p.1.0 p.1.1 1
          (row-itself a.s a.v a.x0 a.y0 a.w a.h a.mem.now p.0 p.1.1 _ c.solid_line-changed.ensures),
      omega arith,
      omega (arith, p.1.1),
    )

pub move_blocks-requires : goal.move_blocks-requires
move_blocks-requires c =
    let a = c.args in
    let p = c.requires in
    let k = c.loop-there in
    rw (k.invariant.0.long, c.solid_line-changed.auto.mem)
    (rows-go a.s a.v a.x0 a.y0 a.w a.h p.0 p.1.0 p.1.1 k.there c.min-k.result (omega arith) (omega arith))

pub loop-there-preserved : goal.loop-there-preserved
loop-there-preserved c =
    let a = c.args in
    let p = c.requires in
    let k = c.loop-there in
    let r = c.min-k.result in
    let there : r ≤ k.there = omega arith in
    let room : k.there + r ≤ a.h = omega arith in (
      rows_more a.s a.v a.x0 a.y0 a.w a.h p.0 p.1.0 p.1.1 k.there r there room k.invariant.0 c.move_blocks.ensures,
      omega (arith, k.invariant.1),
      room,
    )

pub returns : goal.returns
returns c =
    let a = c.args in
    let p = c.requires in
    let k = c.loop-there in
    let end : k.there ≡ a.h = omega (arith, c.loop-there-test.false) in
    whole-made a.s a.v a.x0 a.y0 a.w a.h a.mem.now p.0 p.1.1 _ c.solid_line-changed.ensures k.mem
    (put-even a.s a.v a.x0 a.y0 a.w a.h p.0 p.1.0 p.1.1 a.h
    (subst (λ (j : ℕ). Put a.s (column_byte a.s a.v) (a.x0 * a.s.bytes) a.y0 (a.w * a.s.bytes) j c.solid_line-changed.new.mem k.mem) end k.invariant.0))
    (below_all c.loop-j.invariant c.loop-j-test.false)
