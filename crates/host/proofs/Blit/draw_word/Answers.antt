-- `host::Blit::draw_word` meets its contract: each turn takes one of the word's four bytes.
-- Assumes nothing.
use native.Mathlib.Omega.{arith}
use mathlib.Core.List.{append-nil}
use Rattle.host.specs.Host.{by_bytes}
use Rattle.host.proofs.Drawing.{word-begins, word_room, word-takes, word-ended}
use Rattle.host.proofs.Blit.draw_word.Goals as goal

pub loop-t-init : goal.loop-t-init
loop-t-init c = word-begins

pub overflow_mul-taken : goal.overflow_mul-taken
overflow_mul-taken c = omega (arith, c.requires.0.few)

pub overflow_add-taken : goal.overflow_add-taken
overflow_add-taken c = omega (arith, c.requires.0.few)

pub draw_byte-r-requires : goal.draw_byte-r-requires
draw_byte-r-requires c =
    let now = c.loop-t.invariant in
    let p = c.requires in
    rw now.left.long (p.0.opened, word_room now p.0.opened.rows.sizes p.1 c.loop-t-test.true)

pub loop-t-preserved : goal.loop-t-preserved
unfolding by_bytes
loop-t-preserved c =
    word-takes c.loop-t.invariant c.requires.0.opened.rows.sizes 1 (omega arith)
    (rw append-nil c.draw_byte-r.ensures)

pub shape_of-mem : goal.shape_of-mem
shape_of-mem c = c.loop-t.invariant.left.long

pub returns : goal.returns
returns c = word-ended c.loop-t.invariant c.loop-t-test.false
