-- `host::host_words` meets its contract: each turn draws the pixels that one word finishes.
-- Assumes nothing.
use native.Mathlib.Omega.{arith}
use Rattle.host.proofs.Runs.{run-begins, run_room, run-takes-one, run-ended}
use Rattle.host.proofs.host_words.Goals as goal

pub loop-word-init : goal.loop-word-init
loop-word-init c = (run-begins, omega arith)

pub draw_word-n-requires : goal.draw_word-n-requires
draw_word-n-requires c =
    let now = c.loop-word.invariant in
    let p = c.requires in
    let more = c.loop-word-test.true in
    rw (now.0.left.long, now.1) (record { opened = p.opened; few = omega (arith, p.few) }, run_room now.0 1 p.short (omega arith))

pub overflow_add-k : goal.overflow_add-k
overflow_add-k c = omega (arith, c.requires.few)

pub loop-word-preserved : goal.loop-word-preserved
loop-word-preserved c =
    let now = c.loop-word.invariant in
    (run-takes-one now.0 c.requires.opened.rows.sizes c.loop-word-test.true (rw now.1 at c.draw_word-n.ensures), omega arith)

pub shape_of-mem : goal.shape_of-mem
shape_of-mem c = c.loop-word.invariant.0.left.long

pub returns : goal.returns
returns c = run-ended c.loop-word.invariant.0 c.loop-word-test.false
