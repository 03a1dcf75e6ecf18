-- `host::words_needed` meets its contract: no pixel, no row, or the bytes needed rounded up to words.
-- Assumes nothing.
use native.Mathlib.Omega.{arith}
use Prim.Native.Nat.{◌+◌, ◌-◌, ◌*◌, ◌^◌, ◌≤◌}
use Rattle.formats.specs.Step.{data_words}
use Rattle.host.proofs.Needed.{some-needed, narrow, flat, data-small}
use Rattle.host.proofs.words_needed.Goals as goal

pub returns-then-feed-eq0 : goal.returns-then-feed-eq0
returns-then-feed-eq0 c = let a = c.args.feed in narrow a.bytes a.step a.width a.height c.if-feed-eq0.true

pub returns-then-feed-eq0-2 : goal.returns-then-feed-eq0-2
returns-then-feed-eq0-2 c = let a = c.args.feed in flat a.bytes a.step a.width a.height c.if-feed-eq0.false c.if-feed-eq0-2.true

small : (c : goal.After-struct_known-4-1) → let f = c.args.feed in (f.height - 1) * f.step + c.row_length-row.result ≤ 2 ^ 30 + 2 ^ 16
small c = rw c.row_length-row.ensures (data-small c.args.feed c.requires)

pub overflow_mul-result : goal.overflow_mul-result
overflow_mul-result c = omega (arith, small c)

pub overflow_add-result : goal.overflow_add-result
overflow_add-result c = omega (arith, small c)

pub overflow_add-result-2 : goal.overflow_add-result-2
overflow_add-result-2 c = omega (arith, small c)

pub returns : goal.returns
unfolding data_words
returns c =
    let a = c.args.feed in
    rw (some-needed a.bytes a.step a.width a.height c.if-feed-eq0.false c.if-feed-eq0-2.false, c.row_length-row.ensures)
