-- `plain::mono_line` meets its contract: the pixels of the row that whole bytes of the data hold, a byte at a time, and then those that are left.
-- Assumes nothing.
use native.Mathlib.Omega.{arith}
use mathlib.Core.Path.{refl}
use Rattle.plain.proofs.Glyphs.{glyph-byte, glyph-row, line-begins, line-room, line-on, line-takes, line-ended}
use Rattle.plain.proofs.mono_line.Goals as goal

pub overflow_mul-from : goal.overflow_mul-from
overflow_mul-from c = let p = c.requires in omega (arith, glyph-row p.0 _ p.1.1.0)

pub overflow_add-y : goal.overflow_add-y
overflow_add-y c = let p = c.requires in omega (arith, p.0.bottom, p.1.1.0)

pub overflow_sub-y : goal.overflow_sub-y
overflow_sub-y c = omega (arith, c.requires.0.top)

pub loop-i-init : goal.loop-i-init
loop-i-init c = line-begins

pub data_byte-byte-requires : goal.data_byte-byte-requires
data_byte-byte-requires c = let p = c.requires in glyph-byte p.0 _ _ (omega (arith, c.loop-i-test.true)) p.1.1.0

pub put_run-r-requires : goal.put_run-r-requires
put_run-r-requires c =
    let p = c.requires in
    let g = p.0 in
    let now = c.loop-i.invariant in
    let u = c.loop-i-test.true in
    (((g.colour, g.flat), (record { wide = omega (arith, u, g.left, g.right); on = line-on now g _ (omega arith) (omega (arith, u)) p.1.1.0 }, line-room now _ p.1.1.1 (omega (arith, u)))), (omega arith, p.1.0))

pub loop-i-preserved : goal.loop-i-preserved
loop-i-preserved c =
    let u = c.loop-i-test.true in
    line-takes c.loop-i.invariant c.requires.0 (λ a. omega (arith, c.type_inv.words a)) _ (omega arith) (omega arith) (omega arith) (omega (arith, u)) (omega (arith, u)) (omega arith) (λ l. omega (arith, l))
    (rw c.data_byte-byte.ensures at c.put_run-r.ensures)

pub loop-i-smaller : goal.loop-i-smaller
loop-i-smaller c = omega (arith, c.loop-i-test.true)

pub data_byte-byte-requires-then-rest-ne0 : goal.data_byte-byte-requires-then-rest-ne0
data_byte-byte-requires-then-rest-ne0 c = let p = c.requires in glyph-byte p.0 _ _ (omega (arith, c.if-rest-ne0.true)) p.1.1.0

pub put_run-r-requires-then-rest-ne0 : goal.put_run-r-requires-then-rest-ne0
put_run-r-requires-then-rest-ne0 c =
    let p = c.requires in
    let g = p.0 in
    let now = c.loop-i.invariant in
    let u = c.if-rest-ne0.true in
    (((g.colour, g.flat), (record { wide = omega (arith, u, g.left, g.right); on = line-on now g _ (omega arith) (omega (arith, u)) p.1.1.0 }, line-room now _ p.1.1.1 (omega (arith, u)))), (omega arith, p.1.0))

pub returns-then-rest-ne0 : goal.returns-then-rest-ne0
returns-then-rest-ne0 c =
    let u = c.loop-i-test.false in
    line-ended (line-takes c.loop-i.invariant c.requires.0 (λ a. omega (arith, c.type_inv.words a)) _ refl (omega arith) (omega arith) (omega (arith, c.if-rest-ne0.true)) (omega arith) (omega arith) (λ l. omega (arith, u, l))
    (rw c.data_byte-byte-then-rest-ne0.ensures at c.put_run-r-then-rest-ne0.ensures)) (omega (arith, u))
