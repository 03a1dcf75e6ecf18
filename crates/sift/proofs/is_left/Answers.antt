-- `sift::is_left` meets its contract: by the tests for a copy and for mono.
-- Assumes nothing.
use borrow.Author.Tests.{eq-eqb, ne_eqb}
use Rattle.ink.specs.Pattern.{pattern_bit}
use Rattle.paint.specs.Mix.{bit_source, colour_source, fill_source}
use Rattle.sweep.specs.Copy.{source_place, source_by}
use Rattle.sift.specs.Sift.{left_at}
use Rattle.sift.proofs.is_left.Goals as goal

pub returns-then-t-eq0 : goal.returns-then-t-eq0
unfolding left_at source_by bit_source source_place
returns-then-t-eq0 c =
    rw (c.if-t.true, eq-eqb _ _ c.if-t-eq0.true, ← c.get_bit-bit.ensures)

pub returns-then-t : goal.returns-then-t
unfolding left_at source_by colour_source
returns-then-t c = rw (c.if-t.true, ne_eqb _ _ c.if-t-eq0.false)

pub returns : goal.returns
unfolding left_at source_by fill_source pattern_bit
returns c =
    rw (c.if-t.false, c.bit_of-bit.ensures, c.pattern_column.ensures.0, c.pattern_row-row.ensures.0)
