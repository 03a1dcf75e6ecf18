-- `strokes::track_of` meets its contract: each part as it is worked out.
-- Assumes nothing.
use Rattle.std.proofs.Common.{◌+◌, ◌-◌, ◌%◌, arith}
use Rattle.strokes.specs.Mixed.{track_of}
use Rattle.strokes.proofs.WalkLaws.{small_low}
use Rattle.strokes.proofs.MixedLaws.{row_small}
use Rattle.strokes.proofs.track_of.Goals as goal

pub overflow_add-stride : goal.overflow_add-stride
overflow_add-stride c = omega (arith, c.row_part.ensures, row_small c.args.ink 1, c.requires.0.small.stride)

pub close_byte-place-requires : goal.close_byte-place-requires
close_byte-place-requires c = (c.requires.0, c.requires.0.some, omega (arith, c.requires.1.line.x0), omega (arith, c.requires.1.line.y0))

pub column_part-column-requires : goal.column_part-column-requires
column_part-column-requires c = omega (arith, c.requires.1.line.x0)

pub row_part-row-requires : goal.row_part-row-requires
row_part-row-requires c = omega (arith, c.requires.1.line.y0)

pub steps_of-requires : goal.steps_of-requires
steps_of-requires c = c.requires.1.line

pub overflow_add-result : goal.overflow_add-result
overflow_add-result c =
    let l = c.args.l in
    let p = c.requires in
    omega (arith, c.close_byte-place.ensures, small_low p.0.small (l.x0 - 16384) (l.y0 - 16384) (omega (arith, p.1.line.x0)) (omega (arith, p.1.line.y0)), c.column_part-column.ensures, p.1.line.x0)

pub overflow_add-result-2 : goal.overflow_add-result-2
overflow_add-result-2 c =
    let l = c.args.l in
    let p = c.requires in
    omega (
      arith,
      c.close_byte-place.ensures,
      small_low p.0.small (l.x0 - 16384) (l.y0 - 16384) (omega (arith, p.1.line.x0)) (omega (arith, p.1.line.y0)),
      c.column_part-column.ensures,
      p.1.line.x0,
      c.row_part-row.ensures,
      row_small c.args.ink (c.args.ink.pat_y % 8 + (l.y0 - 16384)),
      p.1.line.y0,
    )

pub point_count-requires : goal.point_count-requires
point_count-requires c = c.requires.1.line

pub returns : goal.returns
unfolding track_of
returns c = rw (c.steps_of.ensures, c.column_part.ensures, c.row_part.ensures, c.close_byte-place.ensures, c.column_part-column.ensures, c.row_part-row.ensures, c.quad_of.ensures, c.long_side.ensures, c.point_count.ensures)
