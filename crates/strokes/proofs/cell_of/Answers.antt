-- `strokes::cell_of` meets its contract: what is read is there.
-- Assumes nothing.
use Rattle.std.proofs.Common.{ℕ, ◌+◌, ◌*◌, ◌/◌, ◌%◌, ◌^◌, ◌<◌, arith}
use Rattle.ink.specs.Pattern.{pattern_pixel}
use Rattle.ink.proofs.PatternLaws.{in-pattern}
use Rattle.strokes.proofs.cell_of.Goals as goal

in-cells : (n at : ℕ) → 0 < n → n < 5 → (at / 2 ^ 46 % 8 * 8 + at / 2 ^ 32 % 8) * n + 3 < 256
in-cells n at some few =
    in-pattern {bytes = n} {column = at / 2 ^ 32 % 8} {row = at / 2 ^ 46 % 8} (record { some = some; four = few; column8 = omega arith; row8 = omega arith })

pub overflow_mul-cell-2 : goal.overflow_mul-cell-2
overflow_mul-cell-2 c = omega (arith, in-cells c.args.n c.args.at c.requires.0 c.requires.1)

pub get_bytes-requires : goal.get_bytes-requires
get_bytes-requires c = record { some = c.requires.0; few = c.requires.1; inside = omega (arith, in-cells c.args.n c.args.at c.requires.0 c.requires.1) }

pub returns : goal.returns
unfolding pattern_pixel
returns c = c.get_bytes.ensures
