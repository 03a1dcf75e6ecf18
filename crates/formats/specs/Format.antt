-- What the two words of a surface say: its base word (base 23:0, tiled 31) and its format word (stride 13:0, format from 16 on).
-- Assumes nothing.
use Rattle.std.specs.Prelude.{Bool, cond, not, ◌&&◌, ◌||◌, ℕ, ◌/◌, ◌%◌, ◌^◌, eqb}
use Rattle.surface.specs.declared.Surface.{Surface}
use Rattle.formats.specs.Step.{packing_of, step_of}

abbrev pub base_of : ℕ → ℕ
base_of word = word % 2 ^ 24

abbrev pub is_tiled : ℕ → Bool
is_tiled word = eqb (word / 2 ^ 31 % 2) 1

abbrev pub stride_of : ℕ → ℕ
stride_of word = word % 2 ^ 14

-- the format's number: three bits of a target's word, four of a source's
abbrev pub target_code : ℕ → ℕ
target_code word = word / 2 ^ 16 % 8

abbrev pub source_code : ℕ → ℕ
source_code word = word / 2 ^ 16 % 16

-- 1 is 8 bpp, 3 is 16, 4 is 24, 5 is 32; of a source 0 is mono
abbrev pub coloured : ℕ → Bool
coloured code = eqb code 1 || (eqb code 3 || (eqb code 4 || eqb code 5))

abbrev pub bytes_of : ℕ → ℕ
bytes_of code = cond (eqb code 3) 2 (cond (eqb code 4) 3 (cond (eqb code 5) 4 (cond (eqb code 1) 1 0)))

-- a target's words name a surface: of a listed format
abbrev pub target_named : ℕ → Bool
target_named format = coloured (target_code format)

-- and one whose rows can be viewed: not tiled
abbrev pub view_named : ℕ → ℕ → Bool
view_named base format = not (is_tiled base) && target_named format

unfoldable pub target_of : ℕ → ℕ → Surface
target_of base format = record { base = base_of base; stride = stride_of format; bytes = bytes_of (target_code format); tiled = is_tiled base }

-- a source's words: the same, and mono too; in tiles only colour, and not packed
abbrev pub source_named : ℕ → ℕ → Bool
source_named base format =
    cond (is_tiled base) (coloured (source_code format) && eqb (packing_of format) 0) (eqb (source_code format) 0 || coloured (source_code format))

-- a host blit's: never tiled
abbrev pub host_named : ℕ → ℕ → Bool
host_named base format = not (is_tiled base) && (eqb (source_code format) 0 || coloured (source_code format))

-- the step of a source stands for its stride; it depends on the width under packing
unfoldable pub source_of : ℕ → ℕ → ℕ → Surface
source_of base format width = record {
  base = base_of base;
  stride = step_of (packing_of format) (bytes_of (source_code format)) width (stride_of format);
  bytes = bytes_of (source_code format);
  tiled = is_tiled base;
}
