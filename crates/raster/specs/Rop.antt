-- The raster operation: each bit of the result is bit 4p + 2s + d of the code, for the bits p, s and d of pattern, source and target at its place.
-- Assumes nothing.
use Rattle.std.specs.Prelude.{ℕ, zero, suc, ◌+◌, ◌*◌, ◌/◌, ◌%◌, ◌^◌, Bool, eqb}

unfoldable pub rop_bit : ℕ → ℕ → ℕ → ℕ → ℕ
rop_bit code p s d = code / 2 ^ (4 * p + 2 * s + d) % 2

-- over n bits: the lowest, and the rest above it
unfoldable pub rop_bits : ℕ → ℕ → ℕ → ℕ → ℕ → ℕ
rop_bits zero code p s d = 0
rop_bits (suc n) code p s d = rop_bits n code (p / 2) (s / 2) (d / 2) * 2 + rop_bit code (p % 2) (s % 2) (d % 2)

-- the half for p = 0 is the half for p = 1, so the pattern does not matter
abbrev pub pattern_free : ℕ → Bool
pattern_free code = eqb (code / 16 % 16) (code % 16)
