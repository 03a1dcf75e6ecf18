-- The raster operation as the code does it: by seven choices between the bits of the code, each of them spread over all bits.
-- Assumes nothing.
use Rattle.std.specs.Prelude.{Bool, cond, ◌&&◌, ℕ, ◌+◌, ◌-◌, ◌*◌, ◌/◌, ◌%◌, ◌^◌, eqb}
use Rattle.std.specs.Int.Bits.{bit_and, bit_xor}
use Rattle.raster.specs.declared.Quad.{Quad}

-- n bits, all equal to bit k of the code
unfoldable pub mask : ℕ → ℕ → ℕ → ℕ
mask n code k = code / 2 ^ k % 2 * (2 ^ n - 1)

-- at each bit: a where sel has a 1, b where it has a 0
unfoldable pub muxed : ℕ → ℕ → ℕ → ℕ
muxed sel a b = bit_xor b (bit_and sel (bit_xor a b))

-- for a pixel of the pattern: bit k of the code at all n bits where the pattern has a 0, bit k + 4 where it has a 1
unfoldable pub laid : ℕ → ℕ → ℕ → ℕ → ℕ
laid n code k p = muxed p (mask n code (k + 4)) (mask n code k)

-- four values by two bits of choice
unfoldable pub merged : ℕ → ℕ → ℕ → ℕ → ℕ → ℕ → ℕ
merged q0 q1 q2 q3 s d = muxed s (muxed d q3 q2) (muxed d q1 q0)

-- for a pixel of the source: bit k of the code at all 32 bits where the source has a 0, bit k + 2 where it has a 1
abbrev pub sided : ℕ → ℕ → ℕ → ℕ
sided code k s = muxed s (mask 32 code (k + 2)) (mask 32 code k)

unfoldable pub quad_of : ℕ → ℕ → Quad
quad_of code s = record { q0 = sided code 0 s; q1 = sided code 1 s; q2 = sided code 4 s; q3 = sided code 5 s }

-- one of a number's two low bits is 1, and the other 0
abbrev pub turns : ℕ → Bool
turns c = eqb (c % 2 + c / 2 % 2) 1

-- whatever pattern and source are, the code's bits for target 0 and target 1 differ: the operation only flips bits of the target
abbrev pub flips : ℕ → Bool
flips code = ((turns code && turns (code / 4)) && turns (code / 16)) && turns (code / 64)

-- what it makes of pattern and target; where it only flips, by what it makes of target 0
abbrev pub quad_made : Bool → Quad → ℕ → ℕ → ℕ
quad_made flip q p d = cond flip (bit_xor d (muxed p q.q2 q.q0)) (merged q.q0 q.q1 q.q2 q.q3 p d)
