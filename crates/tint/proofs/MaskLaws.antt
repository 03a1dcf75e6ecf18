-- A raster operation with pattern and source known is a mask: bit by bit, the old pixel chooses between what becomes of a 1 and what becomes of a 0.
-- Assumes nothing.
use mathlib.Core.Path.{◌≡◌, refl, sym, ap, ap₂, ◌∙◌}
use Prim.Native.Nat.{ℕ, zero, suc, ◌+◌, ◌-◌, ◌*◌, ◌/◌, ◌%◌, ◌^◌, ◌<◌}
use native.Mathlib.Nat.{mod-lt, mod-eq_of_lt, div-add-mod', pow-suc}
use native.Mathlib.Omega.{arith}
use lib.Arith.{digits_div, digits_mod}
use lib.Pow.{pow_pos}
use lib.Bits.{bit_and, bit_xor, and_shr, and_mod, xor_shr, xor_mod, and_zero_r, xor_zero_r, and_mask}
use Rattle.raster.specs.Rop.{rop_bit, rop_bits}
use Rattle.colour.proofs.Bits.{Bit, off, on, bit, two_pos, join}
use Rattle.tint.specs.Masking.{ones, masked}

-- ---- the result of a raster operation at its lowest bit, and above it
rop-odd : (n code p s d : ℕ) → rop_bits (suc n) code p s d % 2 ≡ rop_bit code (p % 2) (s % 2) (d % 2)
unfolding rop_bits rop_bit
rop-odd n code p s d = digits_mod (rop_bits n code (p / 2) (s / 2) (d / 2)) (mod-lt (code / 2 ^ (4 * (p % 2) + 2 * (s % 2) + d % 2)) two_pos)

rop-half : (n code p s d : ℕ) → rop_bits (suc n) code p s d / 2 ≡ rop_bits n code (p / 2) (s / 2) (d / 2)
unfolding rop_bits rop_bit
rop-half n code p s d = digits_div (rop_bits n code (p / 2) (s / 2) (d / 2)) (mod-lt (code / 2 ^ (4 * (p % 2) + 2 * (s % 2) + d % 2)) two_pos)

-- ---- at each bit: a where d has a 1, b where it has a 0
unfoldable blend : ℕ → ℕ → ℕ → ℕ
blend d a b = masked d (bit_xor a b) b

blend-odd : (d a b : ℕ) → blend d a b % 2 ≡ blend (d % 2) (a % 2) (b % 2)
unfolding blend masked
blend-odd d a b =
    xor_mod (bit_and d (bit_xor a b)) b 1
    ∙ ap (λ (x : ℕ). bit_xor x (b % 2)) (and_mod d (bit_xor a b) 1 ∙ ap (bit_and (d % 2)) (xor_mod a b 1))

blend-half : (d a b : ℕ) → blend d a b / 2 ≡ blend (d / 2) (a / 2) (b / 2)
unfolding blend masked
blend-half d a b =
    xor_shr (bit_and d (bit_xor a b)) b 1
    ∙ ap (λ (x : ℕ). bit_xor x (b / 2)) (and_shr d (bit_xor a b) 1 ∙ ap (bit_and (d / 2)) (xor_shr a b 1))

blend-first : {a b : ℕ} → Bit a → Bit b → blend 1 a b ≡ a
unfolding blend masked
blend-first off off = refl
blend-first off on = refl
blend-first on off = refl
blend-first on on = refl

blend-bit : (code p s : ℕ) {d : ℕ} → Bit d → blend d (rop_bit code p s 1) (rop_bit code p s 0) ≡ rop_bit code p s d
unfolding blend masked rop_bit
blend-bit code p s off = refl
blend-bit code p s on = blend-first (bit (code / 2 ^ (4 * p + 2 * s + 1))) (bit (code / 2 ^ (4 * p + 2 * s + 0)))

-- ---- all bits
ones_odd : (n : ℕ) → (2 ^ suc n - 1) % 2 ≡ 1
ones_odd n = rw pow-suc (omega (arith, pow_pos n))

ones_half : (n : ℕ) → (2 ^ suc n - 1) / 2 ≡ 2 ^ n - 1
ones_half n = rw pow-suc (omega (arith, pow_pos n))

blend-rop : (n code p s d : ℕ) → blend d (rop_bits n code p s (2 ^ n - 1)) (rop_bits n code p s 0) ≡ rop_bits n code p s d
unfolding blend masked rop_bits
blend-rop zero code p s d = ap (λ (x : ℕ). bit_xor x 0) (and_zero_r d)
blend-rop (suc n) code p s d =
    let a = rop_bits (suc n) code p s (2 ^ suc n - 1) in
    let b = rop_bits (suc n) code p s 0 in
    sym (div-add-mod' (blend d a b) 2)
    ∙ join
    (blend-half d a b
    ∙ ap₂ (blend (d / 2)) (rop-half n code p s (2 ^ suc n - 1) ∙ ap (rop_bits n code (p / 2) (s / 2)) (ones_half n)) (rop-half n code p s 0)
    ∙ blend-rop n code (p / 2) (s / 2) (d / 2))
    (blend-odd d a b
    ∙ ap₂ (blend (d % 2)) (rop-odd n code p s (2 ^ suc n - 1) ∙ ap (rop_bit code (p % 2) (s % 2)) (ones_odd n)) (rop-odd n code p s 0)
    ∙ blend-bit code (p % 2) (s % 2) (bit d))

-- the raster operation as a mask
pub mask-rop : (code p s d : ℕ) → masked d (bit_xor (rop_bits 32 code p s ones) (rop_bits 32 code p s 0)) (rop_bits 32 code p s 0) ≡ rop_bits 32 code p s d
unfolding blend
mask-rop code p s d = blend-rop 32 code p s d

-- a mask that keeps all
pub mask-keeps : (d : ℕ) → d < 2 ^ 32 → masked d ones 0 ≡ d
unfolding masked
mask-keeps d h = xor_zero_r (bit_and d ones) ∙ and_mask d 32 ∙ mod-eq_of_lt h
