-- Laws of the raster operation, over the width: how large its result is, fewer bits of it, CC, AA and 5A, and codes that do not look at the pattern.
-- Assumes nothing.
use mathlib.Core.Path.{◌≡◌, refl, sym, ap, ◌∙◌}
use mathlib.Core.Bool.{true}
use Prim.Native.Nat.{ℕ, zero, suc, ◌+◌, ◌-◌, ◌*◌, ◌/◌, ◌%◌, ◌^◌, ◌≤◌, ◌<◌}
use native.Mathlib.Nat.{mod-lt, mod-one, suc-add, pow-suc}
use native.Mathlib.Omega.{arith}
use lib.Arith.{digits_lt, digits_div, digits_mod}
use borrow.Author.Tests.{eqb-true}
use Rattle.raster.specs.Rop.{rop_bit, rop_bits, pattern_free}
use Rattle.colour.proofs.Bits.{Bit, off, on, bit, eight, two_pos, join, mod-suc, mod-half, mod-odd, alike}

-- the result at its lowest bit, and above it
rop-lt : (code p s d : ℕ) → rop_bit code p s d < 2
unfolding rop_bit
rop-lt code p s d = mod-lt (code / 2 ^ (4 * p + 2 * s + d)) two_pos

rop-odd : (n code p s d : ℕ) → rop_bits (suc n) code p s d % 2 ≡ rop_bit code (p % 2) (s % 2) (d % 2)
unfolding rop_bits
rop-odd n code p s d = digits_mod (rop_bits n code (p / 2) (s / 2) (d / 2)) (rop-lt code (p % 2) (s % 2) (d % 2))

rop-half : (n code p s d : ℕ) → rop_bits (suc n) code p s d / 2 ≡ rop_bits n code (p / 2) (s / 2) (d / 2)
unfolding rop_bits
rop-half n code p s d = digits_div (rop_bits n code (p / 2) (s / 2) (d / 2)) (rop-lt code (p % 2) (s % 2) (d % 2))

-- the result has n bits
pub rop-bounded : (n code p s d : ℕ) → rop_bits n code p s d < 2 ^ n
unfolding rop_bits
rop-bounded zero code p s d = omega arith
rop-bounded (suc n) code p s d =
    rw pow-suc (digits_lt (rop-bounded n code (p / 2) (s / 2) (d / 2)) (rop-lt code (p % 2) (s % 2) (d % 2)))

-- the low n of n + k bits
fewer : (n k code p s d : ℕ) → rop_bits (n + k) code p s d % 2 ^ n ≡ rop_bits n code p s d
unfolding rop_bits
fewer zero k code p s d = mod-one (rop_bits (0 + k) code p s d)
fewer (suc n) k code p s d =
    rw suc-add
    (mod-suc (rop_bits (suc (n + k)) code p s d) n
    ∙ join
    (ap (λ (x : ℕ). x % 2 ^ n) (rop-half (n + k) code p s d) ∙ fewer n k code (p / 2) (s / 2) (d / 2))
    (rop-odd (n + k) code p s d))

-- the operation at 32 bits, cut to fewer, is the operation at fewer
pub rop-cut : (n code p s d : ℕ) → n ≤ 32 → rop_bits 32 code p s d % 2 ^ n ≡ rop_bits n code p s d
rop-cut n code p s d h = ap (λ (m : ℕ). rop_bits m code p s d % 2 ^ n) (omega arith) ∙ fewer n (32 - n) code p s d

-- n bits of the result are made of n bits of pattern, source and target
pub rop-low : (n code p s d : ℕ) → rop_bits n code (p % 2 ^ n) (s % 2 ^ n) (d % 2 ^ n) ≡ rop_bits n code p s d
unfolding rop_bits
rop-low zero code p s d = refl
rop-low (suc n) code p s d = simp (mod-half, mod-odd, rop-low n)

-- CC gives the source
copies-bit : {p s d : ℕ} → Bit p → Bit s → Bit d → rop_bit 0xcc p s d ≡ s
unfolding rop_bit
copies-bit = eight (λ p s d. rop_bit 0xcc p s d ≡ s) refl refl refl refl refl refl refl refl

pub copies : (n p s d : ℕ) → rop_bits n 0xcc p s d ≡ s % 2 ^ n
unfolding rop_bits
copies zero p s d = sym (mod-one s)
copies (suc n) p s d = join (copies n (p / 2) (s / 2) (d / 2)) (copies-bit (bit p) (bit s) (bit d)) ∙ sym (mod-suc s n)

-- AA leaves the target
leaves-bit : {p s d : ℕ} → Bit p → Bit s → Bit d → rop_bit 0xaa p s d ≡ d
unfolding rop_bit
leaves-bit = eight (λ p s d. rop_bit 0xaa p s d ≡ d) refl refl refl refl refl refl refl refl

pub leaves : (n p s d : ℕ) → rop_bits n 0xaa p s d ≡ d % 2 ^ n
unfolding rop_bits
leaves zero p s d = sym (mod-one d)
leaves (suc n) p s d = join (leaves n (p / 2) (s / 2) (d / 2)) (leaves-bit (bit p) (bit s) (bit d)) ∙ sym (mod-suc d n)

-- 5A twice, with any sources, gives the target back
twice-bit : (t : ℕ) {p s d : ℕ} → Bit t → Bit p → Bit s → Bit d → rop_bit 0x5a p t (rop_bit 0x5a p s d) ≡ d
unfolding rop_bit
twice-bit t off = eight (λ p s d. rop_bit 0x5a p 0 (rop_bit 0x5a p s d) ≡ d) refl refl refl refl refl refl refl refl
twice-bit t on = eight (λ p s d. rop_bit 0x5a p 1 (rop_bit 0x5a p s d) ≡ d) refl refl refl refl refl refl refl refl

pub twice : (n p s t d : ℕ) → rop_bits n 0x5a p t (rop_bits n 0x5a p s d) ≡ d % 2 ^ n
unfolding rop_bits
twice zero p s t d = sym (mod-one d)
twice (suc n) p s t d =
    join
    (ap (rop_bits n 0x5a (p / 2) (t / 2)) (rop-half n 0x5a p s d) ∙ twice n (p / 2) (s / 2) (t / 2) (d / 2))
    (ap (rop_bit 0x5a (p % 2) (t % 2)) (rop-odd n 0x5a p s d) ∙ twice-bit (t % 2) (bit t) (bit p) (bit s) (bit d))
    ∙ sym (mod-suc d n)

-- a code whose halves for p = 0 and p = 1 are equal gives the same with any pattern
pattern-bit : (code : ℕ) → code / 2 ^ 4 % 2 ^ 4 ≡ code / 2 ^ 0 % 2 ^ 4
    → {p s d q : ℕ} → Bit p → Bit s → Bit d → Bit q → rop_bit code p s d ≡ rop_bit code q s d
unfolding rop_bit
pattern-bit code e p s d q = low p s d ∙ sym (low q s d)
  where
    low : {p s d : ℕ} → Bit p → Bit s → Bit d → code / 2 ^ (4 * p + 2 * s + d) % 2 ≡ code / 2 ^ (2 * s + d) % 2
    low =
        eight (λ p s d. code / 2 ^ (4 * p + 2 * s + d) % 2 ≡ code / 2 ^ (2 * s + d) % 2)
        refl refl refl refl (alike code 4 0 3 0 e) (alike code 4 0 2 1 e) (alike code 4 0 1 2 e) (alike code 4 0 0 3 e)

pub pattern-free : (n code p q s d : ℕ) → pattern_free code ≡ true → rop_bits n code p s d ≡ rop_bits n code q s d
unfolding rop_bits
pattern-free zero code p q s d e = refl
pattern-free (suc n) code p q s d e =
    join (pattern-free n code (p / 2) (q / 2) (s / 2) (d / 2) e)
    (pattern-bit code (omega (arith, eqb-true (code / 16 % 16) (code % 16) e)) (bit p) (bit s) (bit d) (bit q))
