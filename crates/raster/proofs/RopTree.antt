-- The raster operation as the code does it, by seven choices between masks, is the raster operation bit by bit, at every width.
-- Assumes nothing.
use mathlib.Core.Path.{◌≡◌, refl, sym, ap, ap₂, ◌∙◌}
use mathlib.Core.Bool.{Bool, true, false, ◌&&◌}
use Prim.Native.Nat.{ℕ, zero, suc, ◌+◌, ◌-◌, ◌*◌, ◌/◌, ◌%◌, ◌^◌, ◌<◌}
use native.Mathlib.Nat.{div-add-mod', mul-zero, pow-suc}
use native.Mathlib.Omega.{arith}
use lib.Arith.{lt-one, digits_div, digits_mod}
use lib.Pow.{pow_pos}
use borrow.Author.Tests.{eqb-true}
use lib.Bits.{bit_and, bit_xor, differ, and_shr, and_mod, xor_step, xor_shr, xor_mod, and_zero_r, xor_zero_r}
use Rattle.raster.specs.Rop.{rop_bit, rop_bits}
use Rattle.raster.specs.Masks.{mask, muxed, laid, merged, quad_of, turns, flips, quad_made}
use Rattle.surface.proofs.OnLaws.{and_left, and_right}
use Rattle.colour.proofs.Bits.{Bit, off, on, bit, eight, join}

-- eight values by three bits of choice
abbrev chosen : ℕ → ℕ → ℕ → (ℕ → ℕ) → ℕ
chosen p s d m =
    muxed s
    (muxed d (muxed p (m 7) (m 3)) (muxed p (m 6) (m 2)))
    (muxed d (muxed p (m 5) (m 1)) (muxed p (m 4) (m 0)))

-- a choice at the lowest bit, and above it
muxed-odd : (s a b : ℕ) → muxed s a b % 2 ≡ muxed (s % 2) (a % 2) (b % 2)
unfolding muxed
muxed-odd s a b =
    xor_mod b (bit_and s (bit_xor a b)) 1
    ∙ ap (bit_xor (b % 2)) (and_mod s (bit_xor a b) 1 ∙ ap (bit_and (s % 2)) (xor_mod a b 1))

muxed-half : (s a b : ℕ) → muxed s a b / 2 ≡ muxed (s / 2) (a / 2) (b / 2)
unfolding muxed
muxed-half s a b =
    xor_shr b (bit_and s (bit_xor a b)) 1
    ∙ ap (bit_xor (b / 2)) (and_shr s (bit_xor a b) 1 ∙ ap (bit_and (s / 2)) (xor_shr a b 1))

muxed-zero : (s : ℕ) → muxed s 0 0 ≡ 0
unfolding muxed
muxed-zero s = and_zero_r s

-- a mask at its lowest bit, and above it
ones_odd : (n : ℕ) {c : ℕ} → Bit c → c * (2 ^ suc n - 1) % 2 ≡ c
ones_odd n off = omega arith
ones_odd n on = rw pow-suc (omega (arith, pow_pos n))

ones_half : (n : ℕ) {c : ℕ} → Bit c → c * (2 ^ suc n - 1) / 2 ≡ c * (2 ^ n - 1)
ones_half n off = omega arith
ones_half n on = rw pow-suc (omega arith)

mask-odd : (n code k : ℕ) → mask (suc n) code k % 2 ≡ code / 2 ^ k % 2
unfolding mask
mask-odd n code k = ones_odd n (bit (code / 2 ^ k))

mask-half : (n code k : ℕ) → mask (suc n) code k / 2 ≡ mask n code k
unfolding mask
mask-half n code k = ones_half n (bit (code / 2 ^ k))

mask-zero : (code k : ℕ) → mask 0 code k ≡ 0
unfolding mask
mask-zero code k = mul-zero (code / 2 ^ k % 2)

-- a choice between bits
choose-first : {a b : ℕ} → Bit a → Bit b → muxed 1 a b ≡ a
unfolding muxed
choose-first off off = refl
choose-first off on = refl
choose-first on off = refl
choose-first on on = refl

choose-on : (x y : ℕ) → muxed 1 (x % 2) (y % 2) ≡ x % 2
choose-on x y = choose-first (bit x) (bit y)

choose-off : (a b : ℕ) → muxed 0 a b ≡ b
unfolding muxed
choose-off a b = xor_zero_r b

-- eight masks of a code by three bits of choice, in whatever order these are asked: the raster operation, where it is at each choice of three bits
module _ (code : ℕ) (by : ℕ → ℕ → ℕ → (ℕ → ℕ) → ℕ)
    (half : (p s d : ℕ) (m : ℕ → ℕ) → by p s d m / 2 ≡ by (p / 2) (s / 2) (d / 2) (λ k. m k / 2))
    (odd : (p s d : ℕ) (m : ℕ → ℕ) → by p s d m % 2 ≡ by (p % 2) (s % 2) (d % 2) (λ k. m k % 2))
    (none : (p s d : ℕ) → by p s d (λ k. 0) ≡ 0)
    (bits : (p s d : ℕ) → Bit p → Bit s → Bit d → by p s d (λ k. code / 2 ^ k % 2) ≡ rop_bit code p s d) where
  masks-are : (n p s d : ℕ) → by p s d (mask n code) ≡ rop_bits n code p s d
  unfolding rop_bits
  masks-are zero p s d = ap (by p s d) (λ i k. mask-zero code k i) ∙ none p s d
  masks-are (suc n) p s d =
      sym (div-add-mod' (by p s d (mask (suc n) code)) 2)
      ∙ join (half p s d _ ∙ ap (by (p / 2) (s / 2) (d / 2)) (λ i k. mask-half n code k i) ∙ masks-are n (p / 2) (s / 2) (d / 2))
      (odd p s d _ ∙ ap (by (p % 2) (s % 2) (d % 2)) (λ i k. mask-odd n code k i) ∙ bits _ _ _ (bit p) (bit s) (bit d))

-- the pattern's choice first
chosen-bit : (code : ℕ) {p s d : ℕ} → Bit p → Bit s → Bit d → chosen p s d (λ k. code / 2 ^ k % 2) ≡ rop_bit code p s d
unfolding rop_bit
chosen-bit code =
    eight (λ p s d. chosen p s d (λ k. code / 2 ^ k % 2) ≡ rop_bit code p s d)
    (simp choose-off) (simp (choose-on, choose-off)) (simp (choose-on, choose-off)) (simp (choose-on, choose-off))
    (simp (choose-on, choose-off)) (simp (choose-on, choose-off)) (simp (choose-on, choose-off)) (simp choose-on)

pub merged-is : (code p s d : ℕ) → merged (laid 32 code 0 p) (laid 32 code 1 p) (laid 32 code 2 p) (laid 32 code 3 p) s d ≡ rop_bits 32 code p s d
unfolding merged laid
merged-is code = masks-are code chosen (λ p s d m. simp muxed-half) (λ p s d m. simp muxed-odd) (λ p s d. simp muxed-zero) (λ p s d. chosen-bit code) 32

-- the source's choice first
abbrev sided_by : ℕ → ℕ → ℕ → (ℕ → ℕ) → ℕ
sided_by p s d m =
    muxed p
    (muxed d (muxed s (m 7) (m 5)) (muxed s (m 6) (m 4)))
    (muxed d (muxed s (m 3) (m 1)) (muxed s (m 2) (m 0)))

sided-bit : (code : ℕ) {p s d : ℕ} → Bit p → Bit s → Bit d → sided_by p s d (λ k. code / 2 ^ k % 2) ≡ rop_bit code p s d
unfolding rop_bit
sided-bit code =
    eight (λ p s d. sided_by p s d (λ k. code / 2 ^ k % 2) ≡ rop_bit code p s d)
    (simp choose-off) (simp (choose-on, choose-off)) (simp (choose-on, choose-off)) (simp (choose-on, choose-off))
    (simp (choose-on, choose-off)) (simp (choose-on, choose-off)) (simp (choose-on, choose-off)) (simp choose-on)

quad_is : (code p s d : ℕ) → merged (quad_of code s).q0 (quad_of code s).q1 (quad_of code s).q2 (quad_of code s).q3 p d ≡ rop_bits 32 code p s d
unfolding merged quad_of
quad_is code = masks-are code sided_by (λ p s d m. simp muxed-half) (λ p s d m. simp muxed-odd) (λ p s d. simp muxed-zero) (λ p s d. sided-bit code) 32

-- ---- an operation that only flips bits of the target
other : {y z : ℕ} → Bit y → y + z ≡ 1 → differ 1 y ≡ z
other off e = omega arith
other on e = omega arith

module _ (code : ℕ) (can : flips code ≡ true) where
  turned : (c : ℕ) → turns c ≡ true → c % 2 + c / 2 % 2 ≡ 1
  turned c e = eqb-true (c % 2 + c / 2 % 2) 1 e

  three : ((turns code && turns (code / 4)) && turns (code / 16)) ≡ true
  three = and_left _ (turns (code / 64)) can

  two : (turns code && turns (code / 4)) ≡ true
  two = and_left _ (turns (code / 16)) three

  flip-bit : {p s d : ℕ} → Bit p → Bit s → Bit d → differ d (rop_bit code p s 0) ≡ rop_bit code p s d
  unfolding rop_bit
  flip-bit =
      eight (λ p s d. differ d (code / 2 ^ (4 * p + 2 * s + 0) % 2) ≡ code / 2 ^ (4 * p + 2 * s + d) % 2)
      refl (other (bit (code / 1)) (omega (arith, turned code (and_left _ (turns (code / 4)) two))))
      refl (other (bit (code / 4)) (omega (arith, turned (code / 4) (and_right (turns code) _ two))))
      refl (other (bit (code / 16)) (omega (arith, turned (code / 16) (and_right (turns code && turns (code / 4)) _ three))))
      refl (other (bit (code / 64)) (omega (arith, turned (code / 64) (and_right ((turns code && turns (code / 4)) && turns (code / 16)) _ can))))

  rop-bit : (p s d : ℕ) → rop_bit code p s d < 2
  unfolding rop_bit
  rop-bit p s d = omega arith

  flip_bits : (n p s d : ℕ) → d < 2 ^ n → bit_xor d (rop_bits n code p s 0) ≡ rop_bits n code p s d
  unfolding rop_bits
  flip_bits zero p s d h = ap (λ (x : ℕ). bit_xor x 0) (lt-one h)
  flip_bits (suc n) p s d h =
      xor_step d _
      ∙ join (ap (bit_xor (d / 2)) (digits_div _ (rop-bit (p % 2) (s % 2) 0)) ∙ flip_bits n (p / 2) (s / 2) (d / 2) (omega (arith, pow-suc 2 n)))
      (ap (differ (d % 2)) (digits_mod _ (rop-bit (p % 2) (s % 2) 0)) ∙ flip-bit (bit p) (bit s) (bit d))

pub quad-makes : (flip : Bool) (code p s d : ℕ) → (flip ≡ true → flips code ≡ true) → d < 2 ^ 32 → quad_made flip (quad_of code s) p d ≡ rop_bits 32 code p s d
unfolding merged
quad-makes true code p s d can h =
    ap (bit_xor d) (ap₂ (muxed p) (sym (choose-off _ _)) (sym (choose-off _ _)) ∙ quad_is code p s 0) ∙ flip_bits code (can refl) 32 p s d h
quad-makes false code p s d can h = quad_is code p s d
