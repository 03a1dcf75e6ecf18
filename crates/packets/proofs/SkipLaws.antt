-- A mask's zeros passed over at once: they are as many as the zeros below its lowest bit.
-- Assumes nothing.
use Rattle.std.proofs.Common.{◌≡◌, ℕ, zero, suc, ◌+◌, ◌*◌, ◌/◌, ◌%◌, ◌^◌, ◌<◌, refl, arith, ap₂, sym, ◌∙◌, eq-eqb, ne_eqb}
use native.Mathlib.Nat.{pow-suc}
use lib.Pow.{shr-shr}
use lib.Count.{count_trailing_zeros}
use Rattle.packets.specs.declared.Rest.TheVariants.{Empty, Masked}
use Rattle.packets.specs.Reader.{skipped}

low-even : (k m : ℕ) → m % 2 ≡ 0 → count_trailing_zeros (suc k) m ≡ 1 + count_trailing_zeros k (m / 2)
unfolding count_trailing_zeros
low-even k m e = rw e (omega arith)

low-odd : (k m : ℕ) → m % 2 ≡ 1 → count_trailing_zeros (suc k) m ≡ 0
unfolding count_trailing_zeros
low-odd k m e = rw e

pub skip_none : (k o : ℕ) → Empty ≡ skipped k o 0
unfolding skipped
skip_none zero o = refl
skip_none (suc k) o = skip_none k ((o + 4) % 2 ^ 32)

pub skip_some : (k o m : ℕ) → o < 2 ^ 32 → 0 < m → m < 2 ^ k
    → Masked ((o + 4 * count_trailing_zeros k m) % 2 ^ 32) (m / 2 ^ count_trailing_zeros k m) ≡ skipped k o m
unfolding skipped
skip_some zero o m f p h = absurd (omega arith)
skip_some (suc k) o m f p h = by-bit (m % 2) refl (λ q. skip_some k ((o + 4) % 2 ^ 32) (m / 2) (omega arith) q (let half = rw (pow-suc 2 k) at h in omega arith))
  where
    by-bit : (b : ℕ) → m % 2 ≡ b
        → (0 < m / 2 → Masked (((o + 4) % 2 ^ 32 + 4 * count_trailing_zeros k (m / 2)) % 2 ^ 32) (m / 2 / 2 ^ count_trailing_zeros k (m / 2)) ≡ skipped k ((o + 4) % 2 ^ 32) (m / 2))
        → Masked ((o + 4 * count_trailing_zeros (suc k) m) % 2 ^ 32) (m / 2 ^ count_trailing_zeros (suc k) m) ≡ skipped (suc k) o m
    by-bit zero e rest =
        rw (low-even k m e, ne_eqb (m % 2) 1 (λ q. omega arith))
        (ap₂ Masked (omega arith) (sym (shr-shr m 1 (count_trailing_zeros k (m / 2)))) ∙ rest (omega arith))
    by-bit (suc b) e rest =
        let odd : m % 2 ≡ 1 = omega arith in
        rw (low-odd k m odd, eq-eqb (m % 2) 1 odd) (ap₂ Masked (omega arith) (omega arith))
