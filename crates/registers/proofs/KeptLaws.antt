-- Laws of the kept bits: to keep them twice is to keep them once, and they are a word.
-- Assumes nothing.
use Prim.Native.Nat.{ℕ, ◌^◌, ◌<◌}
use native.Mathlib.Omega.{arith}
use mathlib.Core.Bool.{Bool, true, false, cond}
use mathlib.Core.Path.{◌≡◌, refl}
use lib.Dec.{eqb}
use Rattle.registers.specs.Kept.{is_clip, is_base, is_pair, is_key, low, halves, address, kept}

-- what holds of every way to keep bits holds at each offset
module _ (P : (ℕ → ℕ) → Type 0) where
  either : (t : Bool) {f g : ℕ → ℕ} → P f → P g → P (cond t f g)
  either true p q = p
  either false p q = q

  pub at_offset : P (halves 12 12) → P address → P (halves 14 3) → P (halves 14 8) → P (halves 13 13) → P (low 24) → P (low 4) → P (λ d. d) → (o : ℕ) → P (kept o)
  unfolding kept
  at_offset p q r s t u v w o =
      either (is_clip o) p (either (is_base o) q (either (eqb o 0x14) r (either (eqb o 0x54) s (either (is_pair o) t (either (is_key o) u (either (eqb o 0x38) v w))))))

pub kept-once : (o d : ℕ) → kept o (kept o d) ≡ kept o d
kept-once =
    at_offset (λ f. (d : ℕ) → f (f d) ≡ f d)
    (λ d. omega arith)
    (λ d. omega arith)
    (λ d. omega arith)
    (λ d. omega arith)
    (λ d. omega arith)
    (λ d. omega arith)
    (λ d. omega arith)
    (λ d. refl)

pub kept_word : (o d : ℕ) → d < 2 ^ 32 → kept o d < 2 ^ 32
kept_word =
    at_offset (λ f. (d : ℕ) → d < 2 ^ 32 → f d < 2 ^ 32)
    (λ d h. omega arith)
    (λ d h. omega arith)
    (λ d h. omega arith)
    (λ d h. omega arith)
    (λ d h. omega arith)
    (λ d h. omega arith)
    (λ d h. omega arith)
    (λ d h. h)

pub kept-zero : (o : ℕ) → kept o 0 ≡ 0
kept-zero = at_offset (λ f. f 0 ≡ 0) refl refl refl refl refl refl refl refl
