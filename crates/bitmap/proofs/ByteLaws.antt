-- Laws of the bits of one number: a clear bit set, a byte's bound, and a byte and its eight bits.
-- Assumes nothing.
use mathlib.Core.Path.{◌≡◌, refl, sym, ap, ◌∙◌}
use mathlib.Core.Bool.{Bool, true, false, cond}
use Prim.Native.Nat.{ℕ, zero, suc, ◌+◌, ◌-◌, ◌*◌, ◌/◌, ◌%◌, ◌^◌, ◌<◌, ◌≤◌}
use native.Mathlib.Nat.{add-div_right, add-mul-div_left}
use native.Mathlib.Decide.{dec_lt}
use native.Mathlib.Omega.{arith}
use lib.Dec.{eqb}
use lib.Pow.{pow_pos, pow-add, shr-shr}
use Rattle.surface.specs.Place.{one}
use Rattle.surface.proofs.Lists.{by_cases}

-- ---- a clear bit set, by adding its power of two: that bit is set, and the others are as they were
module _ (b j : ℕ) (clear : b / 2 ^ j % 2 ≡ 0) where
  one_more : (b + 2 ^ j) / 2 ^ j ≡ b / 2 ^ j + 1
  one_more = add-div_right b (pow_pos j)

  pub set_own : (b + 2 ^ j) / 2 ^ j % 2 ≡ 1
  set_own = rw one_more (omega arith)

  below : (i : ℕ) → i < j → (b + 2 ^ j) / 2 ^ i % 2 ≡ b / 2 ^ i % 2
  below i h =
      let m = j - (i + 1) in
      let e : j ≡ i + (1 + m) = omega arith in
      let p : 2 ^ j ≡ 2 ^ i * (2 * 2 ^ m) = ap (λ (n : ℕ). 2 ^ n) e ∙ (pow-add 2 i (1 + m) ∙ ap (λ (n : ℕ). 2 ^ i * n) (pow-add 2 1 m)) in
      let q = ap (λ (n : ℕ). (b + n) / 2 ^ i) p ∙ add-mul-div_left b (2 * 2 ^ m) (pow_pos i) in
      rw q (omega arith)

  above : (i : ℕ) → j < i → (b + 2 ^ j) / 2 ^ i % 2 ≡ b / 2 ^ i % 2
  above i h =
      let m = i - (j + 1) in
      let e : i ≡ j + (1 + m) = omega arith in
      let q : (b / 2 ^ j + 1) / 2 ≡ b / 2 ^ j / 2 = omega arith in
      ap (λ (n : ℕ). n % 2) (apart (b + 2 ^ j) m i e ∙ (ap (λ (n : ℕ). n / 2 / 2 ^ m) one_more ∙ (ap (λ (n : ℕ). n / 2 ^ m) q ∙ sym (apart b m i e))))
    where
      apart : (n m i : ℕ) → i ≡ j + (1 + m) → n / 2 ^ i ≡ n / 2 ^ j / 2 / 2 ^ m
      apart n m i e = ap (λ (k : ℕ). n / 2 ^ k) e ∙ (sym (shr-shr n j (1 + m)) ∙ sym (shr-shr (n / 2 ^ j) 1 m))

  pub set_other : (i : ℕ) → (i ≡ j → ⊥) → (b + 2 ^ j) / 2 ^ i % 2 ≡ b / 2 ^ i % 2
  set_other i h = by_cases (dec_lt i j) (below i) (λ g. above i (omega arith))

-- ---- a number below eight is one of eight
eight : (P : ℕ → Type 0) → P 0 → P 1 → P 2 → P 3 → P 4 → P 5 → P 6 → P 7 → (j : ℕ) → j < 8 → P j
eight P p0 p1 p2 p3 p4 p5 p6 p7 zero h = p0
eight P p0 p1 p2 p3 p4 p5 p6 p7 (suc zero) h = p1
eight P p0 p1 p2 p3 p4 p5 p6 p7 (suc (suc zero)) h = p2
eight P p0 p1 p2 p3 p4 p5 p6 p7 (suc (suc (suc zero))) h = p3
eight P p0 p1 p2 p3 p4 p5 p6 p7 (suc (suc (suc (suc zero)))) h = p4
eight P p0 p1 p2 p3 p4 p5 p6 p7 (suc (suc (suc (suc (suc zero))))) h = p5
eight P p0 p1 p2 p3 p4 p5 p6 p7 (suc (suc (suc (suc (suc (suc zero)))))) h = p6
eight P p0 p1 p2 p3 p4 p5 p6 p7 (suc (suc (suc (suc (suc (suc (suc zero))))))) h = p7
eight P p0 p1 p2 p3 p4 p5 p6 p7 (suc (suc (suc (suc (suc (suc (suc (suc j)))))))) h = absurd (omega arith)

-- a byte with a clear bit set is a byte
pub set-fits : (b : ℕ) → b < 256 → (j : ℕ) → j < 8 → b / 2 ^ j % 2 ≡ 0 → b + 2 ^ j < 256
set-fits b h =
    eight (λ j. b / 2 ^ j % 2 ≡ 0 → b + 2 ^ j < 256) (λ e. omega arith) (λ e. omega arith) (λ e. omega arith) (λ e. omega arith)
    (λ e. omega arith)
    (λ e. omega arith)
    (λ e. omega arith)
    (λ e. omega arith)

-- ---- a number below 256 and its eight bits
abbrev pub sum : (ℕ → ℕ) → ℕ
sum f = f 0 * 2 ^ 0 + f 1 * 2 ^ 1 + f 2 * 2 ^ 2 + f 3 * 2 ^ 3 + f 4 * 2 ^ 4 + f 5 * 2 ^ 5 + f 6 * 2 ^ 6 + f 7 * 2 ^ 7

-- halved eight times, with what is left over each time
halved : (q r : ℕ → ℕ) → ((i : ℕ) → q i ≡ r i + q (i + 1) * 2) → q 0 ≡ sum r + q 8 * 256
halved q r e = omega (arith, e 0, e 1, e 2, e 3, e 4, e 5, e 6, e 7)

pub sum_of : (b : ℕ) → b < 256 → b ≡ sum (λ i. b / 2 ^ i % 2)
sum_of b h =
    let e = halved (λ i. b / 2 ^ i) (λ i. b / 2 ^ i % 2) (λ i. rw (← shr-shr b i 1) (omega arith)) in
    let z : b / 2 ^ 8 ≡ 0 = omega arith in
    omega arith

module _ (f : ℕ → ℕ) (bit : (i : ℕ) → f i ≤ 1) where
  pub sum_fits : sum f < 256
  sum_fits = omega (arith, bit 0, bit 1, bit 2, bit 3, bit 4, bit 5, bit 6, bit 7)

  pub sum-bit : (i : ℕ) → i < 8 → sum f / 2 ^ i % 2 ≡ f i
  sum-bit =
      let b0 = bit 0 in
      let b1 = bit 1 in
      let b2 = bit 2 in
      let b3 = bit 3 in
      let b4 = bit 4 in
      let b5 = bit 5 in
      let b6 = bit 6 in
      let b7 = bit 7 in
      eight (λ i. sum f / 2 ^ i % 2 ≡ f i) (omega arith) (omega arith) (omega arith) (omega arith) (omega arith) (omega arith) (omega arith) (omega arith)

-- a bit as a test: what it adds to its byte, and back
pub one_of : (n : ℕ) → n ≤ 1 → one (eqb n 1) ≡ n
one_of zero h = refl
one_of (suc zero) h = refl
one_of (suc (suc n)) h = absurd (omega arith)

pub of_one : (t : Bool) → eqb (one t) 1 ≡ t
of_one true = refl
of_one false = refl

pub part-one : (t : Bool) (p : ℕ) → cond t p 0 ≡ one t * p
part-one true p = omega arith
part-one false p = omega arith

-- ---- the power of two of a byte's bit, as a shift in 32 bits makes it
pub shifted : (j : ℕ) → j < 8 → 1 * 2 ^ j % 2 ^ 32 ≡ 2 ^ j
shifted = eight (λ j. 1 * 2 ^ j % 2 ^ 32 ≡ 2 ^ j) refl refl refl refl refl refl refl refl
