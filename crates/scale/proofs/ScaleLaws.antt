-- Laws of an axis: a step adds what the definition does, source places go up with the target's, and the numbers fit.
-- Assumes nothing.
use mathlib.Core.Path.{◌≡◌, sym, ap, ◌∙◌}
use Prim.Native.Nat.{ℕ, ◌+◌, ◌-◌, ◌*◌, ◌/◌, ◌%◌, ◌^◌, ◌<◌, ◌≤◌}
use native.Mathlib.Nat.{mul-le-mul_right, div-le_of_le-mul, div-le_self, le-div_iff_mul-le, div-mul-le_self, div-zero, div-add-mod', mod-lt, add-mul}
use native.Mathlib.Omega.{arith}
use native.Mathlib.Decide.{dec_lt}
use borrow.Author.Tests.{lt-ltb, le-ltb}
use lib.Arith.{digits_div, digits_mod}
use Rattle.surface.proofs.Bytes.{product_lt}
use Rattle.surface.proofs.Lists.{by_cases}
use Rattle.scale.specs.declared.Scale.{Scale}
use Rattle.scale.specs.Scale.{scaled, walk_at, walking, next_of}
use Rattle.scale.specs.Asked.{OnScale, Steps}

-- ---- a step: what is divided grows by source_size
module _ (i n z : ℕ) where
  next-sum : (i + 1) * n ≡ (i * n / z + n / z) * z + (i * n % z + n % z)
  next-sum = omega (arith, div-add-mod' (i * n) z, div-add-mod' n z, add-mul i 1 n, add-mul (i * n / z) (n / z) z)

  carried-sum : z ≤ i * n % z + n % z → (i + 1) * n ≡ (i * n / z + n / z + 1) * z + (i * n % z + n % z - z)
  carried-sum h = omega (arith, next-sum, add-mul (i * n / z + n / z) 1 z)

walk_of : (s : Scale) (place at rest : ℕ) → at ≡ scaled s place → rest ≡ (place - s.to) * s.source_size % s.size
    → record { at = at; rest = rest; whole = s.source_size / s.size; over = s.source_size % s.size; size = s.size } ≡ walk_at s place
unfolding walk_at
walk_of s place at rest p q = λ i. record { at = p i; rest = q i; whole = s.source_size / s.size; over = s.source_size % s.size; size = s.size }

module _ (s : Scale) (place : ℕ) (on : OnScale s place) where
  abbrev i : ℕ
  i = place - s.to

  abbrev n : ℕ
  n = s.source_size

  abbrev z : ℕ
  z = s.size

  later : place + 1 - s.to ≡ i + 1
  later = omega (arith, on.first)

  step-under : i * n % z + n % z < z → walking (walk_at s place) (scaled s place + n / z) (i * n % z + n % z) ≡ walk_at s (place + 1)
  unfolding walk_at scaled
  step-under low =
      let sum = ap (λ (k : ℕ). k * n) later ∙ next-sum i n z in
      let quotient = ap (λ (k : ℕ). k / z) sum ∙ digits_div (i * n / z + n / z) low in
      let rest = ap (λ (k : ℕ). k % z) sum ∙ digits_mod (i * n / z + n / z) low in
      walk_of s (place + 1) _ _ (omega (arith, quotient)) (sym rest)

  step_past : z ≤ i * n % z + n % z → walking (walk_at s place) (scaled s place + n / z + 1) (i * n % z + n % z - z) ≡ walk_at s (place + 1)
  unfolding walk_at scaled
  step_past high =
      let low : i * n % z + n % z - z < z = omega (arith, mod-lt (i * n) on.some, mod-lt n on.some) in
      let sum = ap (λ (k : ℕ). k * n) later ∙ carried-sum i n z high in
      let quotient = ap (λ (k : ℕ). k / z) sum ∙ digits_div (i * n / z + n / z + 1) low in
      let rest = ap (λ (k : ℕ). k % z) sum ∙ digits_mod (i * n / z + n / z + 1) low in
      walk_of s (place + 1) _ _ (omega (arith, quotient)) (sym rest)

  -- a step of the walk at a place gives the walk at the next one
  pub next-walk : next_of (walk_at s place) ≡ walk_at s (place + 1)
  unfolding next_of walk_at
  next-walk =
      by_cases (dec_lt (i * n % z + n % z) z) (λ low. rw (lt-ltb (i * n % z + n % z) z low) (step-under low))
      (λ high. let past : z ≤ i * n % z + n % z = omega arith in rw (le-ltb (i * n % z + n % z) z past) (step_past past))

  -- ---- sizes
  pub product : i * n < 2 ^ 26
  product = product_lt 13 13 {a = i} {b = n} (omega (arith, on)) on.source_size

  at_most : i * n / z ≤ n
  at_most = div-le_of_le-mul z {m = i * n} {n = n} (mul-le-mul_right n (omega (arith, on)))

  pub scaled_small : scaled s place < 2 ^ 15
  unfolding scaled
  scaled_small = omega (arith, at_most, on.from, on.source_size)

  pub walk_steps : Steps (walk_at s place)
  unfolding walk_at
  walk_steps = record {
    at = omega (arith, scaled_small, div-le_self n z, on.source_size);
    rest = omega (arith, mod-lt (i * n) on.some, mod-lt n on.some, on.size);
  }

-- ---- source places go up with the target's
div-up : {k a b : ℕ} → 0 < k → a ≤ b → a / k ≤ b / k
div-up {k} {a} {b} some h = (le-div_iff_mul-le {k = k} {x = a / k} {y = b} some).1 (omega (arith, div-mul-le_self a k))

pub scaled-mono : (s : Scale) {a b : ℕ} → a ≤ b → scaled s a ≤ scaled s b
unfolding scaled
scaled-mono s {a} {b} h =
    by_cases (dec_lt 0 s.size)
    (λ some. omega (arith, div-up some (mul-le-mul_right {m = a - s.to} {n = b - s.to} s.source_size (omega arith))))
    (λ none. let z : s.size ≡ 0 = omega arith in rw z (omega (arith, div-zero ((a - s.to) * s.source_size), div-zero ((b - s.to) * s.source_size))))
