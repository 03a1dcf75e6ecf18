-- Laws of the conversion: widening puts the bits on top and their top ones below, over the number of bits; narrowing takes them back; and what an
-- allowed conversion gives is a pixel of the target's format.
-- Assumes nothing.
use mathlib.Core.Path.{◌≡◌, refl, sym, ap, ◌∙◌, subst}
use Prim.Native.Nat.{ℕ, ◌+◌, ◌-◌, ◌*◌, ◌/◌, ◌%◌, ◌^◌, ◌≤◌, ◌<◌}
use native.Mathlib.Nat.{div-lt_iff_lt-mul}
use native.Mathlib.Omega.{arith}
use lib.Arith.{digits_lt, digits_div, digits_mod}
use lib.Pow.{pow_pos, pow-add}
use borrow.Author.Tests.{eq-eqb}
use Rattle.colour.specs.Convert.{repeated, widened, narrowed, converted}

-- ---- widening, over the number of bits

module _ (k n : ℕ) (low : 4 ≤ k) (high : k ≤ 8) (fits : n < 2 ^ k) where
  top-bits : n / 2 ^ (k - (8 - k)) < 2 ^ (8 - k)
  top-bits =
      (div-lt_iff_lt-mul (pow_pos (k - (8 - k)))).1 (subst (λ (m : ℕ). n < m) (ap (λ (j : ℕ). 2 ^ j) (omega arith) ∙ pow-add 2 (8 - k) (k - (8 - k))) fits)

  -- the bits themselves are on top
  pub repeated-top : repeated k n / 2 ^ (8 - k) ≡ n
  repeated-top = digits_div n top-bits

  -- their top ones are below
  pub repeated-below : repeated k n % 2 ^ (8 - k) ≡ n / 2 ^ (k - (8 - k))
  repeated-below = digits_mod n top-bits

  pub repeated-bounded : repeated k n < 2 ^ 8
  repeated-bounded = subst (λ (m : ℕ). repeated k n < m) (sym (pow-add 2 k (8 - k)) ∙ ap (λ (j : ℕ). 2 ^ j) eight-bits) (digits_lt fits top-bits)
    where
      eight-bits : k + (8 - k) ≡ 8
      eight-bits = omega arith

-- ---- channels of a pixel of 3 bytes

red : (r g b : ℕ) → r < 2 ^ 8 → g < 2 ^ 8 → b < 2 ^ 8 → (r * 2 ^ 16 + g * 2 ^ 8 + b) / 2 ^ 16 % 2 ^ 8 ≡ r
red r g b hr hg hb = omega arith

green : (r g b : ℕ) → g < 2 ^ 8 → b < 2 ^ 8 → (r * 2 ^ 16 + g * 2 ^ 8 + b) / 2 ^ 8 % 2 ^ 8 ≡ g
green r g b hg hb = omega arith

blue : (r g b : ℕ) → b < 2 ^ 8 → (r * 2 ^ 16 + g * 2 ^ 8 + b) % 2 ^ 8 ≡ b
blue r g b hb = omega arith

-- a pixel of 2 bytes is its channels
whole : (v : ℕ) → v < 2 ^ 16 → v / 2 ^ 11 % 2 ^ 5 * 2 ^ 11 + v / 2 ^ 5 % 2 ^ 6 * 2 ^ 5 + v % 2 ^ 5 ≡ v
whole v h = omega arith

-- what was repeated is what narrowing drops, so a pixel of 2 bytes comes back
pub comes_back : (v : ℕ) → v < 2 ^ 16 → narrowed (widened v) ≡ v
comes_back v h =
    let r : v / 2 ^ 11 % 2 ^ 5 < 2 ^ 5 = omega arith in
    let g : v / 2 ^ 5 % 2 ^ 6 < 2 ^ 6 = omega arith in
    let b : v % 2 ^ 5 < 2 ^ 5 = omega arith in
    let R : repeated 5 (v / 2 ^ 11 % 2 ^ 5) < 2 ^ 8 = repeated-bounded 5 _ (omega arith) (omega arith) r in
    let G : repeated 6 (v / 2 ^ 5 % 2 ^ 6) < 2 ^ 8 = repeated-bounded 6 _ (omega arith) (omega arith) g in
    let B : repeated 5 (v % 2 ^ 5) < 2 ^ 8 = repeated-bounded 5 _ (omega arith) (omega arith) b in
    rw (
      red (repeated 5 (v / 2 ^ 11 % 2 ^ 5)) (repeated 6 (v / 2 ^ 5 % 2 ^ 6)) (repeated 5 (v % 2 ^ 5)) R G B,
      green (repeated 5 (v / 2 ^ 11 % 2 ^ 5)) (repeated 6 (v / 2 ^ 5 % 2 ^ 6)) (repeated 5 (v % 2 ^ 5)) G B,
      blue (repeated 5 (v / 2 ^ 11 % 2 ^ 5)) (repeated 6 (v / 2 ^ 5 % 2 ^ 6)) (repeated 5 (v % 2 ^ 5)) B,
      repeated-top 5 (v / 2 ^ 11 % 2 ^ 5) (omega arith) (omega arith) r,
      repeated-top 6 (v / 2 ^ 5 % 2 ^ 6) (omega arith) (omega arith) g,
      repeated-top 5 (v % 2 ^ 5) (omega arith) (omega arith) b,
    )
    (whole v h)

-- ---- between formats

-- the formats that convert to each other
pub data Deep : ℕ → Type 0 where
  two : Deep 2
  three : Deep 3
  four : Deep 4

pub converted-bounded : {from to : ℕ} (v : ℕ) → Deep from → Deep to → v < 256 ^ from → converted from to v < 256 ^ to
unfolding converted
converted-bounded v two two h = h
converted-bounded v two three h = omega arith
converted-bounded v two four h = omega arith
converted-bounded v three two h = omega arith
converted-bounded v three three h = h
converted-bounded v three four h = omega arith
converted-bounded v four two h = omega arith
converted-bounded v four three h = omega arith
converted-bounded v four four h = h

-- equal formats keep every bit
pub converted-same : (f v : ℕ) → converted f f v ≡ v
unfolding converted
converted-same f v = rw (eq-eqb f f refl)

-- from 2 or 3 bytes the top byte of 4 becomes 0
pub top-is-zero : {from : ℕ} (v : ℕ) → Deep from → from < 4 → v < 256 ^ from → converted from 4 v / 2 ^ 24 ≡ 0
unfolding converted
top-is-zero v two l h = omega arith
top-is-zero v three l h = omega arith
top-is-zero v four l h = absurd (omega arith)
