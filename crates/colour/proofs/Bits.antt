-- Numbers bit by bit: the lowest bit, what lies above it, and facts that are tried at every bit.
-- Assumes nothing.
use mathlib.Core.Path.{◌≡◌, sym, ap, ap₂, ◌∙◌}
use Prim.Native.Nat.{ℕ, zero, suc, ◌+◌, ◌*◌, ◌/◌, ◌%◌, ◌^◌, ◌<◌}
use native.Mathlib.Nat.{mod-lt, zero-lt-suc, pow-suc}
use native.Mathlib.Omega.{arith}
use lib.Arith.{digits_div, digits_mod, mod-mul}
use lib.Pow.{pow_pos, shr-shr, field, mod-mod-pow, mod-pow-add}

-- a number that is a bit
pub data Bit : ℕ → Type 0 where
  off : Bit 0
  on : Bit 1

pub two_pos : 0 < 2
two_pos = zero-lt-suc 1

pub bit : (n : ℕ) → Bit (n % 2)
bit n = below (n % 2) (mod-lt n two_pos)
  where
    below : (m : ℕ) → m < 2 → Bit m
    below zero h = off
    below (suc zero) h = on
    below (suc (suc m)) h = absurd (omega arith)

-- what holds of the eight ways to choose three bits holds of any three
pub eight : (P : ℕ → ℕ → ℕ → Type 0)
    → P 0 0 0 → P 0 0 1 → P 0 1 0 → P 0 1 1 → P 1 0 0 → P 1 0 1 → P 1 1 0 → P 1 1 1
    → {p s d : ℕ} → Bit p → Bit s → Bit d → P p s d
eight P a b c d e f g h off off off = a
eight P a b c d e f g h off off on = b
eight P a b c d e f g h off on off = c
eight P a b c d e f g h off on on = d
eight P a b c d e f g h on off off = e
eight P a b c d e f g h on off on = f
eight P a b c d e f g h on on off = g
eight P a b c d e f g h on on on = h

-- two numbers are equal if their lowest bits and the rests above them are
pub join : {x x' y y' : ℕ} → x ≡ x' → y ≡ y' → x * 2 + y ≡ x' * 2 + y'
join e f = ap₂ (λ (x y : ℕ). x * 2 + y) e f

-- the n + 1 low bits of a number
pub mod-suc : (x n : ℕ) → x % 2 ^ suc n ≡ (x / 2 % 2 ^ n) * 2 + x % 2
mod-suc x n = rw pow-suc (mod-mul x (pow_pos n) two_pos)

pub mod-half : (x n : ℕ) → x % 2 ^ suc n / 2 ≡ x / 2 % 2 ^ n
mod-half x n = ap (λ (y : ℕ). y / 2) (mod-suc x n) ∙ digits_div (x / 2 % 2 ^ n) (mod-lt x two_pos)

pub mod-odd : (x n : ℕ) → x % 2 ^ suc n % 2 ≡ x % 2
mod-odd x n = ap (λ (y : ℕ). y % 2) (mod-suc x n) ∙ digits_mod (x / 2 % 2 ^ n) (mod-lt x two_pos)

-- bit m of the m + 1 + j bits from bit a on, and so: where two windows of a number are equal, their bits are
in_window : (x a j m : ℕ) → x / 2 ^ a % 2 ^ (j + 1 + m) / 2 ^ m % 2 ≡ x / 2 ^ (a + m) % 2
in_window x a j m =
    ap (λ (y : ℕ). y % 2) (field (x / 2 ^ a) (j + 1) m)
    ∙ mod-mod-pow (x / 2 ^ a / 2 ^ m) j 1
    ∙ ap (λ (y : ℕ). y % 2) (shr-shr x a m)

pub alike : (x a b j m : ℕ) → x / 2 ^ a % 2 ^ (j + 1 + m) ≡ x / 2 ^ b % 2 ^ (j + 1 + m) → x / 2 ^ (a + m) % 2 ≡ x / 2 ^ (b + m) % 2
alike x a b j m e =
    sym (in_window x a j m) ∙ ap (λ (y : ℕ). y / 2 ^ m % 2) e ∙ in_window x b j m

-- a number of a + b + c bits by its three fields
pub fields : (v a b c : ℕ) → v % 2 ^ (c + b + a) ≡ (v / 2 ^ (a + b) % 2 ^ c * 2 ^ b + v / 2 ^ a % 2 ^ b) * 2 ^ a + v % 2 ^ a
fields v a b c =
    mod-pow-add v (c + b) a
    ∙ ap (λ (x : ℕ). x * 2 ^ a + v % 2 ^ a)
    (mod-pow-add (v / 2 ^ a) c b ∙ ap (λ (x : ℕ). x % 2 ^ c * 2 ^ b + v / 2 ^ a % 2 ^ b) (shr-shr v a b))
