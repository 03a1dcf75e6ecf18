-- A word is the sum of its four bytes.
-- Assumes nothing.
use mathlib.Core.Path.{◌≡◌}
use Prim.Native.Nat.{ℕ, ◌+◌, ◌*◌, ◌/◌, ◌%◌, ◌^◌, ◌<◌}
use native.Mathlib.Nat.{div-div-eq-div-mul, div-add-mod'}
use native.Mathlib.Omega.{arith}

pub four_bytes : (d : ℕ) → d < 2 ^ 32 → d % 2 ^ 8 + d / 2 ^ 8 % 2 ^ 8 * 2 ^ 8 + d / 2 ^ 16 % 2 ^ 8 * 2 ^ 16 + d / 2 ^ 24 % 2 ^ 8 * 2 ^ 24 ≡ d
four_bytes d f =
    let s : d / 2 ^ 16 * 2 ^ 8 + d / 2 ^ 8 % 2 ^ 8 ≡ d / 2 ^ 8 = rw (div-div-eq-div-mul d (2 ^ 8) (2 ^ 8)) at (div-add-mod' (d / 2 ^ 8) (2 ^ 8)) in
    let t : d / 2 ^ 24 * 2 ^ 8 + d / 2 ^ 16 % 2 ^ 8 ≡ d / 2 ^ 16 = rw (div-div-eq-div-mul d (2 ^ 16) (2 ^ 8)) at (div-add-mod' (d / 2 ^ 16) (2 ^ 8)) in
    omega arith
