-- What is known elsewhere of the layout: laws of `byte_at` and `row_bytes`, over both layouts. Beside this file and the proofs of `byte_at` and `row_bytes` these open them:
-- the examples that are worked out.
-- Assumes nothing.
use mathlib.Core.Path.{◌≡◌, refl}
use mathlib.Core.Bool.{Bool, true, false}
use Prim.Native.Nat.{ℕ, ◌+◌, ◌*◌, ◌/◌, ◌%◌, ◌^◌, ◌<◌, ◌≤◌}
use native.Mathlib.Nat.{mul-le-mul_right, mul-le-mul_left, add-mul}
use native.Mathlib.Omega.{arith}
use Rattle.surface.specs.declared.Surface.{Surface}
use Rattle.surface.specs.Place.{row_bytes, byte_at}
use Rattle.surface.specs.Asked.{Near}
use Rattle.surface.proofs.Bytes.{product_lt}
use Rattle.surface.proofs.Tiles.{digits_same, tile_at, tile-mono, tile-inj, tile-small, tile-area}

-- ---- by the layout
pub by_layout : {A : Type 0} (s : Surface) → (s.tiled ≡ false → A) → (s.tiled ≡ true → A) → A
by_layout {A} s f g = by-test s.tiled refl
  where
    by-test : (t : Bool) → s.tiled ≡ t → A
    by-test false e = f e
    by-test true e = g e

module _ (s : Surface) (c y : ℕ) where
  pub byte_at-flat : s.tiled ≡ false → byte_at s c y ≡ s.base + y * s.stride + c
  unfolding byte_at
  byte_at-flat e = rw e

  pub byte_at-tiled : s.tiled ≡ true → byte_at s c y ≡ s.base + tile_at s.stride c y
  unfolding byte_at
  byte_at-tiled e = rw e (omega arith)

module _ (s : Surface) where
  pub row_bytes-flat : s.tiled ≡ false → row_bytes s ≡ s.stride
  unfolding row_bytes
  row_bytes-flat e = rw e

  pub row_bytes-tiled : s.tiled ≡ true → row_bytes s ≡ 128 * s.stride
  unfolding row_bytes
  row_bytes-tiled e = rw e

-- ---- laws of both

-- further right or further down is no lower address
pub byte_at-mono : (s : Surface) {c c' y y' : ℕ} → c' < row_bytes s → c ≤ c' → y ≤ y' → byte_at s c y ≤ byte_at s c' y'
byte_at-mono s {c} {c'} {y} {y'} h hc hy =
    by_layout s (λ e. omega (arith, byte_at-flat s c y e, byte_at-flat s c' y' e, mul-le-mul_right s.stride hy))
    (λ e. rw (byte_at-tiled s c y e, byte_at-tiled s c' y' e) (omega (arith, tile-mono s.stride c y c' y' (rw (row_bytes-tiled s e) at h) hc hy)))

-- within the rows no two bytes have one address
pub byte_at-inj : (s : Surface) (c y c' y' : ℕ) → c < row_bytes s → c' < row_bytes s → byte_at s c y ≡ byte_at s c' y' → (y ≡ y') × (c ≡ c')
byte_at-inj s c y c' y' h h' e =
    by_layout s
    (λ t. let f : y * s.stride + c ≡ y' * s.stride + c' = omega (arith, byte_at-flat s c y t, byte_at-flat s c' y' t) in
    digits_same y y' (rw (row_bytes-flat s t) at h) (rw (row_bytes-flat s t) at h') f)
    (λ t. let f : tile_at s.stride c y ≡ tile_at s.stride c' y' = omega (arith, byte_at-tiled s c y t, byte_at-tiled s c' y' t) in
    tile-inj s.stride c y c' y' (rw (row_bytes-tiled s t) at h) (rw (row_bytes-tiled s t) at h') f)

-- an address that can be worked out
pub byte_at-small : {s : Surface} {c y : ℕ} → Near s c y → byte_at s c y < 2 ^ 60
byte_at-small {s} {c} {y} near =
    by_layout s (λ e. omega (arith, byte_at-flat s c y e, near, near.small, product_lt 34 17 {a = y} {b = s.stride} near.down near.small.stride))
    (λ e. omega (arith, byte_at-tiled s c y e, near.small.base, tile-small near.small.stride near.across near.down))

-- all that is left of and above a byte lies before it
pub byte_at-area : (s : Surface) (c y : ℕ) → c < row_bytes s → s.base + (c + 1) * (y + 1) ≤ byte_at s c y + 1
byte_at-area s c y h =
    by_layout s (λ e. let k = rw (row_bytes-flat s e) at h in omega (arith, byte_at-flat s c y e, mul-le-mul_left {m = c + 1} {n = s.stride} y (omega arith)))
    (λ e. omega (arith, byte_at-tiled s c y e, tile-area s.stride c y (rw (row_bytes-tiled s e) at h)))

-- ---- in rows the bytes of a row follow each other
pub byte_at-run : (s : Surface) → s.tiled ≡ false → (c k y : ℕ) → byte_at s (c + k) y ≡ byte_at s c y + k
byte_at-run s e c k y = omega (arith, byte_at-flat s c y e, byte_at-flat s (c + k) y e)

-- and the rows do, at the stride; within a tile both do, the rows at 128 bytes
pub byte_at-rows : (s : Surface) → s.tiled ≡ false → (c y k q : ℕ) → byte_at s (c + k) (y + q) ≡ byte_at s c y + (q * s.stride + k)
byte_at-rows s e c y k q = omega (arith, byte_at-flat s c y e, byte_at-flat s (c + k) (y + q) e, add-mul y q s.stride)

pub byte_at-tile : (s : Surface) → s.tiled ≡ true → (c y k q : ℕ) → c % 128 + k < 128 → y % 32 + q < 32 → byte_at s (c + k) (y + q) ≡ byte_at s c y + (q * 128 + k)
byte_at-tile s e c y k q hc hy =
    let across : (c + k) / 128 ≡ c / 128 = omega arith in
    let column : (c + k) % 128 ≡ c % 128 + k = omega arith in
    let down : (y + q) / 32 ≡ y / 32 = omega arith in
    let row : (y + q) % 32 ≡ y % 32 + q = omega arith in
    rw (byte_at-tiled s (c + k) (y + q) e, byte_at-tiled s c y e, across, column, down, row) (omega arith)
