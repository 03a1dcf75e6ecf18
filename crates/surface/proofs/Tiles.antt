-- The layout in tiles, over plain numbers: where byte `column` of row y is, counted from the base, in tiles of 128 bytes by 32 rows, n to a row of tiles.
-- Assumes nothing.
use mathlib.Core.Path.{◌≡◌, sym, ap, ◌∙◌}
use Prim.Native.Nat.{ℕ, suc, ◌+◌, ◌*◌, ◌/◌, ◌%◌, ◌^◌, ◌<◌, ◌≤◌}
use native.Mathlib.Nat.{mul-le-mul_right, mul-le-mul_left, suc-mul, div-add-mod'}
use native.Mathlib.Omega.{arith}
use native.Mathlib.Decide.{ℕ_discrete}
use lib.Arith.{digits_div, digits_mod}
use Rattle.surface.proofs.Bytes.{product_lt}
use Rattle.surface.proofs.Lists.{by_cases}

-- ---- a number by two digits
pub digits_same : (q q' : ℕ) {m r r' : ℕ} → r < m → r' < m → q * m + r ≡ q' * m + r' → (q ≡ q') × (r ≡ r')
digits_same q q' {m} h h' e =
    (sym (digits_div q h) ∙ ap (λ (n : ℕ). n / m) e ∙ digits_div q' h', sym (digits_mod q h) ∙ ap (λ (n : ℕ). n % m) e ∙ digits_mod q' h')

pub digits-mono : {q q' m r r' : ℕ} → r < m → q ≤ q' → (q ≡ q' → r ≤ r') → q * m + r ≤ q' * m + r'
digits-mono {q} {q'} {m} h up low =
    by_cases (ℕ_discrete q q') (λ e. omega (arith, low e, ap (λ (n : ℕ). n * m) e))
    (λ e. omega (arith, mul-le-mul_right {m = suc q} {n = q'} m (omega arith), suc-mul q m))

-- ---- the four digits of an address: a tile's row and column, and the row and column in it
abbrev pub tile : ℕ → ℕ → ℕ → ℕ
tile n column y = y / 32 * n + column / 128

abbrev pub in_tile : ℕ → ℕ → ℕ
in_tile column y = y % 32 * 128 + column % 128

abbrev pub tile_at : ℕ → ℕ → ℕ → ℕ
tile_at n column y = tile n column y * 4096 + in_tile column y

in-tile : (c y : ℕ) → in_tile c y < 4096
in-tile c y = omega arith

tile-column : {n c : ℕ} → c < 128 * n → c / 128 < n
tile-column h = omega arith

low_column : {c c' : ℕ} → c / 128 ≡ c' / 128 → c ≤ c' → c % 128 ≤ c' % 128
low_column e h = omega arith

low-row : {y y' : ℕ} → y / 32 ≡ y' / 32 → y ≤ y' → y % 32 ≤ y' % 32
low-row e h = omega arith

same-column : {c c' : ℕ} → c / 128 ≡ c' / 128 → c % 128 ≡ c' % 128 → c ≡ c'
same-column e h = omega arith

same_row : {y y' : ℕ} → y / 32 ≡ y' / 32 → y % 32 ≡ y' % 32 → y ≡ y'
same_row e h = omega arith

module _ (n c y c' y' : ℕ) where
  tile-up : c ≤ c' → y ≤ y' → tile n c y ≤ tile n c' y'
  tile-up hc hy =
      let a : c / 128 ≤ c' / 128 = omega arith in
      let b : y / 32 ≤ y' / 32 = omega arith in
      omega (arith, mul-le-mul_right n b)

  tile-same : c < 128 * n → c' < 128 * n → tile n c y ≡ tile n c' y' → (y / 32 ≡ y' / 32) × (c / 128 ≡ c' / 128)
  tile-same h h' e = digits_same (y / 32) (y' / 32) (tile-column h) (tile-column h') e

  pub tile-mono : c' < 128 * n → c ≤ c' → y ≤ y' → tile_at n c y ≤ tile_at n c' y'
  tile-mono h hc hy =
      digits-mono (in-tile c y) (tile-up hc hy)
      (λ e. let t = tile-same (omega arith) h e in omega (arith, low-row t.0 hy, low_column t.1 hc))

  pub tile-inj : c < 128 * n → c' < 128 * n → tile_at n c y ≡ tile_at n c' y' → (y ≡ y') × (c ≡ c')
  tile-inj h h' e =
      let t = digits_same (tile n c y) (tile n c' y') (in-tile c y) (in-tile c' y') e in
      let high = tile-same h h' t.0 in
      let low = digits_same (y % 32) (y' % 32) {m = 128} (omega arith) (omega arith) t.1 in
      (same_row high.0 low.0, same-column high.1 low.1)

-- what ends inside its tile's row lies in one piece
pub tile-run : (n c k y : ℕ) → c % 128 + k < 128 → tile_at n (c + k) y ≡ tile_at n c y + k
tile-run n c k y h =
    let a : (c + k) / 128 ≡ c / 128 = omega arith in
    let b : (c + k) % 128 ≡ c % 128 + k = omega arith in
    rw (a, b) (omega arith)

pub tile-small : {n c y : ℕ} → n < 2 ^ 17 → c < 2 ^ 40 → y < 2 ^ 34 → tile_at n c y < 2 ^ 59
tile-small {n} {c} {y} hn hc hy =
    let a : y / 32 < 2 ^ 29 = omega arith in
    let b : c / 128 < 2 ^ 33 = omega arith in
    omega (arith, product_lt 29 17 {a = y / 32} {b = n} a hn, in-tile c y)

-- all that is left of and above a byte lies before it
tile-above : (n i a j b : ℕ) → i < n → a < 128 → b < 32 → (i * 128 + a + 1) * (j * 32 + b + 1) ≤ (j * n + i) * 4096 + (b * 128 + a) + 1
tile-above n i a j b hi ha hb =
    omega (
      arith,
      mul-le-mul_left {m = i + 1} {n = n} j (omega arith),
      mul-le-mul_left {m = b + 1} {n = 32} i (omega arith),
      mul-le-mul_right {m = a + 1} {n = 128} j (omega arith),
      mul-le-mul_right {m = a + 1} {n = 128} b (omega arith),
    )

pub tile-area : (n c y : ℕ) → c < 128 * n → (c + 1) * (y + 1) ≤ tile_at n c y + 1
tile-area n c y h =
    rw (div-add-mod' c 128, div-add-mod' y 32) at (tile-above n (c / 128) (c % 128) (y / 32) (y % 32) (tile-column h) (omega arith) (omega arith))
