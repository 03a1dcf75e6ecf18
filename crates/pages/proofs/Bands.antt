-- A band of rows has a byte in every page from its first byte's to its last byte's: along its first row and down its last column no step is longer than a page.
-- Assumes nothing.
use mathlib.Core.Path.{◌≡◌, ap}
use mathlib.Core.Bool.{Bool, true, false}
use mathlib.Core.List.{List, Memᴰ}
use Prim.Native.Nat.{ℕ, zero, suc, ◌+◌, ◌-◌, ◌*◌, ◌/◌, ◌%◌, ◌<◌, ◌≤◌, min}
use native.Mathlib.Nat.{add-zero, add-suc, add-mul, suc-mul, mul-le-mul_right, mod-lt, div-lt_iff_lt-mul, le-div_iff_mul-le, div-add-mod'}
use native.Mathlib.Omega.{arith}
use native.Mathlib.Decide.{ℕ_discrete, dec_le}
use borrow.Author.Tests.{le-leb, lt-leb}
use Rattle.surface.specs.declared.Surface.{Surface}
use Rattle.surface.specs.Place.{byte_at, first_byte, on_surface}
use Rattle.surface.specs.Pixels.{Px, px, Inside}
use Rattle.surface.proofs.Lists.{In, by_cases}
use Rattle.surface.proofs.Tiles.{tile_at}
use Rattle.surface.proofs.Rows.{by_layout, byte_at-flat, byte_at-tiled, row_bytes-flat, row_bytes-tiled}
use Rattle.surface.proofs.OnLaws.{colour-first, colour-count, last-in-row, on-column}
use Rattle.spans.specs.Span.{addresses}
use Rattle.spans.proofs.Spans.{IsByte, in-addresses, addresses-in}
use Rattle.pages.specs.Pages.{page_of, marked_at, marking}
use Rattle.pages.specs.Extent.{starts, band_of, first_page, last_page}
use Rattle.pages.proofs.MarkLaws.{InPage, marks-between}

-- ---- numbers alone: a walk whose steps are at most a page long leaves out no page between its ends
record Met (f : ℕ → ℕ) (n k : ℕ) : Type 0 where
  at : ℕ
  within : at ≤ n
  page : page_of (f at) ≡ k

walk-pages : (f : ℕ → ℕ) (n k : ℕ) → ((i : ℕ) → i < n → f (suc i) ≤ f i + 4096) → page_of (f 0) ≤ k → k ≤ page_of (f n) → Met f n k
walk-pages f zero k step low high = record { at = 0; within = omega arith; page = omega arith }
walk-pages f (suc n) k step low high =
    by_cases (dec_le k (page_of (f n)))
    (λ g. let r = walk-pages f n k (λ i h. step i (omega arith)) low g in record { at = r.at; within = omega (arith, r.within); page = r.page })
    (λ g. record { at = suc n; within = omega arith; page = omega (arith, step n (omega arith)) })

-- ---- further right or further down is no lower address, also past the end of a row, where a row of tiles has a tile
tile-higher : (n c y c' y' : ℕ) → 0 < n → c ≤ c' → y ≤ y' → tile_at n c y ≤ tile_at n c' y'
tile-higher n c y c' y' some hc hy =
    let down : y / 32 ≤ y' / 32 = omega arith in
    by_cases (ℕ_discrete (y / 32) (y' / 32)) (λ e. omega (arith, ap (λ (q : ℕ). q * n) e))
    (λ e. omega (arith, mul-le-mul_right {m = suc (y / 32)} {n = y' / 32} n (omega arith), suc-mul (y / 32) n))

pub byte_at-higher : (s : Surface) {c c' y y' : ℕ} → 0 < s.stride → c ≤ c' → y ≤ y' → byte_at s c y ≤ byte_at s c' y'
byte_at-higher s {c} {c'} {y} {y'} some hc hy =
    by_layout s (λ e. omega (arith, byte_at-flat s c y e, byte_at-flat s c' y' e, mul-le-mul_right s.stride hy))
    (λ e. omega (arith, byte_at-tiled s c y e, byte_at-tiled s c' y' e, tile-higher s.stride c y c' y' some hc hy))

-- a surface with a pixel on it is one
pub stride-some : (s : Surface) (len x y : ℕ) → on_surface s len x y ≡ true → 0 < s.stride
stride-some s len x y on =
    let row = last-in-row s x (on-column s len x y on) in by_layout s (λ e. omega (arith, row_bytes-flat s e)) (λ e. omega (arith, row_bytes-tiled s e))

-- ---- how many rows a band has
module _ (s : Surface) (y h : ℕ) where
  pub band-tiled : s.tiled ≡ true → band_of s y h ≡ min h (32 - y % 32)
  unfolding band_of
  band-tiled e = rw e

  pub band-close : s.tiled ≡ false → s.stride ≤ 4096 → band_of s y h ≡ h
  unfolding band_of
  band-close e g = rw (e, le-leb s.stride 4096 g) (omega arith)

  pub band-far : s.tiled ≡ false → 4096 < s.stride → band_of s y h ≡ min h 1
  unfolding band_of
  band-far e g = rw (e, lt-leb s.stride 4096 g)

-- the rows of a band are one
pub band-again : (s : Surface) (y h : ℕ) → band_of s y (band_of s y h) ≡ band_of s y h
band-again s y h =
    by_layout s
    (λ e. by_cases (dec_le s.stride 4096) (λ g. band-close s y (band_of s y h) e g)
    (λ g. omega (arith, band-far s y h e (omega arith), band-far s y (band_of s y h) e (omega arith))))
    (λ e. omega (arith, band-tiled s y h e, band-tiled s y (band_of s y h) e))

-- ---- the steps of the walk
right-step : (s : Surface) (c y : ℕ) → byte_at s (suc c) y ≤ byte_at s c y + 4096
right-step s c y =
    by_layout s (λ e. omega (arith, byte_at-flat s c y e, byte_at-flat s (suc c) y e))
    (λ e. omega (arith, byte_at-tiled s c y e, byte_at-tiled s (suc c) y e))

down_step : (s : Surface) (y h c j : ℕ) → band_of s y h ≡ h → suc j < h → byte_at s c (y + suc j) ≤ byte_at s c (y + j) + 4096
down_step s y h c j band low =
    by_layout s
    (λ e. by_cases (dec_le s.stride 4096)
    (λ g. omega (arith, byte_at-flat s c (y + suc j) e, byte_at-flat s c (y + j) e, suc-mul (y + j) s.stride))
    (λ g. omega (arith, band-far s y h e (omega arith))))
    (λ e.
    let less = band-tiled s y h e in
    let same : (y + suc j) / 32 ≡ (y + j) / 32 = omega arith in
    omega (arith, byte_at-tiled s c (y + suc j) e, byte_at-tiled s c (y + j) e, ap (λ (q : ℕ). q * s.stride) same))

-- ---- the pixels of a list are those of a rectangle in one band
pub record Filled (s : Surface) (x y w h : ℕ) (ps : List Px) : Type 0 where
  pub some : 0 < s.bytes
  pub stride : 0 < s.stride
  pub wide : 0 < w
  pub high : 0 < h
  pub band : band_of s y h ≡ h
  pub all : (p : Px) → Inside x y w h p → In p ps
  pub only : (p : Px) → In p ps → Inside x y w h p

-- every byte of a rectangle's pixel is in a page from the first byte's to the last byte's
pub page-within : (s : Surface) (x y w h : ℕ) (p : Px) (a : ℕ) → 0 < s.bytes → 0 < s.stride → Inside x y w h p → IsByte s p a
    → (first_page s x y ≤ page_of a) × (page_of a ≤ last_page s x y w h)
page-within s x y w h p a some stride i b =
    let first = colour-first s p.x some in
    let count = colour-count s p.x some in
    let left = mul-le-mul_right {m = x} {n = p.x} s.bytes i.left in
    let right = mul-le-mul_right {m = suc p.x} {n = x + w} s.bytes (omega arith) in
    let low = byte_at-higher s {c = x * s.bytes} {c' = first_byte s p.x + b.k} {y = y} {y' = p.y} stride (omega arith) i.top in
    let high = byte_at-higher s {c = first_byte s p.x + b.k} {c' = (x + w) * s.bytes - 1} {y = p.y} {y' = y + (h - 1)} stride (omega (arith, suc-mul p.x s.bytes, b.low)) (omega arith) in
    omega (arith, b.at)

module _ {s : Surface} {x y w h : ℕ} {ps : List Px} (f : Filled s x y w h ps) where
  -- every byte of a rectangle's rows is one of a pixel
  byte-in : (c r : ℕ) → x * s.bytes ≤ c → c < (x + w) * s.bytes → y ≤ r → r < y + h → Memᴰ (byte_at s c r) (addresses s ps)
  byte-in c r left right top bottom =
      let low : x ≤ c / s.bytes = (le-div_iff_mul-le {k = s.bytes} {x = x} {y = c} f.some).1 left in
      let high : c / s.bytes < x + w = (div-lt_iff_lt-mul {k = s.bytes} {x = c} {y = x + w} f.some).1 right in
      let column : c ≡ first_byte s (c / s.bytes) + c % s.bytes = omega (arith, colour-first s (c / s.bytes) f.some, div-add-mod' c s.bytes) in
      addresses-in s ps (px (c / s.bytes) r) (byte_at s c r) (f.all _ (record { left = low; right = high; top = top; bottom = bottom }))
      (record { k = c % s.bytes; low = rw (colour-count s x f.some) (mod-lt c f.some); at = ap (λ (n : ℕ). byte_at s n r) column })

  -- a page up to the first row's last byte is met along that row, any other down the last column
  page-reached : (k : ℕ) → first_page s x y ≤ k → k ≤ last_page s x y w h → InPage (addresses s ps) k
  page-reached k low high =
      let start = x * s.bytes in
      let last = (x + w) * s.bytes - 1 in
      let some : start < (x + w) * s.bytes = omega (arith, add-mul x w s.bytes, mul-le-mul_right {m = 1} {n = w} s.bytes f.wide, f.some) in
      by_cases (dec_le k (page_of (byte_at s last y)))
      (λ g.
      let end : last ≡ start + (last - start) = omega arith in
      let r = walk-pages (λ i. byte_at s (start + i) y) (last - start) k (λ i h. rw (add-suc start i) (right-step s (start + i) y)) (rw add-zero low) (rw end at g) in
      record { a = byte_at s (start + r.at) y; one = byte-in (start + r.at) y (omega arith) (omega (arith, r.within)) (omega arith) (omega (arith, f.high)); page = r.page })
      (λ g.
      let r = walk-pages (λ j. byte_at s last (y + j)) (h - 1) k (λ j g. down_step s y h last j f.band (omega arith)) (rw add-zero (omega arith)) high in
      record { a = byte_at s last (y + r.at); one = byte-in last (y + r.at) (omega arith) (omega arith) (omega arith) (omega (arith, r.within, f.high)); page = r.page })

  -- so its pages are all of those
  pub band-marks : (marks : List Bool) → marking s ps marks ≡ marked_at (starts (first_page s x y) (last_page s x y w h + 1 - first_page s x y)) marks
  band-marks marks =
      marks-between (addresses s ps) (first_page s x y) (last_page s x y w h) marks
      (λ a i. let b = in-addresses s ps a i in page-within s x y w h b.0 a f.some f.stride (f.only b.0 b.1) b.2) page-reached
