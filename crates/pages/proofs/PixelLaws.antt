-- The pages of one pixel, byte by byte.
-- Assumes nothing.
use mathlib.Core.Path.{◌≡◌}
use mathlib.Core.Bool.{Bool, true}
use mathlib.Core.List.{List, [], ◌∷◌, append-nil}
use Prim.Native.Nat.{ℕ, suc, ◌+◌, ◌-◌, ◌*◌, ◌/◌, ◌<◌, ◌≤◌}
use native.Mathlib.Nat.{add-zero, sub-zero}
use native.Mathlib.Omega.{arith}
use lib.ListN.{set}
use Rattle.surface.specs.declared.Surface.{Surface}
use Rattle.surface.specs.Place.{byte_of, first_byte, byte_count}
use Rattle.surface.specs.Pixels.{px}
use Rattle.surface.proofs.OnLaws.{colour-first, colour-count, colour-byte}
use Rattle.spans.specs.Span.{addresses_of, addresses}
use Rattle.pages.specs.Pages.{marked_at, marking}
use Rattle.pages.specs.Asked.{MarkablePixel}

module _ (s : Surface) (x y : ℕ) (marks : List Bool) where
  pub pixel-start : 0 < s.bytes → marked_at (addresses_of s (x * s.bytes + 0) (s.bytes - 0) y) marks ≡ marking s (px x y ∷ []) marks
  unfolding addresses
  pixel-start some =
      rw (add-zero (x * s.bytes), sub-zero s.bytes, append-nil (addresses_of s (first_byte s x) (byte_count s) y), colour-first s x some, colour-count s x some)

  pub pixel-turn : {at : ℕ} (k n : ℕ) → k < n → at ≡ byte_of s x y k
      → marked_at (addresses_of s (x * s.bytes + (k + 1)) (n - (k + 1)) y) (set marks (at / 4096) true) ≡ marked_at (addresses_of s (x * s.bytes + k) (n - k) y) marks
  unfolding marked_at addresses_of byte_of
  pixel-turn {at} k n h e =
      let q : n - k ≡ suc (n - (k + 1)) = omega arith in
      let c : x * s.bytes + (k + 1) ≡ suc (x * s.bytes + k) = omega arith in
      rw (q, c, e)

  pub pixel-none : (k n : ℕ) → n ≤ k → marked_at (addresses_of s (x * s.bytes + k) (n - k) y) marks ≡ marks
  unfolding marked_at addresses_of
  pixel-none k n h = let q : n - k ≡ 0 = omega arith in rw q

pub pixel-page : {s : Surface} {x y at : ℕ} (m : MarkablePixel s x y) (k : ℕ) → k < s.bytes → at ≡ byte_of s x y k → at / 4096 < 4096
pixel-page m k h e = omega (arith, (colour-byte m.on k h).inside, m.limit)
