-- No pixel comes twice among those that a word finishes: those of one byte stand side by side in a row, and those of a later byte end in a later byte.
-- Assumes nothing.
use mathlib.Core.Path.{◌≡◌, refl, ap, subst⁻¹}
use mathlib.Core.Bool.{Bool, true, false, cond}
use mathlib.Core.Logic.{⊎_elim}
use mathlib.Core.List.Memᴰ
use mathlib.Core.List.{List, [], ◌∷◌, map, append-nil, map-append}
use Prim.Native.Nat.{ℕ, zero, suc, ◌+◌, ◌-◌, ◌*◌, ◌/◌, ◌%◌, ◌≤◌}
use native.Mathlib.Nat.{div-add-mod'}
use native.Mathlib.Omega.{arith}
use lib.Dec.{ltb}
use Rattle.surface.specs.Pixels.{Px, px, across, rect}
use Rattle.surface.proofs.Lists.{In, pairs-append}
use Rattle.surface.proofs.Rects.{Distinct, in-across, rect-distinct}
use Rattle.host.specs.declared.Feed.{Feed}
use Rattle.host.specs.Host.{last_byte_of, Pixel, whole, run, by_byte, by_bytes, by_word}
use Rattle.host.proofs.Places.{column-of}

-- a pixel's column and row in the rectangle
abbrev pub spot : Pixel → Px
spot p = px p.i p.j

across-distinct : (x n y : ℕ) → Distinct (across false x n y)
unfolding rect
across-distinct x n y = rw append-nil at (rect-distinct false false x y n 1)

module _ (f : Feed) (last word : ℕ) where
  -- the last byte of the pixel in this column and row
  abbrev ends : Px → ℕ
  ends p = last_byte_of f p.x p.y

  run-across : (o i n : ℕ) → map spot (run f last word o i n) ≡ across false i n (o / f.step)
  unfolding run across
  run-across o i zero = refl
  run-across o i (suc n) = ap (λ (ps : List Px). px i (o / f.step) ∷ ps) (run-across o (i + 1) n)

  -- ---- a byte: a part of a row, or nothing
  byte-across : (P : List Px → Type 0) (o : ℕ) → P []
      → P (across false (whole f (o % f.step)) (whole f (o % f.step + 1) - whole f (o % f.step)) (o / f.step)) → P (map spot (by_byte f last word o))
  unfolding by_byte
  byte-across P o none part = by-test (ltb (o / f.step) f.height)
    where
      by-test : (t : Bool) → P (map spot (cond t (run f last word o (whole f (o % f.step)) (whole f (o % f.step + 1) - whole f (o % f.step))) []))
      by-test true = subst⁻¹ P (run-across o _ _) part
      by-test false = none

  byte-distinct : (o : ℕ) → Distinct (map spot (by_byte f last word o))
  byte-distinct o = byte-across Distinct o tt (across-distinct _ _ _)

  byte-ends : (o : ℕ) (p : Px) → In p (map spot (by_byte f last word o)) → ends p ≡ o
  unfolding last_byte_of
  byte-ends o p =
      byte-across (λ ps. In p ps → ends p ≡ o) o (λ m. absurd (Memᴰ.not-nil m))
      (λ m.
      let r = in-across false _ _ _ p m in
      let c = column-of f (o % f.step) p.x r.0 (omega arith) in
      let y : p.y ≡ o / f.step = r.2 in
      rw y (omega (arith, div-add-mod' o f.step)))

  -- ---- some bytes, and so a word
  bytes-end : (o n : ℕ) (p : Px) → In p (map spot (by_bytes f last word o n)) → o ≤ ends p
  unfolding by_bytes
  bytes-end o zero p m = absurd (Memᴰ.not-nil m)
  bytes-end o (suc n) p m =
      ⊎_elim (λ i. omega (arith, byte-ends o p i)) (λ i. omega (arith, bytes-end (o + 1) n p i))
      (Memᴰ.append_cases (map spot (by_byte f last word o)) (rw map-append at m))

  bytes-distinct : (o n : ℕ) → Distinct (map spot (by_bytes f last word o n))
  unfolding by_bytes
  bytes-distinct o zero = tt
  bytes-distinct o (suc n) =
      rw map-append
      (pairs-append (map spot (by_byte f last word o)) (map spot (by_bytes f last word (o + 1) n)) (byte-distinct o) (bytes-distinct (o + 1) n)
      (λ p q i j e. omega (arith, byte-ends o p i, bytes-end (o + 1) n q j, ap ends e)))

  pub word-distinct : (k : ℕ) → Distinct (map spot (by_word f last word k))
  unfolding by_word
  word-distinct k = bytes-distinct (4 * k) 4
