-- Laws of places in the data: the bits of a pixel, which pixels of a row are whole, and the row and the column of a pixel's last byte.
-- Assumes nothing.
use mathlib.Core.Path.{◌≡◌, refl, ap, ◌∙◌}
use mathlib.Core.Bool.{Bool, true, false, cond}
use Prim.Native.Nat.{ℕ, zero, suc, ◌+◌, ◌*◌, ◌/◌, ◌%◌, ◌^◌, ◌<◌, ◌≤◌}
use native.Mathlib.Nat.{add-zero, mul-one, mul_left_comm, div-lt_iff_lt-mul, le-div_iff_mul-le, div-add-mod', add-mul, mul-le-mul_right, mod-lt, zero-div}
use native.Mathlib.Omega.{arith}
use borrow.Author.Tests.{eq-eqb, ne_eqb, eqb-false}
use lib.Arith.{digits_div, digits_mod}
use lib.Dec.{eqb}
use Rattle.formats.specs.Step.{row_length}
use Rattle.surface.proofs.OnLaws.{pos-of-ne}
use Rattle.host.specs.declared.Feed.{Feed}
use Rattle.host.specs.Host.{bits_of, last_column, last_byte_of, whole}
use Rattle.host.specs.Asked.{Rows}

-- ---- bits
pub mono-bits : (f : Feed) → f.bytes ≡ 0 → bits_of f ≡ 1
unfolding bits_of
mono-bits f e = rw (eq-eqb _ _ e)

pub colour-bits : (f : Feed) → (f.bytes ≡ 0 → ⊥) → bits_of f ≡ 8 * f.bytes
unfolding bits_of
colour-bits f e = rw (ne_eqb _ _ e)

pub bits-some : (f : Feed) → 0 < bits_of f
unfolding bits_of
bits-some f = by-test (eqb f.bytes 0) refl
  where
    by-test : (t : Bool) → eqb f.bytes 0 ≡ t → 0 < cond t 1 (8 * f.bytes)
    by-test true e = omega arith
    by-test false e = omega (arith, pos-of-ne (eqb-false f.bytes 0 e))

pub row-bits : (f : Feed) → row_length f.bytes f.width ≡ (f.width * bits_of f + 7) / 8
unfolding row_length bits_of
row-bits f = refl

module _ (f : Feed) where
  -- ---- what is whole
  pub whole-width : (c : ℕ) → whole f c ≤ f.width
  unfolding whole
  whole-width c = omega arith

  pub whole-none : whole f 0 ≡ 0
  unfolding whole
  whole-none = rw (zero-div (bits_of f)) (omega arith)

  pub whole-all : (c : ℕ) → row_length f.bytes f.width ≤ c → whole f c ≡ f.width
  unfolding whole
  whole-all c l =
      let q : f.width ≤ 8 * c / bits_of f =
      (le-div_iff_mul-le {k = bits_of f} {x = f.width} {y = 8 * c} (bits-some f)).1 (omega (arith, row-bits f)) in
      omega arith

  pub whole-more : (c : ℕ) → whole f c ≤ whole f (c + 1)
  unfolding whole
  whole-more c =
      let q : 8 * c / bits_of f * bits_of f ≤ 8 * c = omega (arith, div-add-mod' (8 * c) (bits_of f)) in
      let r : 8 * c / bits_of f ≤ 8 * (c + 1) / bits_of f =
      (le-div_iff_mul-le {k = bits_of f} {x = 8 * c / bits_of f} {y = 8 * (c + 1)} (bits-some f)).1 (omega arith) in
      omega arith

  pub whole-rises : (c m : ℕ) → whole f c ≤ whole f (c + m)
  whole-rises c zero = rw (add-zero c) (omega arith)
  whole-rises c (suc m) = let q : c + suc m ≡ c + m + 1 = omega arith in rw q (omega (arith, whole-rises c m, whole-more (c + m)))

  -- among the pixels of a row, those from whole c up to whole (c + m) have their last bytes in the m columns from c on
  pub column-in : (c m i : ℕ) → whole f c ≤ i → i < whole f (c + m) → (c ≤ last_column f i) × (last_column f i < c + m)
  unfolding whole last_column
  column-in c m i l u =
      let a : 8 * c < (i + 1) * bits_of f = (div-lt_iff_lt-mul {k = bits_of f} {x = 8 * c} {y = i + 1} (bits-some f)).0 (omega arith) in
      let b : (i + 1) * bits_of f ≤ 8 * (c + m) = (le-div_iff_mul-le {k = bits_of f} {x = i + 1} {y = 8 * (c + m)} (bits-some f)).0 (omega arith) in
      (omega arith, omega arith)

  pub column-of : (c i : ℕ) → whole f c ≤ i → i < whole f (c + 1) → last_column f i ≡ c
  column-of c i l u = omega (arith, column-in c 1 i l u)

  pub mono-column : (i : ℕ) → f.bytes ≡ 0 → last_column f i ≡ i / 8
  unfolding last_column
  mono-column i e = let a : (i + 1) * bits_of f ≡ i + 1 = ap (λ (n : ℕ). (i + 1) * n) (mono-bits f e) ∙ mul-one (i + 1) in omega arith

  pub colour-column : (i : ℕ) → (f.bytes ≡ 0 → ⊥) → last_column f i + 1 ≡ i * f.bytes + f.bytes
  unfolding last_column
  colour-column i e =
      let a : (i + 1) * bits_of f ≡ 8 * ((i + 1) * f.bytes) = ap (λ (n : ℕ). (i + 1) * n) (colour-bits f e) ∙ mul_left_comm (i + 1) 8 f.bytes in
      omega (arith, add-mul i 1 f.bytes, pos-of-ne e)

  pub of-column : (c i : ℕ) → i < f.width → last_column f i ≡ c → (whole f c ≤ i) × (i < whole f (c + 1))
  unfolding whole last_column
  of-column c i h e =
      let d = add-mul i 1 (bits_of f) in
      let p = bits-some f in
      let a : 8 * c / bits_of f < i + 1 = (div-lt_iff_lt-mul {k = bits_of f} {x = 8 * c} {y = i + 1} p).1 (omega arith) in
      let b : i + 1 ≤ 8 * (c + 1) / bits_of f = (le-div_iff_mul-le {k = bits_of f} {x = i + 1} {y = 8 * (c + 1)} p).1 (omega arith) in
      (omega arith, omega arith)

  -- ---- the last byte of a pixel, in its row and in the data
  pub column-held : (i : ℕ) → i < f.width → last_column f i < row_length f.bytes f.width
  unfolding last_column
  column-held i h =
      let a : (i + 1) * bits_of f ≤ f.width * bits_of f = mul-le-mul_right (bits_of f) (omega arith) in
      omega (arith, row-bits f, bits-some f, add-mul i 1 (bits_of f))

  module _ (ok : Rows f) where
    pub step-some : 0 < f.step
    step-some = omega (arith, ok.held, ok.some)

    pub column-small : (o : ℕ) → o % f.step < 2 ^ 17
    column-small o = omega (arith, mod-lt o step-some, ok.sizes.step)

    pub row_of : (i j : ℕ) → i < f.width → last_byte_of f i j / f.step ≡ j
    unfolding last_byte_of
    row_of i j h = digits_div j (omega (arith, column-held i h, ok.held))

    pub rest_of : (i j : ℕ) → i < f.width → last_byte_of f i j % f.step ≡ last_column f i
    unfolding last_byte_of
    rest_of i j h = digits_mod j (omega (arith, column-held i h, ok.held))
