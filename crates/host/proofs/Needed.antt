-- The words that a blit needs: the last pixel is finished by the last of them, and no pixel by a later one.
-- Assumes nothing.
use mathlib.Core.Path.{◌≡◌, refl, ap, ◌∙◌}
use mathlib.Core.List.Memᴰ
use mathlib.Core.List.{List, [], ◌∷◌}
use Prim.Native.Nat.{ℕ, ◌+◌, ◌-◌, ◌*◌, ◌/◌, ◌%◌, ◌^◌, ◌<◌, ◌≤◌}
use native.Mathlib.Nat.{mul-le-mul_right, zero-mul}
use native.Mathlib.Omega.{arith}
use borrow.Author.Tests.{eq-eqb, ne_eqb}
use Rattle.formats.specs.Step.{row_length, data_bytes, data_words}
use Rattle.surface.proofs.Bytes.{product_lt}
use Rattle.formats.proofs.FormatLaws.{row_small}
use Rattle.surface.proofs.OnLaws.{pos-of-ne}
use Rattle.host.specs.declared.Feed.{Feed}
use Rattle.host.specs.Host.{bits_of, last_column, last_byte_of, words_of, Pixel, pixel, value_of, by_word}
use Rattle.host.specs.Asked.{Sizes, Rows}
use Rattle.host.proofs.Places.{row-bits, column-held}
use Rattle.host.proofs.Finished.{Has, finished-by}

pub some-needed : (bytes step width height : ℕ) → (width ≡ 0 → ⊥) → (height ≡ 0 → ⊥)
    → data_bytes bytes step width height ≡ (height - 1) * step + row_length bytes width
unfolding data_bytes
some-needed bytes step width height a b = rw (ne_eqb _ _ a, ne_eqb _ _ b)

pub narrow : (bytes step width height : ℕ) → width ≡ 0 → 0 ≡ data_words bytes step width height
unfolding data_bytes data_words
narrow bytes step width height e = rw (eq-eqb _ _ e)

pub flat : (bytes step width height : ℕ) → (width ≡ 0 → ⊥) → height ≡ 0 → 0 ≡ data_words bytes step width height
unfolding data_bytes data_words
flat bytes step width height a e = rw (ne_eqb _ _ a, eq-eqb _ _ e)

pub data-small : (f : Feed) → Sizes f → (f.height - 1) * f.step + row_length f.bytes f.width ≤ 2 ^ 30 + 2 ^ 16
data-small f s =
    omega (arith, product_lt 13 17 {a = f.height - 1} {b = f.step} (omega arith) s.step, row_small f.bytes f.width s.bytes s.width)

-- the last pixel is finished by the last word that is needed, and none by a later one
pub record Needed (f : Feed) : Type 0 where
  pub last : (before word : ℕ)
      → Has (pixel (f.width - 1) (f.height - 1) (value_of f before word (last_byte_of f (f.width - 1) (f.height - 1) % 4) (f.width - 1))) (by_word f before word (words_of f - 1))
  pub none-later : (before word k : ℕ) → words_of f ≤ k → by_word f before word k ≡ []

empty : (ps : List Pixel) → ((p : Pixel) → Has p ps → ⊥) → ps ≡ []
empty [] h = refl
empty (p ∷ ps) h = absurd (h p (Memᴰ.head refl))

-- ---- every pixel's last byte is needed, and the last pixel's is the last of them
module _ (f : Feed) (ok : Rows f) where
  pub some-pixel : 0 < f.width
  some-pixel = pos-of-ne none
    where
      none : f.width ≡ 0 → ⊥
      none e = let z : f.width * bits_of f ≡ 0 = ap (λ (n : ℕ). n * bits_of f) e ∙ zero-mul (bits_of f) in omega (arith, row-bits f, ok.some)

  abbrev bytes_needed : ℕ
  bytes_needed = data_bytes f.bytes f.step f.width f.height

  before-end : (i j : ℕ) → i < f.width → j < f.height → last_byte_of f i j < bytes_needed
  unfolding last_byte_of
  before-end i j hi hj =
      let e = some-needed f.bytes f.step f.width f.height (λ z. omega arith) (λ z. omega arith) in
      let r : j * f.step ≤ (f.height - 1) * f.step = mul-le-mul_right f.step (omega arith) in
      omega (arith, column-held f i hi)

  at-end : 0 < f.height → last_byte_of f (f.width - 1) (f.height - 1) + 1 ≡ bytes_needed
  unfolding last_byte_of last_column
  at-end hj =
      let w = some-pixel in
      let e = some-needed f.bytes f.step f.width f.height (λ z. omega arith) (λ z. omega arith) in
      let a : (f.width - 1 + 1) * bits_of f ≡ f.width * bits_of f = ap (λ (n : ℕ). n * bits_of f) (omega arith) in
      omega (arith, row-bits f, ok.some)

  -- words are numbered from 0
  pub in-time : (i j : ℕ) → i < f.width → j < f.height → last_byte_of f i j / 4 < words_of f
  unfolding data_words
  in-time i j hi hj = omega (arith, before-end i j hi hj)

  no_more : 0 < f.height → last_byte_of f (f.width - 1) (f.height - 1) / 4 ≡ words_of f - 1
  unfolding data_words
  no_more hj = omega (arith, at-end hj)

  pub words-needed : 0 < f.height → Needed f
  words-needed hj = record {
    last = λ before word.
        (finished-by f before word ok (words_of f - 1) _).1
        (record { ends = record { column = omega (arith, some-pixel); row = omega arith; value = refl }; here = no_more hj });
    none-later = λ before word k l.
        empty (by_word f before word k)
        (λ p m.
        let r = (finished-by f before word ok k p).0 m in
        omega (arith, in-time p.i p.j r.ends.column r.ends.row, r.here));
  }
