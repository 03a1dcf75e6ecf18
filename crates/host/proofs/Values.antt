-- The value of a finished pixel, taken from the last word and this one, is what the whole of the data says.
-- Assumes nothing.
use mathlib.Core.Path.{◌≡◌, refl, sym, ap, ◌∙◌}
use Prim.Native.Nat.{ℕ, zero, suc, ◌+◌, ◌-◌, ◌*◌, ◌/◌, ◌%◌, ◌^◌, ◌<◌, ◌≤◌}
use native.Mathlib.Nat.{mod-one}
use native.Mathlib.Omega.{arith}
use native.Mathlib.Decide.{ℕ_discrete}
use borrow.Author.Tests.{eq-eqb, ne_eqb}
use lib.Pow.{shr-shr, field, mod-mod-pow, mod-pow-add}
use Rattle.surface.proofs.Lists.{by_cases}
use Rattle.host.specs.declared.Feed.{Feed}
use Rattle.host.specs.Host.{last_byte_of, two, value_of}
use Rattle.host.specs.Stream.{data_byte, data_number, value_at}
use Rattle.host.proofs.Places.{mono-column, colour-column}

-- ---- the bytes of this word, word k, and of the last one
module _ (ws : ℕ → ℕ) (k last : ℕ) (prior : 0 < k → last ≡ ws (k - 1)) (small : last < 2 ^ 32) where
  at_place : (o q r w : ℕ) → o / 4 ≡ q → o % 4 ≡ r → ws q ≡ w → data_byte ws o ≡ w / 2 ^ (8 * r) % 2 ^ 8
  unfolding data_byte
  at_place o q r w a b c = rw (a, b, c)

  of-last : (o r : ℕ) → o + 4 ≡ 4 * k + r → r < 4 → data_byte ws o ≡ last / 2 ^ (8 * r) % 2 ^ 8
  of-last o r e h = at_place o (k - 1) r last (omega arith) (omega arith) (sym (prior (omega arith)))

  of-this : (o r : ℕ) → o ≡ 4 * k + r → r < 4 → data_byte ws o ≡ ws k / 2 ^ (8 * r) % 2 ^ 8
  of-this o r e h = at_place o k r (ws k) (omega arith) (omega arith) refl

  byte-of-two : (o r : ℕ) → o + 4 ≡ 4 * k + r → r < 8 → data_byte ws o ≡ two last (ws k) / 2 ^ (8 * r) % 2 ^ 8
  byte-of-two o zero e h = of-last o 0 e (omega arith) ∙ omega arith
  byte-of-two o (suc zero) e h = of-last o 1 e (omega arith) ∙ omega arith
  byte-of-two o (suc (suc zero)) e h = of-last o 2 e (omega arith) ∙ omega arith
  byte-of-two o (suc (suc (suc zero))) e h = of-last o 3 e (omega arith) ∙ omega arith
  byte-of-two o (suc (suc (suc (suc zero)))) e h = of-this o 0 (omega arith) (omega arith) ∙ omega arith
  byte-of-two o (suc (suc (suc (suc (suc zero))))) e h = of-this o 1 (omega arith) (omega arith) ∙ omega arith
  byte-of-two o (suc (suc (suc (suc (suc (suc zero)))))) e h = of-this o 2 (omega arith) (omega arith) ∙ omega arith
  byte-of-two o (suc (suc (suc (suc (suc (suc (suc zero))))))) e h = of-this o 3 (omega arith) (omega arith) ∙ omega arith
  byte-of-two o (suc (suc (suc (suc (suc (suc (suc (suc r)))))))) e h = absurd (omega arith)

  number-of-two : (b o r : ℕ) → o + 4 ≡ 4 * k + r → r + b ≤ 8 → data_number ws o b ≡ two last (ws k) / 2 ^ (8 * r) % 2 ^ (8 * b)
  unfolding data_number
  number-of-two zero o r e h = sym (mod-one (two last (ws k) / 2 ^ (8 * r)))
  number-of-two (suc b) o r e h =
      let x = two last (ws k) / 2 ^ (8 * r) in
      let rest : data_number ws (o + 1) b ≡ x / 2 ^ 8 % 2 ^ (8 * b) =
      number-of-two b (o + 1) (r + 1) (omega arith) (omega arith)
      ∙ ap (λ (n : ℕ). n % 2 ^ (8 * b)) (ap (λ (n : ℕ). two last (ws k) / 2 ^ n) (omega arith) ∙ sym (shr-shr (two last (ws k)) (8 * r) 8)) in
      let whole : x % 2 ^ (8 * suc b) ≡ (x / 2 ^ 8 % 2 ^ (8 * b)) * 2 ^ 8 + x % 2 ^ 8 =
      ap (λ (n : ℕ). x % 2 ^ n) (omega arith) ∙ mod-pow-add x (8 * b) 8 in
      omega (arith, byte-of-two o r e (omega arith))

  pub bit-of-two : (o t r : ℕ) → o ≡ 4 * k + t → t < 4 → r < 8 → two last (ws k) / 2 ^ (8 * (4 + t) + r) % 2 ≡ data_byte ws o / 2 ^ r % 2
  bit-of-two o t r e h l =
      let x = two last (ws k) / 2 ^ (8 * (4 + t)) in
      let a : two last (ws k) / 2 ^ (8 * (4 + t) + r) ≡ x / 2 ^ r = sym (shr-shr (two last (ws k)) (8 * (4 + t)) r) in
      let p : 8 ≡ 8 - r + r = omega arith in
      let q : 8 - r ≡ 7 - r + 1 = omega arith in
      let high : x % 2 ^ 8 / 2 ^ r ≡ x / 2 ^ r % 2 ^ (8 - r) = ap (λ (n : ℕ). x % 2 ^ n / 2 ^ r) p ∙ field x (8 - r) r in
      let low : x / 2 ^ r % 2 ^ (8 - r) % 2 ≡ x / 2 ^ r % 2 = ap (λ (n : ℕ). x / 2 ^ r % 2 ^ n % 2) q ∙ mod-mod-pow (x / 2 ^ r) (7 - r) 1 in
      ap (λ (n : ℕ). n % 2) a ∙ sym low ∙ ap (λ (n : ℕ). n % 2) (sym high)
      ∙ ap (λ (n : ℕ). n / 2 ^ r % 2) (sym (byte-of-two o (4 + t) (omega arith) (omega arith)))

-- ---- where a pixel's bytes are
module _ (f : Feed) (i j : ℕ) where
  mono-place : f.bytes ≡ 0 → j * f.step + i / 8 ≡ last_byte_of f i j
  unfolding last_byte_of
  mono-place e = omega (arith, mono-column f i e)

  -- its bytes end with the last
  colour-place : (f.bytes ≡ 0 → ⊥) → j * f.step + i * f.bytes + f.bytes ≡ last_byte_of f i j + 1
  unfolding last_byte_of
  colour-place e = omega (arith, colour-column f i e)

-- ---- pixel (i, j), whose last byte lies in word k; before it came the word `last`
module _ (ws : ℕ → ℕ) (f : Feed) (i j k last : ℕ) (here : last_byte_of f i j / 4 ≡ k) (prior : 0 < k → last ≡ ws (k - 1)) (small : last < 2 ^ 32) where
  mono_right : f.bytes ≡ 0 → value_of f last (ws k) (last_byte_of f i j % 4) i ≡ value_at ws f i j
  unfolding value_of value_at
  mono_right e =
      let p = mono-place f i j e in
      rw (eq-eqb _ _ e) (bit-of-two ws k last prior small (j * f.step + i / 8) (last_byte_of f i j % 4) (7 - i % 8) (omega arith) (omega arith) (omega arith))

  colour-right : (f.bytes ≡ 0 → ⊥) → f.bytes < 5 → value_of f last (ws k) (last_byte_of f i j % 4) i ≡ value_at ws f i j
  unfolding value_of value_at
  colour-right e four =
      let p = colour-place f i j e in
      let t = last_byte_of f i j % 4 in
      rw (ne_eqb _ _ e) (sym (number-of-two ws k last prior small f.bytes (j * f.step + i * f.bytes) (5 + t - f.bytes) (omega arith) (omega arith)))

  pub value-right : f.bytes < 5 → value_of f last (ws k) (last_byte_of f i j % 4) i ≡ value_at ws f i j
  value-right four = by_cases (ℕ_discrete f.bytes 0) mono_right (λ e. colour-right e four)
