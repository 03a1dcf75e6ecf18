-- Masks byte by byte: what bytes that are changed one after the other become, and what each byte of a pixel that is changed becomes.
-- Assumes nothing.
use mathlib.Core.Path.{◌≡◌, refl, ap, subst, ◌∙◌}
use mathlib.Core.List.{List}
use Prim.Native.Nat.{ℕ, zero, suc, ◌+◌, ◌*◌, ◌/◌, ◌%◌, ◌<◌, ◌≤◌}
use native.Mathlib.Nat.{add-zero}
use native.Mathlib.Omega.{arith}
use native.Mathlib.Decide.{ℕ_discrete}
use lib.ListN.{length, get_or, set, length-set}
use lib.Seq.{get_or-set_same, get_or-set_other, lt-length-set}
use Rattle.surface.specs.Place.{read_bytes, write_bytes}
use Rattle.surface.proofs.Bytes.{written-other}
use Rattle.surface.proofs.Lists.{by_cases}
use Rattle.paint.proofs.Frame.{Bytes}
use Rattle.tint.specs.Masking.{masked, blended}
use Rattle.tint.proofs.ByteLaws.{masked_low, masked-high}

-- ---- bytes one after the other
module _ (keep flip : List ℕ) where
  pub blended-length : (from at n : ℕ) (m : List ℕ) → length (blended keep flip from at n m) ≡ length m
  unfolding blended
  blended-length from at zero m = refl
  blended-length from at (suc n) m =
      let v = masked (get_or m at 0) (get_or keep from 0) (get_or flip from 0) in
      blended-length (from + 1) (at + 1) n (set m at v) ∙ length-set m at v

  pub blended-other : (from at n : ℕ) (m : List ℕ) (a : ℕ) → ((i : ℕ) → i < n → a ≡ at + i → ⊥) → get_or (blended keep flip from at n m) a 0 ≡ get_or m a 0
  unfolding blended
  blended-other from at zero m a out = refl
  blended-other from at (suc n) m a out =
      let v = masked (get_or m at 0) (get_or keep from 0) (get_or flip from 0) in
      blended-other (from + 1) (at + 1) n (set m at v) a (λ i l e. out (suc i) (omega arith) (omega arith))
      ∙ get_or-set_other m at a v 0 (λ e. out 0 (omega arith) (omega arith))

  pub blended-byte : (from at n : ℕ) (m : List ℕ) (i : ℕ) → i < n → at + i < length m
      → get_or (blended keep flip from at n m) (at + i) 0 ≡ masked (get_or m (at + i) 0) (get_or keep (from + i) 0) (get_or flip (from + i) 0)
  unfolding blended
  blended-byte from at zero m i l r = absurd (omega arith)
  blended-byte from at (suc n) m zero l r =
      let v = masked (get_or m at 0) (get_or keep from 0) (get_or flip from 0) in
      rw (add-zero at, add-zero from)
      (blended-other (from + 1) (at + 1) n (set m at v) at (λ i u e. omega arith) ∙ get_or-set_same m at v 0 (omega arith))
  blended-byte from at (suc n) m (suc i) l r =
      let v = masked (get_or m at 0) (get_or keep from 0) (get_or flip from 0) in
      let e : at + suc i ≡ at + 1 + i = omega arith in
      let f : from + suc i ≡ from + 1 + i = omega arith in
      rw (e, f)
      (blended-byte (from + 1) (at + 1) n (set m at v) i (omega arith) (lt-length-set m at v (omega arith))
      ∙ ap (λ (d : ℕ). masked d (get_or keep (from + 1 + i) 0) (get_or flip (from + 1 + i) 0)) (get_or-set_other m at (at + 1 + i) v 0 (λ q. omega arith)))

-- ---- a pixel, wherever its bytes are
module _ (at of : ℕ → ℕ) (m keep flip : List ℕ) (bm : Bytes m) (bk : Bytes keep) (bf : Bytes flip) where
  pub masked-byte : (k n : ℕ) (m' : List ℕ) (j : ℕ) → k ≤ j → j < k + n → ((a b : ℕ) → a < k + n → b < k + n → at a ≡ at b → a ≡ b)
      → ((b : ℕ) → b < k + n → at b < length m')
      → get_or (write_bytes at k n (masked (read_bytes m at k n) (read_bytes keep of k n) (read_bytes flip of k n)) m') (at j) 0
      ≡ masked (get_or m (at j) 0) (get_or keep (of j) 0) (get_or flip (of j) 0)
  unfolding read_bytes write_bytes
  masked-byte k zero m' j l u differ inside = absurd (omega arith)
  masked-byte k (suc n) m' j l u differ inside =
      let d₀ = get_or m (at k) 0 in
      let k₀ = get_or keep (of k) 0 in
      let f₀ = get_or flip (of k) 0 in
      let d₁ = read_bytes m at (suc k) n in
      let k₁ = read_bytes keep of (suc k) n in
      let f₁ = read_bytes flip of (suc k) n in
      let v = masked (d₀ + 256 * d₁) (k₀ + 256 * k₁) (f₀ + 256 * f₁) in
      let dl : (d₀ + 256 * d₁) % 256 ≡ d₀ = omega (arith, bm (at k)) in
      let kl : (k₀ + 256 * k₁) % 256 ≡ k₀ = omega (arith, bk (of k)) in
      let fl : (f₀ + 256 * f₁) % 256 ≡ f₀ = omega (arith, bf (of k)) in
      let dh : (d₀ + 256 * d₁) / 256 ≡ d₁ = omega (arith, bm (at k)) in
      let kh : (k₀ + 256 * k₁) / 256 ≡ k₁ = omega (arith, bk (of k)) in
      let fh : (f₀ + 256 * f₁) / 256 ≡ f₁ = omega (arith, bf (of k)) in
      let low : v % 256 ≡ masked d₀ k₀ f₀ = masked_low (d₀ + 256 * d₁) (k₀ + 256 * k₁) (f₀ + 256 * f₁) ∙ rw (dl, kl, fl) refl in
      let high : v / 256 ≡ masked d₁ k₁ f₁ = masked-high (d₀ + 256 * d₁) (k₀ + 256 * k₁) (f₀ + 256 * f₁) ∙ rw (dh, kh, fh) refl in
      let m₁ = set m' (at k) (v % 256) in
      by_cases (ℕ_discrete k j)
      (λ e. subst (λ (i : ℕ). get_or (write_bytes at (suc k) n (v / 256) m₁) (at i) 0 ≡ masked (get_or m (at i) 0) (get_or keep (of i) 0) (get_or flip (of i) 0)) e
      (written-other at (suc k) n (v / 256) m₁ (at k) (λ i f g w. let q : k ≡ i = differ k i (omega arith) (omega arith) w in omega arith)
      ∙ get_or-set_same m' (at k) (v % 256) 0 (inside k (omega arith)) ∙ low))
      (λ e. ap (λ (r : ℕ). get_or (write_bytes at (suc k) n r m₁) (at j) 0) high
      ∙ masked-byte (suc k) n m₁ j (omega arith) (omega arith) (λ a b f g. differ a b (omega arith) (omega arith))
      (λ i f. lt-length-set m' (at k) (v % 256) (inside i (omega arith))))
