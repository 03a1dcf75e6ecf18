-- Pixels that are not alike, counted: part by part, as the loops go, and as the pixels of a row that are not the same in two memories.
-- Assumes nothing.
use mathlib.Core.Path.{◌≡◌, refl, sym, ap₂, subst, ◌∙◌}
use mathlib.Core.Bool.{false, not}
use mathlib.Core.List.{List}
use Prim.Native.Nat.{ℕ, zero, suc, ◌+◌, ◌-◌, ◌*◌, ◌/◌, ◌<◌, ◌≤◌}
use native.Mathlib.Nat.{add-mul, mul-one, mod-lt, div-add-mod', div-lt_iff_lt-mul}
use native.Mathlib.Omega.{arith}
use lib.Dec.{eqb}
use lib.ListN.{get_or}
use Rattle.surface.specs.declared.Surface.{Surface}
use Rattle.surface.specs.Place.{byte_of, read_bytes, read_px, one}
use Rattle.surface.specs.Pixels.{across}
use Rattle.surface.proofs.Bytes.{read_as}
use Rattle.surface.proofs.OnLaws.{one-most}
use Rattle.paint.specs.Paint.{changing, summed}
use Rattle.runs.specs.Runs.{unlike_at, unlikes}
use Rattle.runs.specs.Asked.{PixelsOn, Run}

-- ---- pixels from an address on
module _ {at b w len : ℕ} (on : PixelsOn at b w len) where
  -- a part of them
  pub pixels-part : (i k : ℕ) → i + k ≤ w → PixelsOn (at + i * b) b k len
  pixels-part i k h = record {
    some = on.some;
    few = on.few;
    wide = omega (arith, on.wide);
    held = λ j l. let p : at + i * b + j * b ≡ at + (i + j) * b = omega (arith, add-mul i j b) in rw p (on.held (i + j) (omega arith));
  }

  pub bytes-part : (i k : ℕ) → b ≡ 1 → i + k ≤ w → PixelsOn (at + i) b k len
  bytes-part i k by h = let p : i * b ≡ i = rw by (mul-one i) in subst (λ (n : ℕ). PixelsOn (at + n) b k len) p (pixels-part i k h)

  -- each byte is in memory
  pixels-byte : (i : ℕ) → i < w * b → at + i < len
  pixels-byte i l =
      let q = (on.held (i / b) ((div-lt_iff_lt-mul on.some).1 l)).inside in
      omega (arith, q, div-add-mod' i b, mod-lt i on.some)

  -- and so they end within it
  pub pixels-end : 0 < w * b → at + w * b ≤ len
  pixels-end more = omega (arith, pixels-byte (w * b - 1) (omega arith))

-- two of them, byte by byte
pub pixels-run : {d s b w len : ℕ} → PixelsOn d b w len → PixelsOn s b w len → Run d s (w * b) len
pixels-run to from = record { to = pixels-byte to; from = pixels-byte from }

-- ---- part by part
module _ (m m' : List ℕ) (b : ℕ) where
  split : (d s k w : ℕ) → unlikes m m' b d s (k + w) ≡ unlikes m m' b d s k + unlikes m m' b (d + k * b) (s + k * b) w
  unfolding unlikes
  split d s zero w = let p : d + 0 * b ≡ d = omega arith in let q : s + 0 * b ≡ s = omega arith in let z : 0 + w ≡ w = omega arith in rw (p, q, z) (omega arith)
  split d s (suc k) w =
      let e = add-mul k 1 b in
      let p : d + suc k * b ≡ d + b + k * b = omega arith in
      let q : s + suc k * b ≡ s + b + k * b = omega arith in
      let z : suc k + w ≡ suc (k + w) = omega arith in
      rw (p, q, z) (omega (arith, split (d + b) (s + b) k w))

  pub unlikes-most : (d s w : ℕ) → unlikes m m' b d s w ≤ w
  unfolding unlikes
  unlikes-most d s zero = omega arith
  unlikes-most d s (suc w) = omega (arith, one-most (unlike_at m m' b d s), unlikes-most (d + b) (s + b) w)

-- ---- a loop that counts: r of the first i pixels are not alike
pub record Counted (m m' : List ℕ) (b d s w i r : ℕ) : Type 0 where
  pub sum : r + unlikes m m' b (d + i * b) (s + i * b) (w - i) ≡ unlikes m m' b d s w
  pub few : r ≤ i
  pub within : i ≤ w

module _ {m m' : List ℕ} {b d s w : ℕ} where
  module _ {i r : ℕ} (now : Counted m m' b d s w i r) where
    pub counted-part : {c : ℕ} (k : ℕ) → i + k ≤ w → c ≡ unlikes m m' b (d + i * b) (s + i * b) k → Counted m m' b d s w (i + k) (r + c)
    counted-part {c} k fits e =
        let f = add-mul i k b in
        let p : d + (i + k) * b ≡ d + i * b + k * b = omega arith in
        let q : s + (i + k) * b ≡ s + i * b + k * b = omega arith in
        let z : w - i ≡ k + (w - (i + k)) = omega arith in
        let h = split m m' b (d + i * b) (s + i * b) k (w - (i + k)) in
        let before = rw z at now.sum in
        let most = unlikes-most m m' b (d + i * b) (s + i * b) k in
        record { sum = rw (p, q) (omega (arith, h, before, e)); few = omega (arith, now.few, most); within = fits }

    pub counted-turn : {c : ℕ} → i < w → c ≡ one (unlike_at m m' b (d + i * b) (s + i * b)) → Counted m m' b d s w (i + 1) (r + c)
    unfolding unlikes
    counted-turn more e = counted-part 1 (omega arith) (e ∙ omega arith)

    -- bytes
    pub counted-bytes : {c : ℕ} (k : ℕ) → b ≡ 1 → i + k ≤ w → c ≡ unlikes m m' b (d + i) (s + i) k → Counted m m' b d s w (i + k) (r + c)
    counted-bytes {c} k by fits e =
        let p : i * b ≡ i = rw by (mul-one i) in
        counted-part k fits (subst (λ (n : ℕ). c ≡ unlikes m m' b (d + n) (s + n) k) (sym p) e)

    pub counted-all : w ≤ i → r ≡ unlikes m m' b d s w
    unfolding unlikes
    counted-all all = let z : w - i ≡ 0 = omega arith in let h = rw z at now.sum in omega (arith, h)

-- ---- bytes that are those of a row's pixels in two memories: the pixels that are not the same there
module _ (s : Surface) (y : ℕ) (m m' a a' : List ℕ) where
  pub row-unlike : (x d e w : ℕ) → ((c k : ℕ) → c < w → k < s.bytes → get_or a (d + (c * s.bytes + k)) 0 ≡ get_or m (byte_of s (x + c) y k) 0)
      → ((c k : ℕ) → c < w → k < s.bytes → get_or a' (e + (c * s.bytes + k)) 0 ≡ get_or m' (byte_of s (x + c) y k) 0)
      → unlikes a a' s.bytes d e w ≡ summed (changing s m m') (across false x w y)
  unfolding summed unlikes across read_px
  row-unlike x d e zero f g = refl
  row-unlike x d e (suc w) f g =
      let first : (n : ℕ) → n + 0 ≡ n = (λ n. omega arith) in
      let old : read_bytes a (λ k. d + k) 0 s.bytes ≡ read_px m s x y =
      read_as (λ k. d + k) (byte_of s x y) 0 s.bytes a m (λ k l u. let h = f 0 k (omega arith) (omega arith) in let p : d + (0 * s.bytes + k) ≡ d + k = omega arith in rw (p, first x) at h) in
      let new : read_bytes a' (λ k. e + k) 0 s.bytes ≡ read_px m' s x y =
      read_as (λ k. e + k) (byte_of s x y) 0 s.bytes a' m' (λ k l u. let h = g 0 k (omega arith) (omega arith) in let p : e + (0 * s.bytes + k) ≡ e + k = omega arith in rw (p, first x) at h) in
      let next : (n c k : ℕ) → n + s.bytes + (c * s.bytes + k) ≡ n + ((c + 1) * s.bytes + k) = (λ n c k. omega (arith, add-mul c 1 s.bytes)) in
      let column : (c : ℕ) → x + 1 + c ≡ x + (c + 1) = (λ c. omega arith) in
      ap₂ (λ (p q : ℕ). p + q) (ap₂ (λ (p q : ℕ). one (not (eqb p q))) old new)
      (row-unlike (x + 1) (d + s.bytes) (e + s.bytes) w (λ c k l u. rw (next d c k, column c) (f (c + 1) k (omega arith) u)) (λ c k l u. rw (next e c k, column c) (g (c + 1) k (omega arith) u)))
