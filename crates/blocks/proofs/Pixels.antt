-- A rectangle of pixels as a rectangle of bytes: x and w pixels are x * b and w * b bytes.
-- Assumes nothing.
use mathlib.Core.Path.{◌≡◌, sym, ap, subst, ◌∙◌}
use mathlib.Core.List.{List}
use Prim.Native.Nat.{ℕ, ◌+◌, ◌-◌, ◌*◌, ◌/◌, ◌%◌, ◌<◌, ◌≤◌}
use native.Mathlib.Nat.{mod-lt, add-mul, mul-le-mul_right, div-add-mod', div-lt_iff_lt-mul, le-div_iff_mul-le}
use native.Mathlib.Omega.{arith}
use lib.Arith.{digits_lt}
use lib.ListN.{get_or}
use Rattle.surface.specs.declared.Surface.{Surface}
use Rattle.surface.specs.Place.{row_bytes, byte_at, byte_of}
use Rattle.surface.specs.Asked.{OnColour}
use Rattle.surface.specs.Pixels.{Px, px, Inside}
use Rattle.surface.proofs.OnLaws.{colour-byte, on-column}
use Rattle.surface.proofs.Pixels.{in-row-byte}
use Rattle.runs.specs.Runs.{Given}
use Rattle.blocks.specs.Blocks.{Put}

module _ (b : ℕ) (some : 0 < b) (x y w h : ℕ) where
  -- the pixel that a byte is of
  pub pixel-of : (q : Px) → Inside (x * b) y (w * b) h q → Inside x y w h (px (q.x / b) q.y)
  pixel-of q i = record {
    left = (le-div_iff_mul-le some).1 i.left;
    right = (div-lt_iff_lt-mul some).1 (omega (arith, add-mul x w b));
    top = i.top;
    bottom = i.bottom;
  }

  -- a byte of a pixel
  pub byte-in : (p : Px) (k : ℕ) → Inside x y w h p → k < b → Inside (x * b) y (w * b) h (px (p.x * b + k) p.y)
  byte-in p k i l = record {
    left = omega (arith, mul-le-mul_right b i.left);
    right = omega (arith, digits_lt {q = p.x} {m = x + w} {r = k} {c = b} i.right l, add-mul x w b);
    top = i.top;
    bottom = i.bottom;
  }

module _ (s : Surface) (some : 0 < s.bytes) where
  byte-at : (q : Px) → byte_at s q.x q.y ≡ byte_of s (q.x / s.bytes) q.y (q.x % s.bytes)
  unfolding byte_of
  byte-at q = ap (λ (c : ℕ). byte_at s c q.y) (sym (div-add-mod' q.x s.bytes))

  -- ---- bytes put are pixels given, and the other way
  module _ (byte : Px → ℕ → ℕ) (value : Px → ℕ) (x y w h : ℕ) (m m' : List ℕ) where
    pub put-given : ((p : Px) (k : ℕ) → Inside x y w h p → k < s.bytes → value (px (p.x * s.bytes + k) p.y) ≡ byte p k)
        → Put s value (x * s.bytes) y (w * s.bytes) h m m' → Given s byte x y w h m m'
    unfolding byte_of
    put-given same put = record {
      inside = λ p i k l. put.inside (px (p.x * s.bytes + k) p.y) (byte-in s.bytes some x y w h p k i l) ∙ same p k i l;
      others = λ a out. put.others a (λ q i e. out (px (q.x / s.bytes) q.y) (pixel-of s.bytes some x y w h q i) (q.x % s.bytes) (mod-lt q.x some) (e ∙ byte-at q));
      long = put.long;
    }

    pub given-put : ((q : Px) → Inside (x * s.bytes) y (w * s.bytes) h q → byte (px (q.x / s.bytes) q.y) (q.x % s.bytes) ≡ value q)
        → Given s byte x y w h m m' → Put s value (x * s.bytes) y (w * s.bytes) h m m'
    unfolding byte_of
    given-put same given = record {
      inside = λ q i.
          ap (λ (a : ℕ). get_or m' a 0) (byte-at q)
          ∙ given.inside (px (q.x / s.bytes) q.y) (pixel-of s.bytes some x y w h q i) (q.x % s.bytes) (mod-lt q.x some) ∙ same q i;
      others = λ a out. given.others a (λ p i k l e. out (px (p.x * s.bytes + k) p.y) (byte-in s.bytes some x y w h p k i l) e);
      long = given.long;
    }

  -- ---- pixels that are on their surface
  module _ {len : ℕ} (x y w h : ℕ) (on : (i j : ℕ) → x ≤ i → i < x + w → y ≤ j → j < y + h → OnColour s len i j) where
    there : (q : Px) → Inside (x * s.bytes) y (w * s.bytes) h q → OnColour s len (q.x / s.bytes) q.y
    there q i = let p = pixel-of s.bytes some x y w h q i in on (q.x / s.bytes) q.y p.left p.right p.top p.bottom

    pub byte-held : (q : Px) → Inside (x * s.bytes) y (w * s.bytes) h q → byte_at s q.x q.y < len
    byte-held q i = subst (λ (a : ℕ). a < len) (sym (byte-at q)) (colour-byte (there q i) (q.x % s.bytes) (mod-lt q.x some)).inside

    pub byte-column : (q : Px) → Inside (x * s.bytes) y (w * s.bytes) h q → q.x < row_bytes s
    byte-column q i =
        subst (λ (c : ℕ). c < row_bytes s) (div-add-mod' q.x s.bytes)
        (in-row-byte s (q.x / s.bytes) (q.x % s.bytes) some (on-column s len (q.x / s.bytes) q.y (there q i).on) (mod-lt q.x some))

    pub bytes-wide : 0 < w → 0 < h → x * s.bytes + w * s.bytes ≤ row_bytes s
    bytes-wide pw ph =
        let n = w * s.bytes in
        let wide : 0 < n = omega (arith, mul-le-mul_right {m = 1} {n = w} s.bytes pw) in
        omega (arith, byte-column (px (x * s.bytes + (n - 1)) y) (omega arith))
