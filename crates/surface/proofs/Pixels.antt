-- What a write of one pixel leaves, and what is read after it.
-- Assumes nothing.
use mathlib.Core.Path.{◌≡◌, sym}
use mathlib.Core.List.{List}
use Prim.Native.Nat.{ℕ, ◌+◌, ◌*◌, ◌%◌, ◌^◌, ◌<◌}
use native.Mathlib.Omega.{arith}
use lib.ListN.{length, get_or}
use Rattle.surface.specs.declared.Surface.{Surface}
use Rattle.surface.specs.Place.{row_bytes, byte_of, read_px, write_px, row_pixels}
use Rattle.surface.specs.Asked.{OnColour}
use Rattle.surface.proofs.Tiles.{digits_same}
use Rattle.surface.proofs.Rows.{byte_at-inj}
use Rattle.surface.proofs.Bytes.{length-written, written-other, read-written, read_alike, alike_read, read_fits}
use Rattle.surface.proofs.OnLaws.{colour-first, colour-count, in_row, on-column, colour-byte}

-- ---- two different pixels of a surface share no byte
pub in-row-byte : (s : Surface) (x k : ℕ) → 0 < s.bytes → x < row_pixels s → k < s.bytes → x * s.bytes + k < row_bytes s
in-row-byte s x k p h l = rw (← colour-first s x p) (in_row s x k h (rw (colour-count s x p) l))

pub same_byte : (s : Surface) (x y k x' y' k' : ℕ) → x < row_pixels s → x' < row_pixels s → k < s.bytes → k' < s.bytes
    → byte_of s x y k ≡ byte_of s x' y' k' → (x ≡ x') × (y ≡ y') × (k ≡ k')
unfolding byte_of
same_byte s x y k x' y' k' hx hx' hk hk' e =
    let p : 0 < s.bytes = omega arith in
    let a = byte_at-inj s (x * s.bytes + k) y (x' * s.bytes + k') y' (in-row-byte s x k p hx hk) (in-row-byte s x' k' p hx' hk') e in
    let b = digits_same x x' hk hk' a.1 in
    (b.0, a.0, b.1)

-- ---- a write
pub length-write : (m : List ℕ) (s : Surface) (x y v : ℕ) → length (write_px m s x y v) ≡ length m
unfolding write_px
length-write m s x y v = length-written (byte_of s x y) 0 s.bytes v m

-- leaves every byte that is not the pixel's
pub write-leaves : (m : List ℕ) (s : Surface) (x y v a : ℕ) → ((k : ℕ) → k < s.bytes → a ≡ byte_of s x y k → ⊥)
    → get_or (write_px m s x y v) a 0 ≡ get_or m a 0
unfolding write_px
write-leaves m s x y v a h = written-other (byte_of s x y) 0 s.bytes v m a (λ j l u. h j (omega arith))

-- and so every other pixel of the surface
pub write-apart : (m : List ℕ) (s : Surface) (x y v x' y' : ℕ) → x < row_pixels s → x' < row_pixels s → ((x ≡ x') × (y ≡ y') → ⊥)
    → read_px (write_px m s x y v) s x' y' ≡ read_px m s x' y'
unfolding read_px
write-apart m s x y v x' y' hx hx' other =
    read_alike (byte_of s x' y') 0 s.bytes (write_px m s x y v) m
    (λ j l u. write-leaves m s x y v (byte_of s x' y' j)
    (λ k h e. let t = same_byte s x' y' j x y k hx' hx (omega arith) h e in other (sym t.0, sym t.1)))

-- is read back, at the pixel's number of bytes
pub write_read : (m : List ℕ) (s : Surface) (x y v : ℕ) → OnColour s (length m) x y → read_px (write_px m s x y v) s x y ≡ v % 256 ^ s.bytes
unfolding read_px write_px
write_read m s x y v on =
    let column = on-column s (length m) x y on.on in
    read-written (byte_of s x y) 0 s.bytes v m
    (λ i j p q e. (same_byte s x y i x y j column column (omega arith) (omega arith) e).2)
    (λ j l. (colour-byte on j (omega arith)).inside)

-- ---- a read
pub read_same : (s : Surface) (x y : ℕ) (m m' : List ℕ) → ((k : ℕ) → k < s.bytes → get_or m (byte_of s x y k) 0 ≡ get_or m' (byte_of s x y k) 0)
    → read_px m s x y ≡ read_px m' s x y
unfolding read_px
read_same s x y m m' h = read_alike (byte_of s x y) 0 s.bytes m m' (λ j l u. h j (omega arith))

-- in memories of bytes a pixel that reads alike has the same bytes
pub same_read : (s : Surface) (x y : ℕ) (m m' : List ℕ) → ((a : ℕ) → get_or m a 0 < 256) → ((a : ℕ) → get_or m' a 0 < 256) → read_px m s x y ≡ read_px m' s x y
    → (k : ℕ) → k < s.bytes → get_or m (byte_of s x y k) 0 ≡ get_or m' (byte_of s x y k) 0
unfolding read_px
same_read s x y m m' b b' e k l = alike_read (byte_of s x y) m m' b b' 0 s.bytes e k (omega arith) (omega arith)

pub read_small : (m : List ℕ) (s : Surface) (x y : ℕ) → ((a : ℕ) → get_or m a 0 < 256) → read_px m s x y < 256 ^ s.bytes
unfolding read_px
read_small m s x y b = read_fits m (byte_of s x y) 0 s.bytes (λ j. b (byte_of s x y j))
