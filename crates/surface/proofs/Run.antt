-- A pixel's bytes lie one after the other from an address on where it falls across no two tiles, and in rows so do the pixels of a row:
-- read and written at one to four bytes.
-- Assumes nothing.
use mathlib.Core.Path.{◌≡◌, sym, ap, ap₂, subst, ◌∙◌}
use mathlib.Core.Bool.{Bool, true, false, not, ◌&&◌, true≢false}
use mathlib.Core.List.{List}
use Prim.Native.Nat.{ℕ, zero, suc, ◌+◌, ◌-◌, ◌*◌, ◌%◌, ◌<◌}
use native.Mathlib.Nat.{add-zero, add-mul}
use native.Mathlib.Omega.{arith}
use native.Mathlib.Decide.{ℕ_discrete}
use borrow.Author.Tests.{eq-eqb, eqb-true}
use lib.Dec.{eqb}
use lib.ListN.{get_or}
use Rattle.surface.specs.declared.Surface.{Surface}
use Rattle.surface.specs.Place.{byte_at, byte_of, read_bytes, write_bytes, read_px, write_px, differ, differs, three}
use Rattle.surface.specs.Asked.{Colour, OnColour, Held}
use Rattle.surface.proofs.Tiles.{tile-run}
use Rattle.surface.proofs.Rows.{by_layout, byte_at-tiled, byte_at-run}
use Rattle.surface.proofs.Bytes.{read-there, write-there}
use Rattle.surface.proofs.Lists.{by_cases}
use Rattle.surface.proofs.OnLaws.{and_right, colour-byte}

-- ---- within a pixel

-- a pixel's bytes are in one piece: in rows, or as many as divide a tile's row
pub data InPiece : Surface → Type 0 where
  in-rows : {s : Surface} → s.tiled ≡ false → InPiece s
  by_one : {s : Surface} → s.bytes ≡ 1 → InPiece s
  by_two : {s : Surface} → s.bytes ≡ 2 → InPiece s
  by-four : {s : Surface} → s.bytes ≡ 4 → InPiece s

-- as many as there can be but three
pub in-piece : (s : Surface) → Colour s → (s.bytes ≡ 3 → ⊥) → InPiece s
in-piece s colour n =
    by_cases (ℕ_discrete s.bytes 1) by_one
    (λ p. by_cases (ℕ_discrete s.bytes 2) by_two
    (λ q. by_cases (ℕ_discrete s.bytes 4) by-four (λ r. absurd (n (omega (arith, colour.some, colour.small.bytes))))))

-- of two tests the code asks for both: on tiles, and of three bytes
pub has-three : (s : Surface) → (s.tiled && eqb s.bytes 3) ≡ true → s.bytes ≡ 3
has-three s h = eqb-true s.bytes 3 (and_right s.tiled _ h)

pub on-tiles : (s : Surface) → Colour s → (s.tiled && eqb s.bytes 3) ≡ false → InPiece s
on-tiles s colour h =
    by_layout s in-rows (λ e. in-piece s colour (λ n. absurd (true≢false (sym (ap₂ (λ a b. a && b) e (eq-eqb s.bytes 3 n)) ∙ h))))

-- what ends inside its tile's row follows on in either layout
byte_at-follows : (s : Surface) (c k y : ℕ) → c % 128 + k < 128 → byte_at s (c + k) y ≡ byte_at s c y + k
byte_at-follows s c k y h =
    by_layout s (λ e. byte_at-run s e c k y) (λ e. omega (arith, byte_at-tiled s c y e, byte_at-tiled s (c + k) y e, tile-run s.stride c k y h))

follows : (s : Surface) → InPiece s → (x y k : ℕ) → k < s.bytes → byte_at s (x * s.bytes + k) y ≡ byte_at s (x * s.bytes) y + k
follows s (in-rows e) x y k h = byte_at-run s e (x * s.bytes) k y
follows s (by_one e) x y k h = byte_at-follows s (x * s.bytes) k y (omega (arith, ap (λ (n : ℕ). x * n) e))
follows s (by_two e) x y k h = byte_at-follows s (x * s.bytes) k y (omega (arith, ap (λ (n : ℕ). x * n) e))
follows s (by-four e) x y k h = byte_at-follows s (x * s.bytes) k y (omega (arith, ap (λ (n : ℕ). x * n) e))

pub byte-run : (s : Surface) → InPiece s → (x y k : ℕ) → k < s.bytes → byte_of s x y k ≡ byte_of s x y 0 + k
unfolding byte_of
byte-run s p x y k h = follows s p x y k h ∙ ap (λ (a : ℕ). byte_at s a y + k) (sym (add-zero (x * s.bytes)))

pub pixel-held : {s : Surface} {len x y : ℕ} → InPiece s → OnColour s len x y → (a : ℕ) → a ≡ byte_of s x y 0 → Held a s.bytes len
pixel-held {s} {len} {x} {y} piece on a e =
    let p = on.colour.some in
    record {
      some = p;
      few = on.colour.small.bytes;
      inside = omega (arith, (colour-byte on (s.bytes - 1) (omega arith)).inside, byte-run s piece x y (s.bytes - 1) (omega arith));
    }

-- bytes read and stored where those of the pixel lie are the pixel's, and so is a store's answer
module _ (s : Surface) (x y : ℕ) (at : ℕ → ℕ) (there : (k : ℕ) → k < s.bytes → at k ≡ byte_of s x y k) where
  pub read-there-px : (m : List ℕ) → read_bytes m at 0 s.bytes ≡ read_px m s x y
  unfolding read_px
  read-there-px m = read-there m at (byte_of s x y) 0 s.bytes (λ k h. there k (omega arith))

  pub write-there-px : (v : ℕ) (m : List ℕ) → write_bytes at 0 s.bytes v m ≡ write_px m s x y v
  unfolding write_px
  write-there-px v m = write-there at (byte_of s x y) 0 s.bytes v m (λ k h. there k (omega arith))

  pub stored_there : (v : ℕ) (m : List ℕ) {m' : List ℕ} {d : Bool} → (m' ≡ write_bytes at 0 s.bytes v m) × (d ≡ differ at s.bytes m m')
      → (m' ≡ write_px m s x y v) × (d ≡ differs s x y m m')
  stored_there v m {m'} stored =
      (stored.0 ∙ write-there-px v m, stored.1 ∙ ap₂ (λ (a b : ℕ). not (eqb a b)) (read-there-px m) (read-there-px m'))

-- in one piece, from an address on
module _ (s : Surface) (piece : InPiece s) (x y a : ℕ) (e : a ≡ byte_of s x y 0) where
  from : (k : ℕ) → k < s.bytes → a + k ≡ byte_of s x y k
  from k h = ap (λ (b : ℕ). b + k) e ∙ sym (byte-run s piece x y k h)

  pub read-run : (m : List ℕ) → read_bytes m (λ k. a + k) 0 s.bytes ≡ read_px m s x y
  read-run = read-there-px s x y (λ k. a + k) from

  pub write-run : (v : ℕ) (m : List ℕ) → write_bytes (λ k. a + k) 0 s.bytes v m ≡ write_px m s x y v
  write-run = write-there-px s x y (λ k. a + k) from

  pub pixel-stored : (v : ℕ) (m : List ℕ) {m' : List ℕ} {d : Bool} → (m' ≡ write_bytes (λ k. a + k) 0 s.bytes v m) × (d ≡ differ (λ k. a + k) s.bytes m m')
      → (m' ≡ write_px m s x y v) × (d ≡ differs s x y m m')
  pixel-stored = stored_there s x y (λ k. a + k) from

-- three bytes, wherever they lie
module _ (s : Surface) (three-of : s.bytes ≡ 3) (x y : ℕ) {a b c : ℕ} (e : a ≡ byte_of s x y 0) (f : b ≡ byte_of s x y 1) (g : c ≡ byte_of s x y 2) where
  apart : (k : ℕ) → k < s.bytes → three a b c k ≡ byte_of s x y k
  apart zero h = e
  apart (suc zero) h = f
  apart (suc (suc zero)) h = g
  apart (suc (suc (suc k))) h = absurd (omega arith)

  pub read-three : (m : List ℕ) → read_bytes m (three a b c) 0 3 ≡ read_px m s x y
  read-three m = ap (read_bytes m (three a b c) 0) (sym three-of) ∙ read-there-px s x y (three a b c) apart m

  pub three-stored : (v : ℕ) (m : List ℕ) {m' : List ℕ} {d : Bool} → (m' ≡ write_bytes (three a b c) 0 3 v m) × (d ≡ differ (three a b c) 3 m m')
      → (m' ≡ write_px m s x y v) × (d ≡ differs s x y m m')
  three-stored v m {m'} {d} stored =
      stored_there s x y (three a b c) apart v m
      (subst (λ (n : ℕ). (m' ≡ write_bytes (three a b c) 0 n v m) × (d ≡ differ (three a b c) n m m')) (sym three-of) stored)

-- ---- along a row
module _ (s : Surface) (rows : s.tiled ≡ false) (x y a : ℕ) (e : a ≡ byte_of s x y 0) where
  -- byte k of pixel number i from there on, and where that pixel begins
  pub run-byte : (i k : ℕ) → a + (i * s.bytes + k) ≡ byte_of s (x + i) y k
  unfolding byte_of
  run-byte i k =
      let column : x * s.bytes + 0 + (i * s.bytes + k) ≡ (x + i) * s.bytes + k = rw (add-mul x i s.bytes) (omega arith) in
      ap (λ (b : ℕ). b + (i * s.bytes + k)) e ∙ sym (byte_at-run s rows (x * s.bytes + 0) (i * s.bytes + k) y) ∙ ap (λ (c : ℕ). byte_at s c y) column

  pub run-pixel : (i : ℕ) → a + i * s.bytes ≡ byte_of s (x + i) y 0
  run-pixel i = ap (λ (n : ℕ). a + n) (sym (add-zero (i * s.bytes))) ∙ run-byte i 0

-- ---- at a known number of bytes
module _ (at n : ℕ) (m : List ℕ) where
  pub get-one : n ≡ 1 → get_or m at 0 ≡ read_bytes m (λ k. at + k) 0 n
  unfolding read_bytes
  get-one e = rw (e, add-zero at) (omega arith)

  pub get-four : n ≡ 4 → get_or m at 0 + get_or m (at + 1) 0 * 0x100 + get_or m (at + 2) 0 * 0x10000 + get_or m (at + 3) 0 * 0x1000000 ≡ read_bytes m (λ k. at + k) 0 n
  unfolding read_bytes
  get-four e = rw (e, add-zero at) (omega arith)
