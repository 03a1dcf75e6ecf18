-- A surface's room: pixels below both numbers are on it. And what is kept: after a store at any offset it is what the registers say.
-- Assumes nothing.
use mathlib.Core.Path.{◌≡◌, refl, subst}
use mathlib.Core.Logic.{◌⊎◌, ⊎_elim}
use mathlib.Core.List.{[], ◌∷◌}
use mathlib.Core.Bool.{Bool, true, false, cond}
use Prim.Native.Nat.{ℕ, ◌+◌, ◌*◌, ◌/◌, ◌%◌, ◌-◌, ◌^◌, ◌<◌, ◌≤◌}
use native.Mathlib.Nat.{mul-le-mul_right, div-mul-le_self, add-mul, le-div_iff_mul-le, div-le_self}
use native.Mathlib.Omega.{arith}
use lib.Dec.{eqb}
use borrow.Author.Tests.{eq-eqb}
use Rattle.surface.specs.declared.Surface.{Surface}
use Rattle.surface.specs.Place.{row_bytes, byte_at, row_pixels, on_surface}
use Rattle.surface.specs.Asked.{Small}
use Rattle.surface.specs.Pixels.{rect}
use Rattle.spans.specs.Span.{all_on}
use Rattle.registers.specs.declared.Regs.{Regs}
use Rattle.registers.specs.Regs.{put_reg}
use Rattle.rooms.specs.declared.Room.{Room}
use Rattle.rooms.specs.declared.Rooms.{Rooms}
use Rattle.formats.specs.Format.{target_named, target_of, source_named, source_of}
use Rattle.formats.specs.Step.{packing_of, step_of}
use Rattle.rooms.specs.Room.{no_room, whole_rows, room_of, target_room, unpacked, source_room, worked, of_target, of_source, after, depth}
use Rattle.registers.proofs.Arms.{Each, of-each, none_of}
use Rattle.surface.proofs.Rows.{by_layout, byte_at-flat, byte_at-tiled, row_bytes-flat, row_bytes-tiled}
use Rattle.surface.proofs.Tiles.{tile_at}
use Rattle.surface.proofs.OnLaws.{colour-pixels, last_byte, last-in-row, on-from}
use Rattle.surface.proofs.Rects.{in-rect}
use Rattle.spans.proofs.Corner.{each_all}

module _ (s : Surface) where
  depth-flat : s.tiled ≡ false → (n : ℕ) → depth s n ≡ n * s.stride
  unfolding depth
  depth-flat e n = rw e

  depth-tiled : s.tiled ≡ true → (n : ℕ) → depth s n ≡ (n + 31) / 32 * (4096 * s.stride)
  unfolding depth
  depth-tiled e n = rw e

-- ---- a byte of the first n rows lies in what they take up
tile-deep : (k c y n : ℕ) → c < 128 * k → y < n → tile_at k c y < (n + 31) / 32 * (4096 * k)
tile-deep k c y n h l =
    let up : y / 32 + 1 ≤ (n + 31) / 32 = omega arith in
    omega (arith, mul-le-mul_right {m = y / 32 + 1} {n = (n + 31) / 32} (4096 * k) up, add-mul (y / 32) 1 (4096 * k))

byte_at-deep : (s : Surface) (c y n : ℕ) → c < row_bytes s → y < n → (s.base ≤ byte_at s c y) × (byte_at s c y < s.base + depth s n)
byte_at-deep s c y n h l =
    by_layout s
    (λ e. let k = rw (row_bytes-flat s e) at h in
    omega (arith, byte_at-flat s c y e, depth-flat s e n, mul-le-mul_right {m = y + 1} {n = n} s.stride (omega arith), add-mul y 1 s.stride))
    (λ e. omega (arith, byte_at-tiled s c y e, depth-tiled s e n, tile-deep s.stride c y n (rw (row_bytes-tiled s e) at h) l))

-- ---- what the products show
pub mono-fits : (s : Surface) (n : ℕ) → s.bytes ≡ 0 → n ≤ 8 * row_bytes s → n ≤ row_pixels s
unfolding row_pixels
mono-fits s n e h = rw (eq-eqb s.bytes 0 e) h

pub colour-fits : (s : Surface) (n : ℕ) → 0 < s.bytes → n * s.bytes ≤ row_bytes s → n ≤ row_pixels s
colour-fits s n p h = rw (colour-pixels s 0 p) ((le-div_iff_mul-le {k = s.bytes} {x = n} {y = row_bytes s} p).1 h)

pub tiled-fits : (s : Surface) (len n : ℕ) → s.tiled ≡ true → s.base + (n + 31) / 32 * (4096 * s.stride) ≤ len → depth s n ≤ len - s.base
tiled-fits s len n e h = omega (arith, depth-tiled s e n)

pub flat-fits : (s : Surface) (len n : ℕ) → s.tiled ≡ false → s.base + n * s.stride ≤ len → depth s n ≤ len - s.base
flat-fits s len n e h = omega (arith, depth-flat s e n)

-- ---- the room is there
pub record Has (len : ℕ) (s : Surface) (k : Room) : Type 0 where
  pub across : k.pixels ≤ row_pixels s
  pub down : depth s k.rows ≤ len - s.base

pub has_on : {len : ℕ} {s : Surface} {k : Room} → Has len s k → (x y : ℕ) → x < k.pixels → y < k.rows → on_surface s len x y ≡ true
has_on {len} {s} {k} h x y a b =
    let c : x < row_pixels s = omega (arith, h.across) in
    on-from s len x y c (omega (arith, h.down, byte_at-deep s (last_byte s x) y k.rows (last-in-row s x c) b))

pub has-rect : {len : ℕ} {s : Surface} {k : Room} → Has len s k → (x y w h : ℕ) → x + w ≤ k.pixels → y + h ≤ k.rows → all_on s len (rect false false x y w h) ≡ true
has-rect {len} {s} {k} has x y w h a b =
    each_all s len (rect false false x y w h)
    (λ p i. let r = in-rect false false x y w h p i in has_on has p.x p.y (omega arith) (omega arith))

-- ---- the room that is worked out is there

pub pixels-small : (s : Surface) → Small s → row_pixels s < 2 ^ 27
unfolding row_pixels
pixels-small s h = by-test (eqb s.bytes 0) (by_layout s (λ e. omega (arith, row_bytes-flat s e, h.stride)) (λ e. omega (arith, row_bytes-tiled s e, h.stride)))
  where
    by-test : (t : Bool) → row_bytes s < 2 ^ 24 → cond t (8 * row_bytes s) (row_bytes s / s.bytes) < 2 ^ 27
    by-test true l = omega arith
    by-test false l = omega (arith, div-le_self (row_bytes s) s.bytes)

has-none : (len : ℕ) (s : Surface) → Has len s no_room
has-none len s = record { across = omega arith; down = by_layout s (λ e. omega (arith, depth-flat s e 0)) (λ e. omega (arith, depth-tiled s e 0)) }

module _ (len : ℕ) (s : Surface) where
  flat-there : s.tiled ≡ false → depth s (whole_rows len s) ≤ len - s.base
  unfolding depth whole_rows
  flat-there e = rw e (div-mul-le_self (len - s.base) s.stride)

  tiled-there : s.tiled ≡ true → depth s (whole_rows len s) ≤ len - s.base
  unfolding depth whole_rows
  tiled-there e =
      let n = (len - s.base) / (4096 * s.stride) in
      let same : (32 * n + 31) / 32 ≡ n = omega arith in
      rw (e, same) (div-mul-le_self (len - s.base) (4096 * s.stride))

room-has : (len : ℕ) (s : Surface) → Has len s (room_of len s)
unfolding room_of
room-has len s = by-test (eqb s.stride 0)
  where
    by-test : (t : Bool) → Has len s (cond t no_room (record { pixels = row_pixels s; rows = whole_rows len s }))
    by-test true = has-none len s
    by-test false = record { across = omega arith; down = by_layout s (flat-there len s) (tiled-there len s) }

named-has : (t : Bool) (len : ℕ) (s : Surface) → Has len s (cond t (room_of len s) no_room)
named-has true len s = room-has len s
named-has false len s = has-none len s

pub target-has : (len base format : ℕ) → Has len (target_of base format) (target_room len base format)
unfolding target_room
target-has len base format = named-has (target_named format) len (target_of base format)

-- of a source that is not packed: it is the one of its stride
unpacked-same : (base format width : ℕ) → packing_of format ≡ 0 → source_of base (unpacked format) 0 ≡ source_of base format width
unfolding source_of step_of
unpacked-same base format width e =
    let code : unpacked format / 2 ^ 16 % 16 ≡ format / 2 ^ 16 % 16 = omega arith in
    let stride : unpacked format % 2 ^ 14 ≡ format % 2 ^ 14 = omega arith in
    let none : unpacked format / 2 ^ 22 % 4 ≡ 0 = omega arith in
    rw (code, stride, none, e)

pub source-has : (len base format width : ℕ) → packing_of format ≡ 0 → Has len (source_of base format width) (source_room len base format)
unfolding source_room
source-has len base format width e =
    subst (λ (s : Surface). Has len s (source_room len base format)) (unpacked-same base format width e)
    (named-has (source_named base (unpacked format)) len (source_of base (unpacked format) 0))

-- ---- after a store at one of the four offsets
module _ (len o : ℕ) (r : Regs) (k : Rooms) where
  pub after-target : (o ≡ 0x10) ⊎ (o ≡ 0x14) → after len o r k ≡ record { source = k.source; target = target_room len r.dst_base_addr r.dst_format }
  unfolding worked
  after-target p = ⊎_elim (λ e. rw e) (λ e. rw e) p

  pub after-source : (o ≡ 0x34) ⊎ (o ≡ 0x54) → after len o r k ≡ record { source = source_room len r.src_base_addr r.src_format; target = k.target }
  unfolding worked
  after-source p = ⊎_elim (λ e. rw e) (λ e. rw e) p

-- ---- what is kept goes on being what the registers say
module _ (len v : ℕ) (r : Regs) where
  abbrev Follows : ℕ → Type 0
  Follows o = after len o (put_reg o v r) (worked len r) ≡ worked len (put_reg o v r)

  target-follows : Each Follows (0x10 ∷ 0x14 ∷ [])
  unfolding worked put_reg
  target-follows = (refl, (refl, tt))

  source-follows : Each Follows (0x34 ∷ 0x54 ∷ [])
  unfolding worked put_reg
  source-follows = (refl, (refl, tt))

  others-follow : (o : ℕ) → of_target o ≡ false → of_source o ≡ false → Each (λ a. eqb o a ≡ false) (0x10 ∷ 0x14 ∷ []) → Each (λ a. eqb o a ≡ false) (0x34 ∷ 0x54 ∷ []) → Follows o
  unfolding worked put_reg
  others-follow o t s (e10, (e14, _)) (e34, (e54, _)) = rw (t, s, e10, e14, e34, e54)

  pub after-worked : (o : ℕ) → Follows o
  after-worked o = by_tests (of_target o) (of_source o) refl refl
    where
      by_tests : (t s : Bool) → of_target o ≡ t → of_source o ≡ s → Follows o
      by_tests true s p q = of-each Follows (0x10 ∷ 0x14 ∷ []) target-follows o p
      by_tests false true p q = of-each Follows (0x34 ∷ 0x54 ∷ []) source-follows o q
      by_tests false false p q = others-follow o p q (none_of o (0x10 ∷ 0x14 ∷ []) p) (none_of o (0x34 ∷ 0x54 ∷ []) q)
