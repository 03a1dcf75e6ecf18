-- Laws of positions: the signed reading and the natural one are the same position, and a step adds its size modulo 8192.
-- Assumes nothing.
use Prim.Native.Nat.{ℕ, suc, ◌+◌, ◌-◌, ◌*◌, ◌/◌, ◌%◌, ◌^◌, ◌≤◌, ◌<◌}
use native.Mathlib.Nat.{lt_trans, mod-add-mod}
use native.Mathlib.Omega.{arith}
use mathlib.Core.Bool.{Bool, true, false}
use mathlib.Core.Path.{◌≡◌, refl, sym, ap, subst⁻¹, ◌∙◌}
use borrow.Author.Tests.{lt-ltb, le-ltb, ltb-true, ltb-false}
use lib.Dec.{lit<, ltb, le→leb}
use lib.IntN.{ℤ, pos, negsuc, neg_ℤ, ◌+ℤ◌, ◌-ℤ◌, +ℤ_assoc, +ℤ_comm}
use lib.Signed.{◌≤ℤ◌, le_z_yes}
use mir.Syntax.{w32}
use mir.Val.{to_z, SFits}
use mir.Facts.{to_z_pos}
use Rattle.surface.specs.Pixels.{origin}
use Rattle.registers.specs.Kept.{kept}
use Rattle.positions.specs.Position.{signed_of, placed, moved, stepped, stepped_xy}

-- ---- 13 bits in an `i32`

pub as-signed : (v : ℕ) → v < 8192 → to_z w32 v ≡ pos v
as-signed v h = to_z_pos w32 (lt_trans h (lit< tt))

pub less-8192 : (v : ℕ) → v < 8192 → pos v -ℤ pos 8192 ≡ negsuc (8192 - suc v)
less-8192 v h = rw (lt-ltb v 8192 h)

-- ---- the signed reading and the natural one, below 4096 and from there on

pub placed-low : (raw : ℕ) → raw % 8192 < 4096 → placed raw ≡ origin + raw % 8192
placed-low raw h = omega arith

pub placed-high : (raw : ℕ) → 4096 ≤ raw % 8192 → placed raw ≡ origin - (8192 - raw % 8192)
placed-high raw h = omega arith

pub signed_low : (raw : ℕ) → raw % 8192 < 4096 → signed_of raw ≡ pos (raw % 8192)
unfolding signed_of
signed_low raw h = rw (lt-ltb (raw % 8192) 4096 h)

pub signed_high : (raw : ℕ) → 4096 ≤ raw % 8192 → signed_of raw ≡ negsuc (8192 - suc (raw % 8192))
unfolding signed_of
signed_high raw h = rw (le-ltb (raw % 8192) 4096 h) (less-8192 (raw % 8192) (omega arith))

-- what follows in both cases follows
low_or_high : {X : Type 0} (v : ℕ) → (v < 4096 → X) → (4096 ≤ v → X) → X
low_or_high {X} v f g = by-test (ltb v 4096) refl
  where
    by-test : (t : Bool) → ltb v 4096 ≡ t → X
    by-test true e = f (ltb-true v 4096 e)
    by-test false e = g (ltb-false v 4096 e)

-- the 13 bits turned by half their range, and that half taken away again
abbrev pub turned : ℕ → ℕ
turned raw = (raw % 8192 + 4096) % 8192

turned-signed : (raw : ℕ) → pos (turned raw) -ℤ pos 4096 ≡ signed_of raw
turned-signed raw =
    low_or_high (raw % 8192)
    (λ h. let e : turned raw ≡ raw % 8192 + 4096 = omega arith in
    rw (e, le-ltb (raw % 8192 + 4096) 4096 (omega arith)) (ap pos (omega arith) ∙ sym (signed_low raw h)))
    (λ h. let e : turned raw ≡ raw % 8192 - 4096 = omega arith in
    rw (e, lt-ltb (raw % 8192 - 4096) 4096 (omega arith)) (ap negsuc (omega arith) ∙ sym (signed_high raw h)))

pub turned-value : (raw : ℕ) → to_z w32 (turned raw) -ℤ pos 4096 ≡ signed_of raw
turned-value raw = ap (λ z. z -ℤ pos 4096) (as-signed (turned raw) (omega arith)) ∙ turned-signed raw

pub signed-fits : (raw : ℕ) → SFits w32 (signed_of raw)
signed-fits raw =
    low_or_high (raw % 8192)
    (λ h. subst⁻¹ (λ (z : ℤ). SFits w32 z) (signed_low raw h) (record { sfits = lt_trans {m = 8192} (omega arith) (lit< tt) }))
    (λ h. subst⁻¹ (λ (z : ℤ). SFits w32 z) (signed_high raw h) (record { sfits = lt_trans {m = 8192} (omega arith) (lit< tt) }))

pub signed-placed : (raw : ℕ) → signed_of raw ≡ pos (placed raw) -ℤ pos origin
signed-placed raw =
    low_or_high (raw % 8192)
    (λ h. signed_low raw h ∙ rw (placed-low raw h, le-ltb (origin + raw % 8192) origin (omega arith)) (ap pos (omega arith)))
    (λ h. signed_high raw h ∙ rw (placed-high raw h, lt-ltb (origin - (8192 - raw % 8192)) origin (omega arith)) (ap negsuc (omega arith)))

pub signed-from : (raw : ℕ) → negsuc 4095 ≤ℤ signed_of raw
signed-from raw =
    low_or_high (raw % 8192)
    (λ h. rw (signed_low raw h) (le_z_yes tt))
    (λ h. rw (signed_high raw h) (le_z_yes (le→leb (8192 - suc (raw % 8192)) 4095 (omega arith))))

pub signed-to : (raw : ℕ) → signed_of raw ≤ℤ pos 4095
signed-to raw =
    low_or_high (raw % 8192)
    (λ h. rw (signed_low raw h) (le_z_yes (le→leb (raw % 8192) 4095 (omega arith))))
    (λ h. rw (signed_high raw h) (le_z_yes tt))

pub placed-from : (raw : ℕ) → 12288 ≤ placed raw
placed-from raw = omega arith

pub placed-to : (raw : ℕ) → placed raw ≤ 20479
placed-to raw = omega arith

-- ---- the step: the new position is the old one and the size, modulo 8192

pub placed-mod : (raw : ℕ) → placed raw % 8192 ≡ raw % 8192
placed-mod raw = omega arith

moved-mod : (raw size : ℕ) → moved raw size % 8192 ≡ (raw % 8192 + size) % 8192
moved-mod raw size = omega arith

pub placed-moved-mod : (raw size : ℕ) → placed (moved raw size) % 8192 ≡ (placed raw + size) % 8192
placed-moved-mod raw size =
    placed-mod (moved raw size) ∙ moved-mod raw size ∙ ap (λ n. (n + size) % 8192) (sym (placed-mod raw)) ∙ mod-add-mod (placed raw) 8192 size

-- how often a step wraps
abbrev pub wraps : ℕ → ℕ → ℕ
wraps raw size = (placed raw + size - 12288) / 8192

wrapped : (p p' size : ℕ) → 12288 ≤ p → 12288 ≤ p' → p' ≤ 20479 → p' % 8192 ≡ (p + size) % 8192 → p' + 8192 * ((p + size - 12288) / 8192) ≡ p + size
wrapped p p' size h f t m = omega arith

pub placed-moved : (raw size : ℕ) → placed (moved raw size) + 8192 * wraps raw size ≡ placed raw + size
placed-moved raw size =
    wrapped (placed raw) (placed (moved raw size)) size (placed-from raw) (placed-from (moved raw size)) (placed-to (moved raw size)) (placed-moved-mod raw size)

-- a number added to a difference
plus-last : (p q n : ℕ) → (pos p -ℤ pos q) +ℤ pos n ≡ pos (p + n) -ℤ pos q
plus-last p q n = +ℤ_assoc (pos p) (neg_ℤ (pos q)) (pos n) ∙ ap (λ z. pos p +ℤ z) (+ℤ_comm (neg_ℤ (pos q)) (pos n)) ∙ sym (+ℤ_assoc (pos p) (pos n) (neg_ℤ (pos q)))

-- the signed reading, counted from the origin, is the natural one
pub origin-signed : (raw : ℕ) → pos origin +ℤ signed_of raw ≡ pos (placed raw)
origin-signed raw =
    +ℤ_comm (pos origin) (signed_of raw) ∙ ap (λ z. z +ℤ pos origin) (signed-placed raw) ∙ plus-last (placed raw) origin origin
    ∙ rw (le-ltb (placed raw + origin) origin (omega arith)) (ap pos (omega arith))

pub signed-moved : (raw size : ℕ) → signed_of (moved raw size) +ℤ pos (8192 * wraps raw size) ≡ signed_of raw +ℤ pos size
signed-moved raw size =
    ap (λ z. z +ℤ pos (8192 * wraps raw size)) (signed-placed (moved raw size))
    ∙ plus-last (placed (moved raw size)) origin (8192 * wraps raw size)
    ∙ ap (λ n. pos n -ℤ pos origin) (placed-moved raw size)
    ∙ sym (plus-last (placed raw) origin size)
    ∙ ap (λ z. z +ℤ pos size) (sym (signed-placed raw))

-- dstX 4095 and width 1
pub past-4095 : signed_of (moved 4095 1) ≡ negsuc 4095
unfolding signed_of
past-4095 = refl

-- ---- both positions of a word

pub stepped-below : (on : Bool) (raw size : ℕ) → stepped on raw size < 8192
stepped-below true raw size = omega arith
stepped-below false raw size = omega arith

pub x-apart : (xy size : ℕ) (across down : Bool) → stepped_xy xy size across down % 2 ^ 16 ≡ stepped across xy size
unfolding stepped_xy
x-apart xy size across down = omega (arith, stepped-below across xy size)

pub y-apart : (xy size : ℕ) (across down : Bool) → stepped_xy xy size across down / 2 ^ 16 ≡ stepped down (xy / 2 ^ 16) (size / 2 ^ 16)
unfolding stepped_xy
y-apart xy size across down = omega (arith, stepped-below across xy size)

pub unstepped : (xy size : ℕ) → stepped_xy xy size false false ≡ kept 0x6c xy
unfolding stepped_xy kept
unstepped xy size = refl

pub stepped_kept : (xy size : ℕ) (across down : Bool) → kept 0x6c (stepped_xy xy size across down) ≡ stepped_xy xy size across down
unfolding stepped_xy kept
stepped_kept xy size across down =
    omega (arith, stepped-below across xy size, stepped-below down (xy / 2 ^ 16) (size / 2 ^ 16))
