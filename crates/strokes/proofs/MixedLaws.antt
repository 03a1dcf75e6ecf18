-- Laws of a line walked with the pattern: what an address on both at once says, and what a point is given.
-- Assumes nothing.
use Rattle.std.proofs.Common.{◌≡◌, ℕ, ◌+◌, ◌-◌, ◌*◌, ◌/◌, ◌%◌, ◌^◌, ◌<◌, ◌≤◌, Bool, true, false, not, ◌&&◌, List, [], ◌∷◌, ◌++◌, refl, ap, ◌∙◌, ap₂, mul-add, arith}
use mathlib.Core.Path.{subst⁻¹}
use mathlib.Core.Option.{some}
use borrow.Author.Tests.{not-true}
use Rattle.surface.specs.declared.Surface.{Surface}
use Rattle.surface.specs.Place.{surface, byte_of}
use Rattle.surface.specs.Asked.{Colour}
use Rattle.surface.proofs.OnLaws.{and_left, and_right}
use Rattle.surface.proofs.Bytes.{product_lt}
use Rattle.surface.proofs.Rows.{byte_at-flat}
use Rattle.raster.specs.Rop.{rop_bits}
use Rattle.raster.specs.Masks.{quad_of, flips, quad_made}
use Rattle.raster.proofs.RopTree.{quad-makes}
use Rattle.ink.specs.declared.Ink.{Ink}
use Rattle.ink.specs.Pattern.{pattern_column, pattern_row, pattern_pixel, pattern_in, pattern_value}
use Rattle.paint.specs.declared.Clip.{Clip}
use Rattle.paint.specs.Paint.{state, paint}
use Rattle.paint.specs.Mix.{bit_source, chosen, mixed}
use Rattle.paint.specs.Clip.{in_clip}
use Rattle.line.specs.declared.Line.{Line}
use Rattle.line.specs.declared.Pen.{Pen}
use Rattle.line.specs.Line.{point_at, points_from, points}
use Rattle.line.specs.Asked.{Drawable}
use Rattle.line.proofs.Sides.{either}
use Rattle.line.proofs.PointLaws.{from_cons, from-none}
use Rattle.strokes.specs.declared.Track.{Track}
use Rattle.strokes.specs.Mixed.{row_part, pair_of, pair_at, track_of, mix_touches, mixes}
use Rattle.strokes.specs.Asked.{Mixable, Mixing}
use Rattle.strokes.proofs.WalkLaws.{Low}
use Rattle.strokes.proofs.WalkDraw.{inside-walkable}

-- ---- target and pattern as one surface
paired : (s : Surface) → s.tiled ≡ false → (b r u x y : ℕ) → byte_of (surface (s.base + b) (s.stride + r) (s.bytes + u)) x y 0 ≡ byte_of s x y 0 + (b + x * u + y * r)
unfolding byte_of
paired s flat b r u x y =
    omega (
      arith,
      byte_at-flat (surface (s.base + b) (s.stride + r) (s.bytes + u)) (x * (s.bytes + u) + 0) y refl,
      byte_at-flat s (x * s.bytes + 0) y flat,
      mul-add x s.bytes u,
      mul-add y s.stride r,
    )

pub row_small : (ink : Ink) (u : ℕ) → row_part ink u ≤ u * 2 ^ 46
row_small ink u = either ink.forced (λ e. rw e (omega arith)) (λ e. rw e (omega arith))

module _ (ink : Ink) (flat : ink.target.tiled ≡ false) where
  pub pair-address : (x y : ℕ) → byte_of (pair_of ink) x y 0 ≡ pair_at ink x y
  pair-address x y =
      paired ink.target flat _ _ _ x y ∙ either ink.forced (λ e. rw e (omega arith)) (λ e. rw e (omega arith))

  module _ (colour : Colour ink.target) (x y : ℕ) (hx : x < 8192) (hy : y < 8192) where
    close-low : byte_of ink.target x y 0 < 2 ^ 32
    unfolding byte_of
    close-low =
        omega (
          arith,
          byte_at-flat ink.target (x * ink.target.bytes + 0) y flat,
          colour.small.base,
          product_lt 13 17 {a = y} {b = ink.target.stride} hy colour.small.stride,
          product_lt 13 3 {a = x} {b = ink.target.bytes} hx (omega (arith, colour.small.bytes)),
        )

    -- what an address there says
    pub place-said : pair_at ink x y % 2 ^ 32 ≡ byte_of ink.target x y 0
    place-said = either ink.forced (λ e. rw e (omega (arith, close-low))) (λ e. rw e (omega (arith, close-low)))

    pub column-said : pair_at ink x y / 2 ^ 32 % 8 ≡ pattern_column ink x
    column-said = either ink.forced (λ e. rw e (omega (arith, close-low))) (λ e. rw e (omega (arith, close-low)))

    pub row-said : pair_at ink x y / 2 ^ 46 % 8 ≡ pattern_row ink y
    row-said = either ink.forced (λ e. rw e (omega (arith, close-low))) (λ e. rw e (omega (arith, close-low)))

    pair_lt : pair_at ink x y < 2 ^ 60
    pair_lt = either ink.forced (λ e. rw e (omega (arith, close-low))) (λ e. rw e (omega (arith, close-low)))

  pub pair-low : Colour ink.target → Low (pair_of ink)
  pair-low colour x y hx hy = omega (arith, pair-address x y, pair_lt colour x y hx hy)

-- ---- what a point is given
fore-mixed : (ink : Ink) (p old : ℕ) → ink.dst_key ≡ false → some (rop_bits 32 ink.rop0 p ink.fore old) ≡ mixed ink p (bit_source ink 1) old
unfolding mixed bit_source chosen
fore-mixed ink p old keyless = either ink.clear (λ e. rw (e, keyless)) (λ e. rw (e, keyless))

pub point-given : (ink : Ink) (pattern : List ℕ) (n z x y old v : ℕ) (flip : Bool) → ink.dst_key ≡ false → ink.mono ≡ false → n ≡ ink.target.bytes
    → (z / 2 ^ 32 % 8 ≡ pattern_column ink x) × (z / 2 ^ 46 % 8 ≡ pattern_row ink y) → (flip ≡ true → flips ink.rop0 ≡ true) → old < 2 ^ 32
    → v ≡ quad_made flip (quad_of ink.rop0 ink.fore) (pattern_pixel n pattern (z / 2 ^ 32 % 8) (z / 2 ^ 46 % 8)) old
    → some v ≡ mixed ink (pattern_value ink pattern x y) (bit_source ink 1) old
unfolding pattern_in
point-given ink pattern n z x y old v flip keyless colour bytes said can h e =
    let seen : pattern_pixel n pattern (z / 2 ^ 32 % 8) (z / 2 ^ 46 % 8) ≡ pattern_value ink pattern x y =
    ap₂ (pattern_pixel n pattern) said.0 said.1 ∙ ap (λ (b : ℕ). pattern_pixel b pattern (pattern_column ink x) (pattern_row ink y)) bytes ∙ rw colour in
    ap some (e ∙ quad-makes flip ink.rop0 (pattern_pixel n pattern (z / 2 ^ 32 % 8) (z / 2 ^ 46 % 8)) ink.fore old can h ∙ ap (λ (p : ℕ). rop_bits 32 ink.rop0 p ink.fore old) seen)
    ∙ fore-mixed ink (pattern_value ink pattern x y) old keyless

-- ---- one point, and the others
module _ (ink : Ink) (pattern : List ℕ) (l : Line) (i e : ℕ) where
  pub mix-left : i < e → mix_touches ink pattern (points_from l i (e - i)) ≡ mix_touches ink pattern (point_at l i ∷ []) ++ mix_touches ink pattern (points_from l (i + 1) (e - (i + 1)))
  mix-left h = ap (mix_touches ink pattern) (from_cons l i e h)

  pub mix-none : e ≤ i → mix_touches ink pattern (points_from l i (e - i)) ≡ []
  mix-none h = ap (mix_touches ink pattern) (from-none l i e h)

-- ---- what is worked out before
pub no-flip : (b : Bool) → false ≡ true → b ≡ true
no-flip true e = refl
no-flip false e = e

module _ (ink : Ink) (l : Line) (t : Track) (e : t ≡ track_of ink l) where
  pub track-mixing : {len : ℕ} {flip : Bool} → Mixable ink len l → (flip ≡ true → flips ink.rop0 ≡ true) → Mixing len t.ink.target.bytes flip t
  unfolding track_of
  track-mixing {len} {flip} can flipping =
      subst⁻¹ (λ (u : Track). Mixing len u.ink.target.bytes flip u) e (record { mixable = can; bytes = refl; flipping = flipping; worked = refl })

  pub track-drawn : (pattern m : List ℕ)
      → paint t.ink.target (mix_touches t.ink pattern (points t.line)) (state m 0 0) ≡ paint ink.target (mix_touches ink pattern (points l)) (state m 0 0)
  unfolding track_of
  track-drawn pattern m = ap (λ (u : Track). paint u.ink.target (mix_touches u.ink pattern (points u.line)) (state m 0 0)) e

-- ---- when a line is walked so
module _ (ink : Ink) (c : Clip) (l : Line) (pen : Pen) (can : mixes ink c l pen ≡ true) where
  five : ((((not ink.dst_key && not ink.mono) && not pen.stippled) && in_clip c l.x0 l.y0) && in_clip c l.x1 l.y1) ≡ true
  five = and_left _ (not ink.target.tiled) can

  four : (((not ink.dst_key && not ink.mono) && not pen.stippled) && in_clip c l.x0 l.y0) ≡ true
  four = and_left _ (in_clip c l.x1 l.y1) five

  three : ((not ink.dst_key && not ink.mono) && not pen.stippled) ≡ true
  three = and_left _ (in_clip c l.x0 l.y0) four

  two : (not ink.dst_key && not ink.mono) ≡ true
  two = and_left _ (not pen.stippled) three

  pub mix-from : in_clip c l.x0 l.y0 ≡ true
  mix-from = and_right ((not ink.dst_key && not ink.mono) && not pen.stippled) _ four

  pub mix-to : in_clip c l.x1 l.y1 ≡ true
  mix-to = and_right (((not ink.dst_key && not ink.mono) && not pen.stippled) && in_clip c l.x0 l.y0) _ five

  pub mix-solid : pen.stippled ≡ false
  mix-solid = not-true pen.stippled (and_right (not ink.dst_key && not ink.mono) _ three)

  pub mixable : {len : ℕ} → Drawable ink.target len c l → Mixable ink len l
  mixable h = record {
    walkable = inside-walkable c l mix-from mix-to ink.target 0 (not-true ink.target.tiled (and_right ((((not ink.dst_key && not ink.mono) && not pen.stippled) && in_clip c l.x0 l.y0) && in_clip c l.x1 l.y1) _ can)) refl h;
    keyless = not-true ink.dst_key (and_left _ (not ink.mono) two);
    colour = not-true ink.mono (and_right (not ink.dst_key) _ two);
  }
