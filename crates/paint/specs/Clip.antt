-- The clip, and positions as registers have them, counted from the origin; a pixel inside the clip is counted from 0 again.
-- Assumes nothing.
use Rattle.std.specs.Prelude.{Bool, ◌&&◌, ℕ, ◌+◌, ◌-◌, leb, ltb}
use Rattle.surface.specs.Pixels.{Px, px, origin}
use Rattle.paint.specs.declared.Clip.{Clip}

-- min included, max excluded
unfoldable pub in_clip : Clip → ℕ → ℕ → Bool
in_clip c x y = (leb (origin + c.left) x && ltb x (origin + c.right)) && (leb (origin + c.top) y && ltb y (origin + c.bottom))

-- the pixel at a position inside the clip
abbrev pub pixel_at : ℕ → ℕ → Px
pixel_at x y = px (x - origin) (y - origin)
