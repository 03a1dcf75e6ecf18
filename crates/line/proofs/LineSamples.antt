-- The samples of lines and of the stipple, computed.
-- Assumes nothing.
use mathlib.Core.Path.{◌≡◌, refl}
use mathlib.Core.Bool.{true}
use mathlib.Core.List.{[], ◌∷◌, map}
use Prim.Native.Nat.{ℕ}
use Rattle.line.specs.Line.{far, towards, x_major, longer, shorter, aside, place, point_at, points_from, point_count, points, line_from, flat}
use Rattle.line.specs.Stipple.{stepped, after, style_after}

-- (0, 0) to (3, 1), (0, 0) to (2, 1), and back
pub lines-drawn : map (λ l. flat (points l)) (line_from 0 0 3 1 ∷ line_from 0 0 2 1 ∷ line_from 2 1 0 0 ∷ [])
    ≡ (0 ∷ 0 ∷ 1 ∷ 0 ∷ 2 ∷ 1 ∷ 3 ∷ 1 ∷ []) ∷ (0 ∷ 0 ∷ 1 ∷ 1 ∷ 2 ∷ 1 ∷ []) ∷ (2 ∷ 1 ∷ 1 ∷ 0 ∷ 0 ∷ 0 ∷ []) ∷ []
unfolding far towards x_major longer shorter aside place point_at points_from point_count points
lines-drawn = refl

-- three points after 00000101
pub style-stepped : (stipple : ℕ) → style_after (record { stipple = stipple; stippled = true }) 3 0x00000101 ≡ 0x01010101
unfolding stepped after style_after
style-stepped stipple = refl
