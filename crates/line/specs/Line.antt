-- The points of a line, in the order in which they are drawn. Positions are counted from the origin at 16384.
-- Assumes nothing.
use Rattle.std.specs.Prelude.{Bool, false, cond, List, [], ◌∷◌, ℕ, zero, suc, ◌+◌, ◌-◌, ◌*◌, ◌/◌, leb}
use Rattle.surface.specs.Pixels.{origin}
use Rattle.line.specs.declared.Point.{Point}
use Rattle.line.specs.declared.Line.{Line}

abbrev pub point : ℕ → ℕ → Point
point x y = record { x = x; y = y }

-- the distance of two positions: one of the differences is 0
unfoldable pub far : ℕ → ℕ → ℕ
far a b = a - b + (b - a)

-- k steps from a towards b
unfoldable pub towards : ℕ → ℕ → ℕ → ℕ
towards a b k = cond (leb a b) (a + k) (a - k)

abbrev pub dx : Line → ℕ
dx l = far l.x0 l.x1

abbrev pub dy : Line → ℕ
dy l = far l.y0 l.y1

-- x is major when equal
unfoldable pub x_major : Line → Bool
x_major l = leb (dy l) (dx l)

-- n and m, the larger and the smaller of the two distances
unfoldable pub longer : Line → ℕ
longer l = cond (x_major l) (dx l) (dy l)

unfoldable pub shorter : Line → ℕ
shorter l = cond (x_major l) (dy l) (dx l)

-- the steps along the minor axis at point i: floor((2im + n) / 2n), and 0 where n is 0
unfoldable pub aside : ℕ → ℕ → ℕ → ℕ
aside n m i = (2 * i * m + n) / (2 * n)

-- the point a steps along the major axis and b along the minor
unfoldable pub place : Line → ℕ → ℕ → Point
place l a b =
    cond (x_major l)
    (point (towards l.x0 l.x1 a) (towards l.y0 l.y1 b))
    (point (towards l.x0 l.x1 b) (towards l.y0 l.y1 a))

unfoldable pub point_at : Line → ℕ → Point
point_at l i = place l i (aside (longer l) (shorter l) i)

-- points i, i + 1, .., k of them
unfoldable pub points_from : Line → ℕ → ℕ → List Point
points_from l i zero = []
points_from l i (suc k) = point_at l i ∷ points_from l (i + 1) k

-- a line has the points 0 .. n, a polyline leaves out point n
unfoldable pub point_count : Line → ℕ
point_count l = cond l.poly (longer l) (longer l + 1)

unfoldable pub points : Line → List Point
points l = points_from l 0 (point_count l)

-- ---- for the sample sheet

-- the line from (x, y) to (x', y')
abbrev pub line_from : ℕ → ℕ → ℕ → ℕ → Line
line_from x y x' y' = record { x0 = origin + x; y0 = origin + y; x1 = origin + x'; y1 = origin + y'; poly = false }

-- x and y of each point in turn
abbrev pub flat : List Point → List ℕ
flat [] = []
flat (p ∷ ps) = (p.x - origin) ∷ (p.y - origin) ∷ flat ps
