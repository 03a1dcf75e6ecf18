-- No point of a line comes twice, and no pixel that it covers does: where no point of a list comes twice, none of its covered pixels does.
-- Assumes nothing.
use mathlib.Core.Path.{◌≡◌, sym, ap, ◌∙◌}
use mathlib.Core.Bool.{true}
use mathlib.Core.List.Memᴰ
use mathlib.Core.List.{List, [], ◌∷◌, map}
use Prim.Native.Nat.{ℕ, zero, suc, ◌+◌, ◌-◌, ◌≤◌}
use native.Mathlib.Omega.{arith}
use Rattle.surface.specs.Pixels.{Px, px, origin}
use Rattle.surface.proofs.Rects.{Distinct, same-px}
use Rattle.paint.specs.declared.Clip.{Clip}
use Rattle.paint.specs.Clip.{in_clip, pixel_at}
use Rattle.paint.proofs.ClipLaws.{in-clip}
use Rattle.line.specs.declared.Point.{Point}
use Rattle.line.specs.declared.Line.{Line}
use Rattle.line.specs.Line.{longer, point_at, points_from, point_count, points}
use Rattle.line.specs.Draw.{covered_points}
use Rattle.line.proofs.Sides.{either, count-le}
use Rattle.line.proofs.PointLaws.{from_each, points-differ, same_point}
use Rattle.line.proofs.DrawLaws.{covered-each}

-- a point's two positions
abbrev pub spot : Point → Px
spot p = px p.x p.y

-- ---- the points of a line
same_spot : (p q : Point) → spot p ≡ spot q → p ≡ q
same_spot p q e = same_point p q (ap (λ (r : Px). r.x) e) (ap (λ (r : Px). r.y) e)

from-distinct : (l : Line) (i k : ℕ) → i + k ≤ longer l + 1 → Distinct (map spot (points_from l i k))
unfolding points_from
from-distinct l i zero h = tt
from-distinct l i (suc k) h = (
  λ q m e.
      let r = Memᴰ.of_map spot (points_from l (i + 1) k) m in
      from_each (λ p. spot (point_at l i) ≡ spot p → ⊥) l (i + 1) k
      (λ j a b s. let t = points-differ l i j (omega arith) (omega arith) (same_spot (point_at l i) (point_at l j) s) in omega arith) r.0 r.1 (e ∙ sym r.2),
  from-distinct l (i + 1) k (omega arith),
)

pub points-distinct : (l : Line) → Distinct (map spot (points l))
unfolding points
points-distinct l = from-distinct l 0 (point_count l) (omega (arith, count-le l))

-- ---- those inside the clip, as pixels
same-pixel : (c : Clip) (p q : Point) → in_clip c p.x p.y ≡ true → in_clip c q.x q.y ≡ true
    → pixel_at p.x p.y ≡ pixel_at q.x q.y → spot p ≡ spot q
same-pixel c p q e f g =
    let a = in-clip c p.x p.y e in
    let b = in-clip c q.x q.y f in
    let x : p.x - origin ≡ q.x - origin = ap (λ (r : Px). r.x) g in
    let y : p.y - origin ≡ q.y - origin = ap (λ (r : Px). r.y) g in
    same-px (spot p) (spot q) (omega arith) (omega arith)

pub clipped-distinct : (c : Clip) (ps : List Point) → Distinct (map spot ps) → Distinct (covered_points c ps)
unfolding covered_points
clipped-distinct c [] d = tt
clipped-distinct c (p ∷ ps) d =
    let more = clipped-distinct c ps d.1 in
    either (in_clip c p.x p.y)
    (λ e. rw e (covered-each (λ q. pixel_at p.x p.y ≡ q → ⊥) c ps (λ r m f g. d.0 (spot r) (Memᴰ.map spot m) (same-pixel c p r e f g)), more))
    (λ e. rw e more)

pub covered-distinct : (c : Clip) (l : Line) → Distinct (covered_points c (points l))
covered-distinct c l = clipped-distinct c (points l) (points-distinct l)
