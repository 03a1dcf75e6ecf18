-- The rectangle of a line: it holds every covered point, and stays close to the origin.
-- Assumes nothing.
use Prim.Native.Nat.{ℕ, ◌+◌, ◌-◌, ◌^◌, ◌<◌, ◌≤◌, min, max}
use native.Mathlib.Omega.{arith}
use Rattle.surface.specs.Pixels.{Px, Inside, origin}
use Rattle.surface.proofs.Lists.{In}
use Rattle.paint.specs.declared.Clip.{Clip}
use Rattle.paint.specs.Asked.{Bits12}
use Rattle.paint.proofs.ClipLaws.{in-clip}
use Rattle.line.specs.declared.Line.{Line}
use Rattle.line.specs.Line.{points}
use Rattle.line.specs.Draw.{covered_points}
use Rattle.line.specs.Asked.{Placed}
use Rattle.line.proofs.PointLaws.{points-in-box}
use Rattle.line.proofs.DrawLaws.{covered-each}
use Rattle.dots.specs.Dots.{box_low, box_size, line_box}

-- ---- on one axis

-- a place from `low` up to, and without, `end`, counted from the origin
between : (low end p : ℕ) → origin ≤ low → low ≤ p → p < end → (low - origin ≤ p - origin) × (p - origin < low - origin + (end - low))
between low end p o h k = (omega arith, omega arith)

axis-holds : (least most a b p : ℕ) → min a b ≤ p → p ≤ max a b → origin + least ≤ p → p < origin + most
    → (box_low least a b - origin ≤ p - origin) × (p - origin < box_low least a b - origin + box_size least most a b)
axis-holds least most a b p low high first end =
    between (box_low least a b) (min (max a b + 1) (origin + most)) p (omega arith) (omega arith) (omega arith)

-- ---- on both

pub box-holds : (l : Line) (c : Clip) (p : Px) → In p (covered_points c (points l)) → Inside (line_box l c).x (line_box l c).y (line_box l c).w (line_box l c).h p
unfolding line_box
box-holds l c =
    covered-each (λ p. Inside (line_box l c).x (line_box l c).y (line_box l c).w (line_box l c).h p) c (points l) (λ q m e.
    let k = in-clip c q.x q.y e in
    let b = points-in-box l q m in
    let x = axis-holds c.left c.right l.x0 l.x1 q.x b.x.low b.x.high k.left k.right in
    let y = axis-holds c.top c.bottom l.y0 l.y1 q.y b.y.low b.y.high k.top k.bottom in
    record { left = x.0; right = x.1; top = y.0; bottom = y.1 })

pub box-sized : {l : Line} {c : Clip} → Placed l → Bits12 c → ((line_box l c).x + (line_box l c).w ≤ 2 ^ 13) × ((line_box l c).y + (line_box l c).h ≤ 2 ^ 13)
unfolding line_box
box-sized placed bits = (omega arith, omega arith)
