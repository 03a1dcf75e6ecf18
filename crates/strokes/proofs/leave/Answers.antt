-- `strokes::leave` meets its contract: along the major axis, or where it was sought.
-- Assumes nothing.
use Rattle.std.proofs.Common.{◌≡◌, ℕ, ◌+◌, ◌-◌, ◌<◌, ◌≤◌, min, Bool, true, false, cond, leb, sym, refl, ap, ◌∙◌, subst, ap₂, arith}
use Rattle.paint.specs.declared.Clip.{Clip}
use Rattle.paint.specs.Clip.{in_clip}
use Rattle.paint.proofs.ClipLaws.{Covered, in-clip}
use Rattle.line.specs.declared.Line.{Line}
use Rattle.line.specs.declared.Point.{Point}
use Rattle.line.specs.Line.{longer, shorter, place, point_at}
use Rattle.line.proofs.Sides.{count-le, longer-lt}
use Rattle.line.proofs.TreadLaws.{OnWay, way-placed, way-point}
use Rattle.strokes.specs.declared.Spot.{Spot}
use Rattle.strokes.specs.Asked.{Entered}
use Rattle.strokes.proofs.PartLaws.{leaves-x, leaves-y, leaves-sought}
use Rattle.strokes.proofs.leave.Goals as goal

-- few steps lead out
room_small : (up : Bool) (low high p : ℕ) → 16384 + low ≤ p → p < 16384 + high → high < 4096 → cond up (16384 + high - p) (p + 1 - (16384 + low)) < 65536
room_small true low high p a b h = omega arith
room_small false low high p a b h = omega arith

-- the point that is left from
module _ {c : Clip} {l : Line} {from : Spot} (e : Entered c l from) where
  way : OnWay l (longer l) (shorter l) from.at from.tread
  way = record { long = refl; short = refl; upto = omega (arith, count-le l, e.before); at = e.spot.walk e.before }

  here : {p : Point} → p ≡ place l from.at from.tread.aside → p ≡ point_at l from.at
  here = way-point way

  covered : {p : Point} → p ≡ place l from.at from.tread.aside → Covered c p.x p.y
  covered q = subst (λ (p : Point). Covered c p.x p.y) (sym (here q)) (in-clip c _ _ e.inside)

pub place_point-p-requires : goal.place_point-p-requires
place_point-p-requires c = way-placed (way c.requires.2)

pub room-requires : goal.room-requires
room-requires c = let k = covered c.requires.2 c.place_point-p.ensures in (k.left, k.right, omega (arith, c.requires.1))

pub overflow_add-from : goal.overflow_add-from
overflow_add-from c = let k = covered c.requires.2 c.place_point-p.ensures in
    omega (arith, c.room.ensures, room_small (leb c.args.l.x0 c.args.l.x1) c.args.c.left c.args.c.right c.place_point-p.result.x k.left k.right (omega (arith, c.requires.1)), c.requires.2.before, count-le c.args.l, longer-lt c.requires.0)

pub returns-then-covers : goal.returns-then-covers
returns-then-covers c =
    let a = c.args in
    let at = here c.requires.2 c.place_point-p.ensures in
    leaves-x a.c a.l a.from c.requires.2 (sym c.x_major.ensures ∙ c.if-x_major.true) (ap (λ (p : Point). in_clip a.c p.x a.l.y1) (sym at) ∙ sym c.covers.ensures ∙ c.if-covers.true) _
    (c.min.ensures ∙ ap₂ (λ (t r : ℕ). min t (a.from.at + r)) c.point_count-total.ensures (c.room.ensures ∙ ap (λ (p : Point). cond (leb a.l.x0 a.l.x1) (16384 + a.c.right - p.x) (p.x + 1 - (16384 + a.c.left))) at))

pub room-requires-then-covers-2 : goal.room-requires-then-covers-2
room-requires-then-covers-2 c = let k = covered c.requires.2 c.place_point-p.ensures in (k.top, k.bottom, omega (arith, c.requires.1))

pub overflow_add-from-then-covers-2 : goal.overflow_add-from-then-covers-2
overflow_add-from-then-covers-2 c = let k = covered c.requires.2 c.place_point-p.ensures in
    omega (arith, c.room-then-covers-2.ensures, room_small (leb c.args.l.y0 c.args.l.y1) c.args.c.top c.args.c.bottom c.place_point-p.result.y k.top k.bottom (omega (arith, c.requires.1)), c.requires.2.before, count-le c.args.l, longer-lt c.requires.0)

pub returns-then-covers-2 : goal.returns-then-covers-2
returns-then-covers-2 c =
    let a = c.args in
    let at = here c.requires.2 c.place_point-p.ensures in
    leaves-y a.c a.l a.from c.requires.2 (sym c.x_major.ensures ∙ c.if-x_major.false) (ap (λ (p : Point). in_clip a.c a.l.x1 p.y) (sym at) ∙ sym c.covers-else-x_major.ensures ∙ c.if-covers-2.true) _
    (c.min-then-covers-2.ensures ∙ ap₂ (λ (t r : ℕ). min t (a.from.at + r)) c.point_count-total.ensures (c.room-then-covers-2.ensures ∙ ap (λ (p : Point). cond (leb a.l.y0 a.l.y1) (16384 + a.c.bottom - p.y) (p.y + 1 - (16384 + a.c.top))) at))

pub seek-requires : goal.seek-requires
seek-requires c = (c.requires.0, c.requires.1, c.requires.2.spot)

pub returns : goal.returns
returns c = leaves-sought c.args.c c.args.l c.args.from c.requires.2 c.seek.ensures
