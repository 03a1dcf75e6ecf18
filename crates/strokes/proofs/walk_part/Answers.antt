-- `strokes::walk_part` meets its contract: what the points that are left do from now on is what all of them do from the start, and the walk is at the next of them.
-- Assumes nothing.
use Rattle.std.proofs.Common.{◌≡◌, ℕ, ◌+◌, ◌-◌, ◌<◌, ◌≤◌, [], ◌∷◌, sym, refl, ap, ◌∙◌, subst, arith}
use mathlib.Core.Option.{some}
use Rattle.surface.specs.Place.{byte_of}
use Rattle.surface.specs.Pixels.{origin}
use Rattle.surface.proofs.Run.{in-rows, pixel-held}
use Rattle.paint.specs.Paint.{tallied, paint}
use Rattle.paint.specs.Clip.{pixel_at}
use Rattle.paint.proofs.Tallies.{room-first}
use Rattle.paint.proofs.Turns.{dab-at}
use Rattle.paint.proofs.Loops.{left-begins, left-takes, left_ended}
use Rattle.surface.specs.declared.Surface.{Surface}
use Rattle.line.specs.declared.Point.{Point}
use Rattle.line.specs.Line.{longer, shorter, place, point_at}
use Rattle.line.proofs.Sides.{count-le, longer-lt}
use Rattle.line.proofs.TreadLaws.{OnWay, way-placed, way-point}
use Rattle.line.proofs.PointLaws.{InBox, point-box}
use Rattle.strokes.specs.declared.Part.{Part}
use Rattle.strokes.specs.Walk.{plain_touches}
use Rattle.strokes.specs.Asked.{PartOn}
use Rattle.strokes.proofs.WalkLaws.{Shown, small_low, steps-small, step-next}
use Rattle.strokes.proofs.WalkDraw.{plain-left, plain-none}
use Rattle.strokes.proofs.walk_part.Goals as goal

-- where it begins
module _ {s : Surface} {len : ℕ} {part : Part} (p : PartOn s len part) where
  way : OnWay part.line (longer part.line) (shorter part.line) part.from.at part.from.tread
  way = record { long = refl; short = refl; upto = p.first; at = p.walk }

  begin : {q : Point} → q ≡ place part.line part.from.at part.from.tread.aside → point_at part.line part.from.at ≡ q
  begin e = sym (way-point way e)

  begin-shown : {q : Point} → q ≡ place part.line part.from.at part.from.tread.aside → (origin ≤ q.x) × (origin ≤ q.y)
  begin-shown e = subst (λ (r : Point). (origin ≤ r.x) × (origin ≤ r.y)) (begin e) p.start

  begin-box : {q : Point} → q ≡ place part.line part.from.at part.from.tread.aside → InBox part.line q
  begin-box e = subst (InBox part.line) (begin e) (point-box part.line part.from.at p.first)

pub steps_of-t-requires : goal.steps_of-t-requires
steps_of-t-requires g c = c.requires.line

pub place_point-p-requires : goal.place_point-p-requires
place_point-p-requires g c = way-placed (way c.requires)

pub overflow_sub-p : goal.overflow_sub-p
overflow_sub-p g c = (begin-shown c.requires c.place_point-p.ensures).0

pub overflow_sub-p-2 : goal.overflow_sub-p-2
overflow_sub-p-2 g c = (begin-shown c.requires c.place_point-p.ensures).1

pub close_byte-requires : goal.close_byte-requires
close_byte-requires g c =
    let b = begin-box c.requires c.place_point-p.ensures in
    let l = c.requires.line in
    (c.requires.surface, c.requires.surface.some, omega (arith, b.x.high, l.x0, l.x1), omega (arith, b.y.high, l.y0, l.y1))

pub loop-i-init : goal.loop-i-init
loop-i-init g c =
    let a = c.args in (
      left-begins refl,
      (λ h. record { at = c.close_byte.ensures ∙ ap (λ (p : Point). byte_of a.ink.target (p.x - origin) (p.y - origin) 0) (sym (begin c.requires c.place_point-p.ensures)); rest = c.requires.walk.rest }),
    )

pub put_value_at-tally-requires : goal.put_value_at-tally-requires
put_value_at-tally-requires g c =
    let h : c.loop-i._i < c.args.part.past = omega arith in (
      rw c.loop-i.invariant.0.long (pixel-held (in-rows c.requires.flat) (record { colour = c.requires.surface; on = c.requires.on c.loop-i._i (omega arith) h }) _ (c.loop-i.invariant.1 h).at),
      room-first c.loop-i.invariant.0.upto (omega (arith, longer-lt c.requires.line, count-le c.args.part.line, c.requires.upto)),
    )

pub walk_on-w-requires : goal.walk_on-w-requires
walk_on-w-requires g c = rw c.steps_of-t.ensures (steps-small _ _ c.args.part.line c.requires.line)

pub loop-i-preserved : goal.loop-i-preserved
unfolding paint
loop-i-preserved g c =
    let a = c.args in
    let pre = c.requires in
    let k = c.loop-i in
    let s = a.ink.target in
    let l = a.part.line in
    let h : k._i < a.part.past = omega arith in
    let at = k.invariant.1 h in
    let q = point_at l k._i in
    let shown : (i : ℕ) → a.part.from.at ≤ i → i < a.part.past → Shown (point_at l i) = λ i g f. let o = pre.near i g f in record { x = o.0; y = o.1 } in (
      left-takes k.invariant.0 (plain_touches a.ink.fore (q ∷ [])) (plain-left a.ink.fore l k._i a.part.past h) (omega arith)
          (c.put_value_at-tally.ensures ∙ dab-at s (in-rows pre.flat) (pixel_at q.x q.y) _ (some a.ink.fore) (tallied k.mem k.tally) at.at),
      (λ g. rw (c.walk_on-w.ensures, c.steps_of-t.ensures) (step-next s pre.flat (small_low pre.surface.small) l pre.line k._i (omega (arith, count-le l, pre.upto)) (shown k._i (omega arith) h) (shown (k._i + 1) (omega arith) g) k.w at)),
    )

pub shape_of-mem : goal.shape_of-mem
shape_of-mem g c = c.loop-i.invariant.0.long

pub returns : goal.returns
returns g c = left_ended c.loop-i.invariant.0 (plain-none c.args.ink.fore c.args.part.line c.loop-i._i c.args.part.past (omega arith))
