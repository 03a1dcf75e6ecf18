-- `strokes::mix_points` meets its contract: what the points that are left do from now on is what all of them do from the start, and the walk is at the next of them.
-- Assumes nothing.
use Rattle.std.proofs.Common.{◌≡◌, ℕ, ◌+◌, ◌-◌, ◌/◌, ◌%◌, ◌^◌, ◌<◌, Bool, not, eqb, [], ◌∷◌, sym, refl, ap, ◌∙◌, ap₂, arith}
use mathlib.Core.Path.{subst⁻¹}
use mathlib.Core.Option.{Option, some}
use Rattle.surface.specs.Place.{byte_of, read_bytes}
use Rattle.surface.specs.Pixels.{origin}
use Rattle.surface.specs.Asked.{Held}
use Rattle.surface.proofs.Run.{in-rows, pixel-held, read-run}
use Rattle.raster.specs.declared.Quad.{Quad}
use Rattle.raster.specs.Masks.{quad_of, quad_made}
use Rattle.ink.specs.Pattern.{pattern_column, pattern_row, pattern_value}
use Rattle.paint.specs.Paint.{tallied, dab, dab_at, paint}
use Rattle.paint.specs.Mix.{bit_source, mixed}
use Rattle.paint.specs.Clip.{pixel_at}
use Rattle.paint.proofs.Tallies.{room-first}
use Rattle.paint.proofs.Turns.{dab-at}
use Rattle.paint.proofs.Loops.{left-begins, left-takes, left_ended}
use Rattle.line.specs.Line.{point_at, point_count}
use Rattle.line.proofs.Sides.{count-le, longer-lt}
use Rattle.line.proofs.PointLaws.{point-box, from_start}
use Rattle.strokes.specs.declared.Walk.{Walk}
use Rattle.strokes.specs.declared.Track.{Track}
use Rattle.strokes.specs.Walk.{steps_of, AtPoint}
use Rattle.strokes.specs.Asked.{Mixing}
use Rattle.strokes.specs.Mixed.{pair_of, pair_at, track_of, mix_touches}
use Rattle.strokes.proofs.WalkLaws.{steps-small, walk_start, walk-next}
use Rattle.strokes.proofs.MixedLaws.{pair-address, pair-low, place-said, column-said, row-said, point-given, mix-left, mix-none}
use Rattle.strokes.proofs.mix_points.Goals as goal

-- what was worked out before, and what an address says
module _ {len n : ℕ} {flip : Bool} {t : Track} (p : Mixing len n flip t) where
  count : t.total ≡ point_count t.line
  unfolding track_of
  count = ap (λ (u : Track). u.total) p.worked

  course : t.steps ≡ steps_of (pair_of t.ink).bytes (pair_of t.ink).stride t.line
  unfolding track_of
  course = ap (λ (u : Track). u.steps) p.worked

  four : t.quad ≡ quad_of t.ink.rop0 t.ink.fore
  unfolding track_of
  four = ap (λ (u : Track). u.quad) p.worked

  module _ (i : ℕ) (h : i < point_count t.line) (w : Walk) (at : AtPoint (pair_of t.ink) t.line i w) where
    abbrev x : ℕ
    x = (point_at t.line i).x - origin

    abbrev y : ℕ
    y = (point_at t.line i).y - origin

    near-x : x < 8192
    near-x = let b = point-box t.line i (omega (arith, count-le t.line)) in omega (arith, b.x.high, p.mixable.walkable.ahead.line.x0, p.mixable.walkable.ahead.line.x1)

    near-y : y < 8192
    near-y = let b = point-box t.line i (omega (arith, count-le t.line)) in omega (arith, b.y.high, p.mixable.walkable.ahead.line.y0, p.mixable.walkable.ahead.line.y1)

    both : w.at ≡ pair_at t.ink x y
    both = at.at ∙ pair-address t.ink p.mixable.walkable.flat x y

    place : w.at % 2 ^ 32 ≡ byte_of t.ink.target x y 0
    place = ap (λ (z : ℕ). z % 2 ^ 32) both ∙ place-said t.ink p.mixable.walkable.flat p.mixable.walkable.surface x y near-x near-y

    cell : (w.at / 2 ^ 32 % 8 ≡ pattern_column t.ink x) × (w.at / 2 ^ 46 % 8 ≡ pattern_row t.ink y)
    cell = (
      ap (λ (z : ℕ). z / 2 ^ 32 % 8) both ∙ column-said t.ink p.mixable.walkable.flat p.mixable.walkable.surface x y near-x near-y,
      ap (λ (z : ℕ). z / 2 ^ 46 % 8) both ∙ row-said t.ink p.mixable.walkable.flat p.mixable.walkable.surface x y near-x near-y,
    )

    -- its bytes are in memory
    held : {long : ℕ} → long ≡ len → Held (w.at % 2 ^ 32) n long
    held e = rw (e, p.bytes) (pixel-held (in-rows p.mixable.walkable.flat) (record { colour = p.mixable.walkable.surface; on = p.mixable.walkable.on i h }) (w.at % 2 ^ 32) place)

pub loop-i-init : goal.loop-i-init
unfolding track_of
loop-i-init g c =
    let a = c.args in (
      left-begins (ap (mix_touches a.track.ink a.pattern.now) (from_start a.track.line (point_count a.track.line) refl)),
      (λ h. subst⁻¹ (λ (u : Track). AtPoint (pair_of a.track.ink) a.track.line 0 u.walk) c.requires.worked (walk_start _ _ _ _ (sym (pair-address a.track.ink c.requires.mixable.walkable.flat _ _)) refl)),
    )

pub get_bytes-old-requires : goal.get_bytes-old-requires
get_bytes-old-requires g c =
    let h : c.loop-i._i < point_count c.args.track.line = omega (arith, count c.requires) in
    held c.requires c.loop-i._i h c.loop-i.w (c.loop-i.invariant.1 h) c.loop-i.invariant.0.long

pub cell_of-p-requires : goal.cell_of-p-requires
cell_of-p-requires g c =
    let p = c.requires in
    (omega (arith, p.bytes, p.mixable.walkable.surface.some), omega (arith, p.bytes, p.mixable.walkable.surface.small.bytes))

pub put_value_at-tally-requires : goal.put_value_at-tally-requires
put_value_at-tally-requires g c =
    let h : c.loop-i._i < point_count c.args.track.line = omega (arith, count c.requires) in (
      held c.requires c.loop-i._i h c.loop-i.w (c.loop-i.invariant.1 h) c.loop-i.invariant.0.long,
      room-first c.loop-i.invariant.0.upto (omega (arith, longer-lt c.requires.mixable.walkable.ahead.line, count-le c.args.track.line)),
    )

pub walk_on-w-requires : goal.walk_on-w-requires
walk_on-w-requires g c = rw (course c.requires) (steps-small _ _ c.args.track.line c.requires.mixable.walkable.ahead.line)

pub loop-i-preserved : goal.loop-i-preserved
unfolding paint
loop-i-preserved g c =
    let a = c.args in
    let k = c.loop-i in
    let s = a.track.ink.target in
    let l = a.track.line in
    let p = c.requires in
    let flip = not (eqb g.row.FLIP 0) in
    let w = p.mixable.walkable in
    let h : k._i < point_count c.args.track.line = omega (arith, count c.requires) in
    let at = k.invariant.1 h in
    let q = point_at l k._i in
    let here = place p k._i h k.w at in
    let old = c.get_bytes-old.ensures ∙ ap (read_bytes k.mem (λ j. k.w.at % 2 ^ 32 + j) 0) p.bytes ∙ read-run s (in-rows w.flat) (q.x - origin) (q.y - origin) _ here k.mem in
    let value = c.by_quad-v.ensures ∙ ap₂ (λ (f : Quad) (o : ℕ). quad_made flip f o c.get_bytes-old.result) (four p) c.cell_of-p.ensures in
    let put = c.put_value_at-tally.ensures
    ∙ ap (λ (n : ℕ). dab_at (k.w.at % 2 ^ 32) n (some c.by_quad-v.result) (tallied k.mem k.tally)) p.bytes
    ∙ dab-at s (in-rows w.flat) (pixel_at q.x q.y) _ (some c.by_quad-v.result) (tallied k.mem k.tally) here
    ∙ ap (λ (o : Option ℕ). dab s (pixel_at q.x q.y) o (tallied k.mem k.tally))
    (point-given a.track.ink a.pattern.now g.row.N k.w.at (q.x - origin) (q.y - origin) _ _ flip p.mixable.keyless p.mixable.colour p.bytes (cell p k._i h k.w at) p.flipping c.get_bytes-old.type_inv value
    ∙ ap (λ (o : ℕ). mixed a.track.ink (pattern_value a.track.ink a.pattern.now (q.x - origin) (q.y - origin)) (bit_source a.track.ink 1) o) old) in (
      left-takes k.invariant.0 (mix_touches a.track.ink a.pattern.now (q ∷ [])) (mix-left a.track.ink a.pattern.now l k._i (point_count l) h) (omega arith) put,
      (λ g. rw (c.walk_on-w.ensures, course p) (walk-next (pair_of a.track.ink) refl (pair-low a.track.ink w.flat w.surface) l w.ahead k._i (omega (arith, count-le l)) k.w at)),
    )

pub shape_of-mem : goal.shape_of-mem
shape_of-mem g c = c.loop-i.invariant.0.long

pub returns : goal.returns
returns g c =
    let a = c.args in
    left_ended c.loop-i.invariant.0 (mix-none a.track.ink a.pattern.now a.track.line c.loop-i._i (point_count a.track.line) (omega (arith, count c.requires)))
