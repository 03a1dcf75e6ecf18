-- `strokes::stipple_points` meets its contract: what the points that are left do from now on is what all of them do from the start, and the walk is at the next of them.
-- Assumes nothing.
use Rattle.std.proofs.Common.{◌≡◌, ℕ, ◌-◌, ◌<◌, ◌≤◌, cond, eqb, eqb-true, List, [], ◌∷◌, sym, refl, ap, ◌∙◌, ap₂, arith}
use borrow.Author.Tests.{eq-eqb, ne_eqb}
use mathlib.Core.Option.{Option}
use Rattle.paint.specs.Paint.{tallied, dab_at, paint}
use Rattle.paint.specs.Mix.{bit_source, sourced}
use Rattle.paint.specs.Clip.{pixel_at}
use Rattle.surface.proofs.Run.{in-rows, pixel-held}
use Rattle.line.specs.declared.Point.{Point}
use Rattle.line.specs.Line.{point_at, point_count}
use Rattle.line.specs.Stipple.{stipple_bit, style_after}
use Rattle.strokes.specs.Walk.{walk_touches}
use Rattle.line.proofs.Sides.{count-le, longer-lt}
use Rattle.line.proofs.PointLaws.{from_start}
use Rattle.line.proofs.StippleLaws.{style-start, style-turn, style-done}
use Rattle.paint.proofs.Tallies.{room-first}
use Rattle.paint.proofs.Turns.{dab-at}
use Rattle.paint.proofs.Loops.{left-begins, left-takes, left_ended}
use Rattle.strokes.proofs.WalkLaws.{small_low, steps-small, walk_start, walk-next}
use Rattle.strokes.proofs.WalkDraw.{walk-left, walk_none, stipple-given}
use Rattle.strokes.proofs.stipple_points.Goals.{then-on, else-on}
use Rattle.strokes.proofs.stipple_points.Goals as goal

pub steps_of-t-requires : goal.steps_of-t-requires
steps_of-t-requires g c = c.requires.0.ahead.line

pub overflow_sub-l : goal.overflow_sub-l
overflow_sub-l g c = c.requires.0.ahead.left

pub overflow_sub-l-2 : goal.overflow_sub-l-2
overflow_sub-l-2 g c = c.requires.0.ahead.top

pub close_byte-requires : goal.close_byte-requires
close_byte-requires g c =
    let p = c.requires.0 in
    (p.surface, p.surface.some, omega (arith, p.ahead.line.x0), omega (arith, p.ahead.line.y0))

pub loop-i-init : goal.loop-i-init
loop-i-init g c =
    let a = c.args in
    let e = c.of-p.ensures ∙ eqb-true _ _ c.requires.0.fields in
    let n = point_count a.l in (
      left-begins (ap₂ (λ (u : ℕ) (ps : List Point). walk_touches a.ink a.pen u ps) e (from_start a.l n refl)),
      ap (style_after a.pen (n - 0)) e ∙ style-start a.pen n n a.style refl,
      (λ h. walk_start a.ink.target a.l _ _ c.close_byte.ensures c.long_side.ensures),
    )

pub point_count-i-end-requires : goal.point_count-i-end-requires
point_count-i-end-requires g c = c.requires.0.ahead.line

pub put_value_at-tally-requires : goal.put_value_at-tally-requires
put_value_at-tally-requires g c =
    let a = c.args in
    let p = c.requires.0 in
    let k = c.loop-i in
    let h : k._i < point_count a.l = omega arith in (
      rw (k.invariant.0.long, c.requires.1) (pixel-held (in-rows p.flat) (record { colour = p.surface; on = p.on k._i h }) _ (k.invariant.2 h).at),
      room-first k.invariant.0.upto (omega (arith, longer-lt p.ahead.line, count-le a.l)),
    )

pub walk_on-w-requires : goal.walk_on-w-requires
walk_on-w-requires g c = rw c.steps_of-t.ensures (steps-small _ _ c.args.l c.requires.0.ahead.line)

pub loop-i-preserved : goal.loop-i-preserved
unfolding paint walk_touches
loop-i-preserved g c =
    let a = c.args in
    let p = c.requires.0 in
    let k = c.loop-i in
    let s = a.ink.target in
    let h : k._i < point_count a.l = omega arith in
    let at = k.invariant.2 h in
    let q = point_at a.l k._i in
    let picked : c.if-on.v ≡ cond (eqb c.stipple_bit-on.result 1) a.ink.fore a.ink.back = elim c.if-on.branch [ then-on w ↦ rw (eq-eqb _ _ w.if-on.true) w.v-is | else-on w ↦ rw (ne_eqb _ _ w.if-on.false) w.v-is ] in
    let put = c.put_value_at-tally.ensures
    ∙ ap₂ (λ (n : ℕ) (o : Option ℕ). dab_at k.w.at n o (tallied k.mem k.tally)) c.requires.1 (stipple-given a.ink a.pen k.p c.stipple_bit-on.ensures picked)
    ∙ dab-at s (in-rows p.flat) (pixel_at q.x q.y) _ (sourced (bit_source a.ink (stipple_bit a.pen k.p))) (tallied k.mem k.tally) at.at in (
      left-takes k.invariant.0 (walk_touches a.ink a.pen k.p (q ∷ [])) (walk-left a.ink a.pen a.l k._i (point_count a.l) k.p h c.after-p.ensures)
          (omega arith) put,
      style-turn a.pen k._i (point_count a.l) k.p _ h c.after-p.ensures ∙ k.invariant.1,
      (λ g. rw (c.walk_on-w.ensures, c.steps_of-t.ensures) (walk-next s p.flat (small_low p.surface.small) a.l p.ahead k._i (omega (arith, count-le a.l)) k.w at)),
    )

pub returns : goal.returns
returns g c =
    let a = c.args in
    let k = c.loop-i in
    let h : point_count a.l ≤ k._i = omega arith in (
      left_ended k.invariant.0 (walk_none a.ink a.pen a.l k._i (point_count a.l) k.p h),
      c.word.ensures ∙ sym (style-done a.pen k._i (point_count a.l) k.p h) ∙ k.invariant.1,
    )
