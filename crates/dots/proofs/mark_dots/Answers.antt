-- `dots::mark_dots` meets its contract: the points that are left, marked from now on, are all of them, marked from the start, and the walk is at the next of them.
-- Assumes nothing.
use mathlib.Core.Path.{sym, ap, ◌∙◌}
use mathlib.Core.List.{List}
use Rattle.spans.specs.Span.{all_on}
use Rattle.line.specs.declared.Point.{Point}
use Rattle.line.specs.Draw.{covered_points}
use Rattle.line.proofs.PointLaws.{from_start}
use Rattle.line.proofs.TreadLaws.{way-starts, way-placed, way-point, way-small, way-goes}
use Rattle.line.proofs.DrawLaws.{on-left}
use Rattle.pages.specs.Pages.{marking}
use Rattle.dots.specs.Dots.{dotted}
use Rattle.dots.proofs.DotLaws.{dots-turn, dots-none}
use Rattle.dots.proofs.mark_dots.Goals as goal

pub point_count-total-requires : goal.point_count-total-requires
point_count-total-requires c = c.requires.drawable.line

pub loop-i-init : goal.loop-i-init
loop-i-init c =
    let a = c.args in
    let q = from_start a.l _ c.point_count-total.ensures in (
      ap (λ (ps : List Point). marking a.ink.target (dotted a.ink a.c a.pen a.style ps) a.marks.now) q,
      (λ len h. ap (λ (ps : List Point). all_on a.ink.target len (covered_points a.c ps)) q ∙ h),
      (λ _. way-starts c.long_side-n.ensures c.short_side-m.ensures),
    )

pub place_point-p-requires : goal.place_point-p-requires
place_point-p-requires c = way-placed (c.loop-i.invariant.2 c.loop-i-test.true)

pub mark_dot-word-requires : goal.mark_dot-word-requires
mark_dot-word-requires c =
    let a = c.args in
    let p = c.requires in
    let k = c.loop-i in
    let h = c.loop-i-test.true in
    rw (way-point (c.loop-i.invariant.2 h) c.place_point-p.ensures) (record {
      len = p.len;
      limit = p.limit;
      surface = p.drawable.surface;
      clip = p.drawable.clip;
      on = (on-left a.ink.target p.len a.c a.l k.i _ h (k.invariant.1 p.len p.drawable.on)).0;
    })

pub tread_on-t-requires : goal.tread_on-t-requires
tread_on-t-requires c = way-small (c.loop-i.invariant.2 c.loop-i-test.true) c.requires.drawable.line

pub loop-i-preserved : goal.loop-i-preserved
loop-i-preserved c =
    let a = c.args in
    let k = c.loop-i in
    let h = c.loop-i-test.true in
    let way = c.loop-i.invariant.2 h in
    let r = c.mark_dot-word.ensures in (
      dots-turn a.ink a.c a.pen a.l k.i _ k.word _ h (way-point way c.place_point-p.ensures) r.1 r.0 ∙ k.invariant.0,
      (λ len on. (on-left a.ink.target len a.c a.l k.i _ h (k.invariant.1 len on)).1),
      (λ g. way-goes way c.tread_on-t.ensures c.point_count-total.ensures g),
    )

pub returns : goal.returns
returns c =
    let a = c.args in
    let k = c.loop-i in
    sym (dots-none a.ink a.c a.pen a.l k.i _ k.word _ c.loop-i-test.false) ∙ k.invariant.0
