-- `dots::mark_dot` meets its contract: a point outside the clip marks nothing, nor does one that the stipple leaves; any other marks its pixel's pages.
-- Assumes nothing.
use native.Mathlib.Omega.{arith}
use borrow.Author.Tests.{not-true, not-false}
use mathlib.Core.Path.{sym, ap, ◌∙◌}
use Rattle.paint.specs.declared.Source.{Source}
use Rattle.paint.specs.Mix.{bit_source}
use Rattle.paint.proofs.ClipLaws.{in-clip}
use Rattle.line.proofs.DrawLaws.{point-on}
use Rattle.dots.proofs.DotLaws.{dot-written, dot-left, dot-clipped}
use Rattle.dots.proofs.mark_dot.Goals as goal

pub returns-then-not-covers : goal.returns-then-not-covers
returns-then-not-covers c =
    let a = c.args in
    let out = sym c.covers.ensures ∙ c.if-not-covers.true in
    (dot-clipped a.ink a.c a.pen a.style a.p a.marks.now out, c.style_after-next.ensures)

pub overflow_sub-p : goal.overflow_sub-p
overflow_sub-p c = omega (arith, in-clip _ _ _ (sym c.covers.ensures ∙ c.if-not-covers.false))

pub overflow_sub-p-then-not-source : goal.overflow_sub-p-then-not-source
overflow_sub-p-then-not-source c = omega (arith, in-clip _ _ _ (sym c.covers.ensures ∙ c.if-not-covers.false))

pub mark_pixel-requires : goal.mark_pixel-requires
mark_pixel-requires c =
    let p = c.requires in
    record {
      len = p.len;
      limit = p.limit;
      on = record { colour = p.surface; on = point-on c.args.ink.target p.len c.args.c c.args.p p.on (sym c.covers.ensures ∙ c.if-not-covers.false) };
    }

pub returns-then-not-source : goal.returns-then-not-source
returns-then-not-source c =
    let a = c.args in
    let source = c.bit_source-source in
    let left = ap (λ (r : Source). r.left) (sym (source.ensures ∙ ap (bit_source a.ink) c.stipple_bit-bit.ensures)) in (
      c.mark_pixel.ensures
          ∙ dot-written a.ink a.c a.pen a.style a.p a.marks.now (sym c.covers.ensures ∙ c.if-not-covers.false)
          (left ∙ not-true source.result.left c.if-not-source.true),
      c.style_after-next.ensures,
    )

pub returns-else-not-source : goal.returns-else-not-source
returns-else-not-source c =
    let a = c.args in
    let source = c.bit_source-source in
    let left = ap (λ (r : Source). r.left) (sym (source.ensures ∙ ap (bit_source a.ink) c.stipple_bit-bit.ensures)) in (
      dot-left a.ink a.c a.pen a.style a.p a.marks.now (left ∙ not-false source.result.left c.if-not-source.false),
      c.style_after-next.ensures,
    )
