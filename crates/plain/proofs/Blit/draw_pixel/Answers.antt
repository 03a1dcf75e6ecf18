-- `plain::Blit::draw_pixel` meets its contract: its source is put there or left, or it is outside the clip.
-- Assumes nothing.
use native.Mathlib.Omega.{arith}
use mathlib.Core.Path.{sym, ◌∙◌}
use mathlib.Core.List.{[]}
use Rattle.paint.specs.Paint.{tallied}
use Rattle.paint.proofs.ClipLaws.{in-clip}
use Rattle.plain.specs.Plain.{plain_ink}
use Rattle.host.proofs.Drawing.{pixel-past}
use Rattle.plain.proofs.PlainLaws.{plain-put}
use Rattle.plain.proofs.Blit.draw_pixel.Goals as goal

pub overflow_sub-x : goal.overflow_sub-x
overflow_sub-x c = omega (arith, in-clip _ _ _ (sym c.covers.ensures ∙ c.if-covers.true))

pub overflow_sub-y : goal.overflow_sub-y
overflow_sub-y c = omega (arith, in-clip _ _ _ (sym c.covers.ensures ∙ c.if-covers.true))

pub put_value-requires : goal.put_value-requires
unfolding plain_ink
put_value-requires c =
    (c.requires.0.covered.on c.args.i c.args.j c.requires.1.0 c.requires.1.1.0 (sym c.covers.ensures ∙ c.if-covers.true), c.requires.1.1.1.0)

pub returns-then-covers : goal.returns-then-covers
returns-then-covers c =
    let a = c.args in
    plain-put a.self.plain a.self.clip a.self.feed a.i a.j a.v (tallied a.mem.now a.n) (sym c.covers.ensures ∙ c.if-covers.true) (omega arith) c.requires.1.1.1.1 c.put_value.ensures

pub returns : goal.returns
returns c =
    let a = c.args in
    pixel-past (plain_ink a.self.plain) [] a.self.clip a.self.feed a.i a.j a.v (tallied a.mem.now a.n) (sym c.covers.ensures ∙ c.if-covers.false)
