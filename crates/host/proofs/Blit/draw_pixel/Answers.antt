-- `host::Blit::draw_pixel` meets its contract: the pixel is put there, or it is outside the clip.
-- Assumes nothing.
use native.Mathlib.Omega.{arith}
use mathlib.Core.Path.{sym, ◌∙◌}
use Prim.Native.Nat.{◌+◌}
use Rattle.paint.specs.Paint.{tallied}
use Rattle.paint.proofs.ClipLaws.{Covered, in-clip}
use Rattle.host.proofs.Drawing.{pixel-put, pixel-past}
use Rattle.host.proofs.Blit.draw_pixel.Goals as goal

position : (c : goal.Then-covers) → let a = c.args in Covered a.self.now.clip (a.self.now.feed.x + a.i) (a.self.now.feed.y + a.j)
position c = in-clip _ _ _ (sym c.covers.ensures ∙ c.if-covers.true)

pub overflow_sub-column : goal.overflow_sub-column
overflow_sub-column c = omega (arith, position c)

pub overflow_sub-row : goal.overflow_sub-row
overflow_sub-row c = omega (arith, position c)

pub put_source-requires : goal.put_source-requires
put_source-requires c =
    record {
      on = c.requires.0.covered.on c.args.i c.args.j c.requires.1.0 c.requires.1.1.0 (sym c.covers.ensures ∙ c.if-covers.true);
      room = c.requires.1.1.1;
    }

pub returns-then-covers : goal.returns-then-covers
returns-then-covers c =
    let a = c.args in
    pixel-put a.self.now.ink a.self.now.pattern a.self.now.clip a.self.now.feed a.i a.j a.v _ _ a.mem.now a.n _ (sym c.covers.ensures ∙ c.if-covers.true)
    c.pattern_at-p.ensures c.source_of-s.ensures c.put_source.ensures

pub returns : goal.returns
returns c =
    let a = c.args in
    pixel-past a.self.now.ink a.self.now.pattern a.self.now.clip a.self.now.feed a.i a.j a.v (tallied a.mem.now a.n) (sym c.covers.ensures ∙ c.if-covers.false)
