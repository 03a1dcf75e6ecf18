-- `runs::solid_row` meets its contract: the row's pixels lie one after the other from its first on.
-- Assumes nothing.
use native.Mathlib.Omega.{arith}
use mathlib.Core.Path.{◌∙◌}
use Prim.Native.Nat.{◌+◌}
use Rattle.surface.proofs.Run.{in-rows, pixel-held, run-pixel}
use Rattle.paint.specs.Paint.{state}
use Rattle.runs.proofs.Along.{row_at}
use Rattle.runs.proofs.solid_row.Goals as goal

pub solid_run-requires : goal.solid_run-requires
solid_run-requires c =
    let a = c.args in
    let p = c.requires in
    record {
      some = p.1.0.some;
      few = p.1.0.small.bytes;
      wide = omega (arith, p.1.1.wide);
      held = λ i l. pixel-held (in-rows p.0) (p.1.1.on (a.x0 + i) (omega arith) (omega arith)) _ (run-pixel a.s p.0 a.x0 a.y _ c.place_in_rows-at.ensures i);
    }

pub returns : goal.returns
returns c =
    let a = c.args in
    c.solid_run.ensures ∙ row_at a.s c.requires.0 a.v a.y a.x0 _ a.w (state a.mem.now 0 0) c.place_in_rows-at.ensures
