-- `wash::Washing::wash_part` meets its contract: the pixels that are not the same in the two buffers have changed.
-- Assumes nothing.
use native.Mathlib.Omega.{arith}
use mathlib.Core.Path.{◌∙◌}
use Prim.Native.Nat.{◌<◌}
use Rattle.runs.proofs.Alike.{row-unlike}
use Rattle.runs.proofs.Keeping.{pixels-kept}
use Rattle.wash.proofs.Washing.wash_part.Goals as goal

pub returns : goal.returns
returns c =
    let a = c.args in
    let p = c.requires in
    let some : 0 < a.self.now.s.bytes = omega (arith, p.0.steps.some) in
    record {
      put = c.wash_row.ensures;
      changes = c.unlike.ensures ∙ row-unlike a.self.now.s a.y a.mem.now c.wash_row.new.mem c.keep_row.new.out c.keep_row-2.new.out a.x 0 0 a.w
          (pixels-kept some a.x a.y a.w c.keep_row.ensures) (pixels-kept some a.x a.y a.w c.keep_row-2.ensures);
    }
