-- `straight::plain_pixel` meets its contract: without a key the source is put there.
-- Assumes nothing.
use native.Mathlib.Omega.{arith}
use mathlib.Core.Path.{ap}
use mathlib.Core.Bool.{Bool, ◌&&◌}
use Rattle.keys.specs.Key.{key_match}
use Rattle.straight.proofs.StraightLaws.{puts}
use Rattle.straight.proofs.plain_pixel.Goals as goal

pub returns : goal.returns
returns c =
    let a = c.args in
    let p = c.requires in
    let value = c.convert_by_rule in
    let v = c.get_bytes-value in (
      puts a.t a.from a.to a.d a.s v.result a.mem.now p.0.formats v.ensures value.result _ (omega arith)
          (ap (λ (b : Bool). b && key_match a.t.from.bytes a.t.least a.t.most v.result) p.1) value.ensures c.store_bytes.ensures.0,
      c.store_bytes.ensures.1,
    )
