-- `pours::word_at` meets its contract: a byte is below 256.
-- Assumes nothing.
use native.Mathlib.Omega.{arith}
use mathlib.Core.Path.{refl}
use Rattle.surface.proofs.Run.{get-four}
use Rattle.pours.proofs.word_at.Goals as goal

pub returns : goal.returns
returns c =
    let a = c.args in
    record { word = omega (arith, c.from_le_bytes.ensures, get-four a.at 4 a.mem.now refl); bytes = λ k. omega (arith, c.type_inv.mem k) }
