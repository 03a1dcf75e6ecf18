-- `clear_bits` meets its contract: clearing the bytes from here on leaves what clearing all does.
-- Assumes nothing.
use mathlib.Core.Path.{◌≡◌, refl, sym, ◌∙◌}
use Prim.Native.Nat.{◌+◌, ◌-◌}
use native.Mathlib.Omega.{arith}
use Rattle.bitmap.proofs.Turns.{clear-turn, clear-done}
use Rattle.bitmap.proofs.clear_bits.Goals as goal

pub loop-i-init : goal.loop-i-init
loop-i-init c = let e : c.args.at + 512 - c.args.at ≡ 512 = omega arith in rw e refl

pub loop-i-preserved : goal.loop-i-preserved
loop-i-preserved c = let loop = c.loop-i in clear-turn loop.s loop.i _ c.loop-i-test.true ∙ loop.invariant

pub returns : goal.returns
returns c = sym (clear-done _ _ _ c.loop-i-test.false) ∙ c.loop-i.invariant
