-- `tint::tint_run` meets its contract: what remains of the row, painted on the memory now, is the row painted on the memory at the start.
-- Assumes nothing.
use native.Mathlib.Omega.{arith}
use mathlib.Core.Path.{◌≡◌}
use mathlib.Core.Bool.{false}
use mathlib.Core.List.{List}
use Prim.Native.Nat.{ℕ, ◌+◌, ◌*◌, ◌/◌, ◌%◌, ◌≤◌}
use lib.ListN.{length}
use Rattle.surface.specs.declared.Surface.{Surface}
use Rattle.surface.specs.Pixels.{across}
use Rattle.paint.proofs.Loops.{row-begins}
use Rattle.tint.specs.Masking.{tintings, Painted}
use Rattle.tint.specs.Asked.{CanTint}
use Rattle.tint.proofs.RowLaws.{RunLeft, run-few, run-takes, run-ended}
use Rattle.tint.proofs.tint_run.Goals as goal

pub loop-i-init : goal.loop-i-init
loop-i-init g c = (0, row-begins)

pub overflow_add-r : goal.overflow_add-r
overflow_add-r g c =
    let p = c.requires.0.0 in
    omega (arith, run-few p (run-takes p c.loop-i.invariant 8 (omega (arith, c.loop-i-test.true)) (omega arith) c.tint_across-r.ensures), p.on.wide)

pub loop-i-preserved : goal.loop-i-preserved
loop-i-preserved g c =
    let more : (c.loop-i.i + 1) * 8 ≡ c.loop-i.i * 8 + 8 = omega arith in
    rw more (run-takes c.requires.0.0 c.loop-i.invariant 8 (omega (arith, c.loop-i-test.true)) (omega arith) c.tint_across-r.ensures)

-- the eights are done, and the pixels that are left come after them
module _ {s : Surface} {keep flip adds : List ℕ} {first x w y : ℕ} {m₀ m : List ℕ} {i r : ℕ} (can : CanTint s keep flip adds first (length m₀) x w y)
    (left : RunLeft s keep flip adds first x w y m₀ (i * 8) m r) (most : i ≤ w / 8) (least : w / 8 ≤ i) where
  eights : RunLeft s keep flip adds first x w y m₀ (w / 8 * 8) m r
  eights = let end : i ≡ w / 8 = omega arith in rw end at left

  last : {m' : List ℕ} {count : ℕ} → Painted s (tintings s keep flip adds first (x + w / 8 * 8) (across false (x + w / 8 * 8) (w % 8) y)) m m' count
      → RunLeft s keep flip adds first x w y m₀ (w / 8 * 8 + w % 8) m' (r + count)
  last put = run-takes can eights (w % 8) (omega arith) (omega arith) put

pub overflow_add-result : goal.overflow_add-result
overflow_add-result g c =
    let p = c.requires.0.0 in
    let k = c.loop-i in
    omega (arith, run-few p (last p k.invariant k.auto.i-end c.loop-i-test.false c.tint_across.ensures), p.on.wide)

pub returns : goal.returns
returns g c =
    let p = c.requires.0.0 in
    let k = c.loop-i in
    run-ended p (last p k.invariant k.auto.i-end c.loop-i-test.false c.tint_across.ensures) (omega arith)
