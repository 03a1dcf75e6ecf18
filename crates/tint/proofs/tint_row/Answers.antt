-- `tint::tint_row` meets its contract: what remains of the row, painted on the memory now, is the row painted on the memory at the start.
-- Assumes nothing.
use native.Mathlib.Omega.{arith}
use mathlib.Core.Path.{◌≡◌, refl, ◌∙◌}
use mathlib.Core.List.{List}
use Prim.Native.Nat.{ℕ, ◌+◌, ◌*◌, ◌/◌, ◌%◌, ◌≤◌}
use lib.ListN.{length}
use Rattle.surface.specs.declared.Surface.{Surface}
use Rattle.paint.specs.declared.Tally.{Tally}
use Rattle.paint.proofs.Loops.{row-begins, row-ended}
use Rattle.tint.specs.Asked.{CanTint}
use Rattle.tint.proofs.RowLaws.{TintLeft, tint-takes}
use Rattle.tint.proofs.tint_row.Goals as goal

pub loop-i-init : goal.loop-i-init
loop-i-init c = (row-begins, refl)

pub loop-i-preserved : goal.loop-i-preserved
loop-i-preserved c =
    let l = c.loop-i in
    let more : (l.i + 1) * 256 ≡ l.i * 256 + 256 = omega arith in (
      rw more (tint-takes c.requires.0.0 l.invariant.0 256 (omega (arith, c.loop-i-test.true)) (omega arith) c.tint_part-r.ensures),
      c.tint_part-r.auto.old ∙ l.invariant.1,
    )

-- the parts that are whole are done
module _ {s : Surface} {keep flip adds : List ℕ} {first x w y : ℕ} {m₀ m : List ℕ} {n r : Tally} {i : ℕ} (can : CanTint s keep flip adds first (length m₀) x w y)
    (left : TintLeft s keep flip adds first x w y m₀ n (i * 256) m r) where
  whole : i ≤ w / 256 → w / 256 ≤ i → TintLeft s keep flip adds first x w y m₀ n (w / 256 * 256) m r
  whole most least = let end : i ≡ w / 256 = omega arith in rw end at left

pub returns : goal.returns
returns c =
    let p = c.requires in
    let l = c.loop-i in
    row-ended (tint-takes p.0.0 (whole p.0.0 l.invariant.0 l.auto.i-end c.loop-i-test.false) (c.args.w % 256) (omega arith) (omega arith) c.tint_part.ensures) (omega arith)
