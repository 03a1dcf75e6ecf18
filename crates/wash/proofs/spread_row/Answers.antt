-- `wash::spread_row` meets its contract: the bytes so far are repeated.
-- Assumes nothing.
use native.Mathlib.Omega.{arith}
use lib.ListN.{length}
use Rattle.std.proofs.lemmas.List.{places, length-take}
use Rattle.wash.proofs.Spreading.{again_next, repeated_more}
use Rattle.wash.proofs.spread_row.Goals as goal

pub loop-i-preserved : goal.loop-i-preserved
loop-i-preserved c =
    let l = c.loop-i in
    let copied = c.copy_from_slice in (
      repeated_more c.min-k.result _ _ l.invariant.0 (λ q u. grind (arith, places, copied.ensures.after)) (grind (arith, length-take, copied.ensures.after)) l.invariant.2 (omega arith) (omega arith) (omega arith),
      omega arith,
      again_next l.i (length c.args.masks.now) l.invariant.2,
    )

pub returns-2 : goal.returns-2
returns-2 c =
    let l = c.loop-i in
    let copied = c.copy_from_slice in
    repeated_more c.min-k.result _ _ l.invariant.0 (λ q u. grind (arith, places, copied.ensures.after)) (grind (arith, length-take, copied.ensures.after)) l.invariant.2 (omega arith) (omega arith) (omega arith)
