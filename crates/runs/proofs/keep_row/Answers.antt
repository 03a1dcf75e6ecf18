-- `runs::keep_row` meets its contract: the pieces so far have come.
-- Assumes nothing.
use native.Mathlib.Omega.{arith}
use mathlib.Core.Path.{◌≡◌, ap, ◌∙◌}
use Prim.Native.Nat.{ℕ, ◌+◌, ◌-◌, ◌≤◌}
use lib.ListN.{length}
use Rattle.surface.specs.Place.{byte_at}
use Rattle.runs.proofs.Keeping.{piece-follows, piece-held, row_kept, kept-put}
use Rattle.runs.proofs.keep_row.Goals as goal

pub slice_bounds-copy_from_slice-end-in-loop-i : goal.slice_bounds-copy_from_slice-end-in-loop-i
slice_bounds-copy_from_slice-end-in-loop-i c =
    let e = c.to_edge-k.ensures in
    rw c.byte_at-at.ensures (piece-held c.loop-i.i _ c.requires.1 e.2 (e.1 (omega (arith, c.loop-i-test.true))) (omega (arith, e.0, c.loop-i-test.true)))

pub loop-i-preserved : goal.loop-i-preserved
loop-i-preserved c =
    let a = c.args in
    let i = c.loop-i.i in
    let k = c.to_edge-k.result in
    let at = c.byte_at-at.result in
    let now = c.loop-i.invariant.0 in
    let e = c.to_edge-k.ensures in
    let held : at + k ≤ length a.mem.now =
    rw c.byte_at-at.ensures (piece-held i k c.requires.1 e.2 (e.1 (omega (arith, c.loop-i-test.true))) (omega (arith, e.0, c.loop-i-test.true))) in
    let there : i + k - i ≡ k = omega arith in
    let here : at + k - at ≡ k = omega arith in
    let put = kept-put a.mem.now c.loop-i.out c.copy_from_slice.new.self i at k (rw here at c.copy_from_slice.ensures.after) (omega (arith, e.0, c.requires.0, now.long, c.loop-i-test.true)) held in
    rw there (
      row_kept at k now put (λ j l. rw c.byte_at-at.ensures (piece-follows a.s (a.x + i) a.y k j e.2 l ∙ ap (λ (n : ℕ). byte_at a.s n a.y) (omega arith))),
      omega (arith, e.0, c.loop-i-test.true),
    )
