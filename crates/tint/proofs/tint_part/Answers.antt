-- `tint::tint_part` meets its contract: the bytes are kept, the row is tinted, and what is then not as it was kept has changed.
-- Assumes nothing.
use native.Mathlib.Nat.{mul-le-mul}
use native.Mathlib.Omega.{arith}
use mathlib.Core.Path.{ap, ◌∙◌}
use mathlib.Core.List.{List}
use Prim.Native.Nat.{ℕ, ◌*◌, ◌≤◌}
use Rattle.surface.specs.declared.Surface.{Surface}
use Rattle.paint.specs.Paint.{tallied}
use Rattle.paint.proofs.Tallies.{room-less}
use Rattle.runs.proofs.Keeping.{pixels-held, buffer-on}
use Rattle.tint.specs.Asked.{CanTint}
use Rattle.tint.proofs.TellLaws.{row_on, part-few, part-after}
use Rattle.tint.proofs.tint_part.Goals as goal

-- the row's bytes are not too many for the buffer
many : {s : Surface} {len x w y : ℕ} (keep flip adds : List ℕ) (first : ℕ) → CanTint s keep flip adds first len x w y → w ≤ 256 → w * s.bytes ≤ 1024
many {s} {w = w} keep flip adds first can h = mul-le-mul {n₁ = w} {m₁ = s.bytes} {n₂ = 256} {m₂ = 4} h (omega (arith, can.colour.small.bytes))

pub keep_row-requires : goal.keep_row-requires
keep_row-requires c =
    let a = c.args in
    let p = c.requires.0 in
    let can = p.0.0 in
    (omega (arith, many _ _ _ _ can p.1.0, p.1.1), pixels-held can.colour.some a.x a.y a.w can.colour.small can.on (omega arith))

pub unlike-requires : goal.unlike-requires
unlike-requires c =
    let p = c.requires.0 in
    let can = p.0.0 in (
      buffer-on can.colour.some can.colour.small.bytes p.1.0 (omega (arith, p.1.1, c.keep_row.auto.out)),
      rw c.tint_pixels-count.auto.mem (row_on can _ c.place_in_rows-at.ensures),
    )

pub note-requires : goal.note-requires
note-requires c =
    let p = c.requires in
    let few = part-few p.0.0.0 c.keep_row.ensures c.tint_pixels-count.ensures _ c.place_in_rows-at.ensures c.unlike.ensures in
    (room-less p.1 few.1, few.0)

pub returns : goal.returns
returns c =
    ap (tallied c.tint_pixels-count.new.mem) c.note.ensures
    ∙ part-after c.requires.0.0.0 c.keep_row.ensures c.tint_pixels-count.ensures _ c.place_in_rows-at.ensures c.unlike.ensures c.args.n
