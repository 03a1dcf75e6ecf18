-- `wash::wash_masks` meets its contract: the tables made wide change the bytes as the tables do.
-- Assumes nothing.
use mathlib.Core.Path.{◌≡◌}
use Prim.Native.Nat.{ℕ, ◌<◌, min}
use native.Mathlib.Omega.{arith}
use Rattle.wash.proofs.Tables.{rows-can, as-tables}
use Rattle.wash.proofs.wash_masks.Goals as goal

-- how many of them are made
enough : {n many : ℕ} → many ≡ min n 160 → (i : ℕ) → i < 160 → i < n → i < many
enough e i u l = omega arith

pub wash_lines-requires : goal.wash_lines-requires
wash_lines-requires c =
    let p = c.requires in
    (p.0, rows-can c.args.s (enough c.min-many.ensures) p.1.1.1.1 c.widen.ensures c.widen-2.ensures p.0 p.1.0 p.1.1.0.0 p.1.1.0.1)

pub returns : goal.returns
returns c =
    let p = c.requires in
    let done = c.wash_lines.ensures in
    (as-tables c.args.s (enough c.min-many.ensures) p.1.1.1.1 c.widen.ensures c.widen-2.ensures p.0 done.put, done.changes)
