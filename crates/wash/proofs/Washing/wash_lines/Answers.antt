-- `wash::Washing::wash_lines` meets its contract: the rows so far are changed, and what they changed is counted.
-- Assumes nothing.
use native.Mathlib.Nat.{mul-le-mul}
use native.Mathlib.Omega.{arith}
use mathlib.Core.Path.{refl}
use mathlib.Core.List.{List}
use Prim.Native.Nat.{ℕ, ◌+◌, ◌*◌, ◌%◌, ◌^◌, ◌<◌, ◌≤◌}
use lib.ListN.{length}
use Rattle.surface.specs.Place.{row_bytes}
use Rattle.surface.specs.Pixels.{rect}
use Rattle.surface.proofs.OnLaws.{on-column}
use Rattle.paint.specs.Paint.{summed}
use Rattle.runs.specs.Asked.{RectOn}
use Rattle.blocks.proofs.Blocks.{put-none}
use Rattle.wash.specs.declared.Washing.{Washing}
use Rattle.wash.specs.Wash.{by_rows, RowWashed, RowsWashed}
use Rattle.wash.proofs.Pieces.{row_more}
use Rattle.wash.proofs.Sums.{row-sum, rows_few}
use Rattle.wash.proofs.Washing.wash_lines.Goals as goal

pub loop-j-init : goal.loop-j-init
unfolding summed rect
loop-j-init c =
    let a = c.args in
    let t = a.self.now in
    let b = t.s.bytes in
    record { put = put-none t.s (by_rows t (a.x * b) a.y a.mem.now) (a.x * b) a.y (a.w * b) 0 a.mem.now (λ p i. omega arith); changes = refl }

-- one row more
more : {t : Washing} {x y w h j r d : ℕ} {m₀ m m' : List ℕ} → RectOn t.s (length m₀) x y w h → j < h → x * t.s.bytes + w * t.s.bytes ≤ row_bytes t.s → RowsWashed t x y w j r m₀ m
    → RowWashed t (j % 8 * 160) x (y + j) w d m m' → RowsWashed t x y w (j + 1) (r + d) m₀ m'
more {t} {x} {y} {w} {h} {j} {m₀ = m₀} on taken wide done row =
    let b = t.s.bytes in
    let sum = row-sum t.s on.colour.some x y w j
    (λ c low high. on-column t.s (length m₀) c (y + j) (on.on c (y + j) low high (omega arith) (omega (arith, taken))).on) done.put row.put in
    record {
      put = row_more t.s t.keep t.flip (8 * b) (x * b) y (w * b) j wide done.put row.put;
      changes = omega (arith, sum, done.changes, row.changes);
    }

pub overflow_add-r : goal.overflow_add-r
overflow_add-r c =
    let a = c.args in
    let p = c.requires in
    let l = c.loop-j in
    let taken = c.loop-j-test.true in
    let next = more p.0 taken (p.1 l.j taken).wide l.invariant c.wash_line-r.ensures in
    omega (
      arith,
      next.changes,
      rows_few a.self.now.s a.mem.now c.wash_line-r.new.mem a.x a.y a.w (l.j + 1),
      mul-le-mul {n₁ = l.j + 1} {m₁ = a.w} {n₂ = 2 ^ 13} {m₂ = 2 ^ 13} (omega (arith, p.0.high, taken)) (omega (arith, p.0.wide)),
    )

pub loop-j-preserved : goal.loop-j-preserved
loop-j-preserved c =
    let p = c.requires in
    let l = c.loop-j in
    let taken = c.loop-j-test.true in
    more p.0 taken (p.1 l.j taken).wide l.invariant c.wash_line-r.ensures
