-- `wash::Washing::wash_line` meets its contract: the parts so far are changed, and what they changed is counted.
-- Assumes nothing.
use native.Mathlib.Nat.{mul-le-mul_right}
use native.Mathlib.Omega.{arith}
use mathlib.Core.Path.{◌≡◌, refl}
use mathlib.Core.List.{List}
use Prim.Native.Nat.{ℕ, ◌+◌, ◌*◌, ◌%◌, ◌≤◌}
use lib.ListN.{length}
use Rattle.surface.specs.Pixels.{across}
use Rattle.surface.proofs.OnLaws.{on-column}
use Rattle.paint.specs.Paint.{summed}
use Rattle.runs.specs.Asked.{RowOn}
use Rattle.blocks.proofs.Blocks.{put-none}
use Rattle.wash.specs.declared.Washing.{Washing}
use Rattle.wash.specs.Wash.{by_row, RowWashed}
use Rattle.wash.specs.Asked.{CanWash}
use Rattle.wash.proofs.Pieces.{part-more}
use Rattle.wash.proofs.Sums.{part-sum, line-few}
use Rattle.wash.proofs.Tables.{can-part}
use Rattle.wash.proofs.Washing.wash_line.Goals as goal

pub loop-i-init : goal.loop-i-init
unfolding summed across
loop-i-init c =
    let a = c.args in
    let t = a.self.now in
    let b = t.s.bytes in
    (record { put = put-none t.s (by_row t a.first (a.x * b) a.mem.now) (a.x * b) a.y (0 * b) 1 a.mem.now (λ p i. omega arith); changes = refl }, omega arith, refl)

-- what has changed, with k pixels more
more : {t : Washing} {first x y w i n r d : ℕ} {m₀ m m' : List ℕ} (k : ℕ) → CanWash t first (x * t.s.bytes) y (w * t.s.bytes) (length m₀) → RowOn t.s (length m₀) x w y
    → RowWashed t first x y i r m₀ m → RowWashed t first (x + i) y k d m m' → i % 8 ≡ 0 → i + k ≡ n → n ≤ w → RowWashed t first x y n (r + d) m₀ m'
more {t} {first} {x} {y} {w} {i} {m₀ = m₀} k can on done part eights e fits =
    let b = t.s.bytes in
    let within : i + k ≤ w = omega arith in
    let sum = part-sum t.s (omega (arith, can.steps.some)) x y i k (λ c low high. on-column t.s (length m₀) c y (on.on c low (omega arith)).on) done.put part.put in
    rw (← e)
    (record {
      put = part-more t.s t.keep t.flip first x y i k (omega (arith, can.wide, mul-le-mul_right {m = i + k} {n = w} b within)) eights done.put part.put;
      changes = omega (arith, sum, done.changes, part.changes);
    })

pub wash_part-r-requires : goal.wash_part-r-requires
wash_part-r-requires c =
    let a = c.args in
    let p = c.requires in
    let l = c.loop-i in
    let fits : l.i + c.min.result ≤ a.w = omega arith in
    rw l.invariant.0.put.long
    (can-part a.x a.w p.0 l.i c.min.result fits, (omega arith, record { wide = omega (arith, p.1.wide); on = λ j low high. p.1.on j (omega arith) (omega arith) }))

pub overflow_add-r : goal.overflow_add-r
overflow_add-r c =
    let a = c.args in
    let p = c.requires in
    let l = c.loop-i in
    let k = c.min.result in
    let fits : l.i + k ≤ a.w = omega arith in
    let next = more k p.0 p.1 l.invariant.0 c.wash_part-r.ensures l.invariant.2 refl fits in
    omega (arith, next.changes, line-few a.self.now.s a.mem.now c.wash_part-r.new.mem a.x (l.i + k) a.y, p.1.wide)

pub loop-i-preserved : goal.loop-i-preserved
loop-i-preserved c =
    let p = c.requires in
    let l = c.loop-i in
    (more c.min.result p.0 p.1 l.invariant.0 c.wash_part-r.ensures l.invariant.2 (omega arith) (omega arith), omega arith, omega (arith, l.invariant.2))

pub returns-2 : goal.returns-2
returns-2 c =
    let p = c.requires in
    let l = c.loop-i in
    more c.min.result p.0 p.1 l.invariant.0 c.wash_part-r.ensures l.invariant.2 (omega arith) (omega arith)
