-- `wash::widen` meets its contract: the rows so far are wide.
-- Assumes nothing.
use native.Mathlib.Omega.{arith}
use native.Mathlib.Nat.{mul-le-mul_right, add-mul}
use mathlib.Core.Path.{◌≡◌, refl, ◌∙◌}
use Prim.Native.Nat.{ℕ, ◌+◌, ◌-◌, ◌*◌, ◌<◌, ◌≤◌}
use lib.ListN.{length, take, drop}
use Rattle.std.proofs.lemmas.List.{length-take, length-drop}
use Rattle.wash.specs.Asked.{Period}
use Rattle.wash.proofs.Spreading.{widened_more}
use Rattle.wash.proofs.widen.Goals as goal

-- a row of masks is in its table
room : {period r : ℕ} → Period period → r < 8 → r * period + period ≤ 256
room {period} {r} steps h = omega (arith, steps.few, add-mul r 1 period, mul-le-mul_right {m = r + 1} {n = 8} period (omega (arith, h)))

pub loop-r-preserved : goal.loop-r-preserved
loop-r-preserved c =
    let a = c.args in
    let p = c.requires in
    let l = c.loop-r in
    let d : l.r * a.period + a.period - l.r * a.period ≡ a.period = omega arith in
    let few : l.r < 8 = omega arith in
    let all : length (take (l.r * 160 + a.n - l.r * 160) (drop (l.r * 160) l.out)) ≡ a.n = omega (arith, length-take {A = ℕ}, length-drop {A = ℕ}) in
    widened_more _ p.2 l.invariant c.spread_row.ensures (rw d refl) p.0.some (omega (arith, room p.0 few)) all (c.spread_row.auto.out ∙ all) (omega arith)
