-- `runs::run_down` meets its contract: a byte is read before it is overwritten.
-- Assumes nothing.
use native.Mathlib.Omega.{arith}
use mathlib.Core.Path.{◌≡◌, subst}
use Prim.Native.Nat.{ℕ, ◌-◌}
use Rattle.runs.specs.Runs.{Shifted}
use Rattle.runs.proofs.Runs.{none-shifted, down-next}
use Rattle.runs.proofs.run_down.Goals as goal

pub loop-i-init : goal.loop-i-init
loop-i-init c = (none-shifted c.args.d c.args.s c.args.n c.args.mem.now, omega arith)

pub overflow_add-mem : goal.overflow_add-mem
overflow_add-mem c = omega (arith, c.requires.0.from (c.loop-i.i - 1) (omega arith), c.ranges)

pub bounds-mem-s : goal.bounds-mem-s
bounds-mem-s c = omega (arith, c.requires.0.from (c.loop-i.i - 1) (omega arith), c.loop-i.invariant.0.long)

pub overflow_add-mem-in-loop-i : goal.overflow_add-mem-in-loop-i
overflow_add-mem-in-loop-i c = omega (arith, c.requires.0.to (c.loop-i.i - 1) (omega arith))

pub bounds-mem-d : goal.bounds-mem-d
bounds-mem-d c = omega (arith, c.requires.0.to (c.loop-i.i - 1) (omega arith), c.loop-i.invariant.0.long)

pub loop-i-preserved : goal.loop-i-preserved
loop-i-preserved c =
    let a = c.args in
    let p = c.requires in
    let k = c.loop-i in (
      down-next a.d a.s k.i a.n (k.i - 1) k.invariant.0 (omega (arith, p.0.to (k.i - 1) (omega arith), k.invariant.0.long)) (λ j l h e. p.1.unread (k.i - 1) j (omega arith) h e) (omega arith) (omega arith),
      omega arith,
    )

pub shape_of-mem : goal.shape_of-mem
shape_of-mem c = c.loop-i.invariant.0.long

pub returns : goal.returns
returns c =
    let a = c.args in
    let k = c.loop-i in
    let end : k.i ≡ 0 = omega (arith, c.loop-i-test.false) in
    subst (λ (i : ℕ). Shifted a.d a.s i a.n a.mem.now k.mem) end k.invariant.0
