-- `runs::solid_bytes` meets its contract: what remains of the pixels, painted on the memory now, is all of them painted on the memory at the start.
-- Assumes nothing.
use native.Mathlib.Omega.{arith}
use mathlib.Core.Path.{◌≡◌, refl}
use mathlib.Core.List.{List}
use Prim.Native.Nat.{ℕ, ◌+◌, ◌*◌, ◌/◌, ◌%◌, ◌≤◌}
use Rattle.paint.specs.Paint.{state}
use Rattle.runs.specs.Runs.{even_at}
use Rattle.runs.proofs.Along.{EvenLeft, even-bytes, even-ended}
use Rattle.runs.proofs.solid_bytes.Goals as goal

pub overflow_add-r : goal.overflow_add-r
overflow_add-r c =
    let next = even-bytes c.loop-i.invariant 128 refl (omega (arith, c.loop-i-test.true)) c.solid-r.ensures in
    omega (arith, next.few, next.within, c.requires.wide)

pub loop-i-preserved : goal.loop-i-preserved
loop-i-preserved c =
    let more : (c.loop-i.i + 1) * 128 ≡ c.loop-i.i * 128 + 128 = omega arith in
    rw more (even-bytes c.loop-i.invariant 128 refl (omega (arith, c.loop-i-test.true)) c.solid-r.ensures)

-- the last ones, after those in whole parts
last : {v at w i r c : ℕ} {m₀ m m' : List ℕ} → EvenLeft 1 v at w m₀ (i * 128) m r → i ≤ w / 128 → w / 128 ≤ i
    → state m' (w % 128) c ≡ even_at 1 v (at + w / 128 * 128) (w % 128) (state m 0 0) → EvenLeft 1 v at w m₀ (w / 128 * 128 + w % 128) m' (r + c)
last {w = w} {i = i} left most least put = let end : i ≡ w / 128 = omega arith in even-bytes (rw end at left) (w % 128) refl (omega arith) put

pub overflow_add-result : goal.overflow_add-result
overflow_add-result c = let k = c.loop-i in omega (arith, (last k.invariant k.auto.i-end c.loop-i-test.false c.solid.ensures).few, c.requires.wide)

pub returns : goal.returns
returns c = let k = c.loop-i in even-ended (last k.invariant k.auto.i-end c.loop-i-test.false c.solid.ensures) (omega arith)
