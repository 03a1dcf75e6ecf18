-- `runs::unlike_bytes` meets its contract: those counted, and those that remain, are all of them.
-- Assumes nothing.
use native.Mathlib.Omega.{arith}
use mathlib.Core.Path.{◌≡◌, refl}
use mathlib.Core.List.{List}
use Prim.Native.Nat.{ℕ, ◌+◌, ◌*◌, ◌/◌, ◌%◌, ◌≤◌}
use Rattle.runs.specs.Runs.{unlikes}
use Rattle.runs.proofs.Alike.{Counted, counted-bytes}
use Rattle.runs.proofs.unlike_bytes.Goals as goal

pub overflow_add-r : goal.overflow_add-r
overflow_add-r c =
    let next = counted-bytes c.loop-i.invariant 128 refl (omega (arith, c.loop-i-test.true)) c.unlike_in-r.ensures in
    omega (arith, next.few, next.within, c.requires.0.wide)

pub loop-i-preserved : goal.loop-i-preserved
loop-i-preserved c =
    let more : (c.loop-i.i + 1) * 128 ≡ c.loop-i.i * 128 + 128 = omega arith in
    rw more (counted-bytes c.loop-i.invariant 128 refl (omega (arith, c.loop-i-test.true)) c.unlike_in-r.ensures)

-- the last ones, after those in whole parts
last : {d s w i r c : ℕ} {m m' : List ℕ} → Counted m m' 1 d s w (i * 128) r → i ≤ w / 128 → w / 128 ≤ i
    → c ≡ unlikes m m' 1 (d + w / 128 * 128) (s + w / 128 * 128) (w % 128) → Counted m m' 1 d s w (w / 128 * 128 + w % 128) (r + c)
last {w = w} {i = i} now most least e = let end : i ≡ w / 128 = omega arith in counted-bytes (rw end at now) (w % 128) refl (omega arith) e

pub overflow_add-result : goal.overflow_add-result
overflow_add-result c = let k = c.loop-i in omega (arith, (last k.invariant k.auto.i-end c.loop-i-test.false c.unlike_in.ensures).few, c.requires.0.wide)
