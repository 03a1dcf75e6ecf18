-- `set_bit` meets its contract: a clear bit's power of two is added, and the byte stays a byte.
-- Assumes nothing.
use mathlib.Core.Path.{refl}
use native.Mathlib.Omega.{arith}
use Rattle.bitmap.proofs.Turns.{put-fits, put-bit, has-bit}
use Rattle.bitmap.proofs.set_bit.Goals as goal

pub overflow_add-s : goal.overflow_add-s
overflow_add-s c = omega (arith, put-fits _ c.args.k (omega arith) c.if-byte-j-eq0.true)

pub overflow_cast-s : goal.overflow_cast-s
overflow_cast-s c = omega (arith, put-fits _ c.args.k (omega arith) c.if-byte-j-eq0.true)

pub returns-then-byte-j-eq0 : goal.returns-then-byte-j-eq0
returns-then-byte-j-eq0 c = put-bit _ _ _ _ refl c.if-byte-j-eq0.true

pub returns-else-byte-j-eq0 : goal.returns-else-byte-j-eq0
returns-else-byte-j-eq0 c = has-bit _ _ _ _ refl c.if-byte-j-eq0.false
