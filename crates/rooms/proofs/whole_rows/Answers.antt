-- `rooms::whole_rows` meets its contract: a quotient is no more than what is divided.
-- Assumes nothing.
use Prim.Native.Nat.{◌-◌, ◌*◌}
use native.Mathlib.Nat.{div-le_self}
use native.Mathlib.Omega.{arith}
use Rattle.rooms.proofs.whole_rows.Goals as goal

pub overflow_mul-result-then-s : goal.overflow_mul-result-then-s
overflow_mul-result-then-s c = omega (arith, div-le_self (c.args.len - c.args.s.base) (4096 * c.args.s.stride))
