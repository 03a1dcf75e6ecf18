-- `pours::unlike_threes` meets its contract: a pixel in two words is unlike where one of its parts is.
-- Assumes nothing.
use borrow.Author.Rules.{rules}
use native.Mathlib.Omega.{arith}
use Prim.Native.Nat.{◌+◌, ◌*◌, ◌/◌, ◌%◌}
use Rattle.pours.proofs.Numbers.{parts-unlike}
use Rattle.pours.proofs.unlike_threes.Goals as goal

pub returns : goal.returns
returns c =
    let a = c.args in
    let p = parts-unlike (a.x / 0x1000000) (a.y % 0x10000) (a.a / 0x1000000) (a.b % 0x10000) (a.x / 0x1000000 + 0x100 * (a.y % 0x10000)) (a.a / 0x1000000 + 0x100 * (a.b % 0x10000)) (λ e. omega arith) (λ e h. omega arith) in
    let q = parts-unlike (a.y / 0x10000) (a.z % 0x100) (a.b / 0x10000) (a.c % 0x100) (a.y / 0x10000 + 0x10000 * (a.z % 0x100)) (a.b / 0x10000 + 0x10000 * (a.c % 0x100)) (λ e. omega arith) (λ e h. omega arith) in
    search rules
