-- `pours::put_words` meets its contract: each number of bytes has its loop.
-- Assumes nothing.
use native.Mathlib.Omega.{arith}
use mathlib.Core.Path.{◌≡◌}
use Prim.Native.Nat.{◌*◌, ◌/◌}
use lib.ListN.{length}
use Rattle.pours.proofs.put_words.Goals as goal

pub returns-in-1 : goal.returns-in-1
returns-in-1 c =
    let n = length c.args.words.now in
    let all : 4 * n / 1 ≡ 4 * n = omega arith in
    rw (c.in-1.is, all) c.put_wholes.ensures

pub returns-in-2 : goal.returns-in-2
returns-in-2 c =
    let n = length c.args.words.now in
    let all : 4 * n / 2 ≡ 2 * n = omega arith in
    rw (c.in-2.is, all) c.put_wholes-in-2.ensures

pub returns-in-3 : goal.returns-in-3
returns-in-3 c =
    let n = length c.args.words.now in
    let all : 4 * n / 3 ≡ n / 3 * 4 = omega (arith, c.requires.whole c.in-3.is) in
    rw (c.in-3.is, all) c.put_threes.ensures

pub returns-in_default : goal.returns-in_default
returns-in_default c =
    let four : c.args.bytes ≡ 4 = omega (arith, c.requires.some, c.requires.few) in
    let n = length c.args.words.now in
    let all : 4 * n / 4 ≡ 1 * n = omega arith in
    rw (four, all) c.put_wholes-in_default.ensures
