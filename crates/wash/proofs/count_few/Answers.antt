-- `wash::count_few` meets its contract: it sums what the masks count.
-- Assumes nothing.
use native.Mathlib.Omega.{arith}
use mathlib.Core.Path.{◌≡◌, ◌∙◌}
use Prim.Native.Nat.{◌+◌, ◌-◌}
use lib.ListN.{take, drop}
use Rattle.std.proofs.lemmas.Iterator.{YieldsList-from_slice}
use Rattle.std.proofs.lemmas.Iterator.Consumers.{sum_from_yields_List, fits_from_yields_list}
use Rattle.wash.proofs.Counting.{few-sum, few-most}
use Rattle.wash.proofs.count_few.Goals as goal

pub sum-requires-clause-fits : goal.sum-requires-clause-fits
sum-requires-clause-fits c =
    let a = c.args in
    let p = c.requires in
    let e : a.first + a.n - a.first ≡ a.n = omega arith in
    fits_from_yields_list c.iter.result _ (YieldsList-from_slice (take a.n (drop a.first a.adds.now)) (rw e at c.iter.ensures.rest))
    (omega (arith, few-sum a.adds.now a.first a.n p.1 (omega (arith, p.0.eight)), few-most a.adds.now a.first p.0 a.n 0))

pub returns : goal.returns
returns c =
    let a = c.args in
    let p = c.requires in
    let e : a.first + a.n - a.first ≡ a.n = omega arith in
    let total =
    sum_from_yields_List c.iter.result c.sum.result c.sum.ensures.ran (YieldsList-from_slice (take a.n (drop a.first a.adds.now)) (rw e at c.iter.ensures.rest))
    ∙ few-sum a.adds.now a.first a.n p.1 (omega (arith, p.0.eight)) in
    (total, omega (arith, total, few-most a.adds.now a.first p.0 a.n 0))
