-- `ppm::Page::number` meets its contract: what the places that are left give, said on the page now, the number gives, said on the page at the start.
-- Assumes nothing.
use native.Mathlib.Omega.{arith}
use mathlib.Core.Path.{◌≡◌, refl}
use Rattle.ppm.specs.Text.{decimal, digits, numeral}
use Rattle.ppm.proofs.TextLaws.{power-some, power-again, digits-first, says_none, says_both}
use Rattle.ppm.proofs.Page.number.Goals as goal

pub loop-k-init : goal.loop-k-init
unfolding decimal
loop-k-init c = (λ p rest. rest, refl)

pub digit-requires : goal.digit-requires
digit-requires c = let k = c.loop-k in power-some k.power k.k c.loop-k-test.true k.invariant.1

pub loop-k-preserved : goal.loop-k-preserved
loop-k-preserved c =
    let k = c.loop-k in
    let some = c.loop-k-test.true in (
      λ p rest. k.invariant.0 p (rw (digits-first k.power c.args.n k.k some k.invariant.1) (says_both c.digit.ensures rest)),
      power-again k.power k.k some k.invariant.1,
    )

pub returns : goal.returns
unfolding numeral digits
returns c =
    let k = c.loop-k in
    let none : k.k ≡ 0 = omega arith in
    says_both (k.invariant.0 k.self (rw none (says_none k.self))) c.put.ensures
