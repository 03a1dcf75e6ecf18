-- `first_bit` meets its contract: the search from here on finds what that from the start does.
-- Assumes nothing.
use mathlib.Core.Path.{◌∙◌}
use borrow.Author.Tests.{eq-eqb, ne_eqb}
use Rattle.pages.proofs.Search.{first-here, first-later, first-none}
use Rattle.bitmap.proofs.Turns.{rest-bit, first-skip}
use Rattle.bitmap.proofs.first_bit.Goals as goal

pub returns-then-rest-eq1 : goal.returns-then-rest-eq1
returns-then-rest-eq1 c =
    let h = c.loop-k-test.true in
    first-here _ _ _ h (rest-bit _ _ _ _ h c.rest_of-rest.ensures ∙ eq-eqb _ 1 c.if-rest-eq1.true) ∙ c.loop-k.invariant

pub loop-k-preserved-then-rest-eq0 : goal.loop-k-preserved-then-rest-eq0
loop-k-preserved-then-rest-eq0 c =
    let h = c.loop-k-test.true in
    first-skip _ _ _ _ h c.rest_of-rest.ensures c.if-rest-eq0.true ∙ c.loop-k.invariant

pub loop-k-preserved : goal.loop-k-preserved
loop-k-preserved c =
    let h = c.loop-k-test.true in
    first-later _ _ _ h (rest-bit _ _ _ _ h c.rest_of-rest.ensures ∙ ne_eqb _ 1 c.if-rest-eq1.false) ∙ c.loop-k.invariant

pub returns : goal.returns
returns c = first-none _ _ _ c.loop-k-test.false ∙ c.loop-k.invariant
