-- `ppm::Page::say` meets its contract: what the text that is left gives, said on the page now, the whole text gives, said on the page at the start.
-- Assumes nothing.
use native.Mathlib.Numerals.{add-one}
use lib.ListN.{drop_of_length-le}
use lib.Seq.{drop-cons}
use Rattle.ppm.proofs.TextLaws.{says_none, says_both}
use Rattle.ppm.proofs.Page.say.Goals as goal

pub loop-b-preserved : goal.loop-b-preserved
loop-b-preserved c p rest =
    let k = c.loop-b in
    k.invariant p (rw (drop-cons c.args.text.now k.b-index 0 c.loop-b-test.true) (says_both c.put.ensures (rw add-one at rest)))

pub returns : goal.returns
returns c = let k = c.loop-b in k.invariant k.self (rw (drop_of_length-le c.args.text.now c.loop-b-test.false) (says_none k.self))
