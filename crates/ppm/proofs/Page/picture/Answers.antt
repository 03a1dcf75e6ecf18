-- `ppm::Page::picture` meets its contract: where the test holds, the rectangle is on the surface and its numbers are in range.
-- Assumes nothing.
use native.Mathlib.Omega.{arith}
use mathlib.Core.Path.{sym, ◌∙◌}
use lib.ListN.{length}
use Rattle.ppm.specs.Picture.{picture}
use Rattle.ppm.proofs.TextLaws.{says_both}
use Rattle.ppm.proofs.PictureLaws.{shown, rect-shown}
use Rattle.ppm.proofs.Page.picture.Goals as goal

pub returns-then-not-has_picture : goal.returns-then-not-has_picture
unfolding picture
returns-then-not-has_picture c = rw (sym c.has_picture.ensures ∙ c.if-not-has_picture.true) c.say.ensures

pub overflow_sub-w : goal.overflow_sub-w
overflow_sub-w c = let k = shown c.args.r (length c.args.mem.now) (sym c.has_picture.ensures ∙ c.if-not-has_picture.false) in omega arith

pub overflow_sub-h : goal.overflow_sub-h
overflow_sub-h c = let k = shown c.args.r (length c.args.mem.now) (sym c.has_picture.ensures ∙ c.if-not-has_picture.false) in omega arith

pub rows-requires : goal.rows-requires
rows-requires c =
    let shows = sym c.has_picture.ensures ∙ c.if-not-has_picture.false in
    let k = shown c.args.r (length c.args.mem.now) shows in
    (rect-shown c.args.r (length c.args.mem.now) c.target_of-s.result c.target_of-s.ensures shows, (omega arith, omega arith))

pub returns : goal.returns
unfolding picture
returns c = rw (sym c.has_picture.ensures ∙ c.if-not-has_picture.false) (says_both c.header.ensures (rw c.target_of-s.ensures at c.rows.ensures))
