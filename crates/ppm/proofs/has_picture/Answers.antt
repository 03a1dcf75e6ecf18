-- `ppm::has_picture` meets its contract: by the tests.
-- Assumes nothing.
use mathlib.Core.Path.{ap, ◌∙◌}
use borrow.Author.Tests.{lt-ltb, le-ltb}
use Rattle.surface.specs.declared.Surface.{Surface}
use Rattle.spans.specs.Span.{all_on}
use Rattle.formats.proofs.FormatLaws.{target_small}
use Rattle.ppm.specs.Picture.{pixels, shows}
use Rattle.ppm.proofs.has_picture.Goals as goal

pub returns-then-not-names_target : goal.returns-then-not-names_target
unfolding shows
returns-then-not-names_target c = rw (← c.names_target.ensures, c.if-not-names_target.true)

pub returns-then-right-left : goal.returns-then-right-left
unfolding shows
returns-then-right-left c = rw (← c.names_target.ensures, c.if-not-names_target.false, le-ltb _ _ c.if-right-left.true)

pub returns-then-bottom-top : goal.returns-then-bottom-top
unfolding shows
returns-then-bottom-top c = rw (← c.names_target.ensures, c.if-not-names_target.false, lt-ltb _ _ c.if-right-left.false, le-ltb _ _ c.if-bottom-top.true)

pub rect_on-requires : goal.rect_on-requires
rect_on-requires c = rw c.target_of-s.ensures (target_small c.args.r.dst_base_addr c.args.r.dst_format)

pub returns : goal.returns
unfolding shows
returns c =
    let a = c.args in
    rw (← c.names_target.ensures, c.if-not-names_target.false, lt-ltb _ _ c.if-right-left.false, lt-ltb _ _ c.if-bottom-top.false)
    (c.rect_on.ensures ∙ ap (λ (s : Surface). all_on s a.len (pixels a.r)) c.target_of-s.ensures)
