-- `drips::is_left` meets its contract: by the test for mono.
-- Assumes nothing.
use borrow.Author.Tests.{eq-eqb, ne_eqb}
use Rattle.paint.specs.Mix.{bit_source, colour_source}
use Rattle.host.specs.Draw.{host_source}
use Rattle.drips.proofs.is_left.Goals as goal

pub returns-then-feed-eq0 : goal.returns-then-feed-eq0
unfolding host_source bit_source
returns-then-feed-eq0 c = rw (eq-eqb _ _ c.if-feed-eq0.true)

pub returns-else-feed-eq0 : goal.returns-else-feed-eq0
unfolding host_source colour_source
returns-else-feed-eq0 c = rw (ne_eqb _ _ c.if-feed-eq0.false)
