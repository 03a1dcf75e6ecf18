-- `drips::data_box` meets its contract.
-- Assumes nothing.
use native.Mathlib.Omega.{arith}
use Rattle.drips.specs.Drips.{data_box}
use Rattle.drips.proofs.Reach.{first_small, past-small}
use Rattle.drips.proofs.data_box.Goals as goal

pub overflow_add-feed : goal.overflow_add-feed
overflow_add-feed c =
    omega (arith, c.first_row.ensures, first_small c.args.feed c.args.taken, c.requires.few, c.requires.y)

pub overflow_add-feed-2 : goal.overflow_add-feed-2
overflow_add-feed-2 c =
    omega (arith, c.past_row.ensures, past-small c.args.feed c.args.taken c.args.n, c.requires.few, c.requires.y, c.requires.step)

pub returns : goal.returns
unfolding data_box
returns c =
    rw (
      c.saturating_sub-2.ensures,
      c.min-past.ensures,
      c.saturating_sub.ensures,
      c.past_row.ensures,
      c.min-low.ensures,
      c.max.ensures,
      c.saturating_sub-first.ensures,
      c.first_row.ensures,
    )
