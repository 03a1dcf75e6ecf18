-- `drips::Drip::mark_each` meets its contract: each turn marks the pixels that one word finishes.
-- Assumes nothing.
use mathlib.Core.Path.{◌≡◌}
use Prim.Native.Nat.{◌+◌}
use lib.ListN.{drop}
use Rattle.host.specs.Host.{by_run}
use Rattle.drips.proofs.Marks.{dripping}
use Rattle.drips.proofs.Drip.mark_each.Given as goal

abbrev pub invariant-loop-i : goal.invariant-loop-i
invariant-loop-i l =
    dripping l.self.ink l.self.clip l.self.feed (by_run l.self.feed l.before (drop l.i l.words) (l.taken + l.i)) l.marks ≡ dripping l.self.ink l.self.clip l.self.feed (by_run l.self.feed l.last l.words l.taken) l.initial.marks
