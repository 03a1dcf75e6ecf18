-- `drips::Drip::mark_rows` meets its contract: the rows left, marked now, are all of them, marked at the start.
-- Assumes nothing.
use mathlib.Core.Path.{◌≡◌}
use Prim.Native.Nat.{◌+◌, ◌-◌, ◌*◌, min}
use Rattle.pages.specs.Pages.{marking}
use Rattle.drips.specs.Drips.{first_row, past_row}
use Rattle.drips.specs.Rows.{rows_drips}
use Rattle.drips.proofs.Drip.mark_rows.Given as goal

abbrev pub invariant-loop-j : goal.invariant-loop-j
invariant-loop-j l =
    marking l.self.ink.target (rows_drips l.self.clip l.self.feed (4 * l.taken) (4 * (l.taken + l.n)) l.j (l.end - l.j)) l.marks
    ≡ marking l.self.ink.target (rows_drips l.self.clip l.self.feed (4 * l.taken) (4 * (l.taken + l.n)) (first_row l.self.feed l.taken) (min l.self.feed.height (past_row l.self.feed l.taken l.n) - first_row l.self.feed l.taken)) l.initial.marks
