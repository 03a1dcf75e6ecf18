-- `plain::Row::draw_each` meets its contract: each turn draws the next pixel of the stretch, with its source.
-- Assumes nothing.
use mathlib.Core.List.{[]}
use Rattle.plain.specs.Plain.{plain_ink}
use Rattle.plain.proofs.Parts.{StretchLeft}
use Rattle.plain.proofs.Row.draw_each.Given as goal

abbrev pub invariant-loop-i : goal.invariant-loop-i
invariant-loop-i g l = StretchLeft (plain_ink l.self.blit.plain) [] l.self.blit.clip l.self.blit.feed l.self.last l.self.word l.self.j l.start l.end l.initial.mem l.initial.r l.i l.mem l.r
