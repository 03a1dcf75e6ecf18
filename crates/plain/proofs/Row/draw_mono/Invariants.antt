-- `plain::Row::draw_mono` meets its contract: each turn draws the pixels of the stretch that one byte holds.
-- Assumes nothing.
use mathlib.Core.List.{[]}
use Prim.Native.Nat.{◌-◌}
use Rattle.plain.specs.Plain.{plain_ink}
use Rattle.plain.proofs.Parts.{StretchLeft}
use Rattle.plain.proofs.Row.draw_mono.Given as goal

abbrev pub invariant-loop-i : goal.invariant-loop-i
invariant-loop-i l = StretchLeft (plain_ink l.self.blit.plain) [] l.self.blit.clip l.self.blit.feed l.self.last l.self.word l.self.j l.start l.end l.initial.mem l.initial.r l.i l.mem l.r

abbrev pub decreases-loop-i : goal.decreases-loop-i
decreases-loop-i l = l.end - l.i
