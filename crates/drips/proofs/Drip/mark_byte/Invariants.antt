-- `drips::Drip::mark_byte` meets its contract: what is left of the byte's pixels, marked now, is the byte, marked at the start.
-- Assumes nothing.
use mathlib.Core.Path.{◌≡◌}
use Prim.Native.Nat.{◌-◌}
use Rattle.host.specs.Host.{run, by_byte}
use Rattle.drips.proofs.Marks.{dripping}
use Rattle.drips.proofs.Drip.mark_byte.Given as goal

abbrev pub invariant-loop-i : goal.invariant-loop-i
invariant-loop-i l =
    dripping l.self.ink l.self.clip l.self.feed (run l.self.feed l.last l.word l.o l.i (l.end - l.i)) l.marks ≡ dripping l.self.ink l.self.clip l.self.feed (by_byte l.self.feed l.last l.word l.o) l.initial.marks
