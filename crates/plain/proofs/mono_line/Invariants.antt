-- `plain::mono_line` meets its contract: the pixels of the row that whole bytes of the data hold, a byte at a time, and then those that are left.
-- Assumes nothing.
use Prim.Native.Nat.{◌-◌}
use Rattle.pours.specs.Pours.{word_in}
use Rattle.plain.proofs.Glyphs.{LineDone}
use Rattle.plain.proofs.mono_line.Given as goal

abbrev pub invariant-loop-i : goal.invariant-loop-i
invariant-loop-i l = LineDone l.p l.feed (word_in l.words) l.j l.initial.mem l.initial.r l.i l.mem l.r

abbrev pub decreases-loop-i : goal.decreases-loop-i
decreases-loop-i l = l.feed.width - l.i
