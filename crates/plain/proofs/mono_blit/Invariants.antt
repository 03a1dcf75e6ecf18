-- `plain::mono_blit` meets its contract: each turn paints the next row.
-- Assumes nothing.
use Rattle.pours.specs.Pours.{word_in}
use Rattle.plain.proofs.Glyphs.{RowsDone}
use Rattle.plain.proofs.mono_blit.Given as goal

abbrev pub invariant-loop-j : goal.invariant-loop-j
invariant-loop-j l = RowsDone l.p l.feed (word_in l.words) l.initial.mem l.j l.mem l.r
