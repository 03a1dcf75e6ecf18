-- `host::Blit::draw_word` meets its contract: each turn takes one of the word's four bytes.
-- Assumes nothing.
use Rattle.host.proofs.Drawing.{WordLeft}
use Rattle.host.proofs.Blit.draw_word.Given as goal

abbrev pub invariant-loop-t : goal.invariant-loop-t
invariant-loop-t l = WordLeft l.self.ink l.self.pattern l.self.clip l.self.feed l.last l.word l.taken l.initial.mem l.initial.r l.t l.mem l.r
