-- Several words of data for a host blit at once, as functions say it. No promise rests on it: that it is what the words do one by one is proved.
-- Assumes nothing.
use Rattle.std.specs.Prelude.{true, cond, List, ℕ, ◌+◌, ◌-◌, ◌^◌, min, eqb, ltb, length, take, Result, Ok, Err}
use Rattle.paint.specs.Paint.{State, tallied, state, Touch}
use Rattle.host.specs.Host.{words_of, by_run, last_of}
use Rattle.host.specs.Draw.{host_touches}
use Rattle.bank.specs.declared.Bank.{Bank}
use Rattle.command.specs.Decode.{ink_of, feed_of}
use Rattle.cuts.specs.Cut.{clip_of}
use Rattle.table.specs.Table.{host_verdict}
use Rattle.table.specs.declared.Fault.{Fault}
use Rattle.table.specs.Fault.{fault_number}
use Rattle.acts.specs.declared.Blit.{Blit}
use Rattle.acts.specs.declared.Fed.{Fed}
use Rattle.acts.specs.Deed.{no_blit, rect_ended, painted_by}

-- the pixels that they finish
abbrev pub touched_by_words : Bank → Blit → List ℕ → List Touch
touched_by_words b k ws =
    host_touches (ink_of b.regs) b.pattern (clip_of b.regs) (feed_of b.regs) (by_run (feed_of b.regs) k.last ws k.taken)

-- the number of the row that refuses them, or 0, the host blit after those that were used, what they painted, and how many they are
pub record Feeding : Type 0 where
  pub verdict : ℕ
  pub blit : Blit
  pub left : State
  pub used : ℕ

-- a refusal leaves the host blit
abbrev pub fed : Blit → Result Fed Fault → List ℕ → Feeding
fed k (Ok f) m = record { verdict = 0; blit = f.blit; left = tallied m f.tally; used = f.used }
fed k (Err e) m = record { verdict = fault_number e; blit = k; left = state m 0 0; used = 0 }

-- the blit after some words, of those it needs in all
unfoldable pub blit_after : Blit → List ℕ → ℕ → Blit
blit_after k ws needed = cond (ltb (k.taken + length ws) needed) (record { waiting = true; taken = k.taken + length ws; last = last_of k.last ws }) no_blit

-- the registers after them
unfoldable pub feed_ended : Bank → Blit → Bank
feed_ended b k = cond k.waiting b (rect_ended b)

-- how many of n words are used
abbrev pub reach : Bank → Blit → ℕ → ℕ
reach b k n = min (min (words_of (feed_of b.regs) - k.taken) (2 ^ 16)) n

abbrev pub feeding_words : Bank → Blit → List ℕ → List ℕ → Feeding
feeding_words b k m ws = record { verdict = 0; blit = blit_after k ws (words_of (feed_of b.regs)); left = painted_by b (touched_by_words b k ws) m; used = length ws }

unfoldable pub feeding_run : Bank → Blit → List ℕ → List ℕ → Feeding
feeding_run b k m ws =
    cond (eqb (host_verdict b.regs (length m)) 0)
    (cond (ltb k.taken (words_of (feed_of b.regs))) (feeding_words b k m (take (reach b k (length ws)) ws))
    (record { verdict = 0; blit = no_blit; left = state m 0 0; used = 1 }))
    (record { verdict = host_verdict b.regs (length m); blit = k; left = state m 0 0; used = 0 })
