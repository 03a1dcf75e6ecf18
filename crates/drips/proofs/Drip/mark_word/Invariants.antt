-- `drips::Drip::mark_word` meets its contract: each turn takes one of the word's four bytes.
-- Assumes nothing.
use mathlib.Core.Path.{◌≡◌}
use Prim.Native.Nat.{◌+◌, ◌-◌, ◌*◌}
use Rattle.host.specs.Host.{by_bytes, by_word}
use Rattle.drips.proofs.Marks.{dripping}
use Rattle.drips.proofs.Drip.mark_word.Given as goal

abbrev pub invariant-loop-t : goal.invariant-loop-t
invariant-loop-t l =
    dripping l.self.ink l.self.clip l.self.feed (by_bytes l.self.feed l.last l.word (4 * l.taken + l.t) (4 - l.t)) l.marks ≡ dripping l.self.ink l.self.clip l.self.feed (by_word l.self.feed l.last l.word l.taken) l.initial.marks
