-- `plain::Blit::draw_word` meets its contract: each turn takes the bytes of the word that lie in row j, the first of which is byte `column` of it.
-- Assumes nothing.
use mathlib.Core.Path.{◌≡◌}
use mathlib.Core.List.{[]}
use Prim.Native.Nat.{◌+◌, ◌-◌, ◌*◌, ◌<◌}
use Rattle.plain.specs.Plain.{plain_ink}
use Rattle.host.proofs.Drawing.{WordLeft}
use Rattle.plain.proofs.Blit.draw_word.Given as goal

abbrev pub invariant-loop-t : goal.invariant-loop-t
invariant-loop-t l =
    WordLeft (plain_ink l.self.plain) [] l.self.clip l.self.feed l.last l.word l.taken l.initial.mem l.initial.r l.t l.mem l.r × (l.t < 4 → (4 * l.taken + l.t ≡ l.j * l.self.feed.step + l.column) × (l.column < l.self.feed.step))

abbrev pub decreases-loop-t : goal.decreases-loop-t
decreases-loop-t l = 4 - l.t
