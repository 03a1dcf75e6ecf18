-- `pours::put_wholes` meets its contract: the pixels of the words passed are poured.
-- Assumes nothing.
use mathlib.Core.Path.{◌≡◌}
use Prim.Native.Nat.{◌+◌, ◌*◌, ◌/◌}
use Rattle.pours.specs.Pours.{word_in}
use Rattle.pours.proofs.Spilt.{Poured}
use Rattle.pours.proofs.put_wholes.Given as goal

abbrev pub invariant-loop-word : goal.invariant-loop-word
invariant-loop-word g l =
    Poured (word_in l.words) g.row.B l.at l.initial.mem (4 / g.row.B * l.word-index) l.mem l.r × (l.a ≡ l.at + 4 * l.word-index)
