-- `pours::put_threes` meets its contract: the pixels of the words passed, three at a time, are poured.
-- Assumes nothing.
use Prim.Native.Nat.{◌*◌}
use Rattle.pours.specs.Pours.{word_in}
use Rattle.pours.proofs.Spilt.{Poured}
use Rattle.pours.proofs.put_threes.Given as goal

abbrev pub invariant-loop-t : goal.invariant-loop-t
invariant-loop-t l = Poured (word_in l.words) 3 l.at l.initial.mem (l.t * 4) l.mem l.r
