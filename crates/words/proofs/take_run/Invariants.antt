-- `words::take_run` meets its contract: what the words that are left give from where it stands is what all give from the start.
-- Assumes nothing.
use Rattle.std.proofs.Common.{◌≡◌, ◌-◌, length, drop}
use Rattle.words.specs.Words.{ran_from}
use Rattle.words.specs.Turn.{sofar}
use Rattle.words.proofs.take_run.Given as goal

abbrev pub invariant-loop-sums : goal.invariant-loop-sums
invariant-loop-sums l =
    ran_from (sofar l.e l.mem l.sums) (drop l.sums.taken l.words) ≡ ran_from (sofar l.initial.e l.initial.mem l.initial.sums) (drop l.initial.sums.taken l.words)

abbrev pub decreases-loop-sums : goal.decreases-loop-sums
decreases-loop-sums l = length l.words - l.sums.taken
