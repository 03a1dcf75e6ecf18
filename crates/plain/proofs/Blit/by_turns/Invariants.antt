-- `plain::Blit::by_turns` meets its contract: each turn draws the pixels that its words finish.
-- Assumes nothing.
use mathlib.Core.List.{[]}
use Prim.Native.Nat.{◌-◌}
use lib.ListN.{length}
use Rattle.host.proofs.Runs.{RunLeft}
use Rattle.plain.specs.Plain.{plain_ink}
use Rattle.plain.proofs.Blit.by_turns.Given as goal

abbrev pub invariant-loop-i : goal.invariant-loop-i
invariant-loop-i l = RunLeft (plain_ink l.self.plain) [] l.self.clip l.self.feed l.last l.words l.taken l.initial.mem l.i l.before l.mem l.n

abbrev pub decreases-loop-i : goal.decreases-loop-i
decreases-loop-i l = length l.words - l.i
