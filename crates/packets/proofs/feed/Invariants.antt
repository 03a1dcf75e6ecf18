-- `packets::feed` meets its contract: what the bytes that are left make of the call now is what all of them make of it at the start.
-- Assumes nothing.
use Rattle.std.proofs.Common.{length, drop, ◌-◌, ◌≡◌}
use Rattle.packets.specs.Answers.{lent, call, took_all, called}
use Rattle.packets.proofs.feed.Given as goal

abbrev pub invariant-loop-f : goal.invariant-loop-f
invariant-loop-f g l =
    let m = g.M.Machine in
    (took_all m.by (drop l.f.used l.piece) (call l.f.reader (m.seen l.machine) (lent l.answers l.f.answered) l.f.used)
    ≡ called m.by l.initial.f.reader (m.seen l.initial.machine) l.piece l.initial.answers)
    × (m.stays l.machine ≡ m.stays l.initial.machine)

abbrev pub decreases-loop-f : goal.decreases-loop-f
decreases-loop-f g l = length l.piece - l.f.used
