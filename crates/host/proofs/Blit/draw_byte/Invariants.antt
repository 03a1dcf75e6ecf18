-- `host::Blit::draw_byte` meets its contract: what is left of the byte's pixels, drawn on what stands now, is the byte drawn on what stood.
-- Assumes nothing.
use Prim.Native.Nat.{◌-◌}
use Rattle.paint.proofs.Loops.{Left}
use Rattle.host.specs.Host.{run, by_byte}
use Rattle.host.specs.Draw.{host_touches}
use Rattle.host.proofs.Blit.draw_byte.Given as goal

abbrev pub invariant-loop-i : goal.invariant-loop-i
invariant-loop-i l =
    Left l.self.ink.target (host_touches l.self.ink l.self.pattern l.self.clip l.self.feed (by_byte l.self.feed l.last l.word l.o)) l.initial.mem l.initial.r (l.i - l.start) (host_touches l.self.ink l.self.pattern l.self.clip l.self.feed (run l.self.feed l.last l.word l.o l.i (l.end - l.i))) l.mem l.r
