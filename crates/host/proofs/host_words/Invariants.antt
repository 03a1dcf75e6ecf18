-- `host::host_words` meets its contract: each turn draws the pixels that one word finishes.
-- Assumes nothing.
use mathlib.Core.Path.{◌≡◌}
use Prim.Native.Nat.{◌+◌}
use Rattle.host.proofs.Runs.{RunLeft}
use Rattle.host.proofs.host_words.Given as goal

abbrev pub invariant-loop-word : goal.invariant-loop-word
invariant-loop-word l = RunLeft l.blit.ink l.blit.pattern l.blit.clip l.blit.feed l.last l.words l.taken l.initial.mem l.word-index l.before l.mem l.n × (l.k ≡ l.taken + l.word-index)
