-- `picture::Player::feed` meets its contract: the bytes that are left, taken by the player now, are all of them taken by the player at the start.
-- Assumes nothing.
use Rattle.std.proofs.Common.{◌≡◌, length, drop}
use Rattle.picture.specs.Player.{sheet, fed}
use Rattle.picture.proofs.Player.feed.Given as goal

abbrev pub invariant-loop-byte : goal.invariant-loop-byte
invariant-loop-byte l = (fed (drop l.byte-index l.chunk) (sheet l.p l.mem) ≡ fed l.chunk (sheet l.initial.p l.initial.mem)) × (length l.mem ≡ length l.initial.mem)
