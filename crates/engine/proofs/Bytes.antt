-- The bytes of a pixel, in rows and in tiles: no other pixel has them, and they are in memory.
-- Assumes nothing.
use Rattle.surface.proofs.Rects.{same-px}
use Rattle.surface.proofs.Pixels.{same_byte}
use Rattle.surface.proofs.OnLaws.{on-bytes}
use Rattle.engine.specs.Promises.{OneOwner, InMemory}

pub one-owner : OneOwner
one-owner s p q j k hp hq hj hk e = let same = same_byte s p.x p.y j q.x q.y k hp hq hj hk e in (same-px p q same.0 same.1, same.2)

pub in_memory : InMemory
in_memory s len p k on h = on-bytes s len p.x p.y on k h
