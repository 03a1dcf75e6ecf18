-- What functions of this crate ask for. No promise rests on it.
-- Assumes nothing.
use Rattle.std.specs.Prelude.{ℕ, ◌+◌, ◌^◌, ◌<◌}
use Rattle.surface.specs.Asked.{OnColour}
use Rattle.ink.specs.declared.Ink.{Ink}
use Rattle.paint.specs.declared.Clip.{Clip}
use Rattle.paint.specs.declared.Tally.{Tally}

-- a clip as its registers keep it
pub record Bits12 (c : Clip) : Type 0 where
  pub left : c.left < 2 ^ 12
  pub right : c.right < 2 ^ 12
  pub top : c.top < 2 ^ 12
  pub bottom : c.bottom < 2 ^ 12

-- a tally n that can tell of k pixels more
pub record Room (n : Tally) (k : ℕ) : Type 0 where
  pub count : n.count + k < 2 ^ 32
  pub changed : n.changed + k < 2 ^ 32

-- a pixel that is on the target, where n tells of those before it
pub record Ready (ink : Ink) (len x y : ℕ) (n : Tally) : Type 0 where
  pub on : OnColour ink.target len x y
  pub room : Room n 1
