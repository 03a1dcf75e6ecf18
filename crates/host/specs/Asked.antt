-- What functions of this crate ask for. No promise rests on it.
-- Assumes nothing.
use Rattle.std.specs.Prelude.{true, ◌≡◌, ℕ, ◌+◌, ◌-◌, ◌^◌, ◌<◌, ◌≤◌}
use Rattle.formats.specs.Step.{row_length}
use Rattle.surface.specs.Asked.{Colour, OnColour}
use Rattle.surface.specs.Pixels.{origin}
use Rattle.ink.specs.declared.Ink.{Ink}
use Rattle.paint.specs.declared.Clip.{Clip}
use Rattle.paint.specs.Clip.{in_clip}
use Rattle.paint.specs.Asked.{Bits12}
use Rattle.host.specs.declared.Feed.{Feed}

-- a source as registers can name one
pub record Sizes (f : Feed) : Type 0 where
  pub bytes : f.bytes < 5
  pub step : f.step < 2 ^ 17
  pub width : f.width < 2 ^ 13
  pub height : f.height < 2 ^ 13

-- the same, with pixels in a row, which the step holds
pub record Rows (f : Feed) : Type 0 where
  pub sizes : Sizes f
  pub held : row_length f.bytes f.width ≤ f.step
  pub some : 0 < row_length f.bytes f.width

-- every pixel of the rectangle that is inside the clip is on the target, in a memory of len bytes
pub record OpenOn (ink : Ink) (clip : Clip) (feed : Feed) (len : ℕ) : Type 0 where
  pub on : (i j : ℕ) → i < feed.width → j < feed.height → in_clip clip (feed.x + i) (feed.y + j) ≡ true
      → OnColour ink.target len (feed.x + i - origin) (feed.y + j - origin)

-- a host blit that was opened
pub record Opened (ink : Ink) (clip : Clip) (feed : Feed) (len : ℕ) : Type 0 where
  pub colour : Colour ink.target
  pub bits12 : Bits12 clip
  pub rows : Rows feed
  pub x : feed.x < 2 ^ 15
  pub y : feed.y < 2 ^ 15
  pub covered : OpenOn ink clip feed len

-- the same, where `taken` words came before
pub record Waits (ink : Ink) (clip : Clip) (feed : Feed) (len taken : ℕ) : Type 0 where
  pub opened : Opened ink clip feed len
  pub few : taken < 2 ^ 29

-- the same, where n words come after these, so few that 32 bits count their pixels
pub record WaitsFor (ink : Ink) (clip : Clip) (feed : Feed) (len taken n : ℕ) : Type 0 where
  pub opened : Opened ink clip feed len
  pub few : taken + n < 2 ^ 29
  pub short : n ≤ 2 ^ 16
