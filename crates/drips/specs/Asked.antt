-- What functions of this crate ask for. No promise rests on it.
-- Assumes nothing.
use Rattle.std.specs.Prelude.{ℕ, ◌+◌, ◌^◌, ◌<◌, ◌≤◌}
use Rattle.ink.specs.declared.Ink.{Ink}
use Rattle.paint.specs.declared.Clip.{Clip}
use Rattle.paint.specs.Asked.{Bits12}
use Rattle.host.specs.declared.Feed.{Feed}
use Rattle.host.specs.Asked.{Sizes, Opened, WaitsFor}
use Rattle.cuts.specs.declared.Cut.{Cut}

-- a host blit that was opened, in a memory of which every page has a mark
pub record Dripping (ink : Ink) (c : Clip) (feed : Feed) : Type 0 where
  pub len : ℕ
  pub limit : len ≤ 2 ^ 24
  pub opened : Opened ink c feed len

-- a row of its source, for a clip as registers keep it
pub record RowOf (c : Clip) (feed : Feed) (j : ℕ) : Type 0 where
  pub sizes : Sizes feed
  pub bits12 : Bits12 c
  pub x : feed.x < 2 ^ 15
  pub row : j < feed.height

-- the same blit, where `taken` words came before and n words come
pub record Drippable (ink : Ink) (c : Clip) (feed : Feed) (taken n : ℕ) : Type 0 where
  pub len : ℕ
  pub limit : len ≤ 2 ^ 24
  pub waits : WaitsFor ink c feed len taken n

-- numbers that fit, for the rows that words can reach
pub record Boxable (feed : Feed) (cut : Cut) (taken n : ℕ) : Type 0 where
  pub some : 0 < feed.step
  pub step : feed.step < 2 ^ 17
  pub y : feed.y < 2 ^ 15
  pub few : taken + n < 2 ^ 29
  pub high : cut.y + cut.h ≤ 2 ^ 14
