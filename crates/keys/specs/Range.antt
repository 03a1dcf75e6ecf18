-- The channels of a key's two numbers, worked out before its pixels are looked at. Which channels there are is said by `channels` (Key).
-- Assumes nothing.
use Rattle.std.specs.Prelude.{ℕ, zero, suc, Bool, true, ◌&&◌, List, [], ◌∷◌, leb}
use Rattle.keys.specs.declared.Range.{Range}
use Rattle.keys.specs.Key.{Channel, channels, channel}

-- channel number i of a number, 0 where there is none
abbrev pub numbered : List Channel → ℕ → ℕ → ℕ
numbered [] i v = 0
numbered (c ∷ cs) zero v = channel c v
numbered (c ∷ cs) (suc i) v = numbered cs i v

-- the least and the most of each channel
abbrev pub ends : List Channel → ℕ → ℕ → Range
ends cs lo hi = record {
  low0 = numbered cs 0 lo;
  high0 = numbered cs 0 hi;
  low1 = numbered cs 1 lo;
  high1 = numbered cs 1 hi;
  low2 = numbered cs 2 lo;
  high2 = numbered cs 2 hi;
}

unfoldable pub range_of : ℕ → ℕ → ℕ → Range
range_of bytes lo hi = ends (channels bytes) lo hi

-- those of channel number i
abbrev pub least : Range → ℕ → ℕ
least r zero = r.low0
least r (suc zero) = r.low1
least r (suc (suc i)) = r.low2

abbrev pub most : Range → ℕ → ℕ
most r zero = r.high0
most r (suc zero) = r.high1
most r (suc (suc i)) = r.high2

-- channels of v, from number i on, are in their ranges
abbrev pub all_in : List Channel → Range → ℕ → ℕ → Bool
all_in [] r i v = true
all_in (c ∷ cs) r i v = (leb (least r i) (channel c v) && leb (channel c v) (most r i)) && all_in cs r (suc i) v

unfoldable pub in_range : ℕ → Range → ℕ → Bool
in_range bytes r v = all_in (channels bytes) r 0 v
