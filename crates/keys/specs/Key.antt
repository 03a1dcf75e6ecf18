-- The colour key: a pixel matches if every channel of it is between those of two numbers, both included.
-- Assumes nothing.
use Rattle.std.specs.Prelude.{ℕ, ◌/◌, ◌%◌, ◌^◌, Bool, true, cond, ◌&&◌, List, [], ◌∷◌, eqb, leb}

-- a channel: the bit of the pixel at which it starts, and how many values it has
pub record Channel : Type 0 where
  pub start : ℕ
  pub values : ℕ

abbrev pub chan : ℕ → ℕ → Channel
chan start values = record { start = start; values = values }

-- by bytes per pixel: one index; blue of 5 bits, green of 6, red of 5; three of 8 bits, and not the top byte of four
abbrev pub channels : ℕ → List Channel
channels bytes =
    cond (eqb bytes 1) (chan 0 256 ∷ [])
    (cond (eqb bytes 2) (chan 0 32 ∷ chan 5 64 ∷ chan 11 32 ∷ [])
    (chan 0 256 ∷ chan 8 256 ∷ chan 16 256 ∷ []))

abbrev pub channel : Channel → ℕ → ℕ
channel c v = v / 2 ^ c.start % c.values

unfoldable pub within : Channel → ℕ → ℕ → ℕ → Bool
within c lo hi v = leb (channel c lo) (channel c v) && leb (channel c v) (channel c hi)

abbrev pub all_within : List Channel → ℕ → ℕ → ℕ → Bool
all_within [] lo hi v = true
all_within (c ∷ cs) lo hi v = within c lo hi v && all_within cs lo hi v

unfoldable pub key_match : ℕ → ℕ → ℕ → ℕ → Bool
key_match bytes lo hi v = all_within (channels bytes) lo hi v
