-- One axis of a stretch: which place of the source each place of the target takes.
-- Assumes nothing.
use Rattle.std.specs.Prelude.{cond, ℕ, ◌+◌, ◌-◌, ◌*◌, ◌/◌, ◌%◌, ltb}
use Rattle.scale.specs.declared.Scale.{Scale}
use Rattle.scale.specs.declared.Walk.{Walk}

-- number i of the target's pixels, counted from its first, takes number floor(i × source_size / size) of the source's
unfoldable pub scaled : Scale → ℕ → ℕ
scaled s place = s.from + (place - s.to) * s.source_size / s.size

-- what a walk has at a place
unfoldable pub walk_at : Scale → ℕ → Walk
walk_at s place = record {
  at = scaled s place;
  rest = (place - s.to) * s.source_size % s.size;
  whole = s.source_size / s.size;
  over = s.source_size % s.size;
  size = s.size;
}

-- a walk with another place, and what its division leaves there
abbrev pub walking : Walk → ℕ → ℕ → Walk
walking w at rest = record { at = at; rest = rest; whole = w.whole; over = w.over; size = w.size }

-- a step: the remainders stay under the size, or they count as one place more
unfoldable pub next_of : Walk → Walk
next_of w =
    cond (ltb (w.rest + w.over) w.size) (walking w (w.at + w.whole) (w.rest + w.over))
    (walking w (w.at + w.whole + 1) (w.rest + w.over - w.size))
