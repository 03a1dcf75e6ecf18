-- A tally: what is told of the pixels written so far, how many they are, and how many of them have other bytes than just before they were written.
-- Assumes nothing.
use Rattle.std.specs.Prelude.{ℕ, ◌+◌}
use Rattle.paint.specs.declared.Tally.{Tally}

abbrev pub tally : ℕ → ℕ → Tally
tally count changed = record { count = count; changed = changed }

-- k pixels more were written, and c of them changed
abbrev pub noted : ℕ → ℕ → Tally → Tally
noted k c n = tally (n.count + k) (n.changed + c)
