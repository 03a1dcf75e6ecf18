-- Pixels from an address on, each given the number in its bytes of a host blit's data.
-- Assumes nothing.
use Rattle.std.specs.Prelude.{not, List, ℕ, zero, suc, ◌+◌, eqb, get_or}
use Rattle.std.proofs.Math.Option.{some}
use Rattle.surface.specs.Place.{one}
use Rattle.paint.specs.Paint.{State, dab_at}
use Rattle.host.specs.Stream.{data_number}

-- word n of a run
abbrev pub word_in : List ℕ → ℕ → ℕ
word_in ws n = get_or ws n 0

-- 1 for two numbers that are not the same
abbrev pub unlike : ℕ → ℕ → ℕ
unlike a b = one (not (eqb a b))

-- w pixels of b bytes from an address on; the data's words are ws 0, ws 1, .., and the first pixel has its bytes from byte o on
unfoldable pub poured_at : (ℕ → ℕ) → ℕ → ℕ → ℕ → ℕ → State → State
poured_at ws b o at zero st = st
poured_at ws b o at (suc w) st = poured_at ws b (o + b) (at + b) w (dab_at at b (some (data_number ws o b)) st)
