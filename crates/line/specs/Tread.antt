-- A walk along a line: from point to point the steps along the minor axis, and what the division leaves that gives their number, are only added to and
-- subtracted from.
-- Assumes nothing.
use Rattle.std.specs.Prelude.{◌≡◌, cond, ℕ, ◌+◌, ◌-◌, ◌*◌, ◌%◌, ltb}
use Rattle.line.specs.declared.Tread.{Tread}
use Rattle.line.specs.Line.{aside}

abbrev pub tread : ℕ → ℕ → Tread
tread aside rest = record { aside = aside; rest = rest }

-- to the next point of a line of sides n and m
unfoldable pub trodden : ℕ → ℕ → Tread → Tread
trodden n m t =
    cond (ltb t.rest (2 * n - 2 * m)) (tread t.aside (t.rest + 2 * m))
    (tread (t.aside + 1) (t.rest - (2 * n - 2 * m)))

-- the remainder at point i of the division that gives its steps aside
abbrev pub left_over : ℕ → ℕ → ℕ → ℕ
left_over n m i = (2 * i * m + n) % (2 * n)

-- the walk is at point i
pub record AtStep (n m i : ℕ) (t : Tread) : Type 0 where
  pub aside : t.aside ≡ aside n m i
  pub rest : t.rest ≡ left_over n m i
