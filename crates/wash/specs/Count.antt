-- How many pixels masks count: eight for a row, again and again, and eight rows of them, again and again.
-- Assumes nothing.
use Rattle.std.specs.Prelude.{List, ℕ, zero, suc, ◌+◌, ◌*◌, ◌%◌, get_or}

-- of w pixels of a row, from pixel number i on; the row's masks from number `first` on
unfoldable pub counting : List ℕ → ℕ → ℕ → ℕ → ℕ
counting adds first i zero = 0
counting adds first i (suc w) = get_or adds (first + i % 8) 0 + counting adds first (i + 1) w

-- of h rows of w pixels, from row number j on
unfoldable pub countings : List ℕ → ℕ → ℕ → ℕ → ℕ
countings adds w j zero = 0
countings adds w j (suc h) = counting adds (j % 8 * 8) 0 w + countings adds w (j + 1) h
