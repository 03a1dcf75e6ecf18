-- Words in bytes, low byte first.
-- Assumes nothing.
use Rattle.std.specs.Prelude.{List, ℕ, ◌+◌, ◌*◌, ◌/◌, ◌%◌, ◌^◌, get_or, set}

-- the four bytes from byte i on
unfoldable pub word_at : List ℕ → ℕ → ℕ
word_at s i = get_or s i 0 + get_or s (i + 1) 0 * 2 ^ 8 + get_or s (i + 2) 0 * 2 ^ 16 + get_or s (i + 3) 0 * 2 ^ 24

-- a word put there
unfoldable pub with_word : List ℕ → ℕ → ℕ → List ℕ
with_word s i d = set (set (set (set s i (d % 2 ^ 8)) (i + 1) (d / 2 ^ 8 % 2 ^ 8)) (i + 2) (d / 2 ^ 16 % 2 ^ 8)) (i + 3) (d / 2 ^ 24 % 2 ^ 8)
