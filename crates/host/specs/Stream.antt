-- What the whole of a host blit's data says of each pixel. Its words are ws 0, ws 1, .., low byte first.
-- Assumes nothing.
use Rattle.std.specs.Prelude.{cond, List, [], ◌∷◌, ◌++◌, ℕ, zero, suc, ◌+◌, ◌-◌, ◌*◌, ◌/◌, ◌%◌, ◌^◌, eqb}
use Rattle.host.specs.declared.Feed.{Feed}
use Rattle.host.specs.Host.{Pixel, pixel, by_word}

-- byte o of the data
unfoldable pub data_byte : (ℕ → ℕ) → ℕ → ℕ
data_byte ws o = ws (o / 4) / 2 ^ (8 * (o % 4)) % 2 ^ 8

-- the number in n bytes from byte o on
unfoldable pub data_number : (ℕ → ℕ) → ℕ → ℕ → ℕ
data_number ws o zero = 0
data_number ws o (suc n) = data_byte ws o + 2 ^ 8 * data_number ws (o + 1) n

-- pixel (i, j). Mono: bit 7 - (i mod 8) of byte floor(i / 8) of its row. Colour: the number in its bytes
unfoldable pub value_at : (ℕ → ℕ) → Feed → ℕ → ℕ → ℕ
value_at ws f i j =
    cond (eqb f.bytes 0)
    (data_byte ws (j * f.step + i / 8) / 2 ^ (7 - i % 8) % 2)
    (data_number ws (j * f.step + i * f.bytes) f.bytes)

-- n pixels of row j from column i on, as the data says
unfoldable pub row_from : (ℕ → ℕ) → Feed → ℕ → ℕ → ℕ → List Pixel
row_from ws f j i zero = []
row_from ws f j i (suc n) = pixel i j (value_at ws f i j) ∷ row_from ws f j (i + 1) n

-- the first n rows, one after the other
unfoldable pub rows : (ℕ → ℕ) → Feed → ℕ → List Pixel
rows ws f zero = []
rows ws f (suc n) = rows ws f n ++ row_from ws f n 0 f.width

-- the word before word n; 0 before the first
unfoldable pub before : (ℕ → ℕ) → ℕ → ℕ
before ws zero = 0
before ws (suc n) = ws n

-- the pixels that the first n words finish, in the order in which they are drawn
unfoldable pub by_words : (ℕ → ℕ) → Feed → ℕ → List Pixel
by_words ws f zero = []
by_words ws f (suc n) = by_words ws f n ++ by_word f (before ws n) (ws n) n
