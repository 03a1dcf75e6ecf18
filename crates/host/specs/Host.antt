-- Which pixels of a host blit each word of its data finishes, and with what values. Byte o of the data is byte o % step of row o / step;
-- a pixel is drawn when its last byte has come, and what follows a row's pixels finishes none.
-- Assumes nothing.
use Rattle.std.specs.Prelude.{cond, List, [], ◌∷◌, ◌++◌, ℕ, zero, suc, ◌+◌, ◌-◌, ◌*◌, ◌/◌, ◌%◌, ◌^◌, min, eqb, ltb}
use Rattle.formats.specs.Step.{bits_per, data_words}
use Rattle.host.specs.declared.Feed.{Feed}

-- ---- places in the data

unfoldable pub bits_of : Feed → ℕ
bits_of f = bits_per f.bytes

-- the last byte of pixel i in its row: that of its last bit
unfoldable pub last_column : Feed → ℕ → ℕ
last_column f i = ((i + 1) * bits_of f - 1) / 8

-- the last byte of pixel (i, j): rows are at the step
unfoldable pub last_byte_of : Feed → ℕ → ℕ → ℕ
last_byte_of f i j = j * f.step + last_column f i

abbrev pub words_of : Feed → ℕ
words_of f = data_words f.bytes f.step f.width f.height

-- ---- a pixel and its source value
pub record Pixel : Type 0 where
  pub i : ℕ
  pub j : ℕ
  pub value : ℕ

abbrev pub pixel : ℕ → ℕ → ℕ → Pixel
pixel i j v = record { i = i; j = j; value = v }

-- the last word and this one as one number of eight bytes, low byte first: byte t of this word is its byte 4 + t
abbrev pub two : ℕ → ℕ → ℕ
two last word = last + word * 2 ^ 32

-- the value of pixel i, whose last byte is byte t of this word. Mono: bit 7 - i % 8 of that byte. Colour: the pixel's bytes, which end with it
unfoldable pub value_of : Feed → ℕ → ℕ → ℕ → ℕ → ℕ
value_of f last word t i =
    cond (eqb f.bytes 0)
    (two last word / 2 ^ (8 * (4 + t) + (7 - i % 8)) % 2)
    (two last word / 2 ^ (8 * (5 + t - f.bytes)) % 2 ^ (8 * f.bytes))

-- ---- the pixels finished

-- how many pixels of a row its first c bytes hold whole
unfoldable pub whole : Feed → ℕ → ℕ
whole f c = min f.width (8 * c / bits_of f)

-- n pixels from pixel i on, all finished by byte o
unfoldable pub run : Feed → ℕ → ℕ → ℕ → ℕ → ℕ → List Pixel
run f last word o i zero = []
run f last word o i (suc n) = pixel i (o / f.step) (value_of f last word (o % 4) i) ∷ run f last word o (i + 1) n

-- by byte o: the pixels of its row that are whole with it and were not before it
unfoldable pub by_byte : Feed → ℕ → ℕ → ℕ → List Pixel
by_byte f last word o =
    cond (ltb (o / f.step) f.height)
    (run f last word o (whole f (o % f.step)) (whole f (o % f.step + 1) - whole f (o % f.step)))
    []

-- by n bytes from byte o on
unfoldable pub by_bytes : Feed → ℕ → ℕ → ℕ → ℕ → List Pixel
by_bytes f last word o zero = []
by_bytes f last word o (suc n) = by_byte f last word o ++ by_bytes f last word (o + 1) n

-- by word number k; `last` is the word before it
unfoldable pub by_word : Feed → ℕ → ℕ → ℕ → List Pixel
by_word f last word k = by_bytes f last word (4 * k) 4

-- by words from number k on; `last` is the word before them
unfoldable pub by_run : Feed → ℕ → List ℕ → ℕ → List Pixel
by_run f last [] k = []
by_run f last (w ∷ ws) k = by_word f last w k ++ by_run f w ws (k + 1)

-- the last word of a run, or the one before it where it has none
unfoldable pub last_of : ℕ → List ℕ → ℕ
last_of last [] = last
last_of last (w ∷ ws) = last_of w ws
