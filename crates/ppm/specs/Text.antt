-- Text put into a lent buffer byte by byte, and the decimal text of a number. A byte that finds the buffer full is left out.
-- Assumes nothing.
use Rattle.std.specs.Prelude.{cond, ◌&&◌, List, [], ◌∷◌, ◌++◌, ℕ, zero, suc, ◌+◌, ◌/◌, ◌%◌, ◌^◌, ltb, length, set}
use Rattle.basics.specs.Each.{each}

-- a buffer, and how many of its bytes are used
pub record Page : Type 0 where
  pub bytes : List ℕ
  pub used : ℕ

abbrev pub page : List ℕ → ℕ → Page
page b n = record { bytes = b; used = n }

-- one byte more
unfoldable pub put : ℕ → Page → Page
put b p = cond (ltb p.used (length p.bytes)) (page (set p.bytes p.used b) (p.used + 1)) p

-- a whole text
abbrev pub said : List ℕ → Page → Page
said t p = each put t p

-- the digit of n at a power of ten, as a byte of text; none above the number's first digit, but always one at 1
unfoldable pub digit : ℕ → ℕ → List ℕ
digit n power = cond (ltb n power && ltb 1 power) [] ((48 + n / power % 10) ∷ [])

-- the digits of n at the k lowest places, the highest first
unfoldable pub digits : ℕ → ℕ → List ℕ
digits zero n = []
digits (suc k) n = digit n (10 ^ k) ++ digits k n

-- a number of 64 bits has at most 20 digits
unfoldable pub decimal : ℕ → List ℕ
decimal n = digits 20 n

-- a number with a byte after it
unfoldable pub numeral : ℕ → ℕ → List ℕ
numeral n after = decimal n ++ (after ∷ [])
