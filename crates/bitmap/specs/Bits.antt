-- The marks of pages as bits in bytes: mark k is bit k % 8, low bit first, of byte k / 8 of those from `at` on.
-- Assumes nothing.
use Rattle.std.specs.Prelude.{Bool, false, cond, List, [], ◌∷◌, ℕ, zero, suc, ◌+◌, ◌*◌, ◌/◌, ◌%◌, ◌^◌, eqb, get_or, set}

-- bit j of a byte
abbrev pub bit_of : ℕ → ℕ → Bool
bit_of b j = eqb (b / 2 ^ j % 2) 1

-- bit k of those from byte `at` on
unfoldable pub bit_at : List ℕ → ℕ → ℕ → Bool
bit_at s at k = bit_of (get_or s (at + k / 8) 0) (k % 8)

-- n of them from number k on
unfoldable pub bits_from : List ℕ → ℕ → ℕ → ℕ → List Bool
bits_from s at k zero = []
bits_from s at k (suc n) = bit_at s at k ∷ bits_from s at (k + 1) n

-- one for each page of memory
unfoldable pub bits_in : List ℕ → ℕ → List Bool
bits_in s at = bits_from s at 0 4096

-- the byte of marks 8 j to 8 j + 7: each that is set adds its bit's power of two
abbrev pub part_of : List Bool → ℕ → ℕ → ℕ
part_of marks j i = cond (get_or marks (8 * j + i) false) (2 ^ i) 0

unfoldable pub byte_of : List Bool → ℕ → ℕ
byte_of marks j =
    part_of marks j 0
    + part_of marks j 1
    + part_of marks j 2
    + part_of marks j 3
    + part_of marks j 4
    + part_of marks j 5
    + part_of marks j 6
    + part_of marks j 7

-- the bytes with bit k set
unfoldable pub with_bit : List ℕ → ℕ → ℕ → List ℕ
with_bit s at k = cond (bit_at s at k) s (set s (at + k / 8) (get_or s (at + k / 8) 0 + 2 ^ (k % 8)))

-- with n bits from number k on set, one after the other
unfoldable pub with_bits : List ℕ → ℕ → ℕ → ℕ → List ℕ
with_bits s at k zero = s
with_bits s at k (suc n) = with_bits (with_bit s at k) at (k + 1) n

-- with those of them set whose mark is set; no bit is cleared
unfoldable pub with_marks : List ℕ → ℕ → List Bool → ℕ → ℕ → List ℕ
with_marks s at marks k zero = s
with_marks s at marks k (suc n) = with_marks (cond (get_or marks k false) (with_bit s at k) s) at marks (k + 1) n

-- with n bytes from `at` on 0
unfoldable pub cleared : List ℕ → ℕ → ℕ → List ℕ
cleared s at zero = s
cleared s at (suc n) = cleared (set s at 0) (at + 1) n
