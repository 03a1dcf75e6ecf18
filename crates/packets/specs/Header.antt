-- What a packet's header says, in the words of document 002, section 12.1: type 1 has a count of words, type 2 a mask of registers.
-- Assumes nothing.
use Rattle.std.specs.Prelude.{ℕ, zero, suc, ◌+◌, ◌*◌, ◌/◌, ◌%◌, ◌^◌, Bool, cond, not, ◌&&◌, ◌||◌, List, [], ◌∷◌, ◌==◌}

-- the type, bits 2:0
abbrev pub kind : ℕ → ℕ
kind h = h % 2 ^ 3

-- ---- type 1: bits 31:16 the number of words, 15 consecutive addresses, 14 a 2D register, 10:3 the number of the first register
abbrev pub word_count : ℕ → ℕ
word_count h = h / 2 ^ 16

abbrev pub consecutive : ℕ → Bool
consecutive h = h / 2 ^ 15 % 2 == 1

abbrev pub flat : ℕ → Bool
flat h = h / 2 ^ 14 % 2 == 1

-- a register's byte offset is four times its number
abbrev pub first_offset : ℕ → ℕ
first_offset h = h / 2 ^ 3 % 2 ^ 8 * 4

-- the offsets of so many words, each a step after the one before
unfoldable pub stepped_from : ℕ → ℕ → ℕ → List ℕ
stepped_from zero o step = []
stepped_from (suc n) o step = o ∷ stepped_from n (o + step) step

-- ---- type 2: bit N of the mask in 31:3 writes the register at 8 + 4 N
abbrev pub mask : ℕ → ℕ
mask h = h / 2 ^ 3

abbrev pub marked : Bool → ℕ → List ℕ → List ℕ
marked b o more = cond b (o ∷ more) more

-- the offsets of the bits that are 1, of so many bits, the lowest first
unfoldable pub masked_from : ℕ → ℕ → ℕ → List ℕ
masked_from zero o bits = []
masked_from (suc k) o bits = marked (bits % 2 == 1) o (masked_from k (o + 4) (bits / 2))

-- ---- answer 9: another type, or type 1 with a target that is not 2D
abbrev pub turned_down : ℕ → Bool
turned_down h = not ((kind h == 1 && flat h) || kind h == 2)

-- ---- the offsets of the words that follow, in order
unfoldable pub offsets_of : ℕ → List ℕ
offsets_of h = cond (kind h == 2) (masked_from 29 8 (mask h)) (stepped_from (word_count h) (first_offset h) (cond (consecutive h) 4 0))
