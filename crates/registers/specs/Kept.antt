-- The bits of a word that a register keeps; the others read as 0.
-- Assumes nothing.
use Rattle.std.specs.Prelude.{ℕ, ◌+◌, ◌*◌, ◌/◌, ◌%◌, ◌^◌, Bool, true, false, cond, List, [], ◌∷◌, eqb}

-- an offset is one of a list
abbrev pub one_of : ℕ → List ℕ → Bool
one_of o [] = false
one_of o (a ∷ l) = cond (eqb o a) true (one_of o l)

-- the clips; the bases; lineStyle, the XY registers and the sizes; the keys and rop
abbrev pub is_clip : ℕ → Bool
is_clip o = one_of o (0x08 ∷ 0x0c ∷ 0x4c ∷ 0x50 ∷ [])

abbrev pub is_base : ℕ → Bool
is_base o = one_of o (0x10 ∷ 0x34 ∷ [])

abbrev pub is_pair : ℕ → Bool
is_pair o = one_of o (0x40 ∷ 0x58 ∷ 0x5c ∷ 0x68 ∷ 0x6c ∷ [])

abbrev pub is_key : ℕ → Bool
is_key o = one_of o (0x18 ∷ 0x1c ∷ 0x20 ∷ 0x24 ∷ 0x30 ∷ [])

-- n bits from bit 0
abbrev pub low : ℕ → ℕ → ℕ
low n d = d % 2 ^ n

-- l bits from bit 0 and h bits from bit 16
abbrev pub halves : ℕ → ℕ → ℕ → ℕ
halves l h d = d % 2 ^ l + d / 2 ^ 16 % 2 ^ h * 2 ^ 16

-- bits 23:0 and 31
abbrev pub address : ℕ → ℕ
address d = d % 2 ^ 24 + d / 2 ^ 31 % 2 * 2 ^ 31

-- clips 11:0 and 27:16; bases 23:0 and 31; dstFormat 13:0 and 18:16; srcFormat 13:0 and 23:16; lineStyle (7:0, 12:8, 23:16, 28:24), XY and
-- sizes 12:0 and 28:16; keys and rop 23:0; commandExtra 3:0; the rest 31:0
unfoldable pub kept : ℕ → ℕ → ℕ
kept o =
    cond (is_clip o) (halves 12 12) (
    cond (is_base o) address (
    cond (eqb o 0x14) (halves 14 3) (
    cond (eqb o 0x54) (halves 14 8) (
    cond (is_pair o) (halves 13 13) (
    cond (is_key o) (low 24) (
    cond (eqb o 0x38) (low 4)
    (λ d. d)))))))
