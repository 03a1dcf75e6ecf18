-- The whole register state: fresh, after a store into a register or into the pattern, and what a read of an offset gives.
-- Assumes nothing.
use Rattle.std.specs.Prelude.{ℕ, ◌+◌, ◌*◌, ◌/◌, ◌%◌, ◌^◌, cond, List, leb, get_or, set, replicate, Option, Some, None, unwrap_or}
use Rattle.registers.specs.Regs.{no_regs, put_reg, get_reg}
use Rattle.registers.specs.Kept.{kept}
use Rattle.registers.specs.Offsets.{place_of}
use Rattle.bank.specs.declared.Bank.{Bank}
use Rattle.registers.specs.declared.Place.{Place}
use Rattle.registers.specs.declared.Place.TheVariants.{Register, Pattern, Launch, Nowhere}

-- a word put at byte i of the pattern, low byte first; nothing where four bytes do not fit
unfoldable pub put_word : List ℕ → ℕ → ℕ → List ℕ
put_word p i d =
    cond (leb i 252)
    (set (set (set (set p i (d % 2 ^ 8)) (i + 1) (d / 2 ^ 8 % 2 ^ 8)) (i + 2) (d / 2 ^ 16 % 2 ^ 8)) (i + 3) (d / 2 ^ 24 % 2 ^ 8))
    p

-- the four bytes from byte i of the pattern as a word, low byte first; 0 where there are no four
unfoldable pub get_word : List ℕ → ℕ → ℕ
get_word p i =
    cond (leb i 252)
    (get_or p i 0 + get_or p (i + 1) 0 * 2 ^ 8 + get_or p (i + 2) 0 * 2 ^ 16 + get_or p (i + 3) 0 * 2 ^ 24)
    0

-- all registers and all bytes of the pattern 0
unfoldable pub fresh_bank : Bank
fresh_bank = record { regs = no_regs; pattern = replicate 256 0 }

-- the kept bits of a word, in the register at an offset
unfoldable pub stored : Bank → ℕ → ℕ → Bank
stored b o d = record { regs = put_reg o (kept o d) b.regs; pattern = b.pattern }

-- a word at byte i of the pattern
unfoldable pub patterned : Bank → ℕ → ℕ → Bank
patterned b i d = record { regs = b.regs; pattern = put_word b.pattern i d }

abbrev pub read_place : Place → Bank → ℕ → Option ℕ
read_place Register b o = Some (get_reg o b.regs)
read_place (Pattern i) b o = Some (get_word b.pattern i)
read_place Launch b o = None
read_place Nowhere b o = None

abbrev pub read_at : Bank → ℕ → Option ℕ
read_at b o = read_place (place_of o) b o

-- document 01's number for an answer to a read: 2, the offset is none that can be read
abbrev pub read_number : Option ℕ → ℕ
read_number (Some v) = 0
read_number None = 2

-- a refused read gives 0
abbrev pub read_value : Option ℕ → ℕ
read_value r = unwrap_or r 0
