-- What programs that play recorded streams share: the memory's bytes at the start, how much of it is lent, and checksums of registers and memory. What a
-- sheet holds does not hang on any of it.
-- Assumes nothing.
use Rattle.std.specs.Prelude.{◌≡◌, cond, List, [], ◌∷◌, ℕ, zero, suc, ◌+◌, ◌-◌, ◌*◌, ◌/◌, ◌%◌, ◌^◌, ◌<◌, eqb, length, get_or}
use Rattle.std.specs.Int.Bits.{bit_xor}
use Rattle.basics.specs.Each.{each}
use Rattle.bank.specs.Bank.{read_value}
use Rattle.rooms.specs.declared.Rooms.{Rooms}
use Rattle.engine.specs.declared.Engine.{Engine}
use Rattle.engine.specs.Step.{read_from}

-- ---- the memory at the start: byte i is 7 i i + 13 i + seed, modulo 256
abbrev pub start_byte : ℕ → ℕ → ℕ
start_byte i seed = (i % 256 * (i % 256) % 256 * 7 + i % 256 * 13 + seed % 256) % 256

pub record Started (m : List ℕ) (len seed : ℕ) : Type 0 where
  pub long : length m ≡ len
  pub each : (i : ℕ) → i < len → get_or m i 0 ≡ start_byte i seed

-- how much of it is lent: all, or all but its last byte
abbrev pub lent_of : ℕ → ℕ → ℕ
lent_of len kind = cond (eqb kind 1) (len - 1) len

-- ---- checksums, FNV-1a in 32 bits: of no bytes, and after one more
abbrev pub no_bytes : ℕ
no_bytes = 2166136261

abbrev pub mixed : ℕ → ℕ → ℕ
mixed b sum = bit_xor sum b % 2 ^ 32 * 16777619 % 2 ^ 32

-- after a word's four bytes, low byte first
abbrev pub mixed_word : ℕ → ℕ → ℕ
mixed_word w sum = mixed (w / 2 ^ 24 % 2 ^ 8) (mixed (w / 2 ^ 16 % 2 ^ 8) (mixed (w / 2 ^ 8 % 2 ^ 8) (mixed (w % 2 ^ 8) sum)))

abbrev pub memory_sum : List ℕ → ℕ
memory_sum m = each mixed m no_bytes

-- what so many registers from an offset on read back
unfoldable pub reads_from : Engine → ℕ → ℕ → List ℕ
reads_from e o zero = []
reads_from e o (suc n) = read_value (read_from e o) ∷ reads_from e (o + 4) n

-- what is kept of source and target
abbrev pub room_words : Rooms → List ℕ
room_words k = k.source.pixels ∷ k.source.rows ∷ k.target.pixels ∷ k.target.rows ∷ []

-- of registers 08 to 70, of the pattern, of one byte for a waiting host blit, and of what is kept
abbrev pub register_sum : Engine → ℕ
register_sum e =
    each mixed_word (room_words e.rooms)
    (mixed (cond e.blit.waiting 1 0) (each mixed_word (reads_from e 0x100 64) (each mixed_word (reads_from e 0x08 27) no_bytes)))
