-- The bytes that hold an engine between two calls: what stands at which place, the bytes of an engine, and the engine that bytes hold.
-- Assumes nothing.
use Rattle.std.specs.Prelude.{Bool, cond, ◌&&◌, List, [], ◌∷◌, ℕ, zero, suc, ◌+◌, ◌-◌, ◌*◌, ◌/◌, ◌%◌, ◌^◌, ◌<◌, eqb, ltb, length, get_or, take, drop}
use Rattle.basics.specs.Word.{word_at, with_word}
use Rattle.registers.specs.declared.Regs.{Regs}
use Rattle.registers.specs.Regs.{get_reg}
use Rattle.rooms.specs.declared.Room.{Room}
use Rattle.rooms.specs.declared.Rooms.{Rooms}
use Rattle.rooms.specs.Room.{target_room, source_room, of_target, of_source}
use Rattle.engine.specs.declared.Engine.{Engine}

-- the length of a state, where the pattern starts, and the word that a state begins with
abbrev pub state_size : ℕ
state_size = 396

abbrev pub pattern_at : ℕ
pattern_at = 0x8c

abbrev pub mark : ℕ
mark = 0x656d6952

-- byte k of a word, low byte first
unfoldable pub byte_of : ℕ → ℕ → ℕ
byte_of d k = cond (eqb k 0) (d % 2 ^ 8) (cond (eqb k 1) (d / 2 ^ 8 % 2 ^ 8) (cond (eqb k 2) (d / 2 ^ 16 % 2 ^ 8) (d / 2 ^ 24 % 2 ^ 8)))

-- ---- an engine's bytes

-- the word at byte o: the mark, whether a blit waits, the words it has had and the last of them, the length of the memory in two words, and what is kept of
-- source and target; a register at its own offset
unfoldable pub slot : Engine → ℕ → ℕ
slot e o =
    cond (eqb o 0) mark (
    cond (eqb o 0x04) (cond e.blit.waiting 1 0) (
    cond (eqb o 0x44) e.blit.taken (
    cond (eqb o 0x48) e.blit.last (
    cond (eqb o 0x74) (e.opened % 2 ^ 32) (
    cond (eqb o 0x78) (e.opened / 2 ^ 32) (
    cond (eqb o 0x7c) e.rooms.source.pixels (
    cond (eqb o 0x80) e.rooms.source.rows (
    cond (eqb o 0x84) e.rooms.target.pixels (
    cond (eqb o 0x88) e.rooms.target.rows (
    get_reg o e.bank.regs))))))))))

-- the words, and after them the pattern
unfoldable pub byte_in : Engine → ℕ → ℕ
byte_in e i = cond (ltb i pattern_at) (byte_of (slot e (i / 4 * 4)) (i % 4)) (get_or e.bank.pattern (i - pattern_at) 0)

-- f at n numbers from i on
abbrev pub run : (ℕ → ℕ) → ℕ → ℕ → List ℕ
run f i zero = []
run f i (suc n) = f i ∷ run f (i + 1) n

unfoldable pub encoded : Engine → List ℕ
encoded e = run (byte_in e) 0 state_size

-- ---- the engine that bytes hold

unfoldable pub regs_in : List ℕ → Regs
regs_in s = record {
  clip0_min = word_at s 0x08;
  clip0_max = word_at s 0x0c;
  dst_base_addr = word_at s 0x10;
  dst_format = word_at s 0x14;
  src_colorkey_min = word_at s 0x18;
  src_colorkey_max = word_at s 0x1c;
  dst_colorkey_min = word_at s 0x20;
  dst_colorkey_max = word_at s 0x24;
  bres_error0 = word_at s 0x28;
  bres_error1 = word_at s 0x2c;
  rop = word_at s 0x30;
  src_base_addr = word_at s 0x34;
  command_extra = word_at s 0x38;
  line_stipple = word_at s 0x3c;
  line_style = word_at s 0x40;
  clip1_min = word_at s 0x4c;
  clip1_max = word_at s 0x50;
  src_format = word_at s 0x54;
  src_size = word_at s 0x58;
  src_xy = word_at s 0x5c;
  color_back = word_at s 0x60;
  color_fore = word_at s 0x64;
  dst_size = word_at s 0x68;
  dst_xy = word_at s 0x6c;
  command = word_at s 0x70;
}

abbrev pub pattern_in : List ℕ → List ℕ
pattern_in s = take 256 (drop pattern_at s)

abbrev pub opened_in : List ℕ → ℕ
opened_in s = word_at s 0x74 + word_at s 0x78 * 2 ^ 32

abbrev pub room_in : List ℕ → ℕ → Room
room_in s i = record { pixels = word_at s i; rows = word_at s (i + 4) }

abbrev pub rooms_in : List ℕ → Rooms
rooms_in s = record { source = room_in s 0x7c; target = room_in s 0x84 }

unfoldable pub decoded : List ℕ → Engine
decoded s = record {
  bank = record { regs = regs_in s; pattern = pattern_in s };
  blit = record { waiting = eqb (word_at s 0x04) 1; taken = word_at s 0x44; last = word_at s 0x48 };
  opened = opened_in s;
  rooms = rooms_in s;
}

-- whether bytes are a state: their number, the mark, and a flag that is 0 or 1
unfoldable pub is_state : List ℕ → Bool
is_state s = eqb (length s) state_size && (eqb (word_at s 0) mark && ltb (word_at s 0x04) 2)

-- each of them is a byte
pub record Bytes (s : List ℕ) : Type 0 where
  pub each : (i : ℕ) → get_or s i 0 < 2 ^ 8

-- ---- what the code does on the way

-- words of an engine's state, put at their places
abbrev pub with_slots : List ℕ → Engine → List ℕ → List ℕ
with_slots s e [] = s
with_slots s e (o ∷ os) = with_slots (with_word s o (slot e o)) e os

-- the words that open puts into a cleared state; those that a command can change
abbrev pub fixed_slots : List ℕ
fixed_slots = 0 ∷ 0x74 ∷ 0x78 ∷ []

abbrev pub command_slots : List ℕ
command_slots = 0x40 ∷ 0x5c ∷ 0x6c ∷ 0x70 ∷ 0x04 ∷ 0x44 ∷ 0x48 ∷ []

-- what is kept of a surface, put there
abbrev pub with_room : List ℕ → ℕ → Room → List ℕ
with_room s i k = with_word (with_word s i k.pixels) (i + 4) k.rows

-- after a store at a register's place: what goes by that register, worked out anew for a memory of len bytes
unfoldable pub followed : List ℕ → ℕ → ℕ → List ℕ
followed s len o =
    cond (of_target o) (with_room s 0x84 (target_room len (word_at s 0x10) (word_at s 0x14)))
    (cond (of_source o) (with_room s 0x7c (source_room len (word_at s 0x34) (word_at s 0x54)))
    s)
