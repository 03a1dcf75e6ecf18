-- A stream of register writes, played byte by byte: eight bytes are an offset and a word, low byte first. And what the program prints of it.
-- Assumes nothing.
use Rattle.std.specs.Prelude.{ℕ, ◌+◌, ◌*◌, ◌/◌, ◌%◌, ◌^◌, cond, List, [], ◌∷◌, ◌++◌, replicate, ◌==◌, nat_lt}
use Rattle.engine.specs.Step.{Step, written, number_of, fresh_engine, regs}
use Rattle.picture.specs.declared.Player.{Player}
use Rattle.basics.specs.Each.{each}
use Rattle.ppm.specs.Text.{numeral}
use Rattle.ppm.specs.Picture.{picture}

-- the player with the memory that it is lent
pub record Sheet : Type 0 where
  pub player : Player
  pub memory : List ℕ

abbrev pub sheet : Player → List ℕ → Sheet
sheet p m = record { player = p; memory = m }

-- nothing played, on a memory of len bytes
unfoldable pub fresh_player : ℕ → Player
fresh_player len = record { engine = fresh_engine len; window = 0; held = 0; played = 0; refused = 0 }

-- ---- one byte

-- the last eight bytes as a number, low byte first: the new one comes in at the top
abbrev pub shifted : ℕ → ℕ → ℕ
shifted window b = window / 2 ^ 8 + b * 2 ^ 56

-- the number of pairs after one more, kept in 64 bits; a refused one is not counted, so that the number is the index of the refused pair
unfoldable pub counted : ℕ → ℕ → ℕ
counted number played = cond (number == 0) ((played + 1) % 2 ^ 64) played

unfoldable pub wrote : Player → ℕ → Step → Sheet
wrote p window st =
    sheet
    (record { engine = st.engine; window = window; held = 0; played = counted (number_of st.answer) p.played; refused = number_of st.answer })
    st.memory

-- a byte that is not its pair's last is kept; the last makes the pair a register write
unfoldable pub arrived : Sheet → ℕ → Sheet
arrived s window =
    cond (nat_lt s.player.held 7)
    (sheet (record { engine = s.player.engine; window = window; held = s.player.held + 1; played = s.player.played; refused = 0 }) s.memory)
    (wrote s.player window (written s.player.engine s.memory (window % 2 ^ 32) (window / 2 ^ 32)))

-- after a refusal nothing is taken
unfoldable pub taken : ℕ → Sheet → Sheet
taken b s = cond (s.player.refused == 0) (arrived s (shifted s.player.window b)) s

abbrev pub fed : List ℕ → Sheet → Sheet
fed bytes s = each taken bytes s

-- ---- what is printed

-- the line `refused N at K`: the bytes of `refused `, the number, those of `at `, the index
unfoldable pub refusal : ℕ → ℕ → List ℕ
refusal number index =
    (0x72 ∷ 0x65 ∷ 0x66 ∷ 0x75 ∷ 0x73 ∷ 0x65 ∷ 0x64 ∷ 0x20 ∷ []) ++ (numeral number 0x20 ++ ((0x61 ∷ 0x74 ∷ 0x20 ∷ []) ++ numeral index 10))

-- the line `short write`
abbrev pub short_write : List ℕ
short_write = 0x73 ∷ 0x68 ∷ 0x6f ∷ 0x72 ∷ 0x74 ∷ 0x20 ∷ 0x77 ∷ 0x72 ∷ 0x69 ∷ 0x74 ∷ 0x65 ∷ 10 ∷ []

-- the first fault met, or the picture
unfoldable pub printed : Sheet → List ℕ
printed s =
    cond (s.player.refused == 0)
    (cond (s.player.held == 0) (picture (regs s.player.engine) s.memory) short_write)
    (refusal s.player.refused s.player.played)

-- the program: what it prints of the bytes of its input, on 65,536 zero bytes
unfoldable pub start : Sheet
start = sheet (fresh_player 65536) (replicate 65536 0)

unfoldable pub sheet_of : List ℕ → List ℕ
sheet_of input = printed (fed input start)
