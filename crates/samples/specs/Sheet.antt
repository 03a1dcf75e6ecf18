-- The lines of the sample sheet of document 01 as a list: what the definitions give beside what the sheet says. The samples of the requests that
-- followed are the project's own, since their document marks none.
-- Assumes nothing.
use Rattle.std.specs.Prelude.{List, [], ◌∷◌, ◌++◌, map, true, false, cond, ℕ, zero, suc, ◌-◌, ◌/◌, ◌%◌, eqb, ℤ, pos, negsuc, length, get_or, Ok}
use Rattle.colour.specs.Convert.{repeated, narrowed}
use Rattle.raster.specs.Rop.{rop_bits}
use Rattle.surface.specs.declared.Surface.{Surface}
use Rattle.surface.specs.Place.{surface, byte_at, byte_of, row_pixels, mono_bit}
use Rattle.surface.specs.Pixels.{origin}
use Rattle.formats.specs.Step.{step_of, data_words}
use Rattle.rooms.specs.declared.Room.{Room}
use Rattle.rooms.specs.Room.{target_room, source_room}
use Rattle.views.specs.View.{view_answer}
use Rattle.packets.specs.Header.{turned_down, offsets_of}
use Rattle.line.specs.Line.{line_from, flat, points}
use Rattle.line.specs.Stipple.{style_after}
use Rattle.host.specs.Host.{Pixel, by_word}
use Rattle.positions.specs.Position.{placed, signed_of, stepped_xy}
use Rattle.scale.specs.declared.Scale.{Scale}
use Rattle.scale.specs.Scale.{scaled}
use Rattle.paint.specs.Tally.{tally}
use Rattle.engine.specs.Step.{Step, step, fresh_engine, written, number_of, count_of, changed_of}

-- a line of the sheet: the numbers that the definitions give, and those that the sheet says
pub record Line : Type 0 where
  pub given : List ℕ
  pub said : List ℕ

abbrev pub is : List ℕ → List ℕ → Line
is given said = record { given = given; said = said }

-- the pixels, of n from x on, whose bit is 1 in a row of a mono source
abbrev pub ones : ℕ → ℕ → List ℕ → List ℕ
ones zero x row = []
ones (suc n) x row = cond (eqb (mono_bit row (surface 0 4 0) x 0) 1) (x ∷ ones n (suc x) row) (ones n (suc x) row)

-- the pixels of a row of 32 whose bit is 1, where the row's four bytes are a word's, low byte first
abbrev pub mono_pixels : ℕ → List ℕ
mono_pixels word =
    ones 32 0 (word % 256 ∷ word / 256 % 256 ∷ word / 65536 % 256 ∷ word / 16777216 ∷ [])

-- the pixels whose value is 1, of those that a host blit's word finishes
abbrev pub valued : List Pixel → List ℕ
valued [] = []
valued (p ∷ ps) = cond (eqb p.value 1) (p.i ∷ valued ps) (valued ps)

-- those of the one word of a mono host blit, 32 by 1
abbrev pub host_pixels : ℕ → List ℕ
host_pixels word = valued (by_word (record { step = 4; width = 32; height = 1; bytes = 0; x = 0; y = 0 }) 0 word 0)

-- a signed number as two: 1 where it is below 0, and its distance from 0
abbrev pub sign_and_size : ℤ → List ℕ
sign_and_size (pos n) = 0 ∷ n ∷ []
sign_and_size (negsuc n) = 1 ∷ suc n ∷ []

-- so many columns of a source stretched to so many of a target, both from column 0 on
abbrev pub columns_to : ℕ → ℕ → Scale
columns_to source_size size = record { to = 0; size = size; from = 0; source_size = source_size }

-- a fresh engine, opened for a memory, and that memory
abbrev pub fresh : List ℕ → Step
fresh m = step (fresh_engine (length m)) m (Ok (tally 0 0))

-- engine, memory and the last answer after writes, each an offset and a word
abbrev pub played : Step → List ℕ → Step
played s (o ∷ d ∷ more) = played (written s.engine s.memory o d) more
played s (o ∷ []) = s
played s [] = s

-- four bytes as a row of one surface of 8 bpp, or as a column, after more writes and a screen copy of three of them, by its srcXY, dstXY and command
abbrev pub row_copy : List ℕ → List ℕ → ℕ → ℕ → ℕ → Step
row_copy more m from to command =
    played (fresh m) (0x14 ∷ 0x10004 ∷ 0x54 ∷ 0x10004 ∷ 0x0c ∷ 0x10004 ∷ 0x68 ∷ 0x10003 ∷ 0x5c ∷ from ∷ 0x6c ∷ to ∷ more ++ (0x70 ∷ command ∷ []))

abbrev pub row_copied : List ℕ → List ℕ → ℕ → ℕ → ℕ → List ℕ
row_copied more m from to command = (row_copy more m from to command).memory

abbrev pub column_copied : List ℕ → ℕ → ℕ → ℕ → List ℕ
column_copied m from to command =
    (played (fresh m) (0x14 ∷ 0x10001 ∷ 0x54 ∷ 0x10001 ∷ 0x0c ∷ 0x40001 ∷ 0x68 ∷ 0x30001 ∷ 0x5c ∷ from ∷ 0x6c ∷ to ∷ 0x70 ∷ command ∷ [])).memory

abbrev pub abcd : List ℕ
abcd = 65 ∷ 66 ∷ 67 ∷ 68 ∷ []

abbrev pub keyed : List ℕ → List ℕ
keyed keys = row_copied keys (1 ∷ 2 ∷ 3 ∷ 4 ∷ []) 0 1 0xcc000101

-- a tiled surface from byte 0 on
abbrev pub tiled : ℕ → ℕ → Surface
tiled across bytes = record { base = 0; stride = across; bytes = bytes; tiled = true }

abbrev pub zeros : ℕ → List ℕ
zeros zero = []
zeros (suc n) = 0 ∷ zeros n

-- the number that a fill of pixel x of row 0 is answered, by its dstBaseAddr and dstFormat
abbrev pub filled_at : ℕ → ℕ → ℕ → ℕ
filled_at base format x =
    number_of (played (fresh (zeros 128)) (0x10 ∷ base ∷ 0x14 ∷ format ∷ 0x0c ∷ 0x10080 ∷ 0x68 ∷ 0x10001 ∷ 0x6c ∷ x ∷ 0x70 ∷ 0xcc000105 ∷ [])).answer

-- memory, number and count that writes leave
abbrev pub told : Step → List ℕ
told s = s.memory ++ (number_of s.answer ∷ count_of s.answer ∷ [])

-- how many pixels the last write wrote, and how many of them changed
abbrev pub numbers : Step → List ℕ
numbers s = count_of s.answer ∷ changed_of s.answer ∷ []

-- those of a fill of one pixel, by its dstFormat and its colour
abbrev pub coloured : ℕ → ℕ → List ℕ → List ℕ
coloured format colour m = numbers (played (fresh m) (0x14 ∷ format ∷ 0x0c ∷ 0x10001 ∷ 0x64 ∷ colour ∷ 0x68 ∷ 0x10001 ∷ 0x70 ∷ 0xcc000105 ∷ []))

-- those of a fill of two rows of two pixels at 8 bpp, by its clip0Min and clip0Max
abbrev pub clipped : List ℕ → ℕ → ℕ → List ℕ
clipped m min max = told (played (fresh m) (0x14 ∷ 0x10002 ∷ 0x08 ∷ min ∷ 0x0c ∷ max ∷ 0x68 ∷ 0x20002 ∷ 0x70 ∷ 0xcc000105 ∷ []))

-- ---- the lines of document 01: those that the definitions give at once, and those that are played as writes
abbrev pub marked : List Line
marked =
    -- five bits 1, 8, 16, 31 become 8, 66, 132, 255; six bits 1, 32, 63 become 4, 130, 255
    is (map (repeated 5) (1 ∷ 8 ∷ 16 ∷ 31 ∷ [])) (8 ∷ 66 ∷ 132 ∷ 255 ∷ [])
    ∷ is (map (repeated 6) (1 ∷ 32 ∷ 63 ∷ [])) (4 ∷ 130 ∷ 255 ∷ [])
    -- eight bits 7, 8 to five: 0, 1
    ∷ is (map narrowed (7 ∷ 8 ∷ [])) (0 ∷ 1 ∷ [])
    -- mono word 00000080: pixel 0; 00000100: pixel 15
    ∷ is (mono_pixels 0x80) (0 ∷ []) ∷ is (mono_pixels 0x100) (15 ∷ [])
    ∷ is (host_pixels 0x80) (0 ∷ []) ∷ is (host_pixels 0x100) (15 ∷ [])
    -- ROP 5A, pattern FF, target 0F: F0
    ∷ is (rop_bits 8 0x5a 0xff 0 0x0f ∷ []) (0xf0 ∷ [])
    -- line (0,0) to (3,1): (0,0) (1,0) (2,1) (3,1); (0,0) to (2,1): (0,0) (1,1) (2,1); back from (2,1): middle (1,0)
    ∷ is (flat (points (line_from 0 0 3 1))) (0 ∷ 0 ∷ 1 ∷ 0 ∷ 2 ∷ 1 ∷ 3 ∷ 1 ∷ [])
    ∷ is (flat (points (line_from 0 0 2 1))) (0 ∷ 0 ∷ 1 ∷ 1 ∷ 2 ∷ 1 ∷ [])
    ∷ is (flat (points (line_from 2 1 0 0))) (2 ∷ 1 ∷ 1 ∷ 0 ∷ 0 ∷ 0 ∷ [])
    -- lineStyle 00000101, three points: 01010101 after
    ∷ is (style_after (record { stipple = 0; stippled = true }) 3 0x101 ∷ []) (0x1010101 ∷ [])
    -- dstX 4095, width 1, bit 10: −4096, which is 4096 before the origin
    ∷ is (sign_and_size (signed_of (stepped_xy 4095 1 true false))) (1 ∷ 4096 ∷ [])
    ∷ is ((origin - placed (stepped_xy 4095 1 true false)) ∷ []) (4096 ∷ [])
    -- host mono 9 by 2: packing 1 needs 1 word, packing 3 needs 2
    ∷ is (map (λ packing. data_words 0 (step_of packing 0 9 0) 9 2) (1 ∷ 3 ∷ [])) (1 ∷ 2 ∷ [])
    -- 24 bpp, stride 7, of a view: x = 1 taken, x = 2 refused 7
    ∷ is (map (λ x. view_answer 65536 0 0x40007 x 0 1) (1 ∷ 2 ∷ [])) (0 ∷ 7 ∷ [])
    ∷ []

abbrev pub played_lines : List Line
played_lines =
    -- 24 bpp, stride 7, of a fill: x = 1 taken, x = 2 refused 7
    is (map (filled_at 0 0x40007) (1 ∷ 2 ∷ [])) (0 ∷ 7 ∷ [])
    -- clip min 1, max 1: nothing, of a fill of four pixels, (1, 1) among them
    ∷ is (clipped abcd 0x10001 0x10001) (65 ∷ 66 ∷ 67 ∷ 68 ∷ 0 ∷ 0 ∷ [])
    ∷ []

-- ---- the project's own samples of the requests
abbrev pub thumbnails : List Line
thumbnails =
    -- a stretch of 4 to 2 columns takes 0, 2; of 3 to 5 it takes 0, 0, 1, 1, 2
    is (map (scaled (columns_to 4 2)) (0 ∷ 1 ∷ [])) (0 ∷ 2 ∷ [])
    ∷ is (map (scaled (columns_to 3 5)) (0 ∷ 1 ∷ 2 ∷ 3 ∷ 4 ∷ [])) (0 ∷ 0 ∷ 1 ∷ 1 ∷ 2 ∷ [])
    ∷ []

abbrev pub row_smears : List Line
row_smears =
    -- of a row A B C D the first three copied onto the last three: A A A A; from the right (bit 14): A A B C
    is (row_copied [] abcd 0 1 0xcc000101) (65 ∷ 65 ∷ 65 ∷ 65 ∷ [])
    ∷ is (row_copied [] abcd 2 3 0xcc004101) (65 ∷ 65 ∷ 66 ∷ 67 ∷ [])
    -- the last three onto the first three: B C D D; from the right: D D D D
    ∷ is (row_copied [] abcd 1 0 0xcc000101) (66 ∷ 67 ∷ 68 ∷ 68 ∷ [])
    ∷ is (row_copied [] abcd 3 2 0xcc004101) (68 ∷ 68 ∷ 68 ∷ 68 ∷ [])
    ∷ []

abbrev pub column_smears : List Line
column_smears =
    -- of a column likewise, by bit 15
    is (column_copied abcd 0 0x10000 0xcc000101) (65 ∷ 65 ∷ 65 ∷ 65 ∷ [])
    ∷ is (column_copied abcd 0x20000 0x30000 0xcc008101) (65 ∷ 65 ∷ 66 ∷ 67 ∷ [])
    ∷ is (column_copied abcd 0x10000 0 0xcc000101) (66 ∷ 67 ∷ 68 ∷ 68 ∷ [])
    ∷ is (column_copied abcd 0x30000 0x20000 0xcc008101) (68 ∷ 68 ∷ 68 ∷ 68 ∷ [])
    ∷ []

abbrev pub keyed_smears : List Line
keyed_smears =
    -- keys read likewise, of 1 2 3 4 the first three onto the last three: with source key 2 to 2 and ROP2 AA: 1 1 1 1; with target key 2 to 2 and ROP1 AA: 1 2 2 2
    is (keyed (0x38 ∷ 1 ∷ 0x18 ∷ 2 ∷ 0x1c ∷ 2 ∷ 0x30 ∷ 0xaa00 ∷ [])) (1 ∷ 1 ∷ 1 ∷ 1 ∷ [])
    ∷ is (keyed (0x38 ∷ 2 ∷ 0x20 ∷ 2 ∷ 0x24 ∷ 2 ∷ 0x30 ∷ 0xaa ∷ [])) (1 ∷ 2 ∷ 2 ∷ 2 ∷ [])
    ∷ []

abbrev pub smears : List Line
smears = row_smears ++ (column_smears ++ keyed_smears)

abbrev pub tiles : List Line
tiles =
    -- 8 tiles across, byte column 128 of row 32: 9 × 4096; 3 across, byte column 5 of row 33: 3 × 4096 + 133
    is (byte_at (tiled 8 1) 128 32 ∷ byte_at (tiled 3 1) 5 33 ∷ []) (36864 ∷ 12421 ∷ [])
    -- 24 bpp, 2 tiles across: pixel 42 has bytes 126, 127 and 4096
    ∷ is (map (byte_of (tiled 2 3) 42 0) (0 ∷ 1 ∷ 2 ∷ [])) (126 ∷ 127 ∷ 4096 ∷ [])
    -- 24 bpp, 1 tile across: a row has 42 pixels, so that x = 41 is taken and x = 42 a 7
    ∷ is (row_pixels (tiled 1 3) ∷ map (filled_at 0x80000000 0x40001) (41 ∷ 42 ∷ [])) (42 ∷ 0 ∷ 7 ∷ [])
    ∷ []

abbrev pub fill_changes : List Line
fill_changes =
    -- 8 bpp, 0F put on 0F: 1 written, 0 changed; on 0E: 1 and 1; colour FFFFFF0F on 0F: 1 and 0; 32 bpp, 01000000 over 00000000: 1 and 1
    is (coloured 0x10001 0x0f (0x0f ∷ [])) (1 ∷ 0 ∷ [])
    ∷ is (coloured 0x10001 0x0f (0x0e ∷ [])) (1 ∷ 1 ∷ [])
    ∷ is (coloured 0x10001 0xffffff0f (0x0f ∷ [])) (1 ∷ 0 ∷ [])
    ∷ is (coloured 0x50004 0x01000000 (zeros 4)) (1 ∷ 1 ∷ [])
    ∷ []

abbrev pub copy_changes : List Line
copy_changes =
    -- of a row A A B C the first three copied onto the last three: 3 written, 2 changed, from the left and from the right
    is (numbers (row_copy [] (65 ∷ 65 ∷ 66 ∷ 67 ∷ []) 0 1 0xcc000101)) (3 ∷ 2 ∷ [])
    ∷ is (numbers (row_copy [] (65 ∷ 65 ∷ 66 ∷ 67 ∷ []) 2 3 0xcc004101)) (3 ∷ 2 ∷ [])
    ∷ []

abbrev pub changes : List Line
changes = fill_changes ++ copy_changes

-- 1 for a header that is a 9
abbrev pub is_nine : ℕ → ℕ
is_nine h = cond (turned_down h) 1 0

-- headers read by hand from document 002
abbrev pub headers : List Line
headers =
    -- type 2: a bit for each register from 08 on; the last two name none
    is (offsets_of 0x2c000052) (0x0c ∷ 0x14 ∷ 0x64 ∷ 0x68 ∷ 0x70 ∷ [])
    ∷ is (offsets_of 0xe0000002) (0x70 ∷ 0x74 ∷ 0x78 ∷ [])
    -- type 1: four words to one address, two to consecutive ones, and the 64 of the pattern
    ∷ is (offsets_of 0x00044101) (0x80 ∷ 0x80 ∷ 0x80 ∷ 0x80 ∷ [])
    ∷ is (offsets_of 0x0002c011) (0x08 ∷ 0x0c ∷ [])
    ∷ is (length (offsets_of 0x0040c201) ∷ get_or (offsets_of 0x0040c201) 0 0 ∷ get_or (offsets_of 0x0040c201) 63 0 ∷ []) (64 ∷ 0x100 ∷ 0x1fc ∷ [])
    -- no words
    ∷ is (offsets_of 0x00004101 ++ offsets_of 0x00000002) []
    -- answer 9: type 1 with a target that is not 2D, and types 0 and 3 to 7; not those above
    ∷ is (map is_nine (0x00040101 ∷ 0 ∷ 3 ∷ 4 ∷ 5 ∷ 6 ∷ 7 ∷ [])) (1 ∷ 1 ∷ 1 ∷ 1 ∷ 1 ∷ 1 ∷ 1 ∷ [])
    ∷ is (map is_nine (0x2c000052 ∷ 0x00044101 ∷ 0x00004101 ∷ 0x00000002 ∷ [])) (0 ∷ 0 ∷ 0 ∷ 0 ∷ [])
    ∷ []

-- pixels in a row and whole rows
abbrev pub sides : Room → List ℕ
sides k = k.pixels ∷ k.rows ∷ []

-- those that the engine keeps of a target of 24 bpp and stride 7 in a memory of n bytes, and the number that a fill of its pixel (0, 2) is answered
abbrev pub third_row : ℕ → List ℕ
third_row n =
    let s = played (fresh (zeros n)) (0x14 ∷ 0x40007 ∷ 0x0c ∷ 0x30002 ∷ 0x68 ∷ 0x10001 ∷ 0x6c ∷ 0x20000 ∷ 0x70 ∷ 0xcc000105 ∷ []) in
    sides s.engine.rooms.target ++ (number_of s.answer ∷ [])

abbrev pub rooms : List Line
rooms =
    -- of 65,536 bytes: 24 bpp and stride 7 from byte 0 on, and from byte 65,530 on; 32 bpp in tiles, 3 across
    is (sides (target_room 65536 0 0x40007)) (2 ∷ 9362 ∷ [])
    ∷ is (sides (target_room 65536 65530 0x40007)) (2 ∷ 0 ∷ [])
    ∷ is (sides (target_room 65536 0x80000000 0x50003)) (96 ∷ 160 ∷ [])
    -- a mono source of stride 4, and the same in tiles; 24 bpp and stride 7 with packing 1, which goes by the stride
    ∷ is (sides (source_room 65536 0 4)) (32 ∷ 16384 ∷ [])
    ∷ is (sides (source_room 65536 0x80000000 4)) (0 ∷ 0 ∷ [])
    ∷ is (sides (source_room 65536 0 0x440007)) (2 ∷ 9362 ∷ [])
    -- format 2, which is not listed, and a stride of 0: of a target and of a source
    ∷ is (sides (target_room 65536 0 0x20007) ++ sides (source_room 65536 0 0x20007)) (0 ∷ 0 ∷ 0 ∷ 0 ∷ [])
    ∷ is (sides (target_room 65536 0 0x40000) ++ sides (source_room 65536 0 0x40000)) (0 ∷ 0 ∷ 0 ∷ 0 ∷ [])
    -- two whole rows of 7 bytes: the third row's first pixel is in bytes 14 to 16, in a memory of 17 bytes; of 16 it is a 7
    ∷ is (third_row 17) (2 ∷ 2 ∷ 0 ∷ [])
    ∷ is (third_row 16) (2 ∷ 2 ∷ 7 ∷ [])
    ∷ []

abbrev pub sheet : List Line
sheet = marked ++ (played_lines ++ (thumbnails ++ (smears ++ (tiles ++ (changes ++ (headers ++ rooms))))))
