-- Clip0's rectangle of the target surface as the text of a plain PPM, or the line `no picture`.
-- Assumes nothing.
use Rattle.std.specs.Prelude.{Bool, false, cond, ◌&&◌, List, [], ◌∷◌, ◌++◌, ℕ, ◌-◌, ◌*◌, ◌/◌, ◌%◌, ◌^◌, eqb, ltb, length}
use Rattle.colour.specs.Convert.{converted}
use Rattle.surface.specs.declared.Surface.{Surface}
use Rattle.surface.specs.Place.{read_px}
use Rattle.surface.specs.Pixels.{Px, rect}
use Rattle.spans.specs.Span.{all_on}
use Rattle.formats.specs.Format.{target_named, target_of}
use Rattle.registers.specs.declared.Regs.{Regs}
use Rattle.ppm.specs.Text.{numeral}

-- ---- a pixel's line

-- a pixel's value as 24 bits, red highest: 8 bits three times, 16 bits widened, of 24 and 32 bits the channels as they are
unfoldable pub shade : ℕ → ℕ → ℕ
shade bytes v = cond (eqb bytes 1) (v % 2 ^ 8 * 0x10101) (converted bytes 3 v)

-- red, green and blue; a space is byte 32, a line's end byte 10
unfoldable pub line : ℕ → List ℕ
line rgb = numeral (rgb / 2 ^ 16 % 2 ^ 8) 32 ++ (numeral (rgb / 2 ^ 8 % 2 ^ 8) 32 ++ numeral (rgb % 2 ^ 8) 10)

unfoldable pub lines : Surface → List ℕ → List Px → List ℕ
lines s m [] = []
lines s m (p ∷ ps) = line (shade s.bytes (read_px m s p.x p.y)) ++ lines s m ps

-- ---- the picture

-- the lines `P3`, width and height, `255`
unfoldable pub header : ℕ → ℕ → List ℕ
header w h = (0x50 ∷ 0x33 ∷ 10 ∷ []) ++ (numeral w 32 ++ (numeral h 10 ++ (0x32 ∷ 0x35 ∷ 0x35 ∷ 10 ∷ [])))

-- the line `no picture`
abbrev pub no_picture : List ℕ
no_picture = 0x6e ∷ 0x6f ∷ 0x20 ∷ 0x70 ∷ 0x69 ∷ 0x63 ∷ 0x74 ∷ 0x75 ∷ 0x72 ∷ 0x65 ∷ 10 ∷ []

-- clip0: its columns and rows, min included, max excluded; whichever clip the command selects
abbrev pub left : Regs → ℕ
left r = r.clip0_min % 2 ^ 12

abbrev pub top : Regs → ℕ
top r = r.clip0_min / 2 ^ 16 % 2 ^ 12

abbrev pub right : Regs → ℕ
right r = r.clip0_max % 2 ^ 12

abbrev pub bottom : Regs → ℕ
bottom r = r.clip0_max / 2 ^ 16 % 2 ^ 12

abbrev pub target : Regs → Surface
target r = target_of r.dst_base_addr r.dst_format

abbrev pub pixels : Regs → List Px
pixels r = rect false false (left r) (top r) (right r - left r) (bottom r - top r)

-- there is a picture: the target is a surface, the rectangle has a pixel, and all its pixels are on the surface
unfoldable pub shows : Regs → ℕ → Bool
shows r len =
    target_named r.dst_format && (ltb (left r) (right r) && (ltb (top r) (bottom r) && all_on (target r) len (pixels r)))

unfoldable pub picture : Regs → List ℕ → List ℕ
picture r m =
    cond (shows r (length m))
    (header (right r - left r) (bottom r - top r) ++ lines (target r) m (pixels r))
    no_picture
