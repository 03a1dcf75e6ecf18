-- What is put at one covered pixel: the raster operation, chosen by the two key tests, of pattern, source and target.
-- Assumes nothing.
use Rattle.std.specs.Prelude.{Bool, false, cond, not, ◌&&◌, List, ℕ, eqb}
use Rattle.std.proofs.Math.Option.{Option, none, some}
use Rattle.colour.specs.Convert.{converted}
use Rattle.raster.specs.Rop.{rop_bits, pattern_free}
use Rattle.keys.specs.Key.{key_match}
use Rattle.surface.specs.Place.{read_px}
use Rattle.surface.specs.Pixels.{Px}
use Rattle.ink.specs.declared.Ink.{Ink}
use Rattle.paint.specs.declared.Source.{Source}
use Rattle.paint.specs.Paint.{Touch, touch}
use Rattle.ink.specs.Pattern.{pattern_value}

-- ---- the source of a pixel: its value in the target's format, whether it matches the source key, and whether the pixel is left unwritten
abbrev pub source : ℕ → Bool → Bool → Source
source value key left = record { value = value; key = key; left = left }

-- a copied or host pixel of a colour format: the key is tested in its own format, then it is converted
unfoldable pub colour_source : Ink → ℕ → ℕ → Source
colour_source ink bytes v =
    source (converted bytes ink.target.bytes v) (ink.src_key && key_match bytes ink.src_min ink.src_max v) false

-- a mono source's bit, or a stipple's: 1 is colorFore, 0 is colorBack, and left where the command is transparent
unfoldable pub bit_source : Ink → ℕ → Source
bit_source ink bit = source (cond (eqb bit 1) ink.fore ink.back) false (ink.clear && eqb bit 0)

-- a fill is colorFore, and left where the command is transparent and the bit of its mono pattern is 0
unfoldable pub fill_source : Ink → ℕ → Source
fill_source ink bit = source ink.fore false (ink.clear && (ink.mono && eqb bit 0))

-- its value, or nothing where the pixel is left
abbrev pub sourced : Source → Option ℕ
sourced s = cond s.left none (some s.value)

-- ---- the raster operation: a source match adds 2 to its number, a target match adds 1
unfoldable pub chosen : Ink → Bool → Bool → ℕ
chosen ink source_match target_match =
    cond source_match (cond target_match ink.rop3 ink.rop2) (cond target_match ink.rop1 ink.rop0)

-- no raster operation of the command looks at the pattern
abbrev pub patternless : Ink → Bool
patternless ink = (pattern_free ink.rop0 && pattern_free ink.rop1) && (pattern_free ink.rop2 && pattern_free ink.rop3)

-- the target key is tested on the pixel as it stands before the write
abbrev pub target_match : Ink → ℕ → Bool
target_match ink old = ink.dst_key && key_match ink.target.bytes ink.dst_min ink.dst_max old

unfoldable pub mixed : Ink → ℕ → Source → ℕ → Option ℕ
mixed ink pattern s old =
    cond s.left none
    (some (rop_bits 32 (chosen ink s.key (target_match ink old)) pattern s.value old))

-- a pixel gets its source, where the source matches no key: raster operation CC, no target key
abbrev pub direct : Ink → Bool
direct ink = eqb ink.rop0 0xcc && not ink.dst_key

-- pixel p, with a source that is known
abbrev pub placed : Ink → List ℕ → Px → Source → Touch
placed ink pattern p s =
    touch p (λ m. mixed ink (pattern_value ink pattern p.x p.y) s (read_px m ink.target p.x p.y))
