-- What does not change within a rectangle, or within a row of it, worked out before the pixels: the raster operations bit by bit.
-- Assumes nothing.
use Rattle.std.specs.Prelude.{◌≡◌, Bool, cond, List, ℕ, ◌+◌, ◌*◌, ◌/◌, ◌%◌, ◌<◌, eqb, get_or}
use Rattle.std.proofs.Math.Option.{Option, none, some}
use Rattle.raster.specs.Masks.{mask, muxed, laid, merged}
use Rattle.ink.specs.declared.Ink.{Ink}
use Rattle.paint.specs.declared.Source.{Source}
use Rattle.paint.specs.Mix.{target_match}

-- raster operation number i of a command
unfoldable pub code_of : Ink → ℕ → ℕ
code_of ink i = cond (eqb i 0) ink.rop0 (cond (eqb i 1) ink.rop1 (cond (eqb i 2) ink.rop2 ink.rop3))

-- their bits, eight to each, every one at all 32 bits
pub record MasksOf (ink : Ink) (masks : List ℕ) : Type 0 where
  pub at : (i : ℕ) → i < 32 → get_or masks i 0 ≡ mask 32 (code_of ink (i / 8)) (i % 8)

-- these bits at the eight pixels of a row of the pattern: by source and target, four values for each raster operation at each pixel
pub record QuadsFrom (masks values quads : List ℕ) : Type 0 where
  pub at : (i : ℕ) → i < 128 → get_or quads i 0 ≡ muxed (get_or values (i / 4 % 8) 0) (get_or masks (i / 32 * 8 + i % 4 + 4) 0) (get_or masks (i / 32 * 8 + i % 4) 0)

-- the four raster operations at the eight pixels of a row of the pattern, four values for each
pub record QuadsOf (ink : Ink) (values quads : List ℕ) : Type 0 where
  pub at : (i : ℕ) → i < 128 → get_or quads i 0 ≡ laid 32 (code_of ink (i / 32)) (i % 4) (get_or values (i / 4 % 8) 0)

-- where the values begin of the raster operation that the two key tests choose
unfoldable pub code_at : Bool → Bool → ℕ
code_at by_source by_target = cond by_source (cond by_target 96 64) (cond by_target 32 0)

-- where the four values of a pixel begin, and what they make of its source and of what stands there
abbrev pub quad_at : Ink → Bool → ℕ → ℕ → ℕ
quad_at ink key old column = code_at key (target_match ink old) + column * 4

abbrev pub merged_at : List ℕ → ℕ → ℕ → ℕ → ℕ
merged_at quads k s d = merged (get_or quads k 0) (get_or quads (k + 1) 0) (get_or quads (k + 2) 0) (get_or quads (k + 3) 0) s d

-- what a pixel is given by the values of its row
unfoldable pub quad_mixed : Ink → List ℕ → ℕ → Source → ℕ → Option ℕ
quad_mixed ink quads column s old = cond s.left none (some (merged_at quads (quad_at ink s.key old column) s.value old))
