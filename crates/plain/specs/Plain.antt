-- A plain host blit: raster operation CC and no keys, so that each pixel gets its source and neither the pattern nor what stands there is looked at.
-- Its pixels are drawn a part of a row at a time.
-- Assumes nothing.
use Rattle.std.specs.Prelude.{◌≡◌, true, false, List, [], ◌∷◌, map, ℕ, zero, suc, ◌+◌, ◌%◌}
use Rattle.ink.specs.declared.Ink.{Ink}
use Rattle.paint.specs.Paint.{Touch, touch}
use Rattle.paint.specs.Mix.{direct}
use Rattle.paint.specs.Clip.{pixel_at}
use Rattle.host.specs.declared.Feed.{Feed}
use Rattle.bits.specs.declared.Plain.{Plain}
use Rattle.bits.specs.Bits.{coloured}
use Rattle.host.specs.Host.{last_byte_of, Pixel, pixel, value_of}

-- the ink with raster operation CC and no keys
unfoldable pub plain_ink : Plain → Ink
plain_ink p = record {
  target = p.target;
  fore = p.fore;
  back = p.back;
  rop0 = 0xcc;
  rop1 = 0;
  rop2 = 0;
  rop3 = 0;
  src_key = false;
  src_min = 0;
  src_max = 0;
  dst_key = false;
  dst_min = 0;
  dst_max = 0;
  mono = false;
  forced = false;
  pat_x = 0;
  pat_y = 0;
  clear = p.clear;
}

-- an ink that draws as the plain one does
pub record Plainly (ink : Ink) (p : Plain) : Type 0 where
  pub target : ink.target ≡ p.target
  pub fore : ink.fore ≡ p.fore
  pub back : ink.back ≡ p.back
  pub clear : ink.clear ≡ p.clear
  pub gets : direct ink ≡ true
  pub unkeyed : ink.src_key ≡ false

-- n pixels of row j from column i on, whose last bytes all lie in this word
unfoldable pub stretch : Feed → ℕ → ℕ → ℕ → ℕ → ℕ → List Pixel
stretch f last word j i zero = []
stretch f last word j i (suc n) = pixel i j (value_of f last word (last_byte_of f i j % 4) i) ∷ stretch f last word j (i + 1) n

-- mono pixels, each given the colour of its bit; none of them is outside the clip
abbrev pub mono_touches : Plain → Feed → List Pixel → List Touch
mono_touches p f ps = map (λ q. touch (pixel_at (f.x + q.i) (f.y + q.j)) (λ now. coloured p q.value)) ps
