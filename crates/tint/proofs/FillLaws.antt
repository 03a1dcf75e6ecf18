-- Laws of a fill by masks: that the masks are sound, and that they give each pixel what the fill gives it.
-- Assumes nothing.
use mathlib.Core.Path.{◌≡◌, refl, sym, ap, ap₂, ◌∙◌}
use mathlib.Core.Bool.{Bool, true, false, cond, ◌&&◌}
use mathlib.Core.List.Memᴰ
use mathlib.Core.List.{List, [], ◌∷◌, map}
use mathlib.Core.Option.{Option, none, some}
use Prim.Native.Nat.{ℕ, ◌+◌, ◌-◌, ◌*◌, ◌/◌, ◌%◌, ◌^◌, ◌<◌, ◌≤◌}
use native.Mathlib.Omega.{arith}
use lib.Dec.{eqb, ltb}
use borrow.Author.Tests.{ltb-true}
use lib.Bits.{bit_xor}
use lib.ListN.{get_or}
use Rattle.surface.specs.declared.Surface.{Surface}
use Rattle.surface.specs.Place.{byte_of, read_px, write_px}
use Rattle.surface.specs.Pixels.{Px, across, rect}
use Rattle.surface.proofs.Lists.{In}
use Rattle.surface.proofs.Rects.{in-across, in-rect}
use Rattle.ink.specs.declared.Ink.{Ink}
use Rattle.paint.specs.Tally.{noted}
use Rattle.paint.specs.Paint.{State, tallied, touch, dab, paint, changing}
use Rattle.paint.specs.Mix.{fill_source, chosen, mixed}
use Rattle.ink.specs.Pattern.{pattern_column, pattern_row, pattern_bit, pattern_value}
use Rattle.paint.proofs.Turns.{paint-same}
use Rattle.tint.specs.declared.Mask.{Mask}
use Rattle.tint.specs.Tint.{filling, fillings}
use Rattle.tint.specs.Masking.{ones, masked, by_mask, mask_by, becomes, mask_for, mask_of, mask_in, mask_rows, tinting, tintings, down_tint, down_tints, Tables, MasksOf}
use Rattle.tint.specs.Asked.{Sound}
use Rattle.tint.proofs.MaskLaws.{mask-rop}
use Rattle.tint.proofs.ByteLaws.{put_low}

-- ---- a rectangle, row by row
pub down-row : (s : Surface) (keep flip adds : List ℕ) (x y w j : ℕ) (st : State)
    → paint s (tintings s keep flip adds (j % 8 * 8) x (across false x w (y + j))) st ≡ paint s (down_tints s keep flip adds x y (across false x w (y + j))) st
down-row s keep flip adds x y w j st =
    paint-same s (λ p now. tinting s keep flip adds (j % 8 * 8) x now p) (λ p now. down_tint s keep flip adds x y now p) (across false x w (y + j))
    (λ p i now. let q = in-across false x w (y + j) p i in let e : (p.y - y) % 8 ≡ j % 8 = omega arith in rw e) st

-- ---- rows of masks: at most eight, and as many as the rows of pixels want
pub rows_fit : (h : ℕ) → (mask_rows h ≤ 8) × ((j : ℕ) → j < h → j % 8 < mask_rows h)
unfolding mask_rows
rows_fit h = by-test (ltb h 8) refl
  where
    by-test : (t : Bool) → ltb h 8 ≡ t → (cond t h 8 ≤ 8) × ((j : ℕ) → j < h → j % 8 < cond t h 8)
    by-test true e = let few = ltb-true h 8 e in (omega (arith, few), λ j l. omega (arith, few))
    by-test false e = (omega arith, λ j l. omega arith)

-- ---- the masks of a fill
pub bit-there : (pattern : List ℕ) (column row : ℕ) {bit byte : ℕ} → bit ≡ byte / 2 ^ (7 - column) % 2 → byte ≡ get_or pattern row 0 → bit ≡ pattern_bit pattern column row
unfolding pattern_bit
bit-there pattern column row e f = rw (e, f)

by-sound : (n : ℕ) (left : Bool) (o z : ℕ) → Sound n ((mask_by left o z).keep % 256 ^ n) ((mask_by left o z).flip % 256 ^ n) (mask_by left o z).adds
by-sound n true o z = record { few = omega arith; left = λ e. (refl, refl) }
by-sound n false o z = record { few = omega arith; left = λ e. absurd (omega arith) }

by-gives : (left : Bool) (o z old : ℕ) → by_mask (mask_by left o z).keep (mask_by left o z).flip (mask_by left o z).adds old ≡ cond left none (some (masked old (bit_xor o z) z))
unfolding by_mask
by-gives true o z old = refl
by-gives false o z old = refl

module _ (ink : Ink) (value bit : ℕ) where
  -- the mask as the code makes it
  pub mask-made : {o z : ℕ} {left : Bool} → (ink.clear && (ink.mono && eqb bit 0)) ≡ left → o ≡ becomes ink value ones → z ≡ becomes ink value 0 → mask_by left o z ≡ mask_for ink value bit
  unfolding mask_for fill_source
  mask-made {o} {z} {left} t f g = ap (λ (l : Bool). mask_by l o z) (sym t) ∙ ap₂ (mask_by (ink.clear && (ink.mono && eqb bit 0))) f g

  mask-sound : (n : ℕ) → Sound n ((mask_for ink value bit).keep % 256 ^ n) ((mask_for ink value bit).flip % 256 ^ n) (mask_for ink value bit).adds
  unfolding mask_for
  mask-sound n = by-sound n (fill_source ink bit).left (becomes ink value ones) (becomes ink value 0)

  mask-fills : (old : ℕ) → ink.dst_key ≡ false
      → by_mask (mask_for ink value bit).keep (mask_for ink value bit).flip (mask_for ink value bit).adds old ≡ mixed ink value (fill_source ink bit) old
  unfolding mask_for mixed chosen fill_source
  mask-fills old key =
      let left = (fill_source ink bit).left in
      rw key
      (by-gives left (becomes ink value ones) (becomes ink value 0) old
      ∙ ap {B = Option ℕ} (λ (v : ℕ). cond left none (some v)) (mask-rop ink.rop0 value ink.fore old))

-- n bytes of a mask do for a pixel of n bytes
low-gives : (s : Surface) (p : Px) (keep flip adds old : ℕ) (st : State)
    → dab s p (by_mask (keep % 256 ^ s.bytes) (flip % 256 ^ s.bytes) adds old) st ≡ dab s p (by_mask keep flip adds old) st
unfolding dab by_mask write_px
low-gives s p keep flip adds old st = by-test (eqb adds 0)
  where
    by-test : (none-there : Bool) → dab s p (cond none-there none (some (masked old (keep % 256 ^ s.bytes) (flip % 256 ^ s.bytes)))) st ≡ dab s p (cond none-there none (some (masked old keep flip))) st
    by-test true = refl
    by-test false = ap (λ (l : List ℕ). tallied l (noted 1 (changing s st.mem l p) st.tally)) (put_low (byte_of s p.x p.y) 0 s.bytes old keep flip st.mem)

-- painting asks only what each pixel becomes
paint-dab : (s : Surface) (f g : Px → List ℕ → Option ℕ) (ps : List Px) → ((p : Px) → In p ps → (st : State) → dab s p (f p st.mem) st ≡ dab s p (g p st.mem) st)
    → (st : State) → paint s (map (λ p. touch p (f p)) ps) st ≡ paint s (map (λ p. touch p (g p)) ps) st
unfolding paint
paint-dab s f g [] h st = refl
paint-dab s f g (p ∷ ps) h st =
    ap (λ (next : State). paint s (map (λ p. touch p (f p)) ps) next) (h p (Memᴰ.head refl) st)
    ∙ paint-dab s f g ps (λ q i. h q (Memᴰ.tail i)) (dab s p (g p st.mem) st)

module _ (ink : Ink) (pattern : List ℕ) (x y rows : ℕ) {old : Tables} (m : Tables) (of : MasksOf ink pattern x y rows old m) where
  abbrev n : ℕ
  n = ink.target.bytes

  -- the masks of row number j are sound
  pub row-sound : (j : ℕ) → j % 8 < rows → (i : ℕ) → i < 8
      → Sound n (mask_in n m.keep (j % 8 * 8 + i)) (mask_in n m.flip (j % 8 * 8 + i)) (get_or m.adds (j % 8 * 8 + i) 0)
  row-sound j l i h =
      let k = j % 8 * 8 + i in
      let b : k < rows * 8 = omega arith in
      rw (of.keep.made k b, of.flip.made k b, of.adds.made k b) (mask-sound ink (pattern_value ink pattern (x + k % 8) (y + k / 8)) (pattern_bit pattern (pattern_column ink (x + k % 8)) (pattern_row ink (y + k / 8))) n)

  -- and give its pixels what the fill gives them
  pixel-fills : ink.dst_key ≡ false → (j : ℕ) → j % 8 < rows → (p : Px) → x ≤ p.x → p.y ≡ y + j → (st : State)
      → dab ink.target p (tinting ink.target m.keep m.flip m.adds (j % 8 * 8) x st.mem p) st ≡ dab ink.target p (filling ink pattern st.mem p) st
  unfolding tinting filling
  pixel-fills key j l p left e st =
      let k = j % 8 * 8 + (p.x - x) % 8 in
      let b : k < rows * 8 = omega arith in
      let column : pattern_column ink (x + k % 8) ≡ pattern_column ink p.x = omega arith in
      let free : (y + k / 8 + ink.pat_y) % 8 ≡ (p.y + ink.pat_y) % 8 = omega arith in
      let row : pattern_row ink (y + k / 8) ≡ pattern_row ink p.y = ap (λ (n : ℕ). cond ink.forced 0 n) free in
      let same = ap₂ (mask_of ink pattern) column row in
      let there = mask_of ink pattern (pattern_column ink p.x) (pattern_row ink p.y) in
      let old = read_px st.mem ink.target p.x p.y in
      rw (of.keep.made k b ∙ ap (λ (t : Mask). t.keep % 256 ^ n) same, of.flip.made k b ∙ ap (λ (t : Mask). t.flip % 256 ^ n) same, of.adds.made k b ∙ ap (λ (t : Mask). t.adds) same)
      (low-gives ink.target p there.keep there.flip there.adds old st
      ∙ ap (λ (o : Option ℕ). dab ink.target p o st) (mask-fills ink (pattern_value ink pattern p.x p.y) (pattern_bit pattern (pattern_column ink p.x) (pattern_row ink p.y)) old key))

  -- and so the rectangle's
  pub rect-fills : ink.dst_key ≡ false → (w h : ℕ) → ((j : ℕ) → j < h → j % 8 < rows) → (st : State)
      → paint ink.target (down_tints ink.target m.keep m.flip m.adds x y (rect false false x y w h)) st
      ≡ paint ink.target (fillings ink pattern (rect false false x y w h)) st
  rect-fills key w h enough st =
      paint-dab ink.target (λ p now. down_tint ink.target m.keep m.flip m.adds x y now p) (λ p now. filling ink pattern now p) (rect false false x y w h)
      (λ p i st. let q = in-rect false false x y w h p i in pixel-fills key (p.y - y) (enough (p.y - y) (omega arith)) p q.left (omega arith) st) st
