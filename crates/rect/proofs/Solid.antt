-- Fills: a solid one gives each pixel colorFore, none looks at a source, and whoever gives the pixels that has made the fill.
-- Assumes nothing.
use mathlib.Core.Path.{◌≡◌, refl, sym, ap, ◌∙◌}
use mathlib.Core.Bool.{Bool, true, false, not, ◌&&◌, true≢false}
use mathlib.Core.List.{List}
use mathlib.Core.Option.{Option, some}
use Prim.Native.Nat.{ℕ}
use borrow.Author.Tests.{eqb-true}
use lib.Dec.{eqb}
use Rattle.raster.specs.Rop.{rop_bits}
use Rattle.raster.proofs.RopLaws.{copies}
use Rattle.surface.specs.Place.{read_px}
use Rattle.surface.specs.Pixels.{Px, rect}
use Rattle.surface.proofs.OnLaws.{and_left, and_right}
use Rattle.sweep.specs.declared.Task.{Task}
use Rattle.paint.specs.Paint.{State, state, paint}
use Rattle.paint.specs.Mix.{mixed, chosen, fill_source}
use Rattle.ink.specs.Pattern.{pattern_column, pattern_row, pattern_bit, pattern_in, pattern_value}
use Rattle.sweep.specs.Copy.{source_by, giving, in_turn}
use Rattle.sweep.specs.Asked.{CanPaint}
use Rattle.sweep.proofs.TaskLaws.{can-pixel}
use Rattle.runs.specs.Runs.{evenly}
use Rattle.runs.specs.Asked.{RectOn}
use Rattle.tint.specs.Tint.{filling, fillings}
use Rattle.rect.specs.Fast.{solid}
use Rattle.paint.proofs.MixLaws.{not-true}
use Rattle.paint.proofs.Turns.{paint-same}

pub solid-fills : (t : Task) → solid t ≡ true → t.copies ≡ false
solid-fills t e =
    let a = not t.copies in
    let b = eqb t.ink.rop0 0xcc in
    let c = not t.ink.dst_key in
    not-true t.copies (and_left a b (and_left (a && b) c (and_left ((a && b) && c) (not (t.ink.clear && t.ink.mono)) e)))

pub solid-gives : (t : Task) (pattern m now : List ℕ) (p : Px) → solid t ≡ true → giving t pattern m now p ≡ some (rop_bits 32 0xcc 0 t.ink.fore 0)
unfolding giving source_by fill_source mixed chosen pattern_in
solid-gives t pattern m now p e =
    let ink = t.ink in
    let abc = and_left ((not t.copies && eqb ink.rop0 0xcc) && not ink.dst_key) (not (ink.clear && ink.mono)) e in
    let ab = and_left (not t.copies && eqb ink.rop0 0xcc) (not ink.dst_key) abc in
    let code = eqb-true ink.rop0 0xcc (and_right (not t.copies) (eqb ink.rop0 0xcc) ab) in
    let key = not-true ink.dst_key (and_right (not t.copies && eqb ink.rop0 0xcc) (not ink.dst_key) abc) in
    let opaque = not-true (ink.clear && ink.mono) (and_right ((not t.copies && eqb ink.rop0 0xcc) && not ink.dst_key) (not (ink.clear && ink.mono)) e) in
    let bit = eqb (pattern_bit pattern (pattern_column ink p.x) (pattern_row ink p.y)) 0 in
    rw (solid-fills t e, key, code, never ink.clear ink.mono bit opaque)
    (ap {B = Option ℕ} some (copies 32 (pattern_value ink pattern p.x p.y) ink.fore (read_px now ink.target p.x p.y) ∙ sym (copies 32 0 ink.fore 0)))
  where
    never : (clear mono bit : Bool) → (clear && mono) ≡ false → (clear && (mono && bit)) ≡ false
    never true true bit e = absurd (true≢false e)
    never true false bit e = refl
    never false mono bit e = refl

-- what a fill gives needs no task, and so no source
pub fill-alone : (t : Task) (pattern m now : List ℕ) (p : Px) → t.copies ≡ false → giving t pattern m now p ≡ filling t.ink pattern now p
unfolding giving source_by filling
fill-alone t pattern m now p e = rw e refl

-- the rectangle is on its surface
pub rect-on : {t : Task} {w h len : ℕ} → CanPaint t w h len → RectOn t.ink.target len t.x t.y w h
rect-on can = record { colour = can.colour; wide = can.wide; high = can.high; on = λ i j l r t b. (can-pixel can i j (record { left = l; right = r; top = t; bottom = b })).0 }

module _ (t : Task) (pattern m : List ℕ) (w h : ℕ) where
  abbrev pixels : List Px
  pixels = rect false false t.x t.y w h

  pub solid-made : {v : ℕ} {st : State} → solid t ≡ true → v ≡ rop_bits 32 0xcc 0 t.ink.fore 0 → st ≡ paint t.ink.target (evenly v pixels) (state m 0 0)
      → st ≡ paint t.ink.target (in_turn t pattern pixels) (state m 0 0)
  solid-made e value made =
      made ∙ ap (λ (v : ℕ). paint t.ink.target (evenly v pixels) (state m 0 0)) value
      ∙ sym (paint-same t.ink.target (λ p now. giving t pattern now now p) (λ p now. some _) pixels (λ p i now. solid-gives t pattern now now p e) (state m 0 0))

  pub fill-made : {st : State} → t.copies ≡ false → st ≡ paint t.ink.target (fillings t.ink pattern pixels) (state m 0 0)
      → st ≡ paint t.ink.target (in_turn t pattern pixels) (state m 0 0)
  fill-made e made =
      made
      ∙ sym (paint-same t.ink.target (λ p now. giving t pattern now now p) (λ p now. filling t.ink pattern now p) pixels (λ p i now. fill-alone t pattern now now p e) (state m 0 0))
