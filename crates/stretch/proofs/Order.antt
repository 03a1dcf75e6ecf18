-- A stretch reads nothing that it writes, since the spans do not meet: pixels in their turn have their sources as they were.
-- Assumes nothing.
use mathlib.Core.Path.{◌≡◌, refl, sym, subst, ◌∙◌}
use mathlib.Core.Bool.{true, false, false≢true}
use mathlib.Core.List.Memᴰ
use mathlib.Core.List.{List, [], ◌∷◌, map}
use Prim.Native.Nat.{ℕ, ◌+◌, ◌-◌, ◌<◌}
use native.Mathlib.Omega.{arith}
use Rattle.surface.specs.Pixels.{Px, px, rect}
use Rattle.surface.proofs.Lists.{In, pairs-all}
use Rattle.surface.proofs.Rects.{same-px, in-rect}
use Rattle.spans.proofs.Spans.{IsByte, spans-meet}
use Rattle.paint.specs.Tally.{tally}
use Rattle.paint.specs.Paint.{state, paint}
use Rattle.paint.proofs.Settle.{Local, Unread, in-place}
use Rattle.paint.proofs.Turns.{paint-same}
use Rattle.sweep.specs.Copy.{source_place, giving}
use Rattle.rect.specs.Fast.{straight, straight_of}
use Rattle.straight.specs.Straight.{straight_giving}
use Rattle.rect.proofs.Order.{giving-local}
use Rattle.rect.proofs.Straight.{straight-gives}
use Rattle.scale.specs.declared.Stretch.{Stretch}
use Rattle.scale.specs.Stretch.{taken, pixel_task, stretch_giving, stretched, stretched_in_turn}
use Rattle.scale.specs.Asked.{CanStretch}
use Rattle.stretch.specs.Row.{open_task, straightly}

-- the copy of one pixel takes its source from the place that the stretch says
pub own-place : (t : Stretch) (p : Px) → source_place (pixel_task t p) p ≡ taken t p
unfolding source_place pixel_task
own-place t p = same-px (px ((taken t p).x + (p.x - p.x)) ((taken t p).y + (p.y - p.y))) (taken t p) (omega arith) (omega arith)

-- what a pixel reads: the bytes of the source pixel that it takes, and its own
abbrev Reads : Stretch → Px → ℕ → Type 0
Reads t p a = IsByte t.from (taken t p) a

stretch-local : (t : Stretch) (pattern : List ℕ) → 0 < t.ink.target.bytes → Local t.ink.target (stretch_giving t pattern) (Reads t)
unfolding pixel_task
stretch-local t pattern colour = record {
  same = λ p m m' now now' h g. (giving-local (pixel_task t p) pattern colour).same p m m' now now' (λ a r. h a (subst (λ (q : Px). IsByte t.from q a) (own-place t p) r.1)) g;
}

module _ {t : Stretch} {x y w h len : ℕ} (can : CanStretch t x y w h len) where
  abbrev all : List Px
  all = rect false false x y w h

  not-read : (p q : Px) → In p all → In q all → Unread t.ink.target (Reads t) p q
  not-read p q i j a r b =
      false≢true (sym can.apart ∙ spans-meet t.ink.target t.from all (map (taken t) all) p (taken t q) a i (Memᴰ.map (taken t) j) b r)

  pub in-turn : (pattern m : List ℕ) → paint t.ink.target (stretched_in_turn t pattern all) (state m 0 0) ≡ paint t.ink.target (stretched t pattern m all) (state m 0 0)
  in-turn pattern m =
      in-place t.ink.target can.colour.some (stretch_giving t pattern) (Reads t) (stretch-local t pattern can.colour.some) all m (tally 0 0) (pairs-all all not-read)

-- a stretch whose pixels get their sources, or stay as they are where the source matches the key
pub straight-turn : (t : Stretch) → straight (open_task t) ≡ true → (pattern m : List ℕ) (ps : List Px)
    → paint t.ink.target (straightly t ps) (state m 0 0) ≡ paint t.ink.target (stretched_in_turn t pattern ps) (state m 0 0)
unfolding pixel_task
straight-turn t e pattern m ps =
    sym (paint-same t.ink.target (λ p now. giving (pixel_task t p) pattern now now p) (λ p now. straight_giving (straight_of (pixel_task t p)) now p) ps
    (λ p i now. straight-gives (pixel_task t p) e pattern now p) (state m 0 0))

-- a rectangle of no width or no height has nothing to paint
pub nothing_left : (t : Stretch) (pattern m : List ℕ) (x y w h : ℕ) → (0 < w → 0 < h → ⊥) → state m 0 0 ≡ paint t.ink.target (stretched t pattern m (rect false false x y w h)) (state m 0 0)
unfolding paint
nothing_left t pattern m x y w h none = no-pixel (rect false false x y w h) (λ p i. let r = in-rect false false x y w h p i in none (omega arith) (omega arith))
  where
    no-pixel : (ps : List Px) → ((p : Px) → In p ps → ⊥) → state m 0 0 ≡ paint t.ink.target (stretched t pattern m ps) (state m 0 0)
    no-pixel [] f = refl
    no-pixel (p ∷ ps) f = absurd (f p (Memᴰ.head refl))
