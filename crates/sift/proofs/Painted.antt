-- Which pixels of a fill, a copy and a stretch are written, and that the memory after them says the same as that before them: a mono source shares no byte with its
-- target.
-- Assumes nothing.
use mathlib.Core.Path.{◌≡◌, refl, sym, ap, subst, ◌∙◌}
use mathlib.Core.Logic.{⊎_elim}
use mathlib.Core.Bool.{Bool, true, false, cond, not, false≢true}
use mathlib.Core.List.Memᴰ
use mathlib.Core.List.{List, map}
use Prim.Native.Nat.{ℕ, ◌+◌, ◌-◌}
use native.Mathlib.Omega.{arith}
use lib.Dec.{eqb}
use lib.ListN.{get_or}
use borrow.Author.Tests.{eqb-true}
use Rattle.surface.specs.declared.Surface.{Surface}
use Rattle.surface.specs.Place.{read_px, mono_bit}
use Rattle.surface.specs.Pixels.{Px, px, rect, Inside}
use Rattle.surface.proofs.Lists.{In}
use Rattle.surface.proofs.Rects.{in-rect, rect-in, same-px}
use Rattle.spans.proofs.Spans.{IsByte, spans-meet}
use Rattle.ink.specs.Pattern.{pattern_column, pattern_row, pattern_bit, pattern_value}
use Rattle.paint.specs.Paint.{state, dab, paint, wrote}
use Rattle.paint.specs.Mix.{bit_source, colour_source, fill_source}
use Rattle.paint.proofs.Owners.{dab-leaves, read-bit}
use Rattle.paint.proofs.Frame.{frame, pixels-of}
use Rattle.sweep.specs.declared.Task.{Task}
use Rattle.sweep.specs.Copy.{source_place, source_by, giving, in_turn}
use Rattle.sweep.specs.Asked.{CanPaint, Orderly}
use Rattle.scale.specs.declared.Stretch.{Stretch}
use Rattle.scale.specs.Stretch.{taken, pixel_task, stretch_giving, stretched}
use Rattle.scale.specs.Asked.{CanStretch}
use Rattle.sift.specs.Sift.{chosen, left_at}
use Rattle.sift.proofs.Written.{is_given, mixed-given, wrote-chosen}

-- a pixel is given something exactly where its source leaves it not
giving-given : (t : Task) (pattern m now : List ℕ) (p : Px) → is_given (giving t pattern m now p) ≡ not (left_at t pattern m p)
unfolding giving left_at
giving-given t pattern m now p = mixed-given t.ink (pattern_value t.ink pattern p.x p.y) (source_by t (pattern_bit pattern (pattern_column t.ink p.x) (pattern_row t.ink p.y)) m p) (read_px now t.ink.target p.x p.y)

-- what leaves it is read in the bytes of a mono source, or in none
left-same : (t : Task) (pattern m m' : List ℕ) (q : Px)
    → (t.copies ≡ true → t.from.bytes ≡ 0 → (a : ℕ) → IsByte t.from (source_place t q) a → get_or m a 0 ≡ get_or m' a 0) → left_at t pattern m q ≡ left_at t pattern m' q
unfolding left_at source_by bit_source colour_source
left-same t pattern m m' q h = by-test t.copies refl (eqb t.from.bytes 0) refl
  where
    p : Px
    p = source_place t q

    bit : ℕ
    bit = pattern_bit pattern (pattern_column t.ink q.x) (pattern_row t.ink q.y)

    by-test : (c : Bool) → t.copies ≡ c → (z : Bool) → eqb t.from.bytes 0 ≡ z
        → (cond c (cond z (bit_source t.ink (mono_bit m t.from p.x p.y)) (colour_source t.ink t.from.bytes (read_px m t.from p.x p.y))) (fill_source t.ink bit)).left
        ≡ (cond c (cond z (bit_source t.ink (mono_bit m' t.from p.x p.y)) (colour_source t.ink t.from.bytes (read_px m' t.from p.x p.y))) (fill_source t.ink bit)).left
    by-test true c true z = ap (λ (n : ℕ). (bit_source t.ink n).left) (read-bit t.from (eqb-true t.from.bytes 0 z) p m m' (h c (eqb-true t.from.bytes 0 z)))
    by-test true c false z = refl
    by-test false c z e = refl

-- ---- a rectangle filled or copied
module _ (t : Task) (w h len : ℕ) (can : CanPaint t w h len) (orderly : t.copies ≡ true → Orderly t w h) where
  -- a mono source of q has no byte of a target pixel
  mono-apart : t.copies ≡ true → t.from.bytes ≡ 0 → (p q : Px) → Inside t.x t.y w h p → Inside t.x t.y w h q
      → (a : ℕ) → IsByte t.from (source_place t q) a → IsByte t.ink.target p a → ⊥
  unfolding source_place
  mono-apart copies mono p q ip iq a r b =
      ⊎_elim (λ same. let e = ap (λ (s : Surface). s.bytes) same in omega (arith, e, can.colour.some))
      (λ apart. false≢true (sym apart ∙ spans-meet t.ink.target t.from (rect false false t.x t.y w h) (rect false false t.sx t.sy w h) p (source_place t q) a
      (rect-in false false t.x t.y w h p ip)
      (rect-in false false t.sx t.sy w h (source_place t q) (record { left = omega arith; right = omega (arith, iq.left, iq.right); top = omega arith; bottom = omega (arith, iq.top, iq.bottom) })) b r)) (orderly copies)

  module _ (l u : Bool) (pattern m : List ℕ) where
    abbrev all : List Px
    all = rect l u t.x t.y w h

    pub task-wrote : wrote t.ink.target (in_turn t pattern all) m ≡ chosen (λ p. not (left_at t pattern m p)) all
    task-wrote =
        wrote-chosen t.ink.target (λ p now. giving t pattern now now p) (λ p. not (left_at t pattern m p))
        (λ now. (q : Px) → In q all → left_at t pattern now q ≡ left_at t pattern m q) all
        (λ p now i stay. giving-given t pattern now now p ∙ ap not (stay p i))
        (λ p now i stay q j.
        left-same t pattern (dab t.ink.target p (giving t pattern now now p) (state now 0 0)).mem now q (λ copies mono a r.
        dab-leaves t.ink.target can.colour.some p (giving t pattern now now p) (state now 0 0) a
        (mono-apart copies mono p q (in-rect l u t.x t.y w h p i) (in-rect l u t.x t.y w h q j) a r)) ∙ stay q j)
        all m (λ p i. i) (λ q i. refl)

    pub task-kept : (q : Px) → Inside t.x t.y w h q → left_at t pattern (paint t.ink.target (in_turn t pattern all) (state m 0 0)).mem q ≡ left_at t pattern m q
    task-kept q iq =
        left-same t pattern (paint t.ink.target (in_turn t pattern all) (state m 0 0)).mem m q (λ copies mono a r.
        frame t.ink.target can.colour.some (in_turn t pattern all) (state m 0 0) a (λ p i b.
        mono-apart copies mono p q (in-rect l u t.x t.y w h p (subst (In p) (pixels-of (λ p now. giving t pattern now now p) all) i)) iq a r b))

-- ---- a stretch
own-place : (t : Stretch) (p : Px) → source_place (pixel_task t p) p ≡ taken t p
unfolding source_place pixel_task
own-place t p = same-px (px ((taken t p).x + (p.x - p.x)) ((taken t p).y + (p.y - p.y))) (taken t p) (omega arith) (omega arith)

module _ {t : Stretch} {x y w h len : ℕ} (can : CanStretch t x y w h len) (pattern m : List ℕ) where
  abbrev area : List Px
  area = rect false false x y w h

  pub stretch-wrote : wrote t.ink.target (stretched t pattern m area) m ≡ chosen (λ p. not (left_at (pixel_task t p) pattern m p)) area
  stretch-wrote =
      wrote-chosen t.ink.target (λ p now. stretch_giving t pattern m now p) (λ p. not (left_at (pixel_task t p) pattern m p)) (λ now. Unit {0}) area
      (λ p now i stay. giving-given (pixel_task t p) pattern m now p) (λ p now i stay. tt) area m (λ p i. i) tt

  pub stretch-kept : (q : Px) → In q area
      → left_at (pixel_task t q) pattern (paint t.ink.target (stretched t pattern m area) (state m 0 0)).mem q ≡ left_at (pixel_task t q) pattern m q
  unfolding pixel_task
  stretch-kept q j =
      left-same (pixel_task t q) pattern (paint t.ink.target (stretched t pattern m area) (state m 0 0)).mem m q (λ copies mono a r.
      frame t.ink.target can.colour.some (stretched t pattern m area) (state m 0 0) a (λ p i b.
      false≢true (sym can.apart ∙ spans-meet t.ink.target t.from area (map (taken t) area) p (taken t q) a
      (subst (In p) (pixels-of (λ p now. stretch_giving t pattern m now p) area) i) (Memᴰ.map (taken t) j) b (subst (λ (s : Px). IsByte t.from s a) (own-place t q) r))))
