-- Laws of rectangles: where one has pixels, its first position is not negative and its pixels are a rectangle of pixels; the bytes that are none of its own.
-- Assumes nothing.
use mathlib.Core.Path.{◌≡◌, refl, sym, ap, subst, ◌∙◌}
use mathlib.Core.Bool.{true, false}
use mathlib.Core.List.Memᴰ
use mathlib.Core.List.{List, Memᴰ}
use Prim.Native.Nat.{ℕ, ◌+◌, ◌-◌, ◌<◌, ◌≤◌}
use native.Mathlib.Omega.{arith}
use lib.ListN.{length, get_or}
use Rattle.surface.specs.Pixels.{Px, px, rect, origin}
use Rattle.spans.specs.Span.{all_on}
use Rattle.surface.proofs.Lists.{In}
use Rattle.surface.proofs.Rects.{same-px, rect-in}
use Rattle.spans.proofs.Spans.{IsByte, addresses-in}
use Rattle.paint.specs.Clip.{pixel_at}
use Rattle.cuts.specs.declared.Cut.{Cut}
use Rattle.cuts.specs.Cut.{needed}
use Rattle.table.specs.Table.{all_on_at, pixels}
use Rattle.cuts.proofs.CutLaws.{needed-rect}
use Rattle.table.proofs.Sources.{needed-first, needed-pixels}
use Rattle.table.proofs.Verdicts.{source-on}
use Rattle.restore.specs.Rectangles.{Rectangle, positions, Has, addresses_in}

-- pixel p is one of the rectangle's
abbrev pub Of : Rectangle → Px → Type 0
Of t p = Has t (origin + p.x) (origin + p.y)

-- ---- a rectangle that is on its surface
abbrev as_cut : Rectangle → Cut
as_cut t = record { x = 0; y = 0; w = t.w; h = t.h; sx = t.x; sy = t.y }

module _ (t : Rectangle) (len : ℕ) (on : all_on_at t.surface len (positions t) ≡ true) where
  on-needed : all_on_at t.surface len (needed (as_cut t)) ≡ true
  on-needed = ap (all_on_at t.surface len) (needed-rect (as_cut t)) ∙ on

  pub not_negative : 0 < t.w → 0 < t.h → (origin ≤ t.x) × (origin ≤ t.y)
  not_negative w h = needed-first t.surface len (as_cut t) w h on-needed

  pub pixels-rect : 0 < t.w → 0 < t.h → pixels (positions t) ≡ rect false false (t.x - origin) (t.y - origin) t.w t.h
  pixels-rect w h =
      let n = not_negative w h in
      ap pixels (sym (needed-rect (as_cut t))) ∙ needed-pixels (as_cut t) n.0 n.1

  pub all-on : all_on t.surface len (rect false false (t.x - origin) (t.y - origin) t.w t.h) ≡ true
  all-on = source-on t.surface len (as_cut t) on-needed

-- ---- an address that is none of the rectangle's is a byte of none of its pixels
pub outside : (t : Rectangle) (a : ℕ) → (Memᴰ a (addresses_in t) → ⊥) → (p : Px) → Of t p → IsByte t.surface p a → ⊥
outside t a f p i b =
    let q = px (origin + p.x) (origin + p.y) in
    let here : In (pixel_at q.x q.y) (pixels (positions t)) = Memᴰ.map (λ (r : Px). pixel_at r.x r.y) (rect-in false false t.x t.y t.w t.h q i) in
    let e : pixel_at q.x q.y ≡ p = same-px (pixel_at q.x q.y) p (omega arith) (omega arith) in
    f (addresses-in t.surface (pixels (positions t)) p a (subst (λ (r : Px). In r (pixels (positions t))) e here) b)

-- ---- two memories that differ only in the rectangle's bytes
pub record Elsewhere (t : Rectangle) (m m' : List ℕ) : Type 0 where
  pub same : (a : ℕ) → ((p : Px) → Of t p → IsByte t.surface p a → ⊥) → get_or m' a 0 ≡ get_or m a 0
  pub long : length m' ≡ length m

pub elsewhere-refl : (t : Rectangle) (m : List ℕ) → Elsewhere t m m
elsewhere-refl t m = record { same = λ a f. refl; long = refl }

pub elsewhere-trans : {t : Rectangle} {m m' m'' : List ℕ} → Elsewhere t m m' → Elsewhere t m' m'' → Elsewhere t m m''
elsewhere-trans e f = record { same = λ a o. f.same a o ∙ e.same a o; long = f.long ∙ e.long }
