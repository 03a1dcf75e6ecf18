-- Laws of the source pixels that a copy needs: a rectangle of pixels of their surface, or off it.
-- Assumes nothing.
use mathlib.Core.Path.{◌≡◌, refl, sym, ap, ap₂, ◌∙◌}
use mathlib.Core.Logic.{⊎_elim}
use mathlib.Core.Bool.{Bool, true, false, ◌&&◌, and-false}
use mathlib.Core.List.Memᴰ
use mathlib.Core.List.{List, [], ◌∷◌}
use Prim.Native.Nat.{ℕ, ◌+◌, ◌-◌, ◌<◌, ◌≤◌}
use native.Mathlib.Omega.{arith}
use lib.Dec.{leb, ltb}
use borrow.Author.Tests.{le-leb, le-ltb, leb-true}
use Rattle.surface.specs.declared.Surface.{Surface}
use Rattle.surface.specs.Place.{on_surface}
use Rattle.surface.specs.Pixels.{Px, px, rect, origin}
use Rattle.spans.specs.declared.Span.{Span}
use Rattle.spans.specs.Span.{all_on, span_of, meet}
use Rattle.surface.proofs.OnLaws.{and_left, and_right, same_test, corner}
use Rattle.surface.proofs.Lists.{In}
use Rattle.surface.proofs.Rects.{same-px}
use Rattle.spans.proofs.Corner.{Corners, corners-on, corners-map, rect-corners}
use Rattle.spans.proofs.Spans.{rect-empty}
use Rattle.paint.specs.Clip.{pixel_at}
use Rattle.cuts.specs.declared.Cut.{Cut}
use Rattle.cuts.specs.Cut.{covered, needed}
use Rattle.table.specs.Table.{on_at, all_on_at, pixels}
use Rattle.cuts.proofs.CutLaws.{needed-rect, rect-map, none_left}

pub needed-pixels : (c : Cut) → origin ≤ c.sx → origin ≤ c.sy → pixels (needed c) ≡ rect false false (c.sx - origin) (c.sy - origin) c.w c.h
needed-pixels c left top =
    ap pixels (needed-rect c)
    ∙ rect-map (λ q. pixel_at q.x q.y) (c.sx - origin) (c.sy - origin) c.sx c.sy c.w c.h
    (λ k l u v. same-px (px (c.sx + k - origin) (c.sy + l - origin)) (px (c.sx - origin + k) (c.sy - origin + l)) (omega arith) (omega arith))

-- ---- the source positions on their surface
pub each_at : (s : Surface) (len : ℕ) (qs : List Px) → all_on_at s len qs ≡ true → (q : Px) → In q qs → on_at s len q ≡ true
unfolding all_on_at
each_at s len [] e q i = absurd (Memᴰ.not-nil i)
each_at s len (p ∷ qs) e q i =
    ⊎_elim (λ w. ap (on_at s len) w ∙ and_left (on_at s len p) (all_on_at s len qs) e)
    (λ j. each_at s len qs (and_right (on_at s len p) (all_on_at s len qs) e) q j) (Memᴰ.cases_cons i)

at_each : (s : Surface) (len : ℕ) (qs : List Px) → ((q : Px) → In q qs → on_at s len q ≡ true) → all_on_at s len qs ≡ true
unfolding all_on_at
at_each s len [] f = refl
at_each s len (p ∷ qs) f = ap (λ t. t && all_on_at s len qs) (f p (Memᴰ.head refl)) ∙ at_each s len qs (λ q i. f q (Memᴰ.tail i))

pub not_negative : (x y : ℕ) (on : Bool) → ((leb origin x && leb origin y) && on) ≡ true → (origin ≤ x) × (origin ≤ y) × (on ≡ true)
not_negative x y on e =
    let low = and_left (leb origin x && leb origin y) on e in (
      leb-true origin x (and_left (leb origin x) (leb origin y) low),
      leb-true origin y (and_right (leb origin x) (leb origin y) low),
      and_right (leb origin x && leb origin y) on e,
    )

-- positions with corners: the first must not be negative, and the last on the surface
pub corners-at : (s : Surface) (len : ℕ) {qs : List Px} {x y x' y' : ℕ} → Corners qs x y x' y'
    → all_on_at s len qs ≡ ((leb origin x && leb origin y) && on_surface s len (x' - origin) (y' - origin))
corners-at s len {qs} {x} {y} {x'} {y'} c =
    let low = leb origin x && leb origin y in
    let high = on_surface s len (x' - origin) (y' - origin) in
    same_test (all_on_at s len qs) (low && high)
    (λ e. ap₂ (λ s t. s && t)
    (and_left low (on_surface s len (x - origin) (y - origin)) (each_at s len qs e (px x y) c.first))
    (and_right (leb origin x' && leb origin y') high (each_at s len qs e (px x' y') c.last)))
    (λ e. at_each s len qs (λ q i.
    let b = c.between q i in
    let k = not_negative x y high e in
    ap₂ (λ s t. s && t) (ap₂ (λ s t. s && t) (le-leb origin q.x (omega arith)) (le-leb origin q.y (omega arith)))
    (corner s len (q.x - origin) (q.y - origin) (x' - origin) (y' - origin) k.2 (omega arith) (omega arith))))

pub pixel-corners : {qs : List Px} {x y x' y' : ℕ} → Corners qs x y x' y' → Corners (pixels qs) (x - origin) (y - origin) (x' - origin) (y' - origin)
pixel-corners c = corners-map (λ k. k - origin) (λ k. k - origin) (λ a b h. omega arith) (λ a b h. omega arith) c

-- where a copy has a first one, it must not be negative, and the rest is a rectangle of pixels
pub needed-corners : (c : Cut) → 0 < c.w → 0 < c.h → Corners (needed c) c.sx c.sy (c.sx + (c.w - 1)) (c.sy + (c.h - 1))
needed-corners c w h = rw (needed-rect c) (rect-corners false false c.sx c.sy c.w c.h w h)

module _ (s : Surface) (len : ℕ) (c : Cut) (w : 0 < c.w) (h : 0 < c.h) where
  pub needed-first : all_on_at s len (needed c) ≡ true → (origin ≤ c.sx) × (origin ≤ c.sy)
  needed-first e = let k = not_negative c.sx c.sy _ (sym (corners-at s len (needed-corners c w h)) ∙ e) in (k.0, k.1)

  pub needed-as-pixels : origin ≤ c.sx → origin ≤ c.sy → all_on_at s len (needed c) ≡ all_on s len (rect false false (c.sx - origin) (c.sy - origin) c.w c.h)
  needed-as-pixels left top =
      corners-at s len (needed-corners c w h)
      ∙ ap₂ (λ a b. (a && b) && on_surface s len (c.sx + (c.w - 1) - origin) (c.sy + (c.h - 1) - origin)) (le-leb origin c.sx left) (le-leb origin c.sy top)
      ∙ sym (corners-on s len (pixel-corners (needed-corners c w h)))
      ∙ ap (all_on s len) (needed-pixels c left top)

  -- a negative first position is off
  pub needed-negative : (origin ≤ c.sx → origin ≤ c.sy → ⊥) → all_on_at s len (needed c) ≡ false
  needed-negative f = by-test (all_on_at s len (needed c)) refl
    where
      by-test : (t : Bool) → all_on_at s len (needed c) ≡ t → all_on_at s len (needed c) ≡ false
      by-test true e = absurd (f (needed-first e).0 (needed-first e).1)
      by-test false e = e

-- ---- where nothing is left
pub needed-none : (s : Surface) (len : ℕ) (c : Cut) → (0 < c.w → 0 < c.h → ⊥) → all_on_at s len (needed c) ≡ true
unfolding all_on_at
needed-none s len c none = ap (all_on_at s len) (none_left c none (λ p. px (c.sx + (p.x - c.x)) (c.sy + (p.y - c.y))))

pub no-clash : (t : Surface) (c : Cut) (other : Span) → (0 < c.w → 0 < c.h → ⊥) → meet (span_of t (covered c)) other ≡ false
no-clash t c other none =
    ap (λ (s : Span). meet s other) (rect-empty false false t c.x c.y c.w c.h none)
    ∙ ap (λ b. ltb 0 other.past && b) (le-ltb other.low 0 (omega arith)) ∙ and-false (ltb 0 other.past)

pub ruleset needs = (needed-none, needed-negative, needed-as-pixels)

pub ruleset clashes = (no-clash, needed-pixels)
