-- Every pixel of a list on the surface, as one test; of a list with corners, such as a rectangle, decided at its last one.
-- Assumes nothing.
use mathlib.Core.Path.{◌≡◌, refl, ap, subst, ◌∙◌}
use mathlib.Core.Logic.{⊎_elim}
use mathlib.Core.Bool.{Bool, true, false, ◌&&◌}
use mathlib.Core.List.Memᴰ
use mathlib.Core.List.{List, [], ◌∷◌, map}
use Prim.Native.Nat.{ℕ, ◌+◌, ◌-◌, ◌<◌, ◌≤◌}
use native.Mathlib.Omega.{arith}
use Rattle.surface.specs.declared.Surface.{Surface}
use Rattle.surface.specs.Place.{on_surface}
use Rattle.surface.specs.Pixels.{Px, px, across, rect}
use Rattle.spans.specs.Span.{all_on}
use Rattle.surface.proofs.OnLaws.{and_left, and_right, same_test, corner}
use Rattle.surface.proofs.Lists.{In}
use Rattle.surface.proofs.Rects.{in-rect, rect-in, in-across, across-in}

pub all-each : (s : Surface) (len : ℕ) (ps : List Px) → all_on s len ps ≡ true → (p : Px) → In p ps → on_surface s len p.x p.y ≡ true
unfolding all_on
all-each s len [] e p i = absurd (Memᴰ.not-nil i)
all-each s len (q ∷ ps) e p i =
    ⊎_elim (λ w. ap (λ (r : Px). on_surface s len r.x r.y) w ∙ and_left (on_surface s len q.x q.y) (all_on s len ps) e)
    (λ j. all-each s len ps (and_right (on_surface s len q.x q.y) (all_on s len ps) e) p j) (Memᴰ.cases_cons i)

pub each_all : (s : Surface) (len : ℕ) (ps : List Px) → ((p : Px) → In p ps → on_surface s len p.x p.y ≡ true) → all_on s len ps ≡ true
unfolding all_on
each_all s len [] f = refl
each_all s len (q ∷ ps) f =
    ap (λ t. t && all_on s len ps) (f q (Memᴰ.head refl)) ∙ each_all s len ps (λ p i. f p (Memᴰ.tail i))

-- from whatever corner, the same pixels
pub any-corner : (s : Surface) (len : ℕ) (l t : Bool) (x y w h : ℕ) → all_on s len (rect l t x y w h) ≡ all_on s len (rect false false x y w h)
any-corner s len l t x y w h =
    same_test (all_on s len (rect l t x y w h)) (all_on s len (rect false false x y w h))
    (λ e. each_all s len (rect false false x y w h) (λ p i. all-each s len (rect l t x y w h) e p (rect-in l t x y w h p (in-rect false false x y w h p i))))
    (λ e. each_all s len (rect l t x y w h) (λ p i. all-each s len (rect false false x y w h) e p (rect-in false false x y w h p (in-rect l t x y w h p i))))

-- ---- lists of pixels that have an upper left and a lower right one among them

-- pixel p is in the rectangle that has these two corners
pub record Between (x y x' y' : ℕ) (p : Px) : Type 0 where
  pub left : x ≤ p.x
  pub right : p.x ≤ x'
  pub top : y ≤ p.y
  pub bottom : p.y ≤ y'

pub record Corners (ps : List Px) (x y x' y' : ℕ) : Type 0 where
  pub first : In (px x y) ps
  pub last : In (px x' y') ps
  pub between : (p : Px) → In p ps → Between x y x' y' p

-- where the last one is on the surface, all are
pub corners-on : (s : Surface) (len : ℕ) {ps : List Px} {x y x' y' : ℕ} → Corners ps x y x' y' → all_on s len ps ≡ on_surface s len x' y'
corners-on s len {ps} {x} {y} {x'} {y'} c =
    same_test (all_on s len ps) (on_surface s len x' y') (λ e. all-each s len ps e (px x' y') c.last)
    (λ e. each_all s len ps (λ p i. corner s len p.x p.y x' y' e (c.between p i).right (c.between p i).bottom))

-- a map of columns and one of rows that go up keep the corners
abbrev pub Up : (ℕ → ℕ) → Type 0
Up f = (a b : ℕ) → a ≤ b → f a ≤ f b

abbrev pub moved : (ℕ → ℕ) → (ℕ → ℕ) → Px → Px
moved f g p = px (f p.x) (g p.y)

pub corners-map : (f g : ℕ → ℕ) → Up f → Up g → {ps : List Px} {x y x' y' : ℕ} → Corners ps x y x' y' → Corners (map (moved f g) ps) (f x) (g y) (f x') (g y')
corners-map f g across down {ps} {x} {y} {x'} {y'} c = record {
  first = Memᴰ.map (moved f g) c.first;
  last = Memᴰ.map (moved f g) c.last;
  between = λ q i.
      let r = Memᴰ.of_map (moved f g) ps i in
      let b = c.between r.0 r.1 in
      subst (Between (f x) (g y) (f x') (g y')) r.2
      (record { left = across _ _ b.left; right = across _ _ b.right; top = down _ _ b.top; bottom = down _ _ b.bottom });
}

-- ---- a rectangle, and a row
pub rect-corners : (l t : Bool) (x y w h : ℕ) → 0 < w → 0 < h → Corners (rect l t x y w h) x y (x + (w - 1)) (y + (h - 1))
rect-corners l t x y w h pw ph = record {
  first = rect-in l t x y w h _ (omega arith);
  last = rect-in l t x y w h _ (omega arith);
  between = λ p i. let r = in-rect l t x y w h p i in omega arith;
}

pub rect-corner : (l t : Bool) (s : Surface) (len x y w h : ℕ) → 0 < w → 0 < h
    → all_on s len (rect l t x y w h) ≡ on_surface s len (x + (w - 1)) (y + (h - 1))
rect-corner l t s len x y w h pw ph = corners-on s len (rect-corners l t x y w h pw ph)

pub across-corner : (l : Bool) (s : Surface) (len x n y : ℕ) → 0 < n → all_on s len (across l x n y) ≡ on_surface s len (x + (n - 1)) y
across-corner l s len x n y p = corners-on s len (record {
  first = across-in l x n y (px x y) (omega arith) (omega arith) refl;
  last = across-in l x n y (px (x + (n - 1)) y) (omega arith) (omega arith) refl;
  between = λ q i. let r = in-across l x n y q i in omega arith;
})

-- a rectangle of no width or no height has no pixel
pub rect-none : (l t : Bool) (s : Surface) (len x y w h : ℕ) → (0 < w → 0 < h → ⊥) → all_on s len (rect l t x y w h) ≡ true
rect-none l t s len x y w h none =
    each_all s len (rect l t x y w h) (λ p i. let r = in-rect l t x y w h p i in absurd (none (omega arith) (omega arith)))
