-- What a position inside the clip is, by its four sides, and that these are all there is to it.
-- Assumes nothing.
use mathlib.Core.Path.{◌≡◌, ap₂}
use mathlib.Core.Bool.{true, ◌&&◌}
use Prim.Native.Nat.{ℕ, ◌+◌, ◌<◌, ◌≤◌}
use lib.Dec.{leb, ltb}
use borrow.Author.Tests.{leb-true, ltb-true, le-leb, lt-ltb}
use Rattle.surface.proofs.OnLaws.{and_left, and_right}
use Rattle.surface.specs.Pixels.{origin}
use Rattle.paint.specs.declared.Clip.{Clip}
use Rattle.paint.specs.Clip.{in_clip}

pub record Covered (c : Clip) (x y : ℕ) : Type 0 where
  pub left : origin + c.left ≤ x
  pub right : x < origin + c.right
  pub top : origin + c.top ≤ y
  pub bottom : y < origin + c.bottom

pub in-clip : (c : Clip) (x y : ℕ) → in_clip c x y ≡ true → Covered c x y
unfolding in_clip
in-clip c x y e =
    let a = leb (origin + c.left) x in
    let b = ltb x (origin + c.right) in
    let d = leb (origin + c.top) y in
    let f = ltb y (origin + c.bottom) in
    let across = and_left (a && b) (d && f) e in
    let down = and_right (a && b) (d && f) e in
    record {
      left = leb-true (origin + c.left) x (and_left a b across);
      right = ltb-true x (origin + c.right) (and_right a b across);
      top = leb-true (origin + c.top) y (and_left d f down);
      bottom = ltb-true y (origin + c.bottom) (and_right d f down);
    }

pub clip-in : (c : Clip) (x y : ℕ) → Covered c x y → in_clip c x y ≡ true
unfolding in_clip
clip-in c x y h =
    ap₂ (λ s t. s && t) (ap₂ (λ s t. s && t) (le-leb _ _ h.left) (lt-ltb _ _ h.right)) (ap₂ (λ s t. s && t) (le-leb _ _ h.top) (lt-ltb _ _ h.bottom))
