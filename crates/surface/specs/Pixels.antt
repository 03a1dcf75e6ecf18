-- Pixels, and the pixels of a rectangle, row by row from the corner that two flags name.
-- Assumes nothing.
use Rattle.std.specs.Prelude.{Bool, true, false, List, [], ◌∷◌, ◌++◌, ℕ, zero, suc, ◌+◌, ◌≤◌, ◌<◌}

pub record Px : Type 0 where
  pub x : ℕ
  pub y : ℕ

abbrev pub px : ℕ → ℕ → Px
px x y = record { x = x; y = y }

-- a position may be negative: it stands as a natural number, and this one is position 0
abbrev pub origin : ℕ
origin = 16384

-- w pixels of row y from column x: from the left, or from the right
unfoldable pub across : Bool → ℕ → ℕ → ℕ → List Px
across to_left x zero y = []
across false x (suc n) y = px x y ∷ across false (x + 1) n y
across true x (suc n) y = px (x + n) y ∷ across true x n y

-- h rows of w pixels from (x, y): from the top, or from the bottom
unfoldable pub rect : Bool → Bool → ℕ → ℕ → ℕ → ℕ → List Px
rect to_left to_top x y w zero = []
rect to_left false x y w (suc h) = across to_left x w y ++ rect to_left false x (y + 1) w h
rect to_left true x y w (suc h) = across to_left x w (y + h) ++ rect to_left true x y w h

-- of two places on an axis the second does not come before the first: from the low end, or from the high one
abbrev pub NotBefore : Bool → ℕ → ℕ → Type 0
NotBefore false a b = a ≤ b
NotBefore true a b = b ≤ a

-- pixel p is one of the rectangle's
pub record Inside (x y w h : ℕ) (p : Px) : Type 0 where
  pub left : x ≤ p.x
  pub right : p.x < x + w
  pub top : y ≤ p.y
  pub bottom : p.y < y + h
