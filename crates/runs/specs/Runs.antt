-- Runs of bytes: a rectangle of one value, pixels that are not alike, and bytes that have come from elsewhere.
-- Assumes nothing.
use Rattle.std.specs.Prelude.{◌≡◌, Bool, cond, not, List, map, ℕ, zero, suc, ◌+◌, ◌-◌, ◌%◌, ◌<◌, ◌≤◌, eqb, ltb, length, get_or}
use Rattle.std.proofs.Math.Option.{some}
use Rattle.surface.specs.declared.Surface.{Surface}
use Rattle.surface.specs.Place.{byte_at, byte_of, read_bytes, one}
use Rattle.surface.specs.Pixels.{Px, Inside}
use Rattle.paint.specs.Paint.{State, Touch, touch, dab_at}

-- each pixel is given the value v
abbrev pub evenly : ℕ → List Px → List Touch
evenly v ps = map (λ p. touch p (λ now. some v)) ps

-- the same of w pixels of b bytes from an address on
unfoldable pub even_at : ℕ → ℕ → ℕ → ℕ → State → State
even_at b v at zero st = st
even_at b v at (suc w) st = even_at b v (at + b) w (dab_at at b (some v) st)

-- ---- pixels that are not alike

-- the b bytes from d on in one memory are not those from s on in another
abbrev pub unlike_at : List ℕ → List ℕ → ℕ → ℕ → ℕ → Bool
unlike_at m m' b d s = not (eqb (read_bytes m (λ k. d + k) 0 b) (read_bytes m' (λ k. s + k) 0 b))

-- how many of w pixels of b bytes are so
unfoldable pub unlikes : List ℕ → List ℕ → ℕ → ℕ → ℕ → ℕ → ℕ
unlikes m m' b d s zero = 0
unlikes m m' b d s (suc w) = one (unlike_at m m' b d s) + unlikes m m' b (d + b) (s + b) w

-- ---- bytes that have come from elsewhere

-- of a run of bytes from s to d, those from number lo up to, and without, hi; every other byte is left
pub record Shifted (d s lo hi : ℕ) (m m' : List ℕ) : Type 0 where
  pub came : (i : ℕ) → lo ≤ i → i < hi → get_or m' (d + i) 0 ≡ get_or m (s + i) 0
  pub below : (a : ℕ) → a < d + lo → get_or m' a 0 ≡ get_or m a 0
  pub above : (a : ℕ) → d + hi ≤ a → get_or m' a 0 ≡ get_or m a 0
  pub long : length m' ≡ length m

-- how many of n columns or rows, from number `at` on, come before the next edge of a tile
abbrev pub to_edge : Surface → ℕ → ℕ → ℕ → ℕ
to_edge s at edge n = cond s.tiled (cond (ltb (edge - at % edge) n) (edge - at % edge) n) n

-- a buffer whose n bytes from `to` on have become a memory's from `at` on; every other byte is left
pub record Kept (m : List ℕ) (to at n : ℕ) (old new : List ℕ) : Type 0 where
  pub came : (i : ℕ) → i < n → get_or new (to + i) 0 ≡ get_or m (at + i) 0
  pub before : (a : ℕ) → a < to → get_or new a 0 ≡ get_or old a 0
  pub after : (a : ℕ) → to + n ≤ a → get_or new a 0 ≡ get_or old a 0
  pub long : length new ≡ length old

-- one whose first n bytes have become those of row y from column x on, columns counting bytes; every other byte is left
pub record RowKept (s : Surface) (m : List ℕ) (x y n : ℕ) (old new : List ℕ) : Type 0 where
  pub came : (i : ℕ) → i < n → get_or new i 0 ≡ get_or m (byte_at s (x + i) y) 0
  pub after : (a : ℕ) → n ≤ a → get_or new a 0 ≡ get_or old a 0
  pub long : length new ≡ length old

-- byte k of pixel p of a rectangle is `byte p k`; every other byte is left
pub record Given (s : Surface) (byte : Px → ℕ → ℕ) (x y w h : ℕ) (m m' : List ℕ) : Type 0 where
  pub inside : (p : Px) → Inside x y w h p → (k : ℕ) → k < s.bytes → get_or m' (byte_of s p.x p.y k) 0 ≡ byte p k
  pub others : (a : ℕ) → ((p : Px) → Inside x y w h p → (k : ℕ) → k < s.bytes → a ≡ byte_of s p.x p.y k → ⊥) → get_or m' a 0 ≡ get_or m a 0
  pub long : length m' ≡ length m
