-- A pixel is in the range of a key if and only if it matches the key.
-- Assumes nothing.
use mathlib.Core.Path.{◌≡◌, refl}
use mathlib.Core.Bool.{Bool, true, false, and-true}
use Prim.Native.Nat.{ℕ}
use lib.Dec.{eqb}
use Rattle.keys.specs.Key.{key_match, within}
use Rattle.keys.specs.Range.{range_of, in_range}

pub in-range : (bytes lo hi v : ℕ) → in_range bytes (range_of bytes lo hi) v ≡ key_match bytes lo hi v
unfolding in_range range_of key_match within
in-range bytes lo hi v = by (eqb bytes 1) refl (eqb bytes 2) refl
  where
    by : (a : Bool) → eqb bytes 1 ≡ a → (b : Bool) → eqb bytes 2 ≡ b → in_range bytes (range_of bytes lo hi) v ≡ key_match bytes lo hi v
    by true e b f = simp (e, and-true)
    by false e true f = simp (e, f, and-true)
    by false e false f = simp (e, f, and-true)
