-- What the tests before the fast paths say.
-- Assumes nothing.
use mathlib.Core.Path.{◌≡◌, refl}
use mathlib.Core.Bool.{Bool, true, false, ◌&&◌, ◌||◌, true≢false}
use Prim.Native.Nat.{ℕ, ◌<◌}
use lib.Dec.{ltb}
use borrow.Author.Tests.{ltb-true}
use Rattle.surface.proofs.OnLaws.{and_left, and_right}

-- neither is 0
pub both_some : (w h : ℕ) → (ltb 0 w && ltb 0 h) ≡ true → (0 < w) × (0 < h)
both_some w h e = (ltb-true 0 w (and_left (ltb 0 w) (ltb 0 h) e), ltb-true 0 h (and_right (ltb 0 w) (ltb 0 h) e))

pub neither : (a b : Bool) → (a || b) ≡ false → (a ≡ false) × (b ≡ false)
neither true b e = absurd (true≢false e)
neither false b e = (refl, e)
