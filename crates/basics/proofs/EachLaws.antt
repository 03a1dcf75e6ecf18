-- Laws of a list's numbers taken one after the other: in two parts, and in a loop.
-- Assumes nothing.
use mathlib.Core.Path.{◌≡◌, refl}
use mathlib.Core.List.{List, [], ◌∷◌, ◌++◌}
use Prim.Native.Nat.{ℕ, ◌+◌, ◌<◌, ◌≤◌}
use native.Mathlib.Numerals.{add-one}
use lib.ListN.{length, get_or, drop, drop_of_length-le}
use lib.Seq.{drop-cons}
use Rattle.basics.specs.Each.{each}

module _ {S : Type 0} (f : ℕ → S → S) where
  pub each_append : (t u : List ℕ) (s : S) → each f (t ++ u) s ≡ each f u (each f t s)
  unfolding each
  each_append [] u s = refl
  each_append (b ∷ t) u s = each_append t u (f b s)

  -- a turn of a loop takes the number at i
  pub each_again : (t : List ℕ) (i : ℕ) (s s' : S) → i < length t → s' ≡ f (get_or t i 0) s → each f (drop (i + 1) t) s' ≡ each f (drop i t) s
  unfolding each
  each_again t i s s' h e = rw (add-one, drop-cons t i 0 h, e)

  pub each-ends : (t : List ℕ) (i : ℕ) (s : S) → length t ≤ i → s ≡ each f (drop i t) s
  unfolding each
  each-ends t i s h = rw (drop_of_length-le t h)
