-- A table whose rule is tested at each entry, by a test that antt computes, keeps the rule at each entry.
-- Assumes nothing.
use mathlib.Core.Path.{◌≡◌, sym, ◌∙◌, ap}
use mathlib.Core.Bool.{Bool, true, ◌&&◌}
use mathlib.Core.List.{List, [], ◌∷◌}
use Prim.Native.Nat.{ℕ, zero, suc, ◌+◌, ◌<◌}
use native.Mathlib.Nat.{add-zero, zero-add, add-suc, suc-add, le_of_suc-le-suc, not-suc-le-zero}
use borrow.Author.Tests.{eqb-true}
use lib.Dec.{eqb}
use lib.ListN.{length, get_or}
use Rattle.colour.proofs.Tests.{and_left, and_right}

-- every entry of the list is f of its place, counted from i
abbrev pub follows : (ℕ → ℕ) → ℕ → List ℕ → Bool
follows f i [] = true
follows f i (x ∷ xs) = eqb x (f i) && follows f (suc i) xs

from : (f : ℕ → ℕ) (xs : List ℕ) (i k : ℕ) → follows f i xs ≡ true → k < length xs → get_or xs k 0 ≡ f (i + k)
from f [] i k e h = absurd (not-suc-le-zero h)
from f (x ∷ xs) i zero e h = eqb-true x (f i) (and_left (eqb x (f i)) (follows f (suc i) xs) e) ∙ ap f (sym (add-zero i))
from f (x ∷ xs) i (suc k) e h =
    from f xs (suc i) k (and_right (eqb x (f i)) (follows f (suc i) xs) e) (le_of_suc-le-suc h)
    ∙ ap f (suc-add i k ∙ sym (add-suc i k))

pub table : (f : ℕ → ℕ) (xs : List ℕ) → follows f 0 xs ≡ true → (k : ℕ) → k < length xs → get_or xs k 0 ≡ f k
table f xs e k h = from f xs 0 k e h ∙ ap f (zero-add k)
