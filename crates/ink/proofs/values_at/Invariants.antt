-- `ink::values_at` meets its contract: the values passed are those of their pixels, and those to come are 0.
-- Assumes nothing.
use mathlib.Core.Path.{◌≡◌}
use mathlib.Core.List.{List}
use Prim.Native.Nat.{ℕ, ◌+◌, ◌*◌, ◌/◌, ◌%◌, ◌<◌, ◌≤◌}
use lib.ListN.{length, get_or}
use Rattle.ink.specs.declared.Ink.{Ink}
use Rattle.ink.specs.Pattern.{pattern_value}
use Rattle.ink.proofs.values_at.Given as goal

-- the first k of them
abbrev pub First : Ink → List ℕ → ℕ → ℕ → ℕ → List ℕ → Type 0
First ink pattern x y k values =
    (length values ≡ 64) × ((l : ℕ) → l < k → get_or values l 0 ≡ pattern_value ink pattern (x + l % 8) (y + l / 8)) × ((l : ℕ) → k ≤ l → get_or values l 0 ≡ 0)

abbrev pub invariant-loop-i : goal.invariant-loop-i
invariant-loop-i l = First l.ink l.pattern l.x l.y (l.j * 8 + l.i) l.values

abbrev pub invariant-loop-j : goal.invariant-loop-j
invariant-loop-j l = First l.ink l.pattern l.x l.y (l.j * 8) l.values
