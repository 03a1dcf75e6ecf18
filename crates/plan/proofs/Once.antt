-- What the contracts settle entry by entry is one array each: any two that they allow are the same.
-- Assumes nothing.
use mathlib.Core.Path.{◌≡◌}
use mathlib.Core.List.{List}
use Prim.Native.Nat.{ℕ}
use lib.ListN.{length}
use Rattle.ink.specs.declared.Ink.{Ink}
use Rattle.ink.proofs.PatternLaws.{entries-once}
use Rattle.plan.specs.Plan.{MasksOf, QuadsFrom}

-- an array has the length that its type says
pub masks-once : {ink : Ink} {a b : List ℕ} → length a ≡ 32 → length b ≡ 32 → MasksOf ink a → MasksOf ink b → a ≡ b
masks-once long long' f g = entries-once 32 _ long long' f.at g.at

pub quads-once : {masks values a b : List ℕ} → length a ≡ 128 → length b ≡ 128 → QuadsFrom masks values a → QuadsFrom masks values b → a ≡ b
quads-once long long' f g = entries-once 128 _ long long' f.at g.at
