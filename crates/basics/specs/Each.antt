-- A list's numbers taken one after the other, by anything that has a state.
-- Assumes nothing.
use Rattle.std.specs.Prelude.{List, [], ◌∷◌, ℕ}

unfoldable pub each : {S : Type 0} → (ℕ → S → S) → List ℕ → S → S
each take [] s = s
each take (b ∷ t) s = each take t (take b s)
