-- `colour::ByTableWidening::five` meets its contract: the table's rule is one test over its 32 entries, which antt computes.
-- Assumes nothing.
use mathlib.Core.Path.{refl, ◌∙◌}
use mathlib.Core.List.{List, [], ◌∷◌}
use Prim.Native.Nat.{ℕ, ◌%◌}
use native.Mathlib.Omega.{arith}
use Rattle.colour.specs.Convert.{repeated}
use Rattle.colour.proofs.Table.{table}
use Rattle.colour.proofs.ByTableWidening.five.Goals as goal

entries : List ℕ
entries =
    0 ∷ 8 ∷ 16 ∷ 24 ∷ 33 ∷ 41 ∷ 49 ∷ 57 ∷ 66 ∷ 74 ∷ 82 ∷ 90 ∷ 99 ∷ 107 ∷ 115 ∷ 123
    ∷ 132 ∷ 140 ∷ 148 ∷ 156 ∷ 165 ∷ 173 ∷ 181 ∷ 189 ∷ 198 ∷ 206 ∷ 214 ∷ 222 ∷ 231 ∷ 239 ∷ 247 ∷ 255 ∷ []

pub returns : goal.returns
unfolding entries
returns c = c.from.ensures ∙ table (repeated 5) entries refl (c.args.n % 32) (omega arith)
