-- `colour::ByTableWidening::six` meets its contract: the table's rule is one test over its 64 entries, which antt computes.
-- Assumes nothing.
use mathlib.Core.Path.{refl, ◌∙◌}
use mathlib.Core.List.{List, [], ◌∷◌}
use Prim.Native.Nat.{ℕ, ◌%◌}
use native.Mathlib.Omega.{arith}
use Rattle.colour.specs.Convert.{repeated}
use Rattle.colour.proofs.Table.{table}
use Rattle.colour.proofs.ByTableWidening.six.Goals as goal

entries : List ℕ
entries =
    0 ∷ 4 ∷ 8 ∷ 12 ∷ 16 ∷ 20 ∷ 24 ∷ 28 ∷ 32 ∷ 36 ∷ 40 ∷ 44 ∷ 48 ∷ 52 ∷ 56 ∷ 60
    ∷ 65 ∷ 69 ∷ 73 ∷ 77 ∷ 81 ∷ 85 ∷ 89 ∷ 93 ∷ 97 ∷ 101 ∷ 105 ∷ 109 ∷ 113 ∷ 117 ∷ 121 ∷ 125
    ∷ 130 ∷ 134 ∷ 138 ∷ 142 ∷ 146 ∷ 150 ∷ 154 ∷ 158 ∷ 162 ∷ 166 ∷ 170 ∷ 174 ∷ 178 ∷ 182 ∷ 186 ∷ 190
    ∷ 195 ∷ 199 ∷ 203 ∷ 207 ∷ 211 ∷ 215 ∷ 219 ∷ 223 ∷ 227 ∷ 231 ∷ 235 ∷ 239 ∷ 243 ∷ 247 ∷ 251 ∷ 255 ∷ []

pub returns : goal.returns
unfolding entries
returns c = c.from.ensures ∙ table (repeated 6) entries refl (c.args.n % 64) (omega arith)
