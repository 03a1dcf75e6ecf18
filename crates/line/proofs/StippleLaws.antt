-- Laws of the stipple: the word after a point has its four fields and nothing else, so that the register keeps it whole; and the words that a loop has left.
-- Assumes nothing.
use mathlib.Core.Path.{◌≡◌}
use Prim.Native.Nat.{ℕ, suc, ◌+◌, ◌-◌, ◌<◌, ◌≤◌}
use native.Mathlib.Nat.{sub-zero}
use native.Mathlib.Omega.{arith}
use Rattle.std.proofs.lemmas.Bool.Decides.{nat_tests}
use Rattle.line.specs.declared.Pen.{Pen}
use Rattle.line.specs.Stipple.{repeat_count, size, position, bit_number, style_of, stepped, after, style_after}

abbrev pub four_fields : ℕ → ℕ
four_fields style = style_of (repeat_count style) (size style) (position style) (bit_number style)

pub stepped-whole : (style : ℕ) → four_fields (stepped style) ≡ stepped style
unfolding stepped
stepped-whole s = grind (arith, nat_tests)

-- ---- the words that a loop has left
pub style-start : (pen : Pen) (e n style : ℕ) → e ≡ n → style_after pen (e - 0) style ≡ style_after pen n style
style-start pen e n style q = rw (sub-zero e, q)

pub style-turn : (pen : Pen) (i e style next : ℕ) → i < e → next ≡ after pen style
    → style_after pen (e - (i + 1)) next ≡ style_after pen (e - i) style
unfolding style_after
style-turn pen i e style next h q = let r : e - i ≡ suc (e - (i + 1)) = omega arith in rw (r, q)

pub style-done : (pen : Pen) (i e style : ℕ) → e ≤ i → style_after pen (e - i) style ≡ style
unfolding style_after
style-done pen i e style h = let q : e - i ≡ 0 = omega arith in rw q
