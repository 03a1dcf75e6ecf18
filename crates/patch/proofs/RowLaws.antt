-- Laws of a row's pixels: what one is given, by the numbers that the loop has; and that the pattern's row gives what the pattern does.
-- Assumes nothing.
use mathlib.Core.Path.{◌≡◌, sym, ap, ◌∙◌}
use mathlib.Core.Bool.{Bool}
use mathlib.Core.List.{List}
use Prim.Native.Nat.{ℕ, ◌-◌, ◌/◌, ◌%◌, ◌^◌}
use native.Mathlib.Omega.{arith}
use lib.ListN.{get_or}
use Rattle.surface.specs.Place.{read_px}
use Rattle.surface.specs.Pixels.{Px, px, across}
use Rattle.surface.proofs.Rects.{in-across}
use Rattle.ink.specs.Pattern.{pattern_column, pattern_row, pattern_bit, RowOf}
use Rattle.paint.specs.declared.Source.{Source}
use Rattle.paint.specs.Paint.{State, paint}
use Rattle.paint.specs.Mix.{mixed}
use Rattle.paint.proofs.Turns.{paint-same}
use Rattle.sweep.specs.declared.Task.{Task}
use Rattle.sweep.specs.Copy.{source_by, giving, in_turn}
use Rattle.patch.specs.Row.{row_giving, in_row}

-- what a pixel is given, by the steps of the code
pub pixel-given : (t : Task) (values now : List ℕ) (bits x y : ℕ) {column bit : ℕ} {s : Source} → column ≡ pattern_column t.ink x → bit ≡ bits / 2 ^ (7 - column) % 2
    → s ≡ source_by t bit now (px x y) → mixed t.ink (get_or values column 0) s (read_px now t.ink.target x y) ≡ row_giving t values bits now (px x y)
unfolding row_giving
pixel-given t values now bits x y c b s = rw (s, b, c)

module _ (t : Task) (pattern values : List ℕ) {row bits : ℕ} (b : bits ≡ get_or pattern row 0) (rows : RowOf t.ink pattern row values) where
  by_row : (now : List ℕ) (p : Px) → row ≡ pattern_row t.ink p.y → row_giving t values bits now p ≡ giving t pattern now now p
  unfolding row_giving giving pattern_bit
  by_row now p e = let v = rows.at (pattern_column t.ink p.x) (omega arith) in rw (v, b, e)

  -- a row, painted by the pattern's row there
  pub row_same : (back : Bool) (x w y : ℕ) → row ≡ pattern_row t.ink y → (st : State)
      → paint t.ink.target (in_row t values bits (across back x w y)) st ≡ paint t.ink.target (in_turn t pattern (across back x w y)) st
  row_same back x w y e =
      paint-same t.ink.target (λ p now. row_giving t values bits now p) (λ p now. giving t pattern now now p) (across back x w y)
      (λ p i now. by_row now p (e ∙ ap (λ (y : ℕ). pattern_row t.ink y) (sym (in-across back x w y p i).2)))
