-- Rows 7 and 8 of lists of positions that fare alike, and row 8 of a copy that passes the others.
-- Assumes nothing.
use mathlib.Core.Path.{◌≡◌, refl, sym}
use mathlib.Core.Bool.{Bool, true, false, cond, not, ◌&&◌, ◌||◌}
use mathlib.Core.List.{List}
use Prim.Native.Nat.{ℕ}
use Rattle.surface.specs.Place.{same_surface}
use Rattle.surface.specs.declared.Surface.{Surface}
use Rattle.surface.specs.Pixels.{Px}
use Rattle.spans.specs.Span.{all_on, span_of, meet}
use Rattle.registers.specs.declared.Regs.{Regs}
use Rattle.cuts.specs.declared.Cut.{Cut}
use Rattle.command.specs.Decode.{target, origins}
use Rattle.cuts.specs.Cut.{copy_cut, covered, needed}
use Rattle.table.specs.Table.{both_fine, all_on_at, pixels, source_rows, copy_verdict}

-- rows 7 and 8
module _ (t s : Surface) (len : ℕ) (c : Cut) (lenient : Bool) where
  -- lists of positions that are on the surface together, or off it together, and have one span there, lead to the same row
  pub same_rows : (ps qs : List Px) → all_on_at s len ps ≡ all_on_at s len qs → (all_on_at s len ps ≡ true → span_of s (pixels ps) ≡ span_of s (pixels qs))
      → source_rows t s len c ps lenient ≡ source_rows t s len c qs lenient
  unfolding source_rows
  same_rows ps qs on span = rw (sym on) (by-test (all_on t len (covered c)) (all_on_at s len ps) refl)
    where
      rows : Bool → Bool → List Px → ℕ
      rows a b os = cond (not a || not b) 7 (cond (not (lenient && same_surface t s) && meet (span_of t (covered c)) (span_of s (pixels os))) 8 0)

      by-test : (a b : Bool) → all_on_at s len ps ≡ b → rows a b ps ≡ rows a b qs
      by-test false b e = refl
      by-test true false e = refl
      by-test true true e = rw (span e)

-- row 8 of a copy that passes the others
pub copy-by : (r : Regs) (len : ℕ) {one clash : Bool} → both_fine r ≡ true → all_on (target r) len (covered (copy_cut r)) ≡ true → all_on_at (origins r) len (needed (copy_cut r)) ≡ true
    → same_surface (target r) (origins r) ≡ one → (not one && meet (span_of (target r) (covered (copy_cut r))) (span_of (origins r) (pixels (needed (copy_cut r))))) ≡ clash
    → cond clash 8 0 ≡ copy_verdict r len
unfolding copy_verdict
copy-by r len f a b s m = rw (f, a, b, s, m)
