-- Rows of any stretch: the source of a pixel, and what it is given by the values of the pattern's row.
-- Assumes nothing.
use mathlib.Core.Path.{◌≡◌, refl, sym, ap, ap₂, ◌∙◌}
use mathlib.Core.Bool.{true, cond}
use mathlib.Core.List.{List}
use mathlib.Core.Option.{none, some}
use Prim.Native.Nat.{ℕ, ◌-◌, ◌/◌, ◌%◌, ◌^◌}
use Rattle.surface.specs.Place.{read_px}
use Rattle.surface.specs.Pixels.{Px, px}
use Rattle.paint.specs.declared.Source.{Source}
use Rattle.paint.specs.Mix.{patternless}
use Rattle.ink.specs.Pattern.{pattern_column, pattern_row, RowOf}
use Rattle.plan.specs.Plan.{MasksOf, QuadsFrom, quad_at, merged_at}
use Rattle.sweep.specs.Copy.{source_from, source_by}
use Rattle.sweep.specs.Row.{row_giving}
use Rattle.sweep.proofs.TaskLaws.{by_row, by-no-row, pixel-given}
use Rattle.scale.specs.declared.Stretch.{Stretch}
use Rattle.scale.specs.Stretch.{taken, pixel_task, stretch_giving}
use Rattle.stretch.proofs.Order.{own-place}

-- the source of the copy of one pixel
source-taken : (t : Stretch) (bit : ℕ) (m : List ℕ) (p : Px) → source_from t.ink t.from m (taken t p) ≡ source_by (pixel_task t p) bit m p
unfolding source_by pixel_task
source-taken t bit m p = ap (λ (q : Px). source_from t.ink t.from m q) (sym (own-place t p))

-- what a pixel is given, by the steps of the code
pub taken-given : (t : Stretch) (quads now : List ℕ) (x y : ℕ) {sx sy column old k v : ℕ} {s : Source} → sx ≡ (taken t (px x y)).x → sy ≡ (taken t (px x y)).y
    → s ≡ source_from t.ink t.from now (px sx sy) → old ≡ read_px now t.ink.target x y → column ≡ pattern_column t.ink x → k ≡ quad_at t.ink s.key old column
    → v ≡ merged_at quads k s.value old → cond s.left none (some v) ≡ row_giving (pixel_task t (px x y)) quads 0 now (px x y)
unfolding pixel_task
taken-given t quads now x y {sx} {sy} {column} {s = made} e f s o c k v =
    let bit = 0 / 2 ^ (7 - column) % 2 in
    let here : made ≡ source_by (pixel_task t (px x y)) bit now (px x y) = s ∙ ap₂ (λ (i j : ℕ). source_from t.ink t.from now (px i j)) e f ∙ source-taken t bit now (px x y) in
    pixel-given (pixel_task t (px x y)) quads now 0 x y c refl here o k v

-- the values of the pattern's row give what the pattern does, and any values where no raster operation looks at it
module _ (t : Stretch) (pattern now : List ℕ) (p : Px) {row : ℕ} (e : row ≡ pattern_row t.ink p.y) (masks quads : List ℕ) (h : MasksOf t.ink masks) (values : List ℕ) (q : QuadsFrom masks values quads) where
  pub by-pattern : RowOf t.ink pattern row values → row_giving (pixel_task t p) quads 0 now p ≡ stretch_giving t pattern now now p
  unfolding row_giving source_by pixel_task
  by-pattern rows = by_row (pixel_task t p) pattern now p e refl masks quads h values rows q

  pub by-none : patternless t.ink ≡ true → row_giving (pixel_task t p) quads 0 now p ≡ stretch_giving t pattern now now p
  unfolding row_giving source_by pixel_task
  by-none free = by-no-row (pixel_task t p) pattern now p e refl masks quads h values q free
