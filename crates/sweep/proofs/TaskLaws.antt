-- Laws of a rectangle's pixels: what one is given, by the numbers that the loop has; and that a rectangle that can be painted has its rows ready.
-- Assumes nothing.
use mathlib.Core.Path.{◌≡◌, refl, ◌∙◌}
use mathlib.Core.Bool.{Bool, true, false, cond}
use mathlib.Core.List.{List}
use mathlib.Core.Option.{Option, none, some}
use Prim.Native.Nat.{ℕ, ◌+◌, ◌-◌, ◌/◌, ◌%◌, ◌^◌, ◌<◌}
use native.Mathlib.Omega.{arith}
use lib.ListN.{length, get_or}
use Rattle.surface.specs.declared.Surface.{Surface}
use Rattle.surface.specs.Place.{read_px, on_surface}
use Rattle.surface.specs.Asked.{OnColour}
use Rattle.surface.specs.Pixels.{Px, px, rect, Inside}
use Rattle.surface.proofs.Rects.{rect-in}
use Rattle.spans.proofs.Corner.{all-each}
use Rattle.sweep.specs.declared.Task.{Task}
use Rattle.ink.specs.Pattern.{pattern_column, pattern_row, pattern_bit, pattern_value, RowOf}
use Rattle.paint.specs.declared.Source.{Source}
use Rattle.paint.specs.declared.Tally.{Tally}
use Rattle.paint.specs.Paint.{nth}
use Rattle.paint.specs.Mix.{patternless, mixed}
use Rattle.paint.proofs.MixLaws.{pattern-unread}
use Rattle.paint.proofs.Turns.{nth_in}
use Rattle.paint.proofs.Loops.{RowLeft, RowsLeft, rows-room}
use Rattle.sweep.specs.Copy.{source_by, giving}
use Rattle.sweep.specs.Asked.{HasSource, RowReady, CanPaint}
use Rattle.plan.specs.Plan.{MasksOf, QuadsFrom, quad_at, merged_at, quad_mixed}
use Rattle.plan.proofs.PlanLaws.{quad-mixed, quads-are}
use Rattle.sweep.specs.Row.{row_giving}

-- a row's pixels are given what the pattern's row gives them
module _ (t : Task) (pattern now : List ℕ) (p : Px) {row bits : ℕ} (e : row ≡ pattern_row t.ink p.y) (b : bits ≡ get_or pattern row 0) (masks quads : List ℕ) (h : MasksOf t.ink masks) where
  by_values : (values : List ℕ) → QuadsFrom masks values quads
      → row_giving t quads bits now p
      ≡ mixed t.ink (get_or values (pattern_column t.ink p.x) 0) (source_by t (bits / 2 ^ (7 - pattern_column t.ink p.x) % 2) now p) (read_px now t.ink.target p.x p.y)
  unfolding row_giving
  by_values values q = quad-mixed t.ink values quads (quads-are t.ink masks values quads h q) (pattern_column t.ink p.x) (omega arith) _ _

  pub by_row : (values : List ℕ) → RowOf t.ink pattern row values → QuadsFrom masks values quads → row_giving t quads bits now p ≡ giving t pattern now now p
  unfolding giving pattern_bit
  by_row values rows q = by_values values q ∙ (let v = rows.at (pattern_column t.ink p.x) (omega arith) in rw (v, b, e))

  -- and by any eight values, where no raster operation looks at the pattern
  pub by-no-row : (values : List ℕ) → QuadsFrom masks values quads → patternless t.ink ≡ true → row_giving t quads bits now p ≡ giving t pattern now now p
  unfolding giving pattern_bit
  by-no-row values q free =
      by_values values q
      ∙ pattern-unread t.ink (get_or values (pattern_column t.ink p.x) 0) (pattern_value t.ink pattern p.x p.y)
      (source_by t (bits / 2 ^ (7 - pattern_column t.ink p.x) % 2) now p) (read_px now t.ink.target p.x p.y) free
      ∙ rw (b, e) refl

-- what a pixel is given, by the steps of the code
pub pixel-given : (t : Task) (quads now : List ℕ) (bits x y : ℕ) {column bit old k v : ℕ} {s : Source} → column ≡ pattern_column t.ink x → bit ≡ bits / 2 ^ (7 - column) % 2
    → s ≡ source_by t bit now (px x y) → old ≡ read_px now t.ink.target x y → k ≡ quad_at t.ink s.key old column → v ≡ merged_at quads k s.value old
    → cond s.left none (some v) ≡ row_giving t quads bits now (px x y)
unfolding row_giving quad_mixed
pixel-given t quads now bits x y c b s o k v = rw (v, k, o, s, b, c)

-- the pixels of the rectangle, one by one
pub can-pixel : {t : Task} {w h len : ℕ} → CanPaint t w h len → (x y : ℕ) → Inside t.x t.y w h (px x y)
    → OnColour t.ink.target len x y × HasSource t len x y
can-pixel {t} {w} {h} {len} can x y i = (
  record { colour = can.colour; on = all-each t.ink.target len (rect false false t.x t.y w h) can.target (px x y) (rect-in false false t.x t.y w h (px x y) i) },
  record {
    small = can.small;
    left = i.left;
    top = i.top;
    column = omega (arith, can.source_wide);
    row = omega (arith, can.source_high);
    on = λ copies. all-each t.from len (rect false false t.sx t.sy w h) (can.origin copies) (px (t.sx + (x - t.x)) (t.sy + (y - t.y)))
        (rect-in false false t.sx t.sy w h _ (omega arith));
  },
)

-- the same by its number: pixel i of row j
pub can-number : {t : Task} {w h len : ℕ} → CanPaint t w h len → (i j : ℕ) → i < w → j < h
    → OnColour t.ink.target len (t.x + i) (t.y + j) × (t.copies ≡ true → on_surface t.from len (t.sx + i) (t.sy + j) ≡ true)
can-number {t} can i j li lj =
    let pixel = can-pixel can (t.x + i) (t.y + j) (omega arith) in
    let column : t.sx + (t.x + i - t.x) ≡ t.sx + i = omega arith in
    let row : t.sy + (t.y + j - t.y) ≡ t.sy + j = omega arith in
    (pixel.0, λ copies. rw (column, row) at (pixel.1.on copies))

-- the row whose turn it is
pub can-row : {t : Task} {s : Surface} {g : Px → List ℕ → Option ℕ} {l top : Bool} {w h j y : ℕ} {m₀ m : List ℕ} {r : Tally}
    → CanPaint t w h (length m₀) → RowsLeft s g l top t.x t.y w h m₀ j m r → j < h → y ≡ nth top t.y h j → RowReady t w y (length m) r
can-row {t} {top = top} {w} {h} {j} {y} can left more here =
    let inside = nth_in top t.y h j more in
    rw left.left.long (record {
      colour = can.colour;
      wide = can.wide;
      room = rows-room left (omega (arith, can.wide)) (omega (arith, can.high)) more;
      each = λ x low high. can-pixel can x y (record { left = low; right = high; top = omega arith; bottom = omega arith });
    })

-- the pixel whose turn it is in a row
pub row-pixel : {t : Task} {s : Surface} {g : Px → List ℕ → Option ℕ} {back : Bool} {w y i x : ℕ} {m₀ m : List ℕ} {n r : Tally}
    → RowReady t w y (length m₀) n → RowLeft s g back t.x w y m₀ n i m r → i < w → x ≡ nth back t.x w i
    → OnColour t.ink.target (length m) x y × HasSource t (length m) x y
row-pixel {t} {back = back} {w} {i = i} {x} ready left more here =
    let inside = nth_in back t.x w i more in
    rw left.left.long (ready.each x (omega arith) (omega arith))
