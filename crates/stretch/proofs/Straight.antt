-- Rows of a stretch whose pixels get their sources, or stay as they are where the source matches the key.
-- Assumes nothing.
use mathlib.Core.Path.{◌≡◌, refl, sym, ap, ap₂, subst, ◌∙◌}
use mathlib.Core.Bool.{Bool, true, false, not, ◌&&◌}
use mathlib.Core.List.{List}
use mathlib.Core.Option.{Option}
use mir.Val.{bool_byte}
use Prim.Native.Nat.{ℕ, ◌+◌, ◌-◌, ◌*◌, ◌<◌}
use native.Mathlib.Omega.{arith}
use borrow.Author.Tests.{not-true}
use Rattle.surface.specs.Place.{byte_of, differ}
use Rattle.surface.specs.Asked.{Held, OnColour}
use Rattle.surface.specs.Pixels.{Px, origin}
use Rattle.surface.proofs.OnLaws.{and_left, and_right}
use Rattle.surface.proofs.Run.{in-rows, pixel-held, run-pixel}
use Rattle.paint.specs.Tally.{tally}
use Rattle.paint.proofs.Loops.{RowLeft, row-goes-on}
use Rattle.straight.specs.Straight.{straight_giving, copied}
use Rattle.straight.specs.Asked.{PixelCopies}
use Rattle.straight.proofs.StraightLaws.{copied-px}
use Rattle.rect.specs.Fast.{straight_of}
use Rattle.rect.specs.Asked.{Flat}
use Rattle.scale.specs.declared.Stretch.{Stretch}
use Rattle.scale.specs.declared.Walk.{Walk}
use Rattle.scale.specs.Scale.{scaled, walk_at}
use Rattle.scale.specs.Stretch.{taken_at, pixel_task}
use Rattle.stretch.specs.Row.{open_task}
use Rattle.stretch.specs.Asked.{row_of, RowTakes, GoesStraight, RunAt}
use Rattle.stretch.proofs.Taken.{walk-place}

-- the test: both surfaces in rows, and r
pub straight-only : (t : Stretch) (r : Bool) → ((not t.ink.target.tiled && not t.from.tiled) && r) ≡ true → Flat (open_task t) × (r ≡ true)
straight-only t r e =
    let a = not t.ink.target.tiled in
    let b = not t.from.tiled in
    let both = and_left (a && b) r e in
    (record { target = not-true t.ink.target.tiled (and_left a b both); from = not-true t.from.tiled (and_right a b both) }, and_right (a && b) r e)

-- where the row begins, by the source's row
pub run-here : {t : Stretch} {from to d s x y sy : ℕ} → GoesStraight t from to sy y → d ≡ byte_of t.ink.target x y 0 → s ≡ byte_of t.from 0 sy 0
    → RunAt t from to d s x y
run-here {t} goes first source_first = record {
  flat = goes.flat;
  source = goes.source;
  target = goes.target;
  some = goes.some;
  first = first;
  source_first = source_first ∙ ap (λ (k : ℕ). byte_of t.from 0 k 0) goes.row;
}

-- the loop over a row, which writes a pixel a turn; c is how many changed
abbrev pub straightly_at : Stretch → Px → List ℕ → Option ℕ
straightly_at t p now = straight_giving (straight_of (pixel_task t p)) now p

abbrev pub Copying : Stretch → ℕ → ℕ → ℕ → List ℕ → ℕ → ℕ → List ℕ → Type 0
Copying t x w y m₀ i c m = RowLeft t.ink.target (straightly_at t) false x w y m₀ (tally 0 0) i m (tally i c)

-- ---- pixel number i of row y: its bytes, and its source's
module _ {t : Stretch} {x y w len from to d s : ℕ} (row : RowTakes t x y w len) (run : RunAt t from to d s x y) (i : ℕ) where
  abbrev column : ℕ
  column = scaled t.columns (origin + (x + i)) - origin

  target_at : d + i * to ≡ byte_of t.ink.target (x + i) y 0
  target_at = ap (λ (b : ℕ). d + i * b) run.target ∙ run-pixel t.ink.target run.flat.target x y d run.first i

  source-at : s + column * from ≡ byte_of t.from column (row_of t y) 0
  source-at =
      let same : 0 + column ≡ column = omega arith in
      ap (λ (b : ℕ). s + column * b) run.source ∙ run-pixel t.from run.flat.from 0 (row_of t y) s run.source_first column ∙ ap (λ (k : ℕ). byte_of t.from k (row_of t y) 0) same

  pub pixel-copies : i < w → PixelCopies (straight_of (open_task t)) from to (d + i * to) (s + column * from) len
  unfolding straight_of
  pixel-copies h =
      let takes = row.each i h in
      let on : OnColour t.from len column (row_of t y) = record { colour = record { small = row.small; some = subst (λ (b : ℕ). 0 < b) run.source run.some }; on = takes.from } in
      record {
        formats = record { source = run.source; target = run.target };
        stored = subst (λ (b : ℕ). Held (d + i * to) b len) (sym run.target) (pixel-held (in-rows run.flat.target) takes.on (d + i * to) target_at);
        read = subst (λ (b : ℕ). Held (s + column * from) b len) (sym run.source) (pixel-held (in-rows run.flat.from) on (s + column * from) source-at);
      }

  -- its turn, in the loop over the row
  pub row-copies : {c r : ℕ} {b : Bool} {m₀ m m' : List ℕ} {walk : Walk} → Copying t x w y m₀ i c m → walk ≡ walk_at t.columns (origin + (x + i)) → i < w
      → (m' ≡ copied (straight_of (open_task t)) (d + i * to) (s + (walk.at - origin) * from) m) × (b ≡ differ (λ k. d + i * to + k) to m m') → r ≡ bool_byte b
      → Copying t x w y m₀ (i + 1) (c + r) m'
  unfolding straight_giving straight_of pixel_task taken_at
  row-copies {c} {m = m} left here more copy told =
      let place = walk-place t.columns (origin + (x + i)) here in
      let across : column ≡ column + (x + i - (x + i)) = omega arith in
      let down : row_of t y ≡ row_of t y + (y - y) = omega arith in
      row-goes-on left (x + i) more refl
      (copied-px (straight_of (open_task t)) run.flat.target run.flat.from (x + i) y (column + (x + i - (x + i))) (row_of t y + (y - y)) run.target target_at
      (source-at ∙ ap₂ (λ (a b : ℕ). byte_of t.from a b 0) across down) m (tally i c)
      (copy.0 ∙ ap (λ (k : ℕ). copied (straight_of (open_task t)) (d + i * to) (s + (k - origin) * from) m) place, copy.1) told) refl
