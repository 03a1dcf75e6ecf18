-- What functions of this crate ask for. No promise rests on it.
-- Assumes nothing.
use Rattle.std.specs.Prelude.{◌≡◌, ◌⊎◌, true, false, List, ℕ, ◌+◌, ◌-◌, ◌^◌, ◌≤◌, ◌<◌, replicate}
use Rattle.surface.specs.Place.{on_surface}
use Rattle.surface.specs.Asked.{Small, Colour, OnColour}
use Rattle.surface.specs.Pixels.{rect}
use Rattle.spans.specs.Span.{all_on, span_of, meet}
use Rattle.keys.specs.declared.Range.{Range}
use Rattle.keys.specs.Range.{range_of}
use Rattle.paint.specs.declared.Tally.{Tally}
use Rattle.paint.specs.Asked.{Room}
use Rattle.plan.specs.Plan.{MasksOf, QuadsFrom}
use Rattle.sweep.specs.declared.Task.{Task}

-- pixel (x, y) of the rectangle has its source, in a memory of len bytes
pub record HasSource (t : Task) (len x y : ℕ) : Type 0 where
  pub small : Small t.from
  pub left : t.x ≤ x
  pub top : t.y ≤ y
  pub column : t.sx + (x - t.x) < 2 ^ 32
  pub row : t.sy + (y - t.y) < 2 ^ 32
  pub on : t.copies ≡ true → on_surface t.from len (t.sx + (x - t.x)) (t.sy + (y - t.y)) ≡ true

-- w pixels of row y can be painted, where n tells of those before them
pub record RowReady (t : Task) (w y len : ℕ) (n : Tally) : Type 0 where
  pub colour : Colour t.ink.target
  pub wide : t.x + w ≤ 2 ^ 13
  pub room : Room n w
  pub each : (x : ℕ) → t.x ≤ x → x < t.x + w → OnColour t.ink.target len x y × HasSource t len x y

-- a rectangle of w by h pixels that can be painted, in a memory of len bytes: on its target, and its source on its surface
pub record CanPaint (t : Task) (w h len : ℕ) : Type 0 where
  pub colour : Colour t.ink.target
  pub small : Small t.from
  pub wide : t.x + w ≤ 2 ^ 13
  pub high : t.y + h ≤ 2 ^ 13
  pub source_wide : t.sx + w ≤ 2 ^ 15
  pub source_high : t.sy + h ≤ 2 ^ 15
  pub target : all_on t.ink.target len (rect false false t.x t.y w h) ≡ true
  pub origin : t.copies ≡ true → all_on t.from len (rect false false t.sx t.sy w h) ≡ true

-- its surfaces are in rows: the target, and the source of a copy
pub record Rowwise (t : Task) : Type 0 where
  pub target : t.ink.target.tiled ≡ false
  pub from : t.copies ≡ true → t.from.tiled ≡ false

-- within one surface, or between two whose spans do not meet
abbrev pub Orderly : Task → ℕ → ℕ → Type 0
Orderly t w h =
    (t.from ≡ t.ink.target)
    ⊎ (meet (span_of t.ink.target (rect false false t.x t.y w h)) (span_of t.from (rect false false t.sx t.sy w h)) ≡ false)

-- the ranges of the two keys
abbrev pub SourceKey : Task → Range → Type 0
SourceKey t range = range ≡ range_of t.from.bytes t.ink.src_min t.ink.src_max

abbrev pub TargetKey : Task → Range → Type 0
TargetKey t range = range ≡ range_of t.ink.target.bytes t.ink.dst_min t.ink.dst_max

-- the bits of the raster operations, and what they are without a pattern
pub record Laid (t : Task) (masks blank : List ℕ) : Type 0 where
  pub bits : MasksOf t.ink masks
  pub unread : QuadsFrom masks (replicate 8 0) blank
