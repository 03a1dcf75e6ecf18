-- What functions of this crate ask for. No promise rests on it.
-- Assumes nothing.
use Rattle.std.specs.Prelude.{true, false, ◌≡◌, map, ℕ, ◌+◌, ◌^◌, ◌<◌, ◌≤◌}
use Rattle.surface.specs.Place.{on_surface}
use Rattle.surface.specs.Asked.{Small, Colour}
use Rattle.surface.specs.Pixels.{Px, rect, Inside, origin}
use Rattle.spans.specs.Span.{all_on, span_of, meet}
use Rattle.scale.specs.declared.Scale.{Scale}
use Rattle.scale.specs.declared.Walk.{Walk}
use Rattle.scale.specs.declared.Stretch.{Stretch}
use Rattle.scale.specs.Stretch.{taken_at, taken}

-- a place of the target, or the one past its last; the sizes and positions are those that registers can name
pub record OnScale (s : Scale) (place : ℕ) : Type 0 where
  pub first : s.to ≤ place
  pub past : place ≤ s.to + s.size
  pub some : 0 < s.size
  pub size : s.size < 2 ^ 13
  pub source_size : s.source_size < 2 ^ 13
  pub from : s.from < 20480

-- a step fits its words
pub record Steps (w : Walk) : Type 0 where
  pub at : w.at + w.whole + 1 < 2 ^ 32
  pub rest : w.rest + w.over < 2 ^ 32

-- w by h pixels from (x, y) that can be stretched to, in a memory of len bytes: on their target, the source pixels that they take on their surface, and
-- the spans of the two apart
pub record CanStretch (t : Stretch) (x y w h len : ℕ) : Type 0 where
  pub colour : Colour t.ink.target
  pub small : Small t.from
  pub wide : x + w ≤ 2 ^ 13
  pub high : y + h ≤ 2 ^ 13
  pub columns : 0 < w → 0 < h → OnScale t.columns (origin + x) × OnScale t.columns (origin + (x + w))
  pub rows : 0 < w → 0 < h → OnScale t.rows (origin + y) × OnScale t.rows (origin + (y + h))
  pub target : all_on t.ink.target len (rect false false x y w h) ≡ true
  pub source : (p : Px) → Inside x y w h p
      → (origin ≤ (taken_at t p).x) × (origin ≤ (taken_at t p).y) × (on_surface t.from len (taken t p).x (taken t p).y ≡ true)
  pub apart : meet (span_of t.ink.target (rect false false x y w h)) (span_of t.from (map (taken t) (rect false false x y w h))) ≡ false
