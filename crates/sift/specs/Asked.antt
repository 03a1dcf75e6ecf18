-- What functions of this crate ask for. No promise rests on it.
-- Assumes nothing.
use Rattle.std.specs.Prelude.{◌≡◌, true, false, ℕ, ◌+◌, ◌^◌, ◌≤◌}
use Rattle.surface.specs.Pixels.{Px, px, rect, Inside, origin}
use Rattle.surface.specs.Asked.{Colour}
use Rattle.spans.specs.Span.{all_on}
use Rattle.sweep.specs.Asked.{HasSource}
use Rattle.scale.specs.Scale.{scaled}
use Rattle.scale.specs.Asked.{OnScale}
use Rattle.sift.specs.declared.Sieve.{Sieve}
use Rattle.sift.specs.Sift.{task_at}

-- pixel (x, y) of a stretch is on both scales, and takes no source left of or above the origin
pub record Scaled (v : Sieve) (x y : ℕ) : Type 0 where
  pub column : OnScale v.columns (origin + x)
  pub row : OnScale v.rows (origin + y)
  pub right : origin ≤ scaled v.columns (origin + x)
  pub below : origin ≤ scaled v.rows (origin + y)

-- a pixel whose source can be read, in a memory of len bytes
pub record Sourced (v : Sieve) (len x y : ℕ) : Type 0 where
  pub scales : v.stretched ≡ true → Scaled v x y
  pub source : HasSource (task_at v (px x y)) len x y

-- a rectangle whose pixels are on their target, in a memory of which every page has a mark, and whose sources can be read
pub record Siftable (v : Sieve) (x y w h len : ℕ) : Type 0 where
  pub colour : Colour v.task.ink.target
  pub wide : x + w ≤ 2 ^ 13
  pub high : y + h ≤ 2 ^ 13
  pub limit : len ≤ 2 ^ 24
  pub on : all_on v.task.ink.target len (rect false false x y w h) ≡ true
  pub each : (p : Px) → Inside x y w h p → Sourced v len p.x p.y
