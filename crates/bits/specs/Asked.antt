-- What functions of this crate ask for. No promise rests on it.
-- Assumes nothing.
use Rattle.std.specs.Prelude.{◌≡◌, true, false, ℕ, ◌+◌, ◌/◌, ◌^◌, ◌<◌, ◌≤◌}
use Rattle.surface.specs.Place.{byte_at, byte_of, on_surface}
use Rattle.surface.specs.Asked.{Small, Colour}
use Rattle.paint.specs.declared.Tally.{Tally}
use Rattle.paint.specs.Asked.{Room}
use Rattle.runs.specs.Asked.{RowOn}
use Rattle.bits.specs.declared.Mono.{Mono}

-- row j of a rectangle of w columns, in a memory of len bytes, where n tells of the pixels before it: on both surfaces, and no byte of its source is one of its target
pub record RowMono (t : Mono) (w j len : ℕ) (n : Tally) : Type 0 where
  pub flat : t.plain.target.tiled ≡ false
  pub from_flat : t.from.tiled ≡ false
  pub colour : Colour t.plain.target
  pub target : RowOn t.plain.target len t.x w (t.y + j)
  pub room : Room n w
  pub small : Small t.from
  pub mono : t.from.bytes ≡ 0
  pub wide : t.sx + w ≤ 2 ^ 15
  pub high : t.sy + j < 2 ^ 15
  pub down : t.y + j < 2 ^ 13
  pub source : (i : ℕ) → i < w → on_surface t.from len (t.sx + i) (t.sy + j) ≡ true
  pub apart : (i l k : ℕ) → i < w → l < w → k < t.plain.target.bytes → byte_at t.from ((t.sx + i) / 8) (t.sy + j) ≡ byte_of t.plain.target (t.x + l) (t.y + j) k → ⊥

-- all its rows
pub record CanMono (t : Mono) (w h len : ℕ) : Type 0 where
  pub flat : t.plain.target.tiled ≡ false
  pub from_flat : t.from.tiled ≡ false
  pub colour : Colour t.plain.target
  pub wide : t.x + w ≤ 2 ^ 13
  pub high : t.y + h ≤ 2 ^ 13
  pub small : Small t.from
  pub mono : t.from.bytes ≡ 0
  pub source_wide : t.sx + w ≤ 2 ^ 15
  pub source_high : t.sy + h ≤ 2 ^ 15
  pub target : (i j : ℕ) → i < w → j < h → on_surface t.plain.target len (t.x + i) (t.y + j) ≡ true
  pub source : (i j : ℕ) → i < w → j < h → on_surface t.from len (t.sx + i) (t.sy + j) ≡ true
  pub apart : (i l j k : ℕ) → i < w → l < w → j < h → k < t.plain.target.bytes → byte_at t.from ((t.sx + i) / 8) (t.sy + j) ≡ byte_of t.plain.target (t.x + l) (t.y + j) k → ⊥
