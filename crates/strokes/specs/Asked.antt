-- What functions of this crate ask for. No promise rests on it.
-- Assumes nothing.
use Rattle.std.specs.Prelude.{◌≡◌, ℕ, ◌-◌, ◌<◌, ◌≤◌, Bool, true, false, not}
use Rattle.surface.specs.declared.Surface.{Surface}
use Rattle.surface.specs.Place.{on_surface}
use Rattle.surface.specs.Asked.{Colour}
use Rattle.surface.specs.Pixels.{origin}
use Rattle.raster.specs.Masks.{flips}
use Rattle.ink.specs.declared.Ink.{Ink}
use Rattle.line.specs.declared.Line.{Line}
use Rattle.line.specs.Line.{longer, shorter, point_at, point_count}
use Rattle.line.specs.Tread.{AtStep}
use Rattle.paint.specs.declared.Clip.{Clip}
use Rattle.paint.specs.Clip.{in_clip}
use Rattle.strokes.specs.declared.Track.{Track}
use Rattle.strokes.specs.declared.Spot.{Spot}
use Rattle.strokes.specs.declared.Part.{Part}
use Rattle.line.specs.Asked.{Placed}
use Rattle.strokes.specs.Walk.{whole}
use Rattle.strokes.specs.Mixed.{track_of}

-- the ends of a line are at the origin or after it
pub record Ahead (l : Line) : Type 0 where
  pub line : Placed l
  pub left : origin ≤ l.x0
  pub top : origin ≤ l.y0
  pub right : origin ≤ l.x1
  pub bottom : origin ≤ l.y1

-- a line that can be walked, in a memory of len bytes
pub record Walkable (s : Surface) (len : ℕ) (l : Line) (style : ℕ) : Type 0 where
  pub flat : s.tiled ≡ false
  pub surface : Colour s
  pub ahead : Ahead l
  pub fields : whole style ≡ true
  pub on : (i : ℕ) → i < point_count l → on_surface s len ((point_at l i).x - origin) ((point_at l i).y - origin) ≡ true

-- one that can be walked with the pattern
pub record Mixable (ink : Ink) (len : ℕ) (l : Line) : Type 0 where
  pub walkable : Walkable ink.target len l 0
  pub keyless : ink.dst_key ≡ false
  pub colour : ink.mono ≡ false

-- what the walk goes by, worked out for points of n bytes; where it goes as if the operation only flips, it does
pub record Mixing (len n : ℕ) (flip : Bool) (t : Track) : Type 0 where
  pub mixable : Mixable t.ink len t.line
  pub bytes : n ≡ t.ink.target.bytes
  pub flipping : flip ≡ true → flips t.ink.rop0 ≡ true
  pub worked : t ≡ track_of t.ink t.line

-- the walk is at a point of the line, or past its last
pub record OnSpot (l : Line) (s : Spot) : Type 0 where
  pub within : s.at ≤ point_count l
  pub walk : s.at < point_count l → AtStep (longer l) (shorter l) s.at s.tread

-- what is sought from a point on: what is passed is not so, and where it stops it is
pub record Sought (c : Clip) (l : Line) (inside : Bool) (from : ℕ) (r : Spot) : Type 0 where
  pub spot : OnSpot l r
  pub ahead : from ≤ r.at
  pub passed : (i : ℕ) → from ≤ i → i < r.at → in_clip c (point_at l i).x (point_at l i).y ≡ not inside
  pub stops : r.at < point_count l → in_clip c (point_at l r.at).x (point_at l r.at).y ≡ inside

-- a spot inside the clip, and where the points that follow it are outside again
pub record Entered (c : Clip) (l : Line) (s : Spot) : Type 0 where
  pub spot : OnSpot l s
  pub before : s.at < point_count l
  pub inside : in_clip c (point_at l s.at).x (point_at l s.at).y ≡ true

pub record LeftAt (c : Clip) (l : Line) (from : Spot) (past : ℕ) : Type 0 where
  pub some : from.at < past
  pub upto : past ≤ point_count l
  pub inside : (i : ℕ) → from.at ≤ i → i < past → in_clip c (point_at l i).x (point_at l i).y ≡ true
  pub outside : (i : ℕ) → past ≤ i → i < point_count l → in_clip c (point_at l i).x (point_at l i).y ≡ false

-- a part of a line that can be walked, in a memory of len bytes; its first point is at the origin or after it even where the part has no point
pub record PartOn (s : Surface) (len : ℕ) (p : Part) : Type 0 where
  pub flat : s.tiled ≡ false
  pub surface : Colour s
  pub line : Placed p.line
  pub walk : AtStep (longer p.line) (shorter p.line) p.from.at p.from.tread
  pub first : p.from.at ≤ longer p.line
  pub start : (origin ≤ (point_at p.line p.from.at).x) × (origin ≤ (point_at p.line p.from.at).y)
  pub some : p.from.at ≤ p.past
  pub upto : p.past ≤ point_count p.line
  pub near : (i : ℕ) → p.from.at ≤ i → i < p.past → (origin ≤ (point_at p.line i).x) × (origin ≤ (point_at p.line i).y)
  pub on : (i : ℕ) → p.from.at ≤ i → i < p.past → on_surface s len ((point_at p.line i).x - origin) ((point_at p.line i).y - origin) ≡ true
