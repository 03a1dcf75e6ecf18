-- What functions of this crate ask for. No promise rests on it.
-- Assumes nothing.
use Rattle.std.specs.Prelude.{◌≡◌, true, false, List, [], ℕ, ◌+◌, ◌-◌, ◌*◌, ◌/◌, ◌%◌, ◌^◌, ◌<◌, ◌≤◌}
use Rattle.surface.specs.Asked.{Colour, OnColour}
use Rattle.surface.specs.Pixels.{origin}
use Rattle.paint.specs.declared.Clip.{Clip}
use Rattle.paint.specs.declared.Tally.{Tally}
use Rattle.paint.specs.Clip.{in_clip}
use Rattle.paint.specs.Paint.{State}
use Rattle.paint.specs.Asked.{Room}
use Rattle.bits.specs.declared.Plain.{Plain}
use Rattle.host.specs.declared.Feed.{Feed}
use Rattle.host.specs.Host.{Pixel, last_column, last_byte_of, words_of}
use Rattle.host.specs.Asked.{Rows, Opened}
use Rattle.host.specs.Draw.{drawn}
use Rattle.plain.specs.declared.Blit.{Blit}
use Rattle.plain.specs.Plain.{plain_ink}

-- a blit that was opened, in a memory of len bytes; and what pixels of it do
abbrev pub opened : Blit → ℕ → Type 0
opened b len = Opened (plain_ink b.plain) b.clip b.feed len

abbrev pub painted : Blit → List Pixel → State → State
painted b ps = drawn (plain_ink b.plain) [] b.clip b.feed ps

-- m bytes of row j from byte `column` on are those of a word from its byte t on
pub record Part (f : Feed) (t j column m : ℕ) : Type 0 where
  pub place : (j * f.step + column) % 4 ≡ t
  pub inside : t + m ≤ 4
  pub held : column + m ≤ f.step
  pub row : j < f.height

-- the last byte of pixel i of row j is in a word whose byte t is byte `column` of the row
pub record Here (f : Feed) (t j column i : ℕ) : Type 0 where
  pub low : column ≤ last_column f i
  pub high : t + last_column f i - column < 4
  pub byte : t + last_column f i - column ≡ last_byte_of f i j % 4

-- that of each pixel of row j from start up to end is, where n tells of the pixels before them
pub record Within (f : Feed) (t j column start end : ℕ) (n : Tally) : Type 0 where
  pub row : j < f.height
  pub past : end ≤ f.width
  pub room : Room n (end - start)
  pub here : (i : ℕ) → start ≤ i → i < end → Here f t j column i

-- of `left` words from number k on, the first w are whole pixels of one row, of the target's own format and all inside the clip, and the target is in rows
pub record Straight (p : Plain) (c : Clip) (f : Feed) (k left w : ℕ) : Type 0 where
  pub some : 0 < w
  pub fits : w ≤ left
  pub colour : 0 < f.bytes
  pub same : f.bytes ≡ p.target.bytes
  pub flat : p.target.tiled ≡ false
  pub row : 4 * k / f.step < f.height
  pub begins : 4 * k % f.step % f.bytes ≡ 0
  pub whole : f.bytes ≡ 3 → w % 3 ≡ 0
  pub past : 4 * k % f.step / f.bytes + 4 * w / f.bytes ≤ f.width
  pub first : in_clip c (f.x + 4 * k % f.step / f.bytes) (f.y + 4 * k / f.step) ≡ true
  pub last : in_clip c (f.x + 4 * k % f.step / f.bytes + (4 * w / f.bytes - 1)) (f.y + 4 * k / f.step) ≡ true

-- n words after `taken` others are all of a mono blit whose rectangle is inside the clip, and the target is in rows
pub record Whole (p : Plain) (c : Clip) (f : Feed) (taken n : ℕ) : Type 0 where
  pub mono : f.bytes ≡ 0
  pub flat : p.target.tiled ≡ false
  pub first : taken ≡ 0
  pub some : 0 < f.height
  pub all : n ≡ words_of f
  pub start : in_clip c f.x f.y ≡ true
  pub end : in_clip c (f.x + (f.width - 1)) (f.y + (f.height - 1)) ≡ true

-- a mono blit whose rectangle is on the target, which is in rows, in a memory of len bytes; its words are n
pub record Glyph (p : Plain) (f : Feed) (len n : ℕ) : Type 0 where
  pub rows : Rows f
  pub mono : f.bytes ≡ 0
  pub all : n ≡ words_of f
  pub colour : Colour p.target
  pub flat : p.target.tiled ≡ false
  pub left : origin ≤ f.x
  pub top : origin ≤ f.y
  pub right : f.x + f.width ≤ origin + 2 ^ 13
  pub bottom : f.y + f.height ≤ origin + 2 ^ 13
  pub on : (i j : ℕ) → i < f.width → j < f.height → OnColour p.target len (f.x + i - origin) (f.y + j - origin)
