-- Which pixels of a host blit's data are written, and the part of the blit's rectangle that some of its words can reach.
-- Assumes nothing.
use Rattle.std.specs.Prelude.{Bool, cond, not, ◌&&◌, List, [], ◌∷◌, ℕ, ◌+◌, ◌-◌, ◌*◌, ◌/◌, min, max}
use Rattle.surface.specs.Pixels.{Px, origin}
use Rattle.ink.specs.declared.Ink.{Ink}
use Rattle.paint.specs.declared.Clip.{Clip}
use Rattle.paint.specs.Clip.{in_clip, pixel_at}
use Rattle.host.specs.declared.Feed.{Feed}
use Rattle.host.specs.Host.{Pixel}
use Rattle.host.specs.Draw.{host_source}
use Rattle.cuts.specs.declared.Cut.{Cut}

-- ---- the pixels of the data that are written: inside the clip, and not left

abbrev pub falls : Ink → Clip → Feed → Pixel → Bool
falls ink c feed p = in_clip c (feed.x + p.i) (feed.y + p.j) && not (host_source ink feed p.value).left

unfoldable pub dripped : Ink → Clip → Feed → List Pixel → List Px
dripped ink c feed [] = []
dripped ink c feed (p ∷ ps) =
    cond (falls ink c feed p) (pixel_at (feed.x + p.i) (feed.y + p.j) ∷ dripped ink c feed ps) (dripped ink c feed ps)

-- ---- the rows of the data that n words from number `taken` on can reach: the first, and the one after the last

unfoldable pub first_row : Feed → ℕ → ℕ
first_row feed taken = 4 * taken / feed.step

unfoldable pub past_row : Feed → ℕ → ℕ → ℕ
past_row feed taken n = (4 * (taken + n) + (feed.step - 1)) / feed.step

-- of a cut, the rows that lie there, with its columns
unfoldable pub data_box : Feed → Cut → ℕ → ℕ → Cut
data_box feed cut taken n =
    let low = min (max cut.y (feed.y + first_row feed taken - origin)) (cut.y + cut.h) in
    let past = min (feed.y + past_row feed taken n - origin) (cut.y + cut.h) in
    record { x = cut.x; y = low; w = cut.w; h = past - low; sx = 0; sy = 0 }
