-- What the pixels that a data word finishes do to the target: each that is inside the clip is touched, and one outside only uses up its data.
-- Assumes nothing.
use Rattle.std.specs.Prelude.{cond, List, [], ◌∷◌, ℕ, ◌+◌, eqb}
use Rattle.ink.specs.declared.Ink.{Ink}
use Rattle.paint.specs.declared.Clip.{Clip}
use Rattle.paint.specs.declared.Source.{Source}
use Rattle.paint.specs.Paint.{Touch, State, paint}
use Rattle.paint.specs.Mix.{bit_source, colour_source, placed}
use Rattle.paint.specs.Clip.{in_clip, pixel_at}
use Rattle.host.specs.declared.Feed.{Feed}
use Rattle.host.specs.Host.{Pixel}

-- the source of a host pixel: a bit, or a colour whose key is tested in its own format
unfoldable pub host_source : Ink → Feed → ℕ → Source
host_source ink feed value = cond (eqb feed.bytes 0) (bit_source ink value) (colour_source ink feed.bytes value)

unfoldable pub host_touches : Ink → List ℕ → Clip → Feed → List Pixel → List Touch
host_touches ink pattern clip feed [] = []
host_touches ink pattern clip feed (p ∷ ps) =
    cond (in_clip clip (feed.x + p.i) (feed.y + p.j))
    (placed ink pattern (pixel_at (feed.x + p.i) (feed.y + p.j)) (host_source ink feed p.value) ∷ host_touches ink pattern clip feed ps)
    (host_touches ink pattern clip feed ps)

-- the pixels painted
abbrev pub drawn : Ink → List ℕ → Clip → Feed → List Pixel → State → State
drawn ink pattern clip feed ps = paint ink.target (host_touches ink pattern clip feed ps)
