-- The pixels inside the clip that some bytes of the data finish, row by row. No promise rests on it: it is what functions say, and that these are the pixels which
-- the words finish is proved.
-- Assumes nothing.
use Rattle.std.specs.Prelude.{false, cond, ◌&&◌, List, [], ◌++◌, ℕ, zero, suc, ◌+◌, ◌-◌, ◌*◌, min, max, leb, ltb}
use Rattle.surface.specs.Pixels.{Px, rect, origin}
use Rattle.paint.specs.declared.Clip.{Clip}
use Rattle.host.specs.declared.Feed.{Feed}
use Rattle.host.specs.Host.{whole}

-- the pixels of row j that are whole with the data's first n bytes
abbrev pub whole_by : Feed → ℕ → ℕ → ℕ
whole_by feed j n = whole feed (min (n - j * feed.step) feed.step)

-- where those of row j begin and end that the bytes from number `from` up to, and without, `past` finish, as far as the clip's columns reach
abbrev pub left_of : Clip → Feed → ℕ → ℕ → ℕ
left_of c feed from j = max (feed.x + whole_by feed j from) (origin + c.left)

abbrev pub right_of : Clip → Feed → ℕ → ℕ → ℕ
right_of c feed past j = min (feed.x + whole_by feed j past) (origin + c.right)

unfoldable pub row_drips : Clip → Feed → ℕ → ℕ → ℕ → List Px
row_drips c feed from past j =
    cond (leb (origin + c.top) (feed.y + j) && ltb (feed.y + j) (origin + c.bottom))
    (rect false false (left_of c feed from j - origin) (feed.y + j - origin) (right_of c feed past j - left_of c feed from j) 1)
    []

-- of n rows from row j on
unfoldable pub rows_drips : Clip → Feed → ℕ → ℕ → ℕ → ℕ → List Px
rows_drips c feed from past j zero = []
rows_drips c feed from past j (suc n) = row_drips c feed from past j ++ rows_drips c feed from past (j + 1) n
