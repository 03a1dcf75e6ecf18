-- The view of some pixels of a row: the answer by number, and the part of memory that is handed back.
-- Assumes nothing.
use Rattle.std.specs.Prelude.{false, cond, not, ◌||◌, List, ℕ, ◌+◌, ◌*◌, ◌^◌, eqb, ltb, length, take, drop}
use Rattle.surface.specs.Place.{byte_of}
use Rattle.surface.specs.Pixels.{across}
use Rattle.spans.specs.Span.{all_on}
use Rattle.formats.specs.Format.{view_named, target_of}

-- memory over the limit is a 1, words that name no target surface in rows are a 5, a width of 0 or a pixel off the surface is a 7
unfoldable pub view_answer : ℕ → ℕ → ℕ → ℕ → ℕ → ℕ → ℕ
view_answer len base format x y width =
    cond (ltb (2 ^ 24) len) 1
    (cond (not (view_named base format)) 5
    (cond (eqb width 0 || not (all_on (target_of base format) len (across false x width y))) 7
    0))

-- where the part begins, counted from the first byte of a memory of len bytes, and how many bytes it has: those of the row's pixels; none where the view is refused
unfoldable pub view_start : ℕ → ℕ → ℕ → ℕ → ℕ → ℕ → ℕ
view_start len base format x y width = cond (eqb (view_answer len base format x y width) 0) (byte_of (target_of base format) x y 0) 0

unfoldable pub view_count : ℕ → ℕ → ℕ → ℕ → ℕ → ℕ → ℕ
view_count len base format x y width = cond (eqb (view_answer len base format x y width) 0) (width * (target_of base format).bytes) 0

-- its bytes
abbrev pub viewed : List ℕ → ℕ → ℕ → ℕ → ℕ → ℕ → List ℕ
viewed m base format x y width = take (view_count (length m) base format x y width) (drop (view_start (length m) base format x y width) m)

-- the place so many bytes further on: a place is a block of memory, and a number of bytes in it
abbrev pub further : ℕ × ℕ → ℕ → ℕ × ℕ
further place n = (place.0, place.1 + n)
