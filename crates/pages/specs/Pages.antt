-- Pages of 4,096 bytes, the marks of those in which a pixel was written, the first marked one and how many there are.
-- Assumes nothing.
use Rattle.std.specs.Prelude.{Bool, true, false, cond, List, [], ◌∷◌, ℕ, zero, suc, ◌+◌, ◌-◌, ◌/◌, get_or, set, replicate, Option, Some, None}
use Rattle.surface.specs.declared.Surface.{Surface}
use Rattle.surface.specs.Pixels.{Px}
use Rattle.spans.specs.Span.{addresses}

-- the page of an address
abbrev pub page_of : ℕ → ℕ
page_of a = a / 4096

-- as many marks as 16,777,216 bytes have pages, all clear
unfoldable pub no_marks : List Bool
no_marks = replicate 4096 false

-- the marks with those of these addresses' pages set
unfoldable pub marked_at : List ℕ → List Bool → List Bool
marked_at [] marks = marks
marked_at (a ∷ more) marks = marked_at more (set marks (page_of a) true)

-- with those of every byte of these pixels
abbrev pub marking : Surface → List Px → List Bool → List Bool
marking s ps marks = marked_at (addresses s ps) marks

-- the first marked one of n pages from number k on
unfoldable pub first_from : List Bool → ℕ → ℕ → Option ℕ
first_from marks k zero = None
first_from marks k (suc n) = cond (get_or marks k false) (Some k) (first_from marks (k + 1) n)

-- of all, at or after a number
abbrev pub first_marked : List Bool → ℕ → Option ℕ
first_marked marks page = first_from marks page (4096 - page)

-- how many of n pages from number k on are marked
unfoldable pub count_from : List Bool → ℕ → ℕ → ℕ
count_from marks k zero = 0
count_from marks k (suc n) = cond (get_or marks k false) 1 0 + count_from marks (k + 1) n

-- of all
abbrev pub count_marked : List Bool → ℕ
count_marked marks = count_from marks 0 4096
