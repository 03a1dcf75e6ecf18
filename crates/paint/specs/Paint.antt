-- Painting: pixels touched one after the other, each given a value or left unwritten; the memory, the tally of the pixels written, which they are, and which of them
-- changed.
-- Assumes nothing.
use Rattle.std.specs.Prelude.{Bool, true, false, cond, List, [], ◌∷◌, ℕ, ◌+◌, ◌-◌}
use Rattle.std.proofs.Math.Option.{Option, none, some}
use Rattle.surface.specs.declared.Surface.{Surface}
use Rattle.surface.specs.Place.{write_bytes, write_px, one, differ, differs}
use Rattle.surface.specs.Pixels.{Px}
use Rattle.paint.specs.declared.Tally.{Tally}
use Rattle.paint.specs.Tally.{tally, noted}

pub record State : Type 0 where
  pub mem : List ℕ
  pub tally : Tally

abbrev pub tallied : List ℕ → Tally → State
tallied m n = record { mem = m; tally = n }

-- a memory, how many pixels were written, and how many of them changed
abbrev pub state : List ℕ → ℕ → ℕ → State
state m n c = tallied m (tally n c)

-- the one store: pixel p is given a value, and told in the tally, changed if its bytes are not what they were just before; or it is left
unfoldable pub dab : Surface → Px → Option ℕ → State → State
dab s p none st = st
dab s p (some v) st =
    let m = write_px st.mem s p.x p.y v in
    tallied m (noted 1 (one (differs s p.x p.y st.mem m)) st.tally)

-- the same of n bytes from an address on
unfoldable pub dab_at : ℕ → ℕ → Option ℕ → State → State
dab_at at n none st = st
dab_at at n (some v) st =
    let m = write_bytes (λ k. at + k) 0 n v st.mem in
    tallied m (noted 1 (one (differ (λ k. at + k) n st.mem m)) st.tally)

-- a pixel, and what it is given in the memory as it is then
pub record Touch : Type 0 where
  pub at : Px
  pub gives : List ℕ → Option ℕ

abbrev pub touch : Px → (List ℕ → Option ℕ) → Touch
touch p g = record { at = p; gives = g }

unfoldable pub paint : Surface → List Touch → State → State
paint s [] st = st
paint s (t ∷ ts) st = paint s ts (dab s t.at (t.gives st.mem) st)

-- the pixels that are given a value, of those touched in turn: these are the ones written
abbrev pub given : Option ℕ → Px → List Px → List Px
given none p ps = ps
given (some v) p ps = p ∷ ps

unfoldable pub wrote : Surface → List Touch → List ℕ → List Px
wrote s [] m = []
wrote s (t ∷ ts) m = given (t.gives m) t.at (wrote s ts (dab s t.at (t.gives m) (state m 0 0)).mem)

-- of those, the ones whose bytes are then not what they were just before
unfoldable pub altered : Surface → List Touch → List ℕ → List Px
altered s [] m = []
altered s (t ∷ ts) m =
    let m' = (dab s t.at (t.gives m) (state m 0 0)).mem in
    cond (differs s t.at.x t.at.y m m') (t.at ∷ altered s ts m') (altered s ts m')

-- ---- pixels that are not the same in two memories

-- 1 for such a pixel, and how many of a list are
abbrev pub changing : Surface → List ℕ → List ℕ → Px → ℕ
changing s m m' p = one (differs s p.x p.y m m')

unfoldable pub summed : (Px → ℕ) → List Px → ℕ
summed f [] = 0
summed f (p ∷ ps) = f p + summed f ps

-- the place number i of n from `at`: from the low end, or from the high end
abbrev pub nth : Bool → ℕ → ℕ → ℕ → ℕ
nth false at n i = at + i
nth true at n i = at + (n - 1 - i)
