-- `first_bit` meets its contract: the search from here on finds what that from the start does.
-- Assumes nothing.
use mathlib.Core.Path.{◌≡◌}
use Prim.Native.Nat.{◌-◌}
use Rattle.pages.specs.Pages.{first_from}
use Rattle.bitmap.specs.Bits.{bits_in}
use Rattle.bitmap.proofs.first_bit.Given as goal

abbrev pub invariant-loop-k : goal.invariant-loop-k
invariant-loop-k l = first_from (bits_in l.s l.at) l.k (4096 - l.k) ≡ first_from (bits_in l.s l.at) l.page (4096 - l.page)

abbrev pub decreases-loop-k : goal.decreases-loop-k
decreases-loop-k l = 4096 - l.k
