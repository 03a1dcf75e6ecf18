-- Tallies: bounds one after the other, and the room that they leave, so that no other proof looks into one.
-- Assumes nothing.
use Prim.Native.Nat.{ℕ, ◌+◌, ◌^◌, ◌<◌, ◌≤◌}
use native.Mathlib.Omega.{arith}
use Rattle.paint.specs.declared.Tally.{Tally}
use Rattle.paint.specs.Tally.{tally, noted}
use Rattle.paint.specs.Asked.{Room}

-- r tells of at most k pixels more than n
pub record Upto (n : Tally) (k : ℕ) (r : Tally) : Type 0 where
  pub count : r.count ≤ n.count + k
  pub changed : r.changed ≤ n.changed + k

pub upto-none : (n : Tally) → Upto n 0 n
upto-none n = omega arith

pub upto-noted : (k : ℕ) {c : ℕ} (n : Tally) → c ≤ k → Upto n k (noted k c n)
upto-noted k n some = omega arith

pub upto-then : {n r q : Tally} {k j : ℕ} → Upto n k r → Upto r j q → Upto n (k + j) q
upto-then first next = omega arith

pub upto-more : {n r : Tally} {k j : ℕ} → Upto n k r → k ≤ j → Upto n j r
upto-more upto more = omega arith

-- what room is left
pub room-left : {n r : Tally} {k i j : ℕ} → Room n k → Upto n i r → i + j ≤ k → Room r j
room-left room upto fits = omega arith

-- where nothing was written at the start
pub room-first : {r : Tally} {i j : ℕ} → Upto (tally 0 0) i r → i + j < 2 ^ 32 → Room r j
room-first upto fits = omega arith

pub room-less : {n : Tally} {k j : ℕ} → Room n k → j ≤ k → Room n j
room-less room fits = omega arith
