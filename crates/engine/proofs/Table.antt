-- The table: each number is given exactly when its row is the first that applies.
-- Assumes nothing.
use mathlib.Core.Path.{◌≡◌, refl, ap, ◌∙◌}
use mathlib.Core.Bool.{Bool, true, false}
use mathlib.Core.List.{List, [], ◌∷◌}
use Prim.Native.Nat.{ℕ, zero, suc, ◌+◌, ◌<◌}
use native.Mathlib.Omega.{arith}
use lib.Dec.{eqb}
use lib.ListN.{length}
use borrow.Author.Tests.{eq-eqb, ne_eqb}
use Rattle.engine.specs.Promises.{table, is_first, Given, ByTheTable}
use Rattle.engine.proofs.Commands.{first_of, write-written}

-- rows that are looked at from number k on give no number from 1 to k - 1
none-lower : (k n : ℕ) (rows : List Bool) → 0 < n → n < k → eqb (first_of k rows) n ≡ false
unfolding first_of
none-lower k n [] some below = ne_eqb 0 n (λ z. omega arith)
none-lower k n (true ∷ rows) some below = ne_eqb k n (λ z. omega arith)
none-lower k n (false ∷ rows) some below = none-lower (suc k) n rows some (omega arith)

none_at_all : (k : ℕ) (rows : List Bool) → 0 < k → eqb (first_of k rows) 0 ≡ is_first 0 rows
unfolding first_of is_first
none_at_all k [] some = refl
none_at_all k (true ∷ rows) some = ne_eqb k 0 (λ z. omega arith)
none_at_all k (false ∷ rows) some = none_at_all (suc k) rows (omega arith)

-- row n of those from k on
this-one : (n k : ℕ) (rows : List Bool) → 0 < k → eqb (first_of k rows) (n + k) ≡ is_first (suc n) rows
unfolding first_of is_first
this-one n k [] some = ne_eqb 0 (n + k) (λ z. omega arith)
this-one zero k (true ∷ rows) some = eq-eqb k (0 + k) (omega arith)
this-one (suc n) k (true ∷ rows) some = ne_eqb k (suc n + k) (λ z. omega arith)
this-one zero k (false ∷ rows) some = none-lower (suc k) (0 + k) rows (omega arith) (omega arith)
this-one (suc n) k (false ∷ rows) some =
    let same : suc n + k ≡ n + suc k = omega arith in
    ap (λ j. eqb (first_of (suc k) rows) j) same ∙ this-one n (suc k) rows (omega arith)

given-0 : Given 0
given-0 e m o d = ap (λ n. eqb n 0) (write-written e m o d).number ∙ none_at_all 1 (table e (length m) o d) (omega arith)

given : (n : ℕ) → Given (suc n)
given n e m o d =
    let same : suc n ≡ n + 1 = omega arith in
    ap (λ k. eqb k (suc n)) (write-written e m o d).number
    ∙ ap (λ j. eqb (first_of 1 (table e (length m) o d)) j) same
    ∙ this-one n 1 (table e (length m) o d) (omega arith)

pub by-the-table : ByTheTable
by-the-table = record {
  taken = given-0;
  memory = given 0;
  offset = given 1;
  waiting = given 2;
  not_built = given 3;
  format = given 4;
  host = given 5;
  off = given 6;
  meets = given 7;
}
