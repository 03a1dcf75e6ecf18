-- What functions of this crate ask for. No promise rests on it.
-- Assumes nothing.
use Rattle.std.specs.Prelude.{List, ◌≡◌, true, ℕ, ◌+◌, ◌*◌, ◌%◌, ◌<◌, ◌≤◌, ◌^◌, get_or}
use Rattle.surface.specs.Place.{row_bytes, byte_at}
use Rattle.surface.specs.Asked.{Small}
use Rattle.wash.specs.declared.Washing.{Washing}

-- eight masks that count one pixel at most
pub record Ones (adds : List ℕ) (first : ℕ) : Type 0 where
  pub eight : first ≤ 56
  pub one : (i : ℕ) → i < 8 → get_or adds (first + i) 0 ≤ 1

-- of the row from number `first` on, n bytes, or all if it has no more, are its first `period` again and again
pub record Again (table : List ℕ) (first period n : ℕ) : Type 0 where
  pub same : (i : ℕ) → i < 160 → i < n → get_or table (first + i) 0 ≡ get_or table (first + i % period) 0

-- such a period
pub record Period (period : ℕ) : Type 0 where
  pub some : 0 < period
  pub few : period ≤ 32

-- n bytes of row y from column x on, on tiles, can be changed by the tables' rows from number `first` on, in a memory of len bytes
pub record CanWash (t : Washing) (first x y n len : ℕ) : Type 0 where
  pub tiled : t.s.tiled ≡ true
  pub small : Small t.s
  pub wide : x + n ≤ row_bytes t.s
  pub high : y < 2 ^ 32
  pub steps : Period (8 * t.s.bytes)
  pub room : first + 160 ≤ 1280
  pub held : (c : ℕ) → x ≤ c → c < x + n → byte_at t.s c y < len
  pub keeps : Again t.keep first (8 * t.s.bytes) n
  pub flips : Again t.flip first (8 * t.s.bytes) n
