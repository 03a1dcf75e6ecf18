-- Runs of bytes: what a write of n bytes leaves, and what is read back after it. Stated once over the number of bytes.
-- Assumes nothing.
use mathlib.Core.Path.{◌≡◌, refl, ap, ap₂, subst, subst⁻¹, ◌∙◌}
use mathlib.Core.List.{List}
use Prim.Native.Nat.{ℕ, zero, suc, ◌+◌, ◌*◌, ◌/◌, ◌%◌, ◌^◌, ◌<◌, ◌≤◌}
use native.Mathlib.Nat.{lt_of_le_of_lt, mul-le-mul_left, mul-lt-mul_of_pos_right, le_of_lt, pow-suc}
use native.Mathlib.Omega.{arith}
use native.Mathlib.Decide.{ℕ_discrete}
use lib.Arith.{mod-mul}
use lib.Pow.{pow_pos, pow-add}
use lib.ListN.{length, get_or, set, length-set}
use lib.Seq.{get_or-set_same, get_or-set_other, lt-length-set}
use Rattle.surface.specs.Place.{read_bytes, write_bytes}
use Rattle.surface.proofs.Lists.{by_cases}

-- a product of two numbers fits the bits of both
pub product_lt : (i j : ℕ) {a b : ℕ} → a < 2 ^ i → b < 2 ^ j → a * b < 2 ^ (i + j)
product_lt i j {a} {b} ha hb =
    subst⁻¹ (λ (n : ℕ). a * b < n) (pow-add 2 i j)
    (lt_of_le_of_lt (mul-le-mul_left a (le_of_lt hb)) (mul-lt-mul_of_pos_right ha (pow_pos j)))

bytes_pos : (n : ℕ) → 0 < 256 ^ n
bytes_pos zero = omega arith
bytes_pos (suc n) = let h = bytes_pos n in rw (pow-suc 256 n) (omega arith)

module _ (at : ℕ → ℕ) where
  pub length-written : (k n v : ℕ) (m : List ℕ) → length (write_bytes at k n v m) ≡ length m
  unfolding write_bytes
  length-written k zero v m = refl
  length-written k (suc n) v m = length-written (suc k) n (v / 256) (set m (at k) (v % 256)) ∙ length-set m (at k) (v % 256)

  -- an address that is none of theirs keeps its byte
  pub written-other : (k n v : ℕ) (m : List ℕ) (a : ℕ) → ((j : ℕ) → k ≤ j → j < k + n → a ≡ at j → ⊥)
      → get_or (write_bytes at k n v m) a 0 ≡ get_or m a 0
  unfolding write_bytes
  written-other k zero v m a h = refl
  written-other k (suc n) v m a h =
      written-other (suc k) n (v / 256) (set m (at k) (v % 256)) a (λ j l u. h j (omega arith) (omega arith))
      ∙ get_or-set_other m (at k) a (v % 256) 0 (h k (omega arith) (omega arith))

  -- at addresses that differ and are in memory, what was written is read back
  pub read-written : (k n v : ℕ) (m : List ℕ) → ((i j : ℕ) → i < k + n → j < k + n → at i ≡ at j → i ≡ j)
      → ((j : ℕ) → j < k + n → at j < length m) → read_bytes (write_bytes at k n v m) at k n ≡ v % 256 ^ n
  unfolding read_bytes write_bytes
  read-written k zero v m differ inside = omega arith
  read-written k (suc n) v m differ inside =
      let m₁ = set m (at k) (v % 256) in
      let first : get_or (write_bytes at (suc k) n (v / 256) m₁) (at k) 0 ≡ v % 256 =
      written-other (suc k) n (v / 256) m₁ (at k) (λ j l u e. let q : k ≡ j = differ k j (omega arith) (omega arith) e in omega arith)
      ∙ get_or-set_same m (at k) (v % 256) 0 (inside k (omega arith)) in
      let rest : read_bytes (write_bytes at (suc k) n (v / 256) m₁) at (suc k) n ≡ v / 256 % 256 ^ n =
      read-written (suc k) n (v / 256) m₁ (λ i j p q. differ i j (omega arith) (omega arith))
      (λ j l. lt-length-set m (at k) (v % 256) (inside j (omega arith))) in
      let split : v % (256 ^ n * 256) ≡ v / 256 % 256 ^ n * 256 + v % 256 = mod-mul v (bytes_pos n) (omega arith) in
      rw (pow-suc 256 n) (omega arith)

-- bytes that are the same, at places of one memory and of another, read alike
pub read_as : (at at' : ℕ → ℕ) (k n : ℕ) (m m' : List ℕ) → ((j : ℕ) → k ≤ j → j < k + n → get_or m (at j) 0 ≡ get_or m' (at' j) 0) → read_bytes m at k n ≡ read_bytes m' at' k n
unfolding read_bytes
read_as at at' k zero m m' h = refl
read_as at at' k (suc n) m m' h =
    ap₂ (λ (a b : ℕ). a + 256 * b) (h k (omega arith) (omega arith)) (read_as at at' (suc k) n m m' (λ j l u. h j (omega arith) (omega arith)))

-- memories that agree there do
pub read_alike : (at : ℕ → ℕ) (k n : ℕ) (m m' : List ℕ) → ((j : ℕ) → k ≤ j → j < k + n → get_or m (at j) 0 ≡ get_or m' (at j) 0)
    → read_bytes m at k n ≡ read_bytes m' at k n
read_alike at k n m m' = read_as at at k n m m'

-- and in memories of bytes those that read alike agree there
pub alike_read : (at : ℕ → ℕ) (m m' : List ℕ) → ((a : ℕ) → get_or m a 0 < 256) → ((a : ℕ) → get_or m' a 0 < 256) → (k n : ℕ) → read_bytes m at k n ≡ read_bytes m' at k n
    → (j : ℕ) → k ≤ j → j < k + n → get_or m (at j) 0 ≡ get_or m' (at j) 0
unfolding read_bytes
alike_read at m m' b b' k zero e j l u = absurd (omega arith)
alike_read at m m' b b' k (suc n) e j l u =
    let p = b (at k) in
    let q = b' (at k) in
    let first : get_or m (at k) 0 ≡ get_or m' (at k) 0 = omega arith in
    let rest : read_bytes m at (suc k) n ≡ read_bytes m' at (suc k) n = omega arith in
    by_cases (ℕ_discrete k j) (λ w. subst (λ (i : ℕ). get_or m (at i) 0 ≡ get_or m' (at i) 0) w first)
    (λ w. alike_read at m m' b b' (suc k) n rest j (omega arith) (omega arith))

-- addresses that agree read and write alike
pub read-there : (m : List ℕ) (at at' : ℕ → ℕ) (k n : ℕ) → ((j : ℕ) → j < k + n → at j ≡ at' j) → read_bytes m at k n ≡ read_bytes m at' k n
read-there m at at' k n h = read_as at at' k n m m (λ j l u. ap (λ (a : ℕ). get_or m a 0) (h j u))

pub write-there : (at at' : ℕ → ℕ) (k n v : ℕ) (m : List ℕ) → ((j : ℕ) → j < k + n → at j ≡ at' j) → write_bytes at k n v m ≡ write_bytes at' k n v m
unfolding write_bytes
write-there at at' k zero v m h = refl
write-there at at' k (suc n) v m h =
    ap (λ (a : ℕ). write_bytes at (suc k) n (v / 256) (set m a (v % 256))) (h k (omega arith))
    ∙ write-there at at' (suc k) n (v / 256) (set m (at' k) (v % 256)) (λ j l. h j (omega arith))

-- in a memory of bytes the number fits the bytes that it is read from
pub read_fits : (m : List ℕ) (at : ℕ → ℕ) (k n : ℕ) → ((j : ℕ) → get_or m (at j) 0 < 256) → read_bytes m at k n < 256 ^ n
unfolding read_bytes
read_fits m at k zero b = omega arith
read_fits m at k (suc n) b = let r = read_fits m at (suc k) n b in let h = b k in rw (pow-suc 256 n) (omega arith)
