-- Pixels poured from the data are its bytes put one after the other, and those that change are found in the memory as it was before all of them.
-- Assumes nothing.
use mathlib.Core.Path.{◌≡◌, refl, sym, ap, ◌∙◌}
use mathlib.Core.List.{List}
use mathlib.Core.Option.{some}
use Prim.Native.Nat.{ℕ, zero, suc, ◌+◌, ◌*◌, ◌/◌, ◌%◌, ◌^◌, ◌<◌, ◌≤◌}
use native.Mathlib.Nat.{add-mul, mod-eq_of_lt}
use native.Mathlib.Omega.{arith}
use lib.ListN.{length, get_or, set, length-set}
use lib.Seq.{get_or-set_other}
use Rattle.surface.specs.Place.{read_bytes, write_bytes}
use Rattle.surface.proofs.Bytes.{read-written}
use Rattle.paint.specs.Paint.{State, state, dab_at}
use Rattle.host.specs.Stream.{data_byte, data_number}
use Rattle.pours.specs.Pours.{unlike, poured_at}
use Rattle.pours.proofs.Numbers.{word_bytes, number, number_fits, unlikes, unlikes-alike}

-- the bytes of a memory
abbrev pub byte_in : List ℕ → ℕ → ℕ
byte_in m a = get_or m a 0

pub read-number : (m : List ℕ) (at k n : ℕ) → read_bytes m (λ j. at + j) k n ≡ number (byte_in m) (at + k) n
unfolding read_bytes number
read-number m at k zero = refl
read-number m at k (suc n) = let p : at + k + 1 ≡ at + suc k = omega arith in rw p (ap (λ (v : ℕ). get_or m (at + k) 0 + 256 * v) (read-number m at (suc k) n))

module _ (ws : ℕ → ℕ) where
  -- ---- the data's bytes
  pub data-small : (k : ℕ) → data_byte ws k < 256
  unfolding data_byte
  data-small k = omega arith

  pub data-number : (o n : ℕ) → data_number ws o n ≡ number (data_byte ws) o n
  unfolding data_number number
  data-number o zero = refl
  data-number o (suc n) = ap (λ (v : ℕ). data_byte ws o + 256 * v) (data-number (o + 1) n)

  data-byte : (i j : ℕ) → j < 4 → data_byte ws (4 * i + j) ≡ ws i / 2 ^ (8 * j) % 256
  unfolding data_byte
  data-byte i j l = let p : (4 * i + j) / 4 ≡ i = omega arith in let q : (4 * i + j) % 4 ≡ j = omega arith in rw (p, q)

  -- a word of it
  pub data-word : (i : ℕ) → ws i < 2 ^ 32 → data_number ws (4 * i) 4 ≡ ws i
  unfolding data_number
  data-word i l =
      let z : 4 * i + 0 ≡ 4 * i = omega arith in
      let o2 : 4 * i + 1 + 1 ≡ 4 * i + 2 = omega arith in
      let o3 : 4 * i + 2 + 1 ≡ 4 * i + 3 = omega arith in
      let p = rw z at (data-byte i 0 (omega arith)) in
      rw (o2, o3) (omega (arith, p, data-byte i 1 (omega arith), data-byte i 2 (omega arith), data-byte i 3 (omega arith), word_bytes (ws i) l))

  -- ---- a memory with n bytes of the data, from byte o on, put from an address on
  unfoldable pub spilt : ℕ → ℕ → ℕ → List ℕ → List ℕ
  spilt o at zero m = m
  spilt o at (suc n) m = spilt (o + 1) (at + 1) n (set m at (data_byte ws o))

  pub spilt-split : (o at k n : ℕ) (m : List ℕ) → spilt o at (k + n) m ≡ spilt (o + k) (at + k) n (spilt o at k m)
  unfolding spilt
  spilt-split o at zero n m = let p : at + 0 ≡ at = omega arith in let q : o + 0 ≡ o = omega arith in let z : 0 + n ≡ n = omega arith in rw (p, q, z)
  spilt-split o at (suc k) n m =
      let p : at + suc k ≡ at + 1 + k = omega arith in
      let q : o + suc k ≡ o + 1 + k = omega arith in
      let z : suc k + n ≡ suc (k + n) = omega arith in
      rw (p, q, z) (spilt-split (o + 1) (at + 1) k n (set m at (data_byte ws o)))

  spilt-long : (o at n : ℕ) (m : List ℕ) → length (spilt o at n m) ≡ length m
  unfolding spilt
  spilt-long o at zero m = refl
  spilt-long o at (suc n) m = spilt-long (o + 1) (at + 1) n (set m at (data_byte ws o)) ∙ length-set m at (data_byte ws o)

  -- what lies behind them is kept
  spilt-behind : (o at n : ℕ) (m : List ℕ) (a : ℕ) → at + n ≤ a → get_or (spilt o at n m) a 0 ≡ get_or m a 0
  unfolding spilt
  spilt-behind o at zero m a h = refl
  spilt-behind o at (suc n) m a h =
      spilt-behind (o + 1) (at + 1) n (set m at (data_byte ws o)) a (omega arith) ∙ get_or-set_other m at a (data_byte ws o) 0 (λ e. omega arith)

  -- the store of a number of the data is that of its bytes
  number-spilt : (at o k n : ℕ) (m : List ℕ) → write_bytes (λ j. at + j) k n (data_number ws o n) m ≡ spilt o (at + k) n m
  unfolding write_bytes spilt data_number
  number-spilt at o k zero m = refl
  number-spilt at o k (suc n) m =
      let l = data-small o in
      let low : (data_byte ws o + 2 ^ 8 * data_number ws (o + 1) n) % 256 ≡ data_byte ws o = omega arith in
      let high : (data_byte ws o + 2 ^ 8 * data_number ws (o + 1) n) / 256 ≡ data_number ws (o + 1) n = omega arith in
      let p : at + k + 1 ≡ at + suc k = omega arith in
      rw (low, high, p) (number-spilt at (o + 1) (suc k) n (set m (at + k) (data_byte ws o)))

  written-spilt : (at o n : ℕ) (m : List ℕ) → write_bytes (λ j. at + j) 0 n (data_number ws o n) m ≡ spilt o at n m
  written-spilt at o n m = let z : at + 0 ≡ at = omega arith in number-spilt at o 0 n m ∙ ap (λ (a : ℕ). spilt o a n m) z

  pub word-spilt : (at i : ℕ) (m : List ℕ) → ws i < 2 ^ 32 → write_bytes (λ j. at + j) 0 4 (ws i) m ≡ spilt (4 * i) at 4 m
  word-spilt at i m l = ap (λ (v : ℕ). write_bytes (λ j. at + j) 0 4 v m) (sym (data-word i l)) ∙ written-spilt at (4 * i) 4 m

  -- ---- one pixel
  one-poured : (b o at : ℕ) (m : List ℕ) (n c : ℕ) → at + b ≤ length m
      → dab_at at b (some (data_number ws o b)) (state m n c) ≡ state (spilt o at b m) (n + 1) (c + unlike (number (byte_in m) at b) (number (data_byte ws) o b))
  unfolding dab_at
  one-poured b o at m n c held =
      let z : at + 0 ≡ at = omega arith in
      let v = data_number ws o b in
      let before : read_bytes m (λ k. at + k) 0 b ≡ number (byte_in m) at b = read-number m at 0 b ∙ ap (λ (a : ℕ). number (byte_in m) a b) z in
      let after : read_bytes (write_bytes (λ k. at + k) 0 b v m) (λ k. at + k) 0 b ≡ number (data_byte ws) o b =
      read-written (λ k. at + k) 0 b v m (λ i j p q e. omega arith) (λ j l. omega arith)
      ∙ ap (λ (x : ℕ). x % 256 ^ b) (data-number o b) ∙ mod-eq_of_lt (number_fits (data_byte ws) data-small o b) in
      rw (before, after, written-spilt at o b m)

  -- and w of them
  all-poured : (b o at w : ℕ) (m : List ℕ) (n c : ℕ) → at + w * b ≤ length m
      → poured_at ws b o at w (state m n c) ≡ state (spilt o at (w * b) m) (n + w) (c + unlikes (byte_in m) (data_byte ws) b at o w)
  unfolding poured_at unlikes spilt
  all-poured b o at zero m n c held =
      let z : n + 0 ≡ n = omega arith in let y : c + 0 ≡ c = omega arith in let x : 0 * b ≡ 0 = omega arith in rw (x, y, z)
  all-poured b o at (suc w) m n c held =
      let s : suc w * b ≡ b + w * b = omega (arith, add-mul 1 w b) in
      let m' = spilt o at b m in
      let d = unlike (number (byte_in m) at b) (number (data_byte ws) o b) in
      let n' : n + 1 + w ≡ n + suc w = omega arith in
      let keeps = unlikes-alike (byte_in m') (byte_in m) (data_byte ws) b (at + b) (o + b) w (λ a l. spilt-behind o at b m a l) in
      let c' : c + d + unlikes (byte_in m') (data_byte ws) b (at + b) (o + b) w ≡ c + (d + unlikes (byte_in m) (data_byte ws) b (at + b) (o + b) w) = omega arith in
      ap (poured_at ws b (o + b) (at + b) w) (one-poured b o at m n c (omega arith))
      ∙ all-poured b (o + b) (at + b) w m' (n + 1) (c + d) (omega (arith, spilt-long o at b m))
      ∙ rw (n', c', s, spilt-split o at b (w * b) m)

  poured-split : (b o at k w : ℕ) (st : State) → poured_at ws b o at (k + w) st ≡ poured_at ws b (o + k * b) (at + k * b) w (poured_at ws b o at k st)
  unfolding poured_at
  poured-split b o at zero w st = let p : at + 0 * b ≡ at = omega arith in let q : o + 0 * b ≡ o = omega arith in let z : 0 + w ≡ w = omega arith in rw (p, q, z)
  poured-split b o at (suc k) w st =
      let e = add-mul k 1 b in
      let p : at + suc k * b ≡ at + b + k * b = omega arith in
      let q : o + suc k * b ≡ o + b + k * b = omega arith in
      let z : suc k + w ≡ suc (k + w) = omega arith in
      rw (p, q, z) (poured-split b (o + b) (at + b) k w (dab_at at b (some (data_number ws o b)) st))

-- ---- a loop that has poured w pixels
pub record Poured (ws : ℕ → ℕ) (b at : ℕ) (m₀ : List ℕ) (w : ℕ) (m : List ℕ) (r : ℕ) : Type 0 where
  pub done : state m w r ≡ poured_at ws b 0 at w (state m₀ 0 0)
  pub long : length m ≡ length m₀
  pub few : r ≤ w

pub poured-none : {ws : ℕ → ℕ} {b at : ℕ} {m : List ℕ} → Poured ws b at m 0 m 0
unfolding poured_at
poured-none = record { done = refl; long = refl; few = omega arith }

module _ {ws : ℕ → ℕ} {b at w r : ℕ} {m₀ m : List ℕ} (now : Poured ws b at m₀ w m r) (o : ℕ) (so : w * b ≡ o) where
  -- what is left is poured from where it stands
  pub poured-on : (k : ℕ) → poured_at ws b 0 at (w + k) (state m₀ 0 0) ≡ poured_at ws b o (at + o) k (state m w r)
  poured-on k = let z : 0 + w * b ≡ o = omega arith in poured-split ws b 0 at w k (state m₀ 0 0) ∙ rw (z, so, ← now.done)

  -- k pixels more
  pub poured-more : {c : ℕ} {m' : List ℕ} (k : ℕ) → at + o + k * b ≤ length m₀ → m' ≡ spilt ws o (at + o) (k * b) m
      → c ≡ unlikes (byte_in m) (data_byte ws) b (at + o) o k → c ≤ k → Poured ws b at m₀ (w + k) m' (r + c)
  poured-more {c} {m'} k held put is most = record {
    done = rw (put, is) (sym (poured-on k ∙ all-poured ws b o (at + o) k m w r (omega (arith, now.long))));
    long = ap length put ∙ spilt-long ws o (at + o) (k * b) m ∙ now.long;
    few = omega (arith, now.few);
  }
