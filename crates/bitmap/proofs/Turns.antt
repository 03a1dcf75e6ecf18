-- What the functions do step by step: a bit set in its byte, what a turn of each loop leaves to do, and pages passed over.
-- Assumes nothing.
use mathlib.Core.Path.{◌≡◌, sym, ap, ◌∙◌}
use mathlib.Core.Bool.{Bool, true, false, cond}
use mathlib.Core.List.{List}
use Prim.Native.Nat.{ℕ, zero, suc, ◌+◌, ◌-◌, ◌*◌, ◌/◌, ◌%◌, ◌^◌, ◌<◌, ◌≤◌}
use native.Mathlib.Nat.{zero-div}
use native.Mathlib.Decide.{ℕ_discrete}
use native.Mathlib.Omega.{arith}
use lib.Dec.{eqb}
use lib.ListN.{get_or, set}
use lib.Pow.{shr-shr}
use borrow.Author.Tests.{eq-eqb, ne_eqb}
use Rattle.surface.proofs.Lists.{by_cases}
use Rattle.pages.specs.Pages.{first_from, count_from}
use Rattle.pages.proofs.Search.{first-later, count_set, count-clear}
use Rattle.bitmap.specs.Bits.{bit_at, bits_in, with_bit, with_bits, with_marks, cleared}
use Rattle.bitmap.proofs.ByteLaws.{set-fits, shifted}
use Rattle.bitmap.proofs.BitLaws.{bits_at, bit-stays, bit_added}

-- ---- a byte with one bit set, as the machine adds it
pub put-fits : (byte k : ℕ) → byte < 256 → byte / 2 ^ (k % 8) % 2 ≡ 0 → byte + 1 * 2 ^ (k % 8) % 2 ^ 32 < 256
put-fits byte k h e = rw (shifted (k % 8) (omega arith)) (set-fits byte h (k % 8) (omega arith) e)

module _ (s : List ℕ) (at k byte : ℕ) (read : byte ≡ get_or s (at + k / 8) 0) where
  pub put-bit : byte / 2 ^ (k % 8) % 2 ≡ 0 → set s (at + k / 8) (byte + 1 * 2 ^ (k % 8) % 2 ^ 32) ≡ with_bit s at k
  unfolding bit_at
  put-bit e =
      rw (shifted (k % 8) (omega arith), read)
      (sym (bit_added s at k (ne_eqb (get_or s (at + k / 8) 0 / 2 ^ (k % 8) % 2) 1 (λ f. let g = rw read at e in omega arith))))

  pub has-bit : (byte / 2 ^ (k % 8) % 2 ≡ 0 → ⊥) → s ≡ with_bit s at k
  unfolding bit_at
  has-bit e =
      let f : byte / 2 ^ (k % 8) % 2 ≡ 1 = omega arith in
      sym (bit-stays s at k (eq-eqb (get_or s (at + k / 8) 0 / 2 ^ (k % 8) % 2) 1 (rw read at f)))

-- ---- bits set and bytes cleared, from number k on up to `past`
module _ (s : List ℕ) (at k past : ℕ) where
  pub bits-turn : k < past → with_bits (with_bit s at k) at (k + 1) (past - (k + 1)) ≡ with_bits s at k (past - k)
  unfolding with_bits
  bits-turn h = let q : past - k ≡ suc (past - (k + 1)) = omega arith in rw q

  pub bits-done : past ≤ k → with_bits s at k (past - k) ≡ s
  unfolding with_bits
  bits-done h = let q : past - k ≡ 0 = omega arith in rw q

module _ (s : List ℕ) (at : ℕ) (marks : List Bool) (k past : ℕ) where
  pub mark-turn : k < past → get_or marks k false ≡ true → with_marks (with_bit s at k) at marks (k + 1) (past - (k + 1)) ≡ with_marks s at marks k (past - k)
  unfolding with_marks
  mark-turn h e =
      let q : past - k ≡ suc (past - (k + 1)) = omega arith in
      rw q (ap (λ (t : Bool). with_marks (cond t (with_bit s at k) s) at marks (k + 1) (past - (k + 1))) (sym e))

  pub no-mark-turn : k < past → get_or marks k false ≡ false → with_marks s at marks (k + 1) (past - (k + 1)) ≡ with_marks s at marks k (past - k)
  unfolding with_marks
  no-mark-turn h e =
      let q : past - k ≡ suc (past - (k + 1)) = omega arith in
      rw q (ap (λ (t : Bool). with_marks (cond t (with_bit s at k) s) at marks (k + 1) (past - (k + 1))) (sym e))

  pub marks-done : past ≤ k → with_marks s at marks k (past - k) ≡ s
  unfolding with_marks
  marks-done h = let q : past - k ≡ 0 = omega arith in rw q

module _ (s : List ℕ) (k past : ℕ) where
  pub clear-turn : k < past → cleared (set s k 0) (k + 1) (past - (k + 1)) ≡ cleared s k (past - k)
  unfolding cleared
  clear-turn h = let q : past - k ≡ suc (past - (k + 1)) = omega arith in rw q

  pub clear-done : past ≤ k → cleared s k (past - k) ≡ s
  unfolding cleared
  clear-done h = let q : past - k ≡ 0 = omega arith in rw q

-- ---- pages that are not marked are passed over, m at a time
module _ (marks : List Bool) (past : ℕ) where
  first_past : (m k : ℕ) → k + m ≤ past → ((i : ℕ) → k ≤ i → i < k + m → get_or marks i false ≡ false)
      → first_from marks (k + m) (past - (k + m)) ≡ first_from marks k (past - k)
  first_past zero k h f = let e : k + 0 ≡ k = omega arith in rw e
  first_past (suc m) k h f =
      let e : k + suc m ≡ k + 1 + m = omega arith in
      rw e (first_past m (k + 1) (omega arith) (λ i p q. f i (omega arith) (omega arith))) ∙ first-later marks k past (omega arith) (f k (omega arith) (omega arith))

  count_past : (m k : ℕ) → k + m ≤ past → ((i : ℕ) → k ≤ i → i < k + m → get_or marks i false ≡ false)
      → count_from marks (k + m) (past - (k + m)) ≡ count_from marks k (past - k)
  count_past zero k h f = let e : k + 0 ≡ k = omega arith in rw e
  count_past (suc m) k h f =
      let e : k + suc m ≡ k + 1 + m = omega arith in
      rw e (count_past m (k + 1) (omega arith) (λ i p q. f i (omega arith) (omega arith))) ∙ count-clear marks k past (omega arith) (f k (omega arith) (omega arith))

-- ---- what is left of a byte from a bit on: the bit, and where nothing is left, no later bit of the byte
module _ (s : List ℕ) (at k rest : ℕ) (small : k < 4096) (left : rest ≡ get_or s (at + k / 8) 0 / 2 ^ (k % 8)) where
  pub rest-bit : get_or (bits_in s at) k false ≡ eqb (rest % 2) 1
  unfolding bit_at
  rest-bit = bits_at s at k small ∙ ap (λ (n : ℕ). eqb (n % 2) 1) (sym left)

  none_left : rest ≡ 0 → (i : ℕ) → k ≤ i → i < k / 8 * 8 + 8 → bit_at s at i ≡ false
  unfolding bit_at
  none_left e i p q =
      let a : i / 8 ≡ k / 8 = omega arith in
      let b : i % 8 ≡ k % 8 + (i - k) = omega arith in
      let z = sym (shr-shr (get_or s (at + k / 8) 0) (k % 8) (i - k)) ∙ (ap (λ (n : ℕ). n / 2 ^ (i - k)) (sym left ∙ e) ∙ zero-div (2 ^ (i - k))) in
      rw (a, b, z)

  abbrev next : ℕ
  next = k / 8 * 8 + 8

  pub first-skip : rest ≡ 0 → first_from (bits_in s at) next (4096 - next) ≡ first_from (bits_in s at) k (4096 - k)
  first-skip e =
      let q : next ≡ k + (next - k) = omega arith in
      rw q (first_past (bits_in s at) 4096 (next - k) k (omega arith) (λ i a b. bits_at s at i (omega arith) ∙ none_left e i a (omega arith)))

  pub count-skip : rest ≡ 0 → count_from (bits_in s at) next (4096 - next) ≡ count_from (bits_in s at) k (4096 - k)
  count-skip e =
      let q : next ≡ k + (next - k) = omega arith in
      rw q (count_past (bits_in s at) 4096 (next - k) k (omega arith) (λ i a b. bits_at s at i (omega arith) ∙ none_left e i a (omega arith)))

  pub count-rest : rest % 2 + count_from (bits_in s at) (k + 1) (4096 - (k + 1)) ≡ count_from (bits_in s at) k (4096 - k)
  count-rest =
      by_cases (ℕ_discrete (rest % 2) 1) (λ e. rw e (count_set (bits_in s at) k 4096 small (rest-bit ∙ eq-eqb (rest % 2) 1 e)))
      (λ e. omega (arith, count-clear (bits_in s at) k 4096 small (rest-bit ∙ ne_eqb (rest % 2) 1 e)))
