-- What is kept of a surface, in a state: put there after a store into one of its registers.
-- Assumes nothing.
use mathlib.Core.Path.{◌≡◌, ap, ◌∙◌}
use mathlib.Core.Bool.{false}
use mathlib.Core.List.{List}
use Prim.Native.Nat.{ℕ, ◌+◌, ◌%◌, ◌^◌, ◌<◌, ◌≤◌}
use native.Mathlib.Omega.{arith}
use lib.ListN.{length, get_or}
use Rattle.basics.specs.Word.{word_at, with_word}
use Rattle.rooms.specs.Room.{of_target, of_source}
use Rattle.state.specs.Layout.{byte_of, followed}
use Rattle.state.proofs.Places.{word-own, word-from, word-other}

-- ---- by the offset
module _ (s : List ℕ) (len o : ℕ) where
  pub followed-none : of_target o ≡ false → of_source o ≡ false → followed s len o ≡ s
  unfolding followed
  followed-none t f = rw (t, f)

-- ---- a word read back, and one beside it
module _ (s : List ℕ) (i d : ℕ) (m : i % 4 ≡ 0) where
  pub read-own : i + 4 ≤ length s → d < 2 ^ 32 → word_at (with_word s i d) i ≡ d
  read-own h f =
      word-from (with_word s i d) i d f
      (λ k l. let q : (i + k) % 4 ≡ k = omega arith in word-own s i d h (i + k) (omega arith) ∙ ap (byte_of d) q)

  pub read-other : (j : ℕ) → j % 4 ≡ 0 → (j ≡ i → ⊥) → word_at (with_word s i d) j ≡ word_at s j
  unfolding word_at
  read-other j n apart =
      let b0 : get_or (with_word s i d) j 0 ≡ get_or s j 0 = word-other s i d m j (λ e. apart (omega arith)) in
      let b1 : get_or (with_word s i d) (j + 1) 0 ≡ get_or s (j + 1) 0 = word-other s i d m (j + 1) (λ e. apart (omega arith)) in
      let b2 : get_or (with_word s i d) (j + 2) 0 ≡ get_or s (j + 2) 0 = word-other s i d m (j + 2) (λ e. apart (omega arith)) in
      let b3 : get_or (with_word s i d) (j + 3) 0 ≡ get_or s (j + 3) 0 = word-other s i d m (j + 3) (λ e. apart (omega arith)) in
      rw (b0, b1, b2, b3)
