-- A word put into the pattern: read back at its place, and nothing changed at the others.
-- Assumes nothing.
use Prim.Native.Nat.{ℕ, zero, suc, ◌+◌, ◌*◌, ◌/◌, ◌%◌, ◌^◌, ◌<◌, ◌≤◌}
use native.Mathlib.Nat.{div-div-eq-div-mul, div-add-mod'}
use native.Mathlib.Omega.{arith}
use mathlib.Core.Bool.{Bool, true, false, cond}
use mathlib.Core.List.{List}
use mathlib.Core.Path.{◌≡◌, refl, ◌∙◌}
use borrow.Author.Tests.{le-leb, lt-leb}
use lib.Dec.{leb}
use lib.ListN.{length, get_or, set, replicate, length-set}
use lib.Seq.{get_or-set_same, get_or-set_other}
use Rattle.bank.specs.Bank.{put_word, get_word}
use Rattle.registers.proofs.Arms.{either_same}

-- ---- four numbers put at four places in a row

module _ (p : List ℕ) (i a b c d : ℕ) where
  abbrev one : List ℕ
  one = set p i a

  abbrev two : List ℕ
  two = set one (i + 1) b

  abbrev three : List ℕ
  three = set two (i + 2) c

  abbrev four : List ℕ
  four = set three (i + 3) d

  at-0 : i + 3 < length p → get_or four i 0 ≡ a
  at-0 h =
      get_or-set_other three (i + 3) i d 0 (λ e. omega arith)
      ∙ (get_or-set_other two (i + 2) i c 0 (λ e. omega arith)
      ∙ (get_or-set_other one (i + 1) i b 0 (λ e. omega arith)
      ∙ get_or-set_same p i a 0 (omega arith)))

  at_1 : i + 3 < length p → get_or four (i + 1) 0 ≡ b
  at_1 h =
      get_or-set_other three (i + 3) (i + 1) d 0 (λ e. omega arith)
      ∙ (get_or-set_other two (i + 2) (i + 1) c 0 (λ e. omega arith)
      ∙ get_or-set_same one (i + 1) b 0 (simp length-set (omega arith)))

  at-2 : i + 3 < length p → get_or four (i + 2) 0 ≡ c
  at-2 h = get_or-set_other three (i + 3) (i + 2) d 0 (λ e. omega arith) ∙ get_or-set_same two (i + 2) c 0 (simp length-set (omega arith))

  at-3 : i + 3 < length p → get_or four (i + 3) 0 ≡ d
  at-3 h = get_or-set_same three (i + 3) d 0 (simp length-set (omega arith))

  -- at a place of another word
  elsewhere : i % 4 ≡ 0 → (k : ℕ) → (k / 4 ≡ i / 4 → ⊥) → get_or four k 0 ≡ get_or p k 0
  elsewhere m k h =
      get_or-set_other three (i + 3) k d 0 (λ e. h (omega arith))
      ∙ (get_or-set_other two (i + 2) k c 0 (λ e. h (omega arith))
      ∙ (get_or-set_other one (i + 1) k b 0 (λ e. h (omega arith))
      ∙ get_or-set_other p i k a 0 (λ e. h (omega arith))))

-- ---- words

-- a word is its four bytes
four_bytes : (d : ℕ) → d < 2 ^ 32 → d % 2 ^ 8 + d / 2 ^ 8 % 2 ^ 8 * 2 ^ 8 + d / 2 ^ 16 % 2 ^ 8 * 2 ^ 16 + d / 2 ^ 24 % 2 ^ 8 * 2 ^ 24 ≡ d
four_bytes d f =
    let s : d / 2 ^ 16 * 2 ^ 8 + d / 2 ^ 8 % 2 ^ 8 ≡ d / 2 ^ 8 = rw (div-div-eq-div-mul d (2 ^ 8) (2 ^ 8)) at (div-add-mod' (d / 2 ^ 8) (2 ^ 8)) in
    let t : d / 2 ^ 24 * 2 ^ 8 + d / 2 ^ 16 % 2 ^ 8 ≡ d / 2 ^ 16 = rw (div-div-eq-div-mul d (2 ^ 16) (2 ^ 8)) at (div-add-mod' (d / 2 ^ 16) (2 ^ 8)) in
    omega arith

pub word_back : (p : List ℕ) (i d : ℕ) → i ≤ 252 → length p ≡ 256 → d < 2 ^ 32 → get_word (put_word p i d) i ≡ d
unfolding put_word get_word
word_back p i d h l f =
    let k : i + 3 < length p = omega arith in
    rw (le-leb i 252 h) (
    rw (
      at-0 p i (d % 2 ^ 8) (d / 2 ^ 8 % 2 ^ 8) (d / 2 ^ 16 % 2 ^ 8) (d / 2 ^ 24 % 2 ^ 8) k,
      at_1 p i (d % 2 ^ 8) (d / 2 ^ 8 % 2 ^ 8) (d / 2 ^ 16 % 2 ^ 8) (d / 2 ^ 24 % 2 ^ 8) k,
      at-2 p i (d % 2 ^ 8) (d / 2 ^ 8 % 2 ^ 8) (d / 2 ^ 16 % 2 ^ 8) (d / 2 ^ 24 % 2 ^ 8) k,
      at-3 p i (d % 2 ^ 8) (d / 2 ^ 8 % 2 ^ 8) (d / 2 ^ 16 % 2 ^ 8) (d / 2 ^ 24 % 2 ^ 8) k,
    ) (four_bytes d f))

pub word-past : (p : List ℕ) (i d : ℕ) → 252 < i → put_word p i d ≡ p
unfolding put_word
word-past p i d h = rw (lt-leb i 252 h)

-- whether the word was put or not
either_way : {A : Type 0} (f : List ℕ → A) (t : Bool) {q p : List ℕ} → f q ≡ f p → f (cond t q p) ≡ f p
either_way f true e = e
either_way f false e = refl

pub word-length : (p : List ℕ) (i d : ℕ) → length (put_word p i d) ≡ length p
unfolding put_word
word-length p i d = either_way length (leb i 252) (simp length-set)

byte-elsewhere : (p : List ℕ) (i d : ℕ) → i % 4 ≡ 0 → (k : ℕ) → (k / 4 ≡ i / 4 → ⊥) → get_or (put_word p i d) k 0 ≡ get_or p k 0
unfolding put_word
byte-elsewhere p i d m k h =
    either_way (λ q. get_or q k 0) (leb i 252) (elsewhere p i (d % 2 ^ 8) (d / 2 ^ 8 % 2 ^ 8) (d / 2 ^ 16 % 2 ^ 8) (d / 2 ^ 24 % 2 ^ 8) m k h)

pub word-elsewhere : (p : List ℕ) (i k d : ℕ) → i % 4 ≡ 0 → k % 4 ≡ 0 → (k ≡ i → ⊥) → get_word (put_word p i d) k ≡ get_word p k
unfolding get_word
word-elsewhere p i k d m n h =
    rw (
      byte-elsewhere p i d m k (λ e. h (omega arith)),
      byte-elsewhere p i d m (k + 1) (λ e. h (omega arith)),
      byte-elsewhere p i d m (k + 2) (λ e. h (omega arith)),
      byte-elsewhere p i d m (k + 3) (λ e. h (omega arith)),
    )

zero-bytes : (n k : ℕ) → get_or (replicate {A = ℕ} n 0) k 0 ≡ 0
zero-bytes zero k = refl
zero-bytes (suc n) zero = refl
zero-bytes (suc n) (suc k) = zero-bytes n k

word-of-zeros : (p : List ℕ) → ((k : ℕ) → get_or p k 0 ≡ 0) → (i : ℕ) → get_word p i ≡ 0
unfolding get_word
word-of-zeros p z i = rw (z i, z (i + 1), z (i + 2), z (i + 3)) (either_same (leb i 252) 0)

pub word-zero : (i : ℕ) → get_word (replicate 256 0) i ≡ 0
word-zero = word-of-zeros (replicate 256 0) (zero-bytes 256)
