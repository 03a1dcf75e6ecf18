-- Bytes by their places: a word put into bytes, an engine's bytes one by one, and words laid over bytes that hold the rest.
-- Assumes nothing.
use mathlib.Core.Path.{◌≡◌, refl, sym, ap, ◌∙◌}
use mathlib.Core.Bool.{Bool, true, false, cond}
use mathlib.Core.List.{List, [], ◌∷◌}
use Prim.Native.Nat.{ℕ, zero, suc, ◌+◌, ◌*◌, ◌/◌, ◌%◌, ◌^◌, ◌<◌, ◌≤◌}
use native.Mathlib.Nat.{not-suc-le-zero, le_of_suc-le-suc, add-zero, zero-add}
use native.Mathlib.Omega.{arith}
use lib.Dec.{eqb}
use lib.ListN.{length, get_or, set, length-set}
use lib.Seq.{get_or-set_same, get_or-set_other, ext_get_or}
use borrow.Author.Tests.{lt-ltb, eqb-true, eqb-false}
use Rattle.registers.specs.Kept.{one_of}
use Rattle.registers.proofs.Arms.{Each}
use Rattle.engine.specs.declared.Engine.{Engine}
use Rattle.basics.specs.Word.{word_at, with_word}
use Rattle.basics.proofs.WordLaws.{four_bytes}
use Rattle.state.specs.Layout.{state_size, pattern_at, byte_of, slot, byte_in, run, encoded, with_slots}

-- ---- four numbers put at four places in a row

module _ (p : List ℕ) (i a b c d : ℕ) where
  abbrev one : List ℕ
  one = set p i a

  abbrev two : List ℕ
  two = set one (i + 1) b

  abbrev three : List ℕ
  three = set two (i + 2) c

  abbrev four : List ℕ
  four = set three (i + 3) d

  at-0 : i + 4 ≤ length p → get_or four i 0 ≡ a
  at-0 h =
      get_or-set_other three (i + 3) i d 0 (λ e. omega arith)
      ∙ (get_or-set_other two (i + 2) i c 0 (λ e. omega arith)
      ∙ (get_or-set_other one (i + 1) i b 0 (λ e. omega arith)
      ∙ get_or-set_same p i a 0 (omega arith)))

  at_1 : i + 4 ≤ length p → get_or four (i + 1) 0 ≡ b
  at_1 h =
      get_or-set_other three (i + 3) (i + 1) d 0 (λ e. omega arith)
      ∙ (get_or-set_other two (i + 2) (i + 1) c 0 (λ e. omega arith)
      ∙ get_or-set_same one (i + 1) b 0 (simp length-set (omega arith)))

  at-2 : i + 4 ≤ length p → get_or four (i + 2) 0 ≡ c
  at-2 h = get_or-set_other three (i + 3) (i + 2) d 0 (λ e. omega arith) ∙ get_or-set_same two (i + 2) c 0 (simp length-set (omega arith))

  at-3 : i + 4 ≤ length p → get_or four (i + 3) 0 ≡ d
  at-3 h = get_or-set_same three (i + 3) d 0 (simp length-set (omega arith))

  own : i + 4 ≤ length p → (k : ℕ) → k / 4 * 4 ≡ i → (t0 t1 t2 : Bool) → eqb (k % 4) 0 ≡ t0 → eqb (k % 4) 1 ≡ t1 → eqb (k % 4) 2 ≡ t2
      → get_or four k 0 ≡ cond t0 a (cond t1 b (cond t2 c d))
  own h k e true t1 t2 p0 p1 p2 = let z = eqb-true (k % 4) 0 p0 in let q : k ≡ i = omega arith in rw q (at-0 h)
  own h k e false true t2 p0 p1 p2 = let z = eqb-true (k % 4) 1 p1 in let q : k ≡ i + 1 = omega arith in rw q (at_1 h)
  own h k e false false true p0 p1 p2 = let z = eqb-true (k % 4) 2 p2 in let q : k ≡ i + 2 = omega arith in rw q (at-2 h)
  own h k e false false false p0 p1 p2 =
      let n0 = eqb-false (k % 4) 0 p0 in
      let n1 = eqb-false (k % 4) 1 p1 in
      let n2 = eqb-false (k % 4) 2 p2 in
      let q : k ≡ i + 3 = omega arith in
      rw q (at-3 h)

  other : i % 4 ≡ 0 → (k : ℕ) → (k / 4 * 4 ≡ i → ⊥) → get_or four k 0 ≡ get_or p k 0
  other m k h =
      get_or-set_other three (i + 3) k d 0 (λ e. h (omega arith))
      ∙ (get_or-set_other two (i + 2) k c 0 (λ e. h (omega arith))
      ∙ (get_or-set_other one (i + 1) k b 0 (λ e. h (omega arith))
      ∙ get_or-set_other p i k a 0 (λ e. h (omega arith))))

-- ---- a word put into bytes: its own four, and the others

pub word-own : (s : List ℕ) (i d : ℕ) → i + 4 ≤ length s → (k : ℕ) → k / 4 * 4 ≡ i → get_or (with_word s i d) k 0 ≡ byte_of d (k % 4)
unfolding with_word byte_of
word-own s i d h k e =
    own s i (d % 2 ^ 8) (d / 2 ^ 8 % 2 ^ 8) (d / 2 ^ 16 % 2 ^ 8) (d / 2 ^ 24 % 2 ^ 8) h k e (eqb (k % 4) 0) (eqb (k % 4) 1) (eqb (k % 4) 2) refl refl refl

-- four bytes that are a number's make it
pub word-from : (s : List ℕ) (i d : ℕ) → d < 2 ^ 32 → ((k : ℕ) → k < 4 → get_or s (i + k) 0 ≡ byte_of d k) → word_at s i ≡ d
unfolding word_at byte_of
word-from s i d f h =
    let b0 : get_or s i 0 ≡ d % 2 ^ 8 = ap (λ n. get_or s n 0) (sym (add-zero i)) ∙ h 0 (omega arith) in
    let b1 : get_or s (i + 1) 0 ≡ d / 2 ^ 8 % 2 ^ 8 = h 1 (omega arith) in
    let b2 : get_or s (i + 2) 0 ≡ d / 2 ^ 16 % 2 ^ 8 = h 2 (omega arith) in
    let b3 : get_or s (i + 3) 0 ≡ d / 2 ^ 24 % 2 ^ 8 = h 3 (omega arith) in
    rw (b0, b1, b2, b3) (four_bytes d f)

pub word-other : (s : List ℕ) (i d : ℕ) → i % 4 ≡ 0 → (k : ℕ) → (k / 4 * 4 ≡ i → ⊥) → get_or (with_word s i d) k 0 ≡ get_or s k 0
unfolding with_word
word-other s i d m k h = other s i (d % 2 ^ 8) (d / 2 ^ 8 % 2 ^ 8) (d / 2 ^ 16 % 2 ^ 8) (d / 2 ^ 24 % 2 ^ 8) m k h

pub word-length : (s : List ℕ) (i d : ℕ) → length (with_word s i d) ≡ length s
unfolding with_word
word-length s i d = simp length-set

-- ---- an engine's bytes

length_run : (f : ℕ → ℕ) (i n : ℕ) → length (run f i n) ≡ n
length_run f i zero = refl
length_run f i (suc n) = ap suc (length_run f (i + 1) n)

run_at : (f : ℕ → ℕ) (i n k : ℕ) → k < n → get_or (run f i n) k 0 ≡ f (i + k)
run_at f i zero k h = absurd (not-suc-le-zero h)
run_at f i (suc n) zero h = ap f (sym (add-zero i))
run_at f i (suc n) (suc k) h =
    let e : i + 1 + k ≡ i + suc k = omega arith in
    run_at f (i + 1) n k (le_of_suc-le-suc h) ∙ ap f e

pub encoded-length : (e : Engine) → length (encoded e) ≡ state_size
unfolding encoded
encoded-length e = length_run (byte_in e) 0 state_size

pub encoded-byte : (e : Engine) (k : ℕ) → k < state_size → get_or (encoded e) k 0 ≡ byte_in e k
unfolding encoded
encoded-byte e k h = run_at (byte_in e) 0 state_size k h ∙ ap (byte_in e) (zero-add k)

-- bytes that are an engine's one by one
pub same_bytes : (s : List ℕ) (e : Engine) → length s ≡ state_size → ((k : ℕ) → k < state_size → get_or s k 0 ≡ byte_in e k) → s ≡ encoded e
same_bytes s e l h =
    ext_get_or 0 s (encoded e) (l ∙ sym (encoded-length e))
    (λ k b. let c : k < state_size = omega arith in h k c ∙ sym (encoded-byte e k c))

-- ---- words of an engine laid over bytes that hold the rest of it

abbrev pub Word : ℕ → Type 0
Word o = (o % 4 ≡ 0) × (o < pattern_at)

byte-of-word : (e : Engine) (o k : ℕ) → Word o → k / 4 * 4 ≡ o → byte_of (slot e o) (k % 4) ≡ byte_in e k
unfolding byte_in
byte-of-word e o k w q = let h : k < pattern_at = omega arith in rw (lt-ltb k pattern_at h, q)

pub slots-laid : (os : List ℕ) (s : List ℕ) (e : Engine) → length s ≡ state_size → Each Word os
    → ((k : ℕ) → k < state_size → one_of (k / 4 * 4) os ≡ false → get_or s k 0 ≡ byte_in e k) → with_slots s e os ≡ encoded e
slots-laid [] s e l w h = same_bytes s e l (λ k b. h k b refl)
slots-laid (o ∷ os) s e l (w, ws) h =
    slots-laid os (with_word s o (slot e o)) e (word-length s o (slot e o) ∙ l) ws (λ k b f. by-test k b f (eqb (k / 4 * 4) o) refl)
  where
    by-test : (k : ℕ) → k < state_size → one_of (k / 4 * 4) os ≡ false → (t : Bool) → eqb (k / 4 * 4) o ≡ t → get_or (with_word s o (slot e o)) k 0 ≡ byte_in e k
    by-test k b f true q =
        let z = eqb-true (k / 4 * 4) o q in
        word-own s o (slot e o) (omega arith) k z ∙ byte-of-word e o k w z
    by-test k b f false q = word-other s o (slot e o) w.0 k (eqb-false (k / 4 * 4) o q) ∙ h k b (rw q f)
