-- Laws of marks as bits: each by its number, what setting and clearing leave, and the bytes that marks make. A byte is a number below 256.
-- Assumes nothing.
use mathlib.Core.Path.{◌≡◌, refl, sym, ap, ◌∙◌}
use mathlib.Core.Logic.{◌⊎◌, inl, inr, ⊎_elim}
use mathlib.Core.Bool.{Bool, true, false, cond, ◌||◌}
use mathlib.Core.List.{List, [], ◌∷◌, Memᴰ}
use Prim.Native.Nat.{ℕ, zero, suc, ◌+◌, ◌*◌, ◌/◌, ◌%◌, ◌^◌, ◌<◌, ◌≤◌}
use native.Mathlib.Nat.{not-suc-le-zero, le_of_suc-le-suc, add-zero, zero-div}
use native.Mathlib.Decide.{ℕ_discrete, dec_lt}
use native.Mathlib.Omega.{arith}
use lib.Dec.{eqb}
use lib.ListN.{length, get_or, set, replicate, length-set, length-replicate, get_or-replicate}
use lib.Seq.{get_or-set_same, get_or-set_other, ext_get_or}
use borrow.Author.Tests.{eqb-false, eq-eqb}
use Rattle.surface.specs.Place.{one}
use Rattle.surface.proofs.Lists.{by_cases}
use Rattle.surface.proofs.OnLaws.{one-most}
use Rattle.pages.specs.Pages.{page_of, no_marks, marked_at}
use Rattle.pages.specs.Extent.{starts}
use Rattle.pages.proofs.MarkLaws.{either, InPage, marked-length, marked-only, marking-adds}
use Rattle.bitmap.specs.Bits.{bit_of, bit_at, bits_from, bits_in, part_of, byte_of, with_bit, with_bits, with_marks, cleared}
use Rattle.bitmap.proofs.ByteLaws.{set_own, set_other, set-fits, sum, sum_of, sum_fits, sum-bit, one_of, of_one, part-one}

-- every number of a list is a byte
abbrev pub Bytes : List ℕ → Type 0
Bytes s = (a : ℕ) → get_or s a 0 < 256

set-bytes : (s : List ℕ) (i v : ℕ) → v < 256 → Bytes s → Bytes (set s i v)
set-bytes [] i v h b a = b a
set-bytes (x ∷ s) zero v h b zero = h
set-bytes (x ∷ s) zero v h b (suc a) = b (suc a)
set-bytes (x ∷ s) (suc i) v h b zero = b zero
set-bytes (x ∷ s) (suc i) v h b (suc a) = set-bytes s i v h (λ c. b (suc c)) a

-- ---- each mark by its number
module _ (s : List ℕ) (at : ℕ) where
  from-length : (k n : ℕ) → length (bits_from s at k n) ≡ n
  unfolding bits_from
  from-length k zero = refl
  from-length k (suc n) = ap suc (from-length (k + 1) n)

  from_at : (k n i : ℕ) → i < n → get_or (bits_from s at k n) i false ≡ bit_at s at (k + i)
  unfolding bits_from
  from_at k zero i h = absurd (not-suc-le-zero h)
  from_at k (suc n) zero h = ap (bit_at s at) (sym (add-zero k))
  from_at k (suc n) (suc i) h =
      let e : k + 1 + i ≡ k + suc i = omega arith in
      from_at (k + 1) n i (le_of_suc-le-suc h) ∙ ap (bit_at s at) e

  -- there is one for each page
  pub bits-length : length (bits_in s at) ≡ 4096
  unfolding bits_in
  bits-length = from-length 0 4096

  -- mark k is bit k
  pub bits_at : (k : ℕ) → k < 4096 → get_or (bits_in s at) k false ≡ bit_at s at k
  unfolding bits_in
  bits_at k h = let e : 0 + k ≡ k = omega arith in from_at 0 4096 k h ∙ ap (bit_at s at) e

-- marks that are bit by bit those of the bytes are all of them
pub same_bits : (s : List ℕ) (at : ℕ) (marks : List Bool) → length marks ≡ 4096 → ((k : ℕ) → k < 4096 → bit_at s at k ≡ get_or marks k false) → bits_in s at ≡ marks
same_bits s at marks l h =
    ext_get_or false (bits_in s at) marks (bits-length s at ∙ sym l)
    (λ k b. let c : k < 4096 = omega (arith, bits-length s at) in bits_at s at k c ∙ h k c)

-- ---- one bit set: it is set, the others are as they were, and so are the other bytes
module _ (s : List ℕ) (at k : ℕ) where
  abbrev byte : ℕ
  byte = get_or s (at + k / 8) 0

  abbrev added : List ℕ
  added = set s (at + k / 8) (byte + 2 ^ (k % 8))

  pub bit-stays : bit_at s at k ≡ true → with_bit s at k ≡ s
  unfolding with_bit
  bit-stays e = rw e

  pub bit_added : bit_at s at k ≡ false → with_bit s at k ≡ added
  unfolding with_bit
  bit_added e = rw e

  clear-bit : bit_at s at k ≡ false → byte / 2 ^ (k % 8) % 2 ≡ 0
  unfolding bit_at
  clear-bit e = let h = eqb-false (byte / 2 ^ (k % 8) % 2) 1 e in omega arith

  added-own : at + k / 8 < length s → bit_at s at k ≡ false → bit_at added at k ≡ true
  unfolding bit_at
  added-own h e = rw (get_or-set_same s (at + k / 8) (byte + 2 ^ (k % 8)) 0 h) (eq-eqb _ 1 (set_own byte (k % 8) (clear-bit e)))

  added-other : at + k / 8 < length s → bit_at s at k ≡ false → (i : ℕ) → (i ≡ k → ⊥) → bit_at added at i ≡ bit_at s at i
  unfolding bit_at
  added-other h e i n =
      by_cases (ℕ_discrete (i / 8) (k / 8))
      (λ q.
      rw (q, get_or-set_same s (at + k / 8) (byte + 2 ^ (k % 8)) 0 h)
      (ap (λ (b : ℕ). eqb b 1) (set_other byte (k % 8) (clear-bit e) (i % 8) (λ r. n (omega arith)))))
      (λ q. rw (get_or-set_other s (at + k / 8) (at + i / 8) (byte + 2 ^ (k % 8)) 0 (λ r. q (omega arith))))

  bit-own : at + k / 8 < length s → bit_at (with_bit s at k) at k ≡ true
  bit-own h = either (bit_at s at k) (λ e. rw (bit-stays e) e) (λ e. rw (bit_added e) (added-own h e))

  bit-other : at + k / 8 < length s → (i : ℕ) → (i ≡ k → ⊥) → bit_at (with_bit s at k) at i ≡ bit_at s at i
  bit-other h i n = either (bit_at s at k) (λ e. rw (bit-stays e)) (λ e. rw (bit_added e) (added-other h e i n))

  pub bit_length : length (with_bit s at k) ≡ length s
  bit_length = either (bit_at s at k) (λ e. rw (bit-stays e)) (λ e. rw (bit_added e, length-set))

  bit-leaves : (a : ℕ) → (a ≡ at + k / 8 → ⊥) → get_or (with_bit s at k) a 0 ≡ get_or s a 0
  bit-leaves a n =
      either (bit_at s at k) (λ e. rw (bit-stays e)) (λ e. rw (bit_added e) (get_or-set_other s (at + k / 8) a (byte + 2 ^ (k % 8)) 0 n))

  bit-bytes : Bytes s → Bytes (with_bit s at k)
  bit-bytes h =
      either (bit_at s at k) (λ e. rw (bit-stays e) h)
      (λ e. rw (bit_added e) (set-bytes s (at + k / 8) (byte + 2 ^ (k % 8)) (set-fits byte (h (at + k / 8)) (k % 8) (omega arith) (clear-bit e)) h))

-- ---- what no change of bits touches: the length, each byte outside the 512, and that bytes are bytes
pub record Others (s t : List ℕ) (at : ℕ) : Type 0 where
  pub long : length t ≡ length s
  pub same : (a : ℕ) → (a < at) ⊎ (at + 512 ≤ a) → get_or t a 0 ≡ get_or s a 0
  pub bytes : Bytes s → Bytes t

others-none : (s : List ℕ) (at : ℕ) → Others s s at
others-none s at = record { long = refl; same = λ a h. refl; bytes = λ h. h }

others-more : {s t r : List ℕ} {at : ℕ} → Others s t at → Others t r at → Others s r at
others-more o p = record { long = p.long ∙ o.long; same = λ a h. p.same a h ∙ o.same a h; bytes = λ h. p.bytes (o.bytes h) }

not_there : (at a i : ℕ) → i < 512 → (a < at) ⊎ (at + 512 ≤ a) → a ≡ at + i → ⊥
not_there at a i h o e = ⊎_elim (λ l. omega arith) (λ l. omega arith) o

bit-others : (s : List ℕ) (at k : ℕ) → k < 4096 → Others s (with_bit s at k) at
bit-others s at k h =
    record {
      long = bit_length s at k;
      same = λ a o. bit-leaves s at k a (not_there at a (k / 8) (omega arith) o);
      bytes = bit-bytes s at k;
    }

-- bits set
pub bits-others : (s : List ℕ) (at k n : ℕ) → k + n ≤ 4096 → Others s (with_bits s at k n) at
unfolding with_bits
bits-others s at k zero h = others-none s at
bits-others s at k (suc n) h = others-more (bit-others s at k (omega arith)) (bits-others (with_bit s at k) at (k + 1) n (omega arith))

or-true : (t : Bool) → (t || true) ≡ true
or-true true = refl
or-true false = refl

or-false : (t : Bool) → (t || false) ≡ t
or-false true = refl
or-false false = refl

-- a bit set where its mark is
module _ (s : List ℕ) (at : ℕ) (marks : List Bool) (k : ℕ) where
  abbrev marked : List ℕ
  marked = cond (get_or marks k false) (with_bit s at k) s

  mark-own : at + k / 8 < length s → bit_at marked at k ≡ (bit_at s at k || get_or marks k false)
  mark-own h = either (get_or marks k false) (λ e. rw e (bit-own s at k h ∙ sym (or-true (bit_at s at k)))) (λ e. rw e (sym (or-false (bit_at s at k))))

  mark-other : at + k / 8 < length s → (i : ℕ) → (i ≡ k → ⊥) → bit_at marked at i ≡ bit_at s at i
  mark-other h i n = either (get_or marks k false) (λ e. rw e (bit-other s at k h i n)) (λ e. rw e)

  mark-others : k < 4096 → Others s marked at
  mark-others h = either (get_or marks k false) (λ e. rw e (bit-others s at k h)) (λ e. rw e (others-none s at))

-- marks added
pub marks-others : (s : List ℕ) (at : ℕ) (marks : List Bool) (k n : ℕ) → k + n ≤ 4096 → Others s (with_marks s at marks k n) at
unfolding with_marks
marks-others s at marks k zero h = others-none s at
marks-others s at marks k (suc n) h =
    others-more (mark-others s at marks k (omega arith)) (marks-others (marked s at marks k) at marks (k + 1) n (omega arith))

clears-others : (s : List ℕ) (at i n : ℕ) → i + n ≤ 512 → Others s (cleared s (at + i) n) at
unfolding cleared
clears-others s at i zero h = others-none s at
clears-others s at i (suc n) h =
    let e : at + i + 1 ≡ at + (i + 1) = omega arith in
    others-more {t = set s (at + i) 0}
    (record {
      long = length-set s (at + i) 0;
      same = λ a o. get_or-set_other s (at + i) a 0 0 (not_there at a i (omega arith) o);
      bytes = set-bytes s (at + i) 0 (omega arith);
    })
    (rw e (clears-others (set s (at + i) 0) at (i + 1) n (omega arith)))

-- all bits cleared
pub cleared-others : (s : List ℕ) (at : ℕ) → Others s (cleared s at 512) at
cleared-others s at = rw (add-zero at) at (clears-others s at 0 512 (omega arith))

-- ---- bits set one after the other are the marks of those pages set
bits-set : (s : List ℕ) (at k : ℕ) → at + 512 ≤ length s → k < 4096 → bits_in (with_bit s at k) at ≡ set (bits_in s at) k true
bits-set s at k h l =
    same_bits (with_bit s at k) at (set (bits_in s at) k true) (length-set (bits_in s at) k true ∙ bits-length s at)
    (λ i b.
    by_cases (ℕ_discrete i k)
    (λ e. rw e (bit-own s at k (omega arith) ∙ sym (get_or-set_same (bits_in s at) k true false (rw (bits-length s at) l))))
    (λ e. bit-other s at k (omega arith) i e ∙ sym (get_or-set_other (bits_in s at) k i true false e ∙ bits_at s at i b)))

pub with-bits : (s : List ℕ) (at first n : ℕ) → at + 512 ≤ length s → first + n ≤ 4096 → bits_in (with_bits s at first n) at ≡ marked_at (starts first n) (bits_in s at)
unfolding with_bits marked_at starts
with-bits s at first zero h l = refl
with-bits s at first (suc n) h l =
    let e : first * 4096 / 4096 ≡ first = omega arith in
    with-bits (with_bit s at first) at (first + 1) n (omega (arith, bit_length s at first)) (omega arith)
    ∙ ap (marked_at (starts (first + 1) n)) (bits-set s at first h (omega arith) ∙ ap (λ (k : ℕ). set (bits_in s at) k true) (sym e))

-- ---- marks added to the bits of n pages from number `first` on
module _ (at : ℕ) (marks : List Bool) where
  outside : (s : List ℕ) (first n k : ℕ) → at + 512 ≤ length s → first + n ≤ 4096 → (k < first) ⊎ (first + n ≤ k)
      → bit_at (with_marks s at marks first n) at k ≡ bit_at s at k
  unfolding with_marks
  outside s first zero k h l o = refl
  outside s first (suc n) k h l o =
      let m = marked s at marks first in
      outside m (first + 1) n k (omega (arith, (mark-others s at marks first (omega arith)).long)) (omega arith)
      (⊎_elim (λ p. inl (omega arith)) (λ p. inr (omega arith)) o)
      ∙ mark-other s at marks first (omega arith) k (λ e. ⊎_elim (λ p. omega arith) (λ p. omega arith) o)

  inside : (s : List ℕ) (first n k : ℕ) → at + 512 ≤ length s → first + n ≤ 4096 → first ≤ k → k < first + n
      → bit_at (with_marks s at marks first n) at k ≡ (bit_at s at k || get_or marks k false)
  unfolding with_marks
  inside s first zero k h l p q = absurd (omega arith)
  inside s first (suc n) k h l p q =
      let m = marked s at marks first in
      let long : at + 512 ≤ length m = omega (arith, (mark-others s at marks first (omega arith)).long) in
      by_cases (ℕ_discrete k first)
      (λ e. outside m (first + 1) n k long (omega arith) (inl (omega arith)) ∙ rw e (mark-own s at marks first (omega arith)))
      (λ e.
      inside m (first + 1) n k long (omega arith) (omega arith) (omega arith)
      ∙ ap (λ (t : Bool). t || get_or marks k false) (mark-other s at marks first (omega arith) k e))

module _ (s : List ℕ) (at : ℕ) (marks : List Bool) (first n : ℕ) (h : at + 512 ≤ length s) (l : first + n ≤ 4096) where
  abbrev new : List Bool
  new = bits_in (with_marks s at marks first n) at

  -- a bit of these pages is set where it was set or its mark is
  pub with-marks-in : (k : ℕ) → first ≤ k → k < first + n → get_or new k false ≡ (get_or (bits_in s at) k false || get_or marks k false)
  with-marks-in k p q =
      let b : k < 4096 = omega arith in
      bits_at (with_marks s at marks first n) at k b
      ∙ (inside at marks s first n k h l p q ∙ ap (λ (t : Bool). t || get_or marks k false) (sym (bits_at s at k b)))

  -- a bit of another page is as it was
  pub with-marks-out : (k : ℕ) → k < 4096 → (k < first) ⊎ (first + n ≤ k) → get_or new k false ≡ get_or (bits_in s at) k false
  with-marks-out k b o = bits_at (with_marks s at marks first n) at k b ∙ (outside at marks s first n k h l o ∙ sym (bits_at s at k b))

-- clear marks
clear-length : length no_marks ≡ 4096
unfolding no_marks
clear-length = length-replicate {A = Bool} 4096 false

clear-mark : (k : ℕ) → k < 4096 → get_or no_marks k false ≡ false
unfolding no_marks
clear-mark k h = get_or-replicate 4096 k false false h

clear-marks : (n : ℕ) → n ≡ 4096 → replicate n false ≡ no_marks
unfolding no_marks
clear-marks n e = ap (λ (m : ℕ). replicate m false) e

-- marks made of addresses that are all in these pages, added: the pages of the addresses are marked
pub with-marks-added : (s : List ℕ) (at : ℕ) (marks : List Bool) (first n : ℕ) (l : List ℕ) → at + 512 ≤ length s → first + n ≤ 4096 → marks ≡ marked_at l no_marks
    → ((a : ℕ) → Memᴰ a l → (first ≤ page_of a) × (page_of a < first + n)) → bits_in (with_marks s at marks first n) at ≡ marked_at l (bits_in s at)
with-marks-added s at marks first n l h b e f =
    ap (λ (m : List Bool). bits_in (with_marks s at m first n) at) e
    ∙ same_bits (with_marks s at (marked_at l no_marks) first n) at (marked_at l (bits_in s at)) (marked-length l (bits_in s at) ∙ bits-length s at)
    (λ k c.
    sym (bits_at (with_marks s at (marked_at l no_marks) first n) at k c)
    ∙ (by_cases (dec_lt k first) (λ p. away k c (inl p))
    (λ p. by_cases (dec_lt k (first + n)) (λ q. with-marks-in s at (marked_at l no_marks) first n h b k (omega arith) q) (λ q. away k c (inr (omega arith))))
    ∙ sym (all k c)))
  where
    all : (k : ℕ) → k < 4096 → get_or (marked_at l (bits_in s at)) k false ≡ (get_or (bits_in s at) k false || get_or (marked_at l no_marks) k false)
    all k c =
        marking-adds l (bits_in s at) k (omega (arith, bits-length s at))
        ∙ ap (λ (m : List Bool). get_or (bits_in s at) k false || get_or (marked_at l m) k false) (clear-marks (length (bits_in s at)) (bits-length s at))

    apart : (k : ℕ) → (k < first) ⊎ (first + n ≤ k) → InPage l k → ⊥
    apart k o i = let r = f i.a i.one in ⊎_elim (λ p. omega (arith, i.page)) (λ p. omega (arith, i.page)) o

    unmarked : (k : ℕ) → k < 4096 → (k < first) ⊎ (first + n ≤ k) → get_or (marked_at l no_marks) k false ≡ false
    unmarked k c o =
        either (get_or (marked_at l no_marks) k false)
        (λ e. ⊎_elim (λ g. e ∙ (sym g ∙ clear-mark k c)) (λ i. absurd (apart k o i)) (marked-only l no_marks k e)) (λ e. e)

    away : (k : ℕ) → k < 4096 → (k < first) ⊎ (first + n ≤ k)
        → get_or (bits_in (with_marks s at (marked_at l no_marks) first n) at) k false ≡ (get_or (bits_in s at) k false || get_or (marked_at l no_marks) k false)
    away k c o = with-marks-out s at (marked_at l no_marks) first n h b k c o ∙ rw (unmarked k c o) (sym (or-false (get_or (bits_in s at) k false)))

-- ---- cleared bytes hold clear marks
clear-leaves : (s : List ℕ) (i n a : ℕ) → a < i → get_or (cleared s i n) a 0 ≡ get_or s a 0
unfolding cleared
clear-leaves s i zero a h = refl
clear-leaves s i (suc n) a h = clear-leaves (set s i 0) (i + 1) n a (omega arith) ∙ get_or-set_other s i a 0 0 (λ e. omega arith)

clear-byte : (s : List ℕ) (i n a : ℕ) → i + n ≤ length s → i ≤ a → a < i + n → get_or (cleared s i n) a 0 ≡ 0
unfolding cleared
clear-byte s i zero a h p q = absurd (omega arith)
clear-byte s i (suc n) a h p q =
    by_cases (ℕ_discrete a i) (λ e. clear-leaves (set s i 0) (i + 1) n a (omega arith) ∙ rw e (get_or-set_same s i 0 0 (omega arith)))
    (λ e. clear-byte (set s i 0) (i + 1) n a (omega (arith, length-set s i 0)) (omega arith) (omega arith))

clear-bit-at : (s : List ℕ) (at k : ℕ) → get_or s (at + k / 8) 0 ≡ 0 → bit_at s at k ≡ false
unfolding bit_at
clear-bit-at s at k e = rw (e, zero-div (2 ^ (k % 8)))

pub cleared-bits : (s : List ℕ) (at : ℕ) → at + 512 ≤ length s → bits_in (cleared s at 512) at ≡ no_marks
cleared-bits s at h =
    same_bits (cleared s at 512) at no_marks clear-length
    (λ k b.
    clear-bit-at (cleared s at 512) at k (clear-byte s at 512 (at + k / 8) h (omega arith) (omega arith))
    ∙ sym (clear-mark k b))

-- ---- the bytes of marks
-- one as the sum of its bits
module _ (marks : List Bool) (j : ℕ) (f : ℕ → ℕ) where
  byte-sum : ((i : ℕ) → i < 8 → one (get_or marks (8 * j + i) false) ≡ f i) → byte_of marks j ≡ sum f
  unfolding byte_of
  byte-sum e =
      let e0 = part 0 (omega arith) in
      let e1 = part 1 (omega arith) in
      let e2 = part 2 (omega arith) in
      let e3 = part 3 (omega arith) in
      let e4 = part 4 (omega arith) in
      let e5 = part 5 (omega arith) in
      let e6 = part 6 (omega arith) in
      let e7 = part 7 (omega arith) in
      omega arith
    where
      part : (i : ℕ) → i < 8 → part_of marks j i ≡ f i * 2 ^ i
      part i h = part-one (get_or marks (8 * j + i) false) (2 ^ i) ∙ ap (λ (n : ℕ). n * 2 ^ i) (e i h)

-- it is a byte
pub byte_fits : (marks : List Bool) (j : ℕ) → byte_of marks j < 256
byte_fits marks j =
    let f : ℕ → ℕ = λ i. one (get_or marks (8 * j + i) false) in
    rw (byte-sum marks j f (λ i h. refl)) (sum_fits f (λ i. one-most (get_or marks (8 * j + i) false)))

-- its bits are its marks
pub byte-bit : (marks : List Bool) (k : ℕ) → bit_of (byte_of marks (k / 8)) (k % 8) ≡ get_or marks k false
byte-bit marks k =
    let j = k / 8 in
    let f : ℕ → ℕ = λ i. one (get_or marks (8 * j + i) false) in
    let e : 8 * j + k % 8 ≡ k = omega arith in
    ap (λ (b : ℕ). bit_of b (k % 8)) (byte-sum marks j f (λ i h. refl))
    ∙ (ap (λ (b : ℕ). eqb b 1) (sum-bit f (λ i. one-most (get_or marks (8 * j + i) false)) (k % 8) (omega arith))
    ∙ (of_one (get_or marks (8 * j + k % 8) false) ∙ ap (λ (i : ℕ). get_or marks i false) e))

byte_one : (s : List ℕ) (at j i : ℕ) → j < 512 → i < 8 → one (get_or (bits_in s at) (8 * j + i) false) ≡ get_or s (at + j) 0 / 2 ^ i % 2
unfolding bit_at
byte_one s at j i h l =
    let p : (8 * j + i) / 8 ≡ j = omega arith in
    let q : (8 * j + i) % 8 ≡ i = omega arith in
    let b = bits_at s at (8 * j + i) (omega arith) in
    ap one (rw (p, q) at b) ∙ one_of (get_or s (at + j) 0 / 2 ^ i % 2) (omega arith)

-- and a byte is made of the marks that it holds
pub byte-back : (s : List ℕ) (at j : ℕ) → Bytes s → j < 512 → get_or s (at + j) 0 ≡ byte_of (bits_in s at) j
byte-back s at j h l =
    sum_of (get_or s (at + j) 0) (h (at + j)) ∙ sym (byte-sum (bits_in s at) j (λ i. get_or s (at + j) 0 / 2 ^ i % 2) (λ i. byte_one s at j i l))
