-- What is left of a packet: the offsets that its header says, one fewer after each word.
-- Assumes nothing.
use Rattle.std.proofs.Common.{◌≡◌, ℕ, zero, suc, ◌+◌, ◌-◌, ◌*◌, ◌/◌, ◌%◌, ◌^◌, ◌<◌, Bool, true, false, cond, eqb, ltb, List, [], ◌∷◌, sym, refl, ap, ◌∙◌, mod-eq_of_lt, suc-mul, pow-suc, arith, ltb-false, le-ltb, eq-eqb, ne_eqb, eqb-true}
use Rattle.packets.specs.declared.Rest.{Rest}
use Rattle.packets.specs.declared.Rest.TheVariants.{Empty, Counted, Masked}
use Rattle.packets.specs.Header.{kind, word_count, first_offset, consecutive, mask, marked, stepped_from, masked_from, offsets_of}
use Rattle.packets.specs.Reader.{counted, skipped, opened, advanced}

-- ---- the offsets that are left, kept in 32 bits as the code does
unfoldable pub stepped_left : ℕ → ℕ → ℕ → List ℕ
stepped_left zero o step = []
stepped_left (suc n) o step = o ∷ stepped_left n ((o + step) % 2 ^ 32) step

unfoldable pub masked_left : ℕ → ℕ → ℕ → List ℕ
masked_left zero o bits = []
masked_left (suc k) o bits = marked (eqb (bits % 2) 1) o (masked_left k ((o + 4) % 2 ^ 32) (bits / 2))

abbrev pub offsets_left : Rest → List ℕ
offsets_left Empty = []
offsets_left (Counted o step n) = stepped_left n o step
offsets_left (Masked o bits) = masked_left 32 o bits

-- ---- a mask below 2 ^ k has no bits from k on
pub masked-none : (k o : ℕ) → masked_left k o 0 ≡ []
unfolding masked_left
masked-none zero o = refl
masked-none (suc k) o = masked-none k ((o + 4) % 2 ^ 32)

halved : (k bits : ℕ) → bits < 2 ^ suc k → bits / 2 < 2 ^ k
halved k bits h = omega (arith, pow-suc 2 k)

masked-fuel : (k o bits : ℕ) → bits < 2 ^ k → masked_left (suc k) o bits ≡ masked_left k o bits
unfolding masked_left
masked-fuel zero o bits h = let z : bits ≡ 0 = omega arith in rw z
masked-fuel (suc k) o bits h = ap (marked (eqb (bits % 2) 1) o) (masked-fuel k ((o + 4) % 2 ^ 32) (bits / 2) (halved k bits h))

-- ---- the zeros that are passed over give no offsets
zero_bit : (o bits : ℕ) → bits < 2 ^ 32 → eqb (bits % 2) 1 ≡ false → masked_left 32 ((o + 4) % 2 ^ 32) (bits / 2) ≡ masked_left 32 o bits
unfolding masked_left
zero_bit o bits f e = masked-fuel 31 ((o + 4) % 2 ^ 32) (bits / 2) (omega arith) ∙ rw e

one_bit : (o bits : ℕ) → bits < 2 ^ 32 → bits % 2 ≡ 1 → masked_left 32 o bits ≡ o ∷ masked_left 32 ((o + 4) % 2 ^ 32) (bits / 2)
unfolding masked_left
one_bit o bits f e = rw (eq-eqb (bits % 2) 1 e) (ap (λ (l : List ℕ). o ∷ l) (sym (masked-fuel 31 ((o + 4) % 2 ^ 32) (bits / 2) (omega arith))))

skip-left : (k o bits : ℕ) → bits < 2 ^ 32 → bits < 2 ^ k → offsets_left (skipped k o bits) ≡ masked_left 32 o bits
unfolding skipped
skip-left zero o bits f h = let z : bits ≡ 0 = omega arith in rw z (sym (masked-none 32 o))
skip-left (suc k) o bits f h = by-test (eqb (bits % 2) 1) refl (skip-left k ((o + 4) % 2 ^ 32) (bits / 2) (omega arith) (halved k bits h))
  where
    by-test : (t : Bool) → eqb (bits % 2) 1 ≡ t → offsets_left (skipped k ((o + 4) % 2 ^ 32) (bits / 2)) ≡ masked_left 32 ((o + 4) % 2 ^ 32) (bits / 2)
        → offsets_left (cond t (Masked o bits) (skipped k ((o + 4) % 2 ^ 32) (bits / 2))) ≡ masked_left 32 o bits
    by-test true e g = refl
    by-test false e g = g ∙ zero_bit o bits f e

-- ---- a packet that goes on: words are left, or a mask whose lowest bit is the next word's
pub data Going : Rest → Type 0 where
  counting : {o step n : ℕ} → 0 < n → Going (Counted o step n)
  masking : {o bits : ℕ} → bits < 2 ^ 32 → bits % 2 ≡ 1 → Going (Masked o bits)

pub data Live : Rest → Type 0 where
  over : Live Empty
  going : {rest : Rest} → Going rest → Live rest

abbrev pub next_offset : Rest → ℕ
next_offset Empty = 0
next_offset (Counted o step n) = o
next_offset (Masked o bits) = o

skip-live : (k o bits : ℕ) → bits < 2 ^ 32 → Live (skipped k o bits)
unfolding skipped
skip-live zero o bits f = over
skip-live (suc k) o bits f = by-test (eqb (bits % 2) 1) refl (skip-live k ((o + 4) % 2 ^ 32) (bits / 2) (omega arith))
  where
    by-test : (t : Bool) → eqb (bits % 2) 1 ≡ t → Live (skipped k ((o + 4) % 2 ^ 32) (bits / 2))
        → Live (cond t (Masked o bits) (skipped k ((o + 4) % 2 ^ 32) (bits / 2)))
    by-test true e g = going (masking f (eqb-true (bits % 2) 1 e))
    by-test false e g = g

-- after a word it goes on or is over, and what was left is the word's offset and what is left now
pub going-live : {rest : Rest} → Going rest → Live (advanced rest)
unfolding advanced
going-live (counting {o} {step} {n} h) = by-test (ltb n 2) refl
  where
    by-test : (t : Bool) → ltb n 2 ≡ t → Live (cond t Empty (Counted ((o + step) % 2 ^ 32) step (n - 1)))
    by-test true e = over
    by-test false e = going (counting {n = n - 1} (omega (arith, ltb-false n 2 e)))
going-live (masking {o} {bits} f e) = skip-live 32 ((o + 4) % 2 ^ 32) (bits / 2) (omega arith)

counted-left : (o step n : ℕ) → stepped_left (suc n) o step ≡ o ∷ offsets_left (cond (ltb (suc n) 2) Empty (Counted ((o + step) % 2 ^ 32) step (suc n - 1)))
unfolding stepped_left
counted-left o step zero = refl
counted-left o step (suc n) = rw (le-ltb (suc (suc n)) 2 (omega arith)) (let f : suc (suc n) - 1 ≡ suc n = omega arith in rw f)

pub going-left : {rest : Rest} → Going rest → offsets_left rest ≡ next_offset rest ∷ offsets_left (advanced rest)
unfolding advanced
going-left (counting {n = zero} h) = absurd (omega arith)
going-left (counting {o = o} {step = step} {n = suc n} h) = counted-left o step n
going-left (masking {o} {bits} f e) =
    one_bit o bits f e ∙ ap (λ (l : List ℕ). o ∷ l) (sym (skip-left 32 ((o + 4) % 2 ^ 32) (bits / 2) (omega arith) (omega arith)))

-- ---- an opened packet
counted-live : (o step n : ℕ) → Live (counted o step n)
unfolding counted
counted-live o step zero = over
counted-live o step (suc n) = rw (ne_eqb (suc n) 0 (λ e. omega arith)) (going (counting {n = suc n} (omega arith)))

pub opened-live : (h : ℕ) → h < 2 ^ 32 → Live (opened h)
unfolding opened
opened-live h f = by-test (eqb (kind h) 2)
  where
    by-test : (t : Bool) → Live (cond t (skipped 32 8 (mask h)) (counted (first_offset h) (cond (consecutive h) 4 0) (word_count h)))
    by-test true = skip-live 32 8 (mask h) (omega arith)
    by-test false = counted-live (first_offset h) (cond (consecutive h) 4 0) (word_count h)

-- ---- from a header no offset passes 32 bits
masked_plain : (k o bits : ℕ) → o + 4 * k < 2 ^ 32 → masked_left k o bits ≡ masked_from k o bits
unfolding masked_left masked_from
masked_plain zero o bits h = refl
masked_plain (suc k) o bits h =
    rw (mod-eq_of_lt {n = o + 4} {m = 2 ^ 32} (omega arith)) (ap (marked (eqb (bits % 2) 1) o) (masked_plain k (o + 4) (bits / 2) (omega arith)))

stepped-plain : (n o step : ℕ) → o + n * step < 2 ^ 32 → stepped_left n o step ≡ stepped_from n o step
unfolding stepped_left stepped_from
stepped-plain zero o step h = refl
stepped-plain (suc n) o step h =
    let more : suc n * step ≡ n * step + step = suc-mul n step in
    rw (mod-eq_of_lt {n = o + step} {m = 2 ^ 32} (omega arith)) (ap (λ (l : List ℕ). o ∷ l) (stepped-plain n (o + step) step (omega arith)))

counted-offsets : (o step n : ℕ) → offsets_left (counted o step n) ≡ stepped_left n o step
unfolding counted stepped_left
counted-offsets o step zero = refl
counted-offsets o step (suc n) = rw (ne_eqb (suc n) 0 (λ e. omega arith))

pub rest-offsets : (h : ℕ) → h < 2 ^ 32 → offsets_left (opened h) ≡ offsets_of h
unfolding opened offsets_of
rest-offsets h f = by-test (eqb (kind h) 2) (consecutive h)
  where
    all : masked_left 32 8 (mask h) ≡ masked_from 29 8 (mask h)
    all =
        masked-fuel 31 8 (mask h) (omega arith) ∙ masked-fuel 30 8 (mask h) (omega arith) ∙ masked-fuel 29 8 (mask h) (omega arith)
        ∙ masked_plain 29 8 (mask h) (omega arith)

    words : (step : ℕ) → first_offset h + word_count h * step < 2 ^ 32
        → offsets_left (counted (first_offset h) step (word_count h)) ≡ stepped_from (word_count h) (first_offset h) step
    words step g = counted-offsets (first_offset h) step (word_count h) ∙ stepped-plain (word_count h) (first_offset h) step g

    by-test : (t u : Bool)
        → offsets_left (cond t (skipped 32 8 (mask h)) (counted (first_offset h) (cond u 4 0) (word_count h)))
        ≡ cond t (masked_from 29 8 (mask h)) (stepped_from (word_count h) (first_offset h) (cond u 4 0))
    by-test true u = skip-left 32 8 (mask h) (omega arith) (omega arith) ∙ all
    by-test false true = words 4 (omega arith)
    by-test false false = words 0 (omega arith)
