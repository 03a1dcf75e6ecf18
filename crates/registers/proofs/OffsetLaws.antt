-- Which offsets name a register, the launch area, the pattern and nothing; and what the place of an offset says of it.
-- Assumes nothing.
use Prim.Native.Nat.{ℕ, zero, suc, ◌-◌, ◌%◌, ◌≤◌, ◌<◌}
use native.Mathlib.Nat.{not-suc-le-zero, le_of_suc-le-suc, eq-or-lt_of_le}
use native.Mathlib.Omega.{arith}
use mathlib.Core.Bool.{Bool, true, false, ◌&&◌, and-eq-true_iff}
use mathlib.Core.Logic.{⊎_elim}
use mathlib.Core.Path.{◌≡◌, refl, ap, ◌∙◌, subst, subst⁻¹}
use borrow.Author.Tests.{eq-eqb, ne_eqb, le-leb, lt-leb, leb-true, eqb-true, ltb-true, ltb-false}
use lib.Dec.{eqb, leb, ltb}
use Rattle.registers.specs.declared.Place.{Place}
use Rattle.registers.specs.declared.Place.TheVariants.{Register, Pattern, Launch, Nowhere}
use Rattle.registers.specs.Kept.{one_of}
use Rattle.registers.specs.Offsets.{between, place_of}
use Rattle.registers.proofs.Arms.{either_same, Each, each_map}
use Rattle.registers.proofs.RegsLaws.{registers, NoRegister}

inside : (a e o : ℕ) → a ≤ o → o ≤ e → between a e o ≡ true
inside a e o h k = simp (le-leb a o h, le-leb o e k)

outside : (a e o : ℕ) → (a ≤ o → e < o) → between a e o ≡ false
outside a e o h = by-test (leb a o) refl
  where
    by-test : (t : Bool) → leb a o ≡ t → (t && leb o e) ≡ false
    by-test true q = lt-leb o e (h (leb-true a o q))
    by-test false q = refl

pub register-place : (o : ℕ) → o % 4 ≡ 0 → (o ≡ 0x44 → ⊥) → (o ≡ 0x48 → ⊥) → 0x08 ≤ o → o ≤ 0x70 → place_of o ≡ Register
unfolding place_of
register-place o m n n' h k = simp (eq-eqb (o % 4) 0 m, ne_eqb o 0x44 n, ne_eqb o 0x48 n', inside 0x08 0x70 o h k)

pub launch-place : (o : ℕ) → o % 4 ≡ 0 → 0x80 ≤ o → o ≤ 0xfc → place_of o ≡ Launch
unfolding place_of
launch-place o m h k =
    simp (
      eq-eqb (o % 4) 0 m,
      ne_eqb o 0x44 (λ e. omega arith),
      ne_eqb o 0x48 (λ e. omega arith),
      outside 0x08 0x70 o (λ l. omega arith),
      inside 0x80 0xfc o h k,
    )

pub pattern-place : (o : ℕ) → o % 4 ≡ 0 → 0x100 ≤ o → o ≤ 0x1fc → place_of o ≡ Pattern (o - 0x100)
unfolding place_of
pattern-place o m h k =
    simp (
      eq-eqb (o % 4) 0 m,
      ne_eqb o 0x44 (λ e. omega arith),
      ne_eqb o 0x48 (λ e. omega arith),
      outside 0x08 0x70 o (λ l. omega arith),
      outside 0x80 0xfc o (λ l. omega arith),
      inside 0x100 0x1fc o h k,
    )

-- outside the three ranges, multiple of 4 or not
pub nowhere-place : (o : ℕ) → (0x08 ≤ o → 0x70 < o) → (0x80 ≤ o → 0xfc < o) → (0x100 ≤ o → 0x1fc < o) → place_of o ≡ Nowhere
unfolding place_of
nowhere-place o f g h =
    simp (
      ne_eqb o 0x44 (λ e. let z : 0x70 < o = f (omega arith) in omega arith),
      ne_eqb o 0x48 (λ e. let z : 0x70 < o = f (omega arith) in omega arith),
      outside 0x08 0x70 o f,
      outside 0x80 0xfc o g,
      outside 0x100 0x1fc o h,
    )
    (either_same (eqb (o % 4) 0) Nowhere)

-- ---- from the place back to the offset: a test at each offset below 200 (hexadecimal), past which there is nothing

abbrev all_below : (ℕ → Bool) → ℕ → Bool
all_below f zero = true
all_below f (suc n) = f n && all_below f n

below : (f : ℕ → Bool) (n : ℕ) → all_below f n ≡ true → (k : ℕ) → k < n → f k ≡ true
below f zero t k h = absurd (not-suc-le-zero h)
below f (suc n) t k h =
    let both = (and-eq-true_iff (f n) (all_below f n)).0 t in
    ⊎_elim (λ e. subst⁻¹ (λ (x : ℕ). f x ≡ true) e both.0) (λ l. below f n both.1 k l) (eq-or-lt_of_le (le_of_suc-le-suc h))

-- a register is in the list of all of them; a word of the pattern starts at a multiple of 4 and has its four bytes
abbrev right : ℕ → Place → Bool
right o Register = one_of o registers
right o (Pattern i) = eqb (i % 4) 0 && leb i 252
right o Launch = true
right o Nowhere = true

all_right : all_below (λ o. right o (place_of o)) 0x200 ≡ true
unfolding place_of
all_right = refl

right-place : (o : ℕ) → right o (place_of o) ≡ true
right-place o = by-test (ltb o 0x200) refl
  where
    by-test : (t : Bool) → ltb o 0x200 ≡ t → right o (place_of o) ≡ true
    by-test true e = below (λ k. right k (place_of k)) 0x200 all_right o (ltb-true o 0x200 e)
    by-test false e =
        let h : 0x200 ≤ o = ltb-false o 0x200 e in
        ap (right o) (nowhere-place o (λ l. omega arith) (λ l. omega arith) (λ l. omega arith))

pub register-listed : (o : ℕ) → place_of o ≡ Register → one_of o registers ≡ true
register-listed o e = subst (λ p. right o p ≡ true) e (right-place o)

pub pattern-word : {i : ℕ} (o : ℕ) → place_of o ≡ Pattern i → (i % 4 ≡ 0) × (i ≤ 252)
pattern-word {i} o e =
    let both = (and-eq-true_iff (eqb (i % 4) 0) (leb i 252)).0 (subst (λ p. right o p ≡ true) e (right-place o)) in
    (eqb-true (i % 4) 0 both.0, leb-true i 252 both.1)

pub all-registers : Each (λ a. place_of a ≡ Register) registers
unfolding place_of
all-registers = (refl, (refl, (refl, (refl, (refl, (refl, (refl, (refl, (refl, (refl, (refl, (refl, (refl, (refl, (refl, (refl, (refl, (refl, (refl, (refl, (refl, (refl, (refl, (refl, (refl, tt)))))))))))))))))))))))))

pub no_register : (o : ℕ) → (place_of o ≡ Register → ⊥) → NoRegister o
no_register o h = each_map (λ a p. ne_eqb o a (λ e. h (ap place_of e ∙ p))) registers all-registers
