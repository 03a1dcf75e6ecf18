-- What holds for each outcome of a test, or of the tests of a command's number, holds.
-- Assumes nothing.
use mathlib.Core.Path.{◌≡◌, refl}
use mathlib.Core.Bool.{Bool, true, false, cond, ◌&&◌}
use Prim.Native.Nat.{ℕ, ◌<◌, ◌≤◌}
use native.Mathlib.Omega.{arith}
use lib.Dec.{eqb, leb, ltb}
use borrow.Author.Tests.{eqb-true, leb-true, ltb-true, ne_eqb, lt-leb, le-leb, le-ltb}
use Rattle.surface.proofs.OnLaws.{and_left, and_right}
use Rattle.acts.specs.Deed.{by_number}

pub by-test : (Q : Bool → Type 0) (t : Bool) → (t ≡ true → Q true) → (t ≡ false → Q false) → Q t
by-test Q true yes' no' = yes' refl
by-test Q false yes' no' = no' refl

pub picked : {A : Type 0} (P : A → Type 0) (t : Bool) (x y : A) → (t ≡ true → P x) → (t ≡ false → P y) → P (cond t x y)
picked P t x y = by-test (λ b. P (cond b x y)) t

-- no test of the number holds
pub record Unbuilt (n : ℕ) : Type 0 where
  pub not0 : eqb n 0 ≡ false
  pub not1 : eqb n 1 ≡ false
  pub not2 : eqb n 2 ≡ false
  pub not3 : eqb n 3 ≡ false
  pub not5 : eqb n 5 ≡ false
  pub not6 : (leb 6 n && ltb n 8) ≡ false

module _ (n : ℕ) (a : n ≡ 0 → ⊥) (b : n ≡ 1 → ⊥) (f : n ≡ 2 → ⊥) (c : n ≡ 3 → ⊥) (d : n ≡ 5 → ⊥) where
  pub unbuilt-low : n < 5 → Unbuilt n
  unbuilt-low h = record { not0 = ne_eqb n 0 a; not1 = ne_eqb n 1 b; not2 = ne_eqb n 2 f; not3 = ne_eqb n 3 c; not5 = ne_eqb n 5 d; not6 = rw (lt-leb 6 n (omega arith)) }

  pub unbuilt-high : 8 ≤ n → Unbuilt n
  unbuilt-high h = record {
    not0 = ne_eqb n 0 a;
    not1 = ne_eqb n 1 b;
    not2 = ne_eqb n 2 f;
    not3 = ne_eqb n 3 c;
    not5 = ne_eqb n 5 d;
    not6 = rw (le-leb 6 n (omega arith), le-ltb n 8 h);
  }

abbrev pub pick : {A : Type 0} → Bool → Bool → Bool → Bool → Bool → Bool → A → A → A → A → A → A → A → A
pick t0 t1 t2 t3 t5 t6 nop copy stretch host fill line other = cond t0 nop (cond t1 copy (cond t2 stretch (cond t3 host (cond t5 fill (cond t6 line other)))))

pub by_tests : (Q : Bool → Bool → Bool → Bool → Bool → Bool → Type 0) (n : ℕ)
    → (n ≡ 0 → Q true (eqb n 1) (eqb n 2) (eqb n 3) (eqb n 5) (leb 6 n && ltb n 8))
    → (n ≡ 1 → Q false true (eqb n 2) (eqb n 3) (eqb n 5) (leb 6 n && ltb n 8))
    → (n ≡ 2 → Q false false true (eqb n 3) (eqb n 5) (leb 6 n && ltb n 8))
    → (n ≡ 3 → Q false false false true (eqb n 5) (leb 6 n && ltb n 8))
    → (n ≡ 5 → Q false false false false true (leb 6 n && ltb n 8))
    → (6 ≤ n → n < 8 → Q false false false false false true)
    → (Unbuilt n → Q false false false false false false)
    → Q (eqb n 0) (eqb n 1) (eqb n 2) (eqb n 3) (eqb n 5) (leb 6 n && ltb n 8)
by_tests Q n nop copy stretch host fill line other =
    by-test (λ t. Q t (eqb n 1) (eqb n 2) (eqb n 3) (eqb n 5) (leb 6 n && ltb n 8)) (eqb n 0) (λ t. nop (eqb-true n 0 t))
    (λ t0. by-test (λ t. Q false t (eqb n 2) (eqb n 3) (eqb n 5) (leb 6 n && ltb n 8)) (eqb n 1) (λ t. copy (eqb-true n 1 t))
    (λ t1. by-test (λ t. Q false false t (eqb n 3) (eqb n 5) (leb 6 n && ltb n 8)) (eqb n 2) (λ t. stretch (eqb-true n 2 t))
    (λ t2. by-test (λ t. Q false false false t (eqb n 5) (leb 6 n && ltb n 8)) (eqb n 3) (λ t. host (eqb-true n 3 t))
    (λ t3. by-test (λ t. Q false false false false t (leb 6 n && ltb n 8)) (eqb n 5) (λ t. fill (eqb-true n 5 t))
    (λ t5. by-test (λ t. Q false false false false false t) (leb 6 n && ltb n 8)
    (λ t. line (leb-true 6 n (and_left (leb 6 n) (ltb n 8) t)) (ltb-true n 8 (and_right (leb 6 n) (ltb n 8) t)))
    (λ t6. other (record { not0 = t0; not1 = t1; not2 = t2; not3 = t3; not5 = t5; not6 = t6 })))))))

pub by-number : {A : Type 0} (P : A → Type 0) (n : ℕ) (nop copy stretch host fill line other : A) → (n ≡ 0 → P nop) → (n ≡ 1 → P copy) → (n ≡ 2 → P stretch)
    → (n ≡ 3 → P host) → (n ≡ 5 → P fill) → (6 ≤ n → n < 8 → P line) → (Unbuilt n → P other) → P (by_number n nop copy stretch host fill line other)
by-number P n nop copy stretch host fill line other =
    by_tests (λ t0 t1 t2 t3 t5 t6. P (pick t0 t1 t2 t3 t5 t6 nop copy stretch host fill line other)) n
