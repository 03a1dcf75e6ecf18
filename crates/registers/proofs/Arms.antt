-- What holds whichever way a test goes, what holds at each number of a list, and what the arms of a `match` on numbers say.
-- Assumes nothing.
use Prim.Native.Nat.{ℕ}
use mathlib.Core.Bool.{Bool, true, false, cond, true≢false}
use mathlib.Core.List.{List, [], ◌∷◌}
use mathlib.Core.Logic.{◌⊎◌, inl, inr}
use mathlib.Core.Path.{◌≡◌, refl, sym, subst⁻¹}
use borrow.Author.Tests.{eqb-true, ne_eqb}
use lib.Dec.{eqb}
use Rattle.registers.specs.Kept.{one_of}

pub either_same : {A : Type 0} (t : Bool) (x : A) → cond t x x ≡ x
either_same true x = refl
either_same false x = refl

-- P at each number of a list
abbrev pub Each : (ℕ → Type 0) → List ℕ → Type 0
Each P [] = Unit
Each P (a ∷ l) = P a × Each P l

pub each_map : {P Q : ℕ → Type 0} → ((a : ℕ) → P a → Q a) → (l : List ℕ) → Each P l → Each Q l
each_map f [] t = tt
each_map f (a ∷ l) (p, t) = (f a p, each_map f l t)

split : (P : ℕ → Type 0) (o a : ℕ) (l : List ℕ) (b : Bool) → eqb o a ≡ b → P a → (one_of o l ≡ true → P o) → cond b true (one_of o l) ≡ true → P o
split P o a l true e p q h = subst⁻¹ P (eqb-true o a e) p
split P o a l false e p q h = q h

-- it holds of whatever is one of them
pub of-each : (P : ℕ → Type 0) (l : List ℕ) → Each P l → (o : ℕ) → one_of o l ≡ true → P o
of-each P [] t o h = absurd (true≢false (sym h))
of-each P (a ∷ l) (p, t) o h = split P o a l (eqb o a) refl p (of-each P l t o) h

first-no : (t x : Bool) → cond t true x ≡ false → t ≡ false
first-no true x h = h
first-no false x h = refl

rest-no : (t x : Bool) → cond t true x ≡ false → x ≡ false
rest-no true x h = absurd (true≢false h)
rest-no false x h = h

-- and whatever is none of them is another than each
pub none_of : (o : ℕ) (l : List ℕ) → one_of o l ≡ false → Each (λ a. eqb o a ≡ false) l
none_of o [] h = tt
none_of o (a ∷ l) h = (first-no (eqb o a) (one_of o l) h, none_of o l (rest-no (eqb o a) (one_of o l) h))

-- o is a or one of l, as an arm with several numbers says it
abbrev pub Among : ℕ → ℕ → List ℕ → Type 0
Among o a [] = o ≡ a
Among o a (b ∷ l) = (o ≡ a) ⊎ Among o b l

pub none : (o a : ℕ) (l : List ℕ) → (Among o a l → ⊥) → one_of o (a ∷ l) ≡ false
none o a [] h = rw (ne_eqb o a h)
none o a (b ∷ l) h = rw (ne_eqb o a (λ e. h (inl e))) (none o b l (λ e. h (inr e)))

-- o is none of l, as the last arm says it after an arm for each
abbrev pub Rest : Type 0 → ℕ → List ℕ → Type 0
Rest X o [] = X
Rest X o (a ∷ l) = Rest (X × (o ≡ a → ⊥)) o l

pub missed : {X : Type 0} (o : ℕ) (l : List ℕ) → Rest X o l → X × Each (λ a. eqb o a ≡ false) l
missed o [] x = (x, tt)
missed {X} o (a ∷ l) m = let r = missed {X = X × (o ≡ a → ⊥)} o l m in (r.0.0, (ne_eqb o a r.0.1, r.1))
