-- The pixels of a row and of a rectangle: which they are, how many, and in what order.
-- Assumes nothing.
use mathlib.Core.Path.{◌≡◌, refl, ap}
use mathlib.Core.Logic.{◌⊎◌, inl, inr, ⊎_elim}
use mathlib.Core.Bool.{Bool, true, false}
use mathlib.Core.List.Memᴰ
use mathlib.Core.List.{List}
use Prim.Native.Nat.{ℕ, zero, suc, ◌+◌, ◌*◌, ◌<◌, ◌≤◌}
use native.Mathlib.Nat.{suc-mul}
use native.Mathlib.Omega.{arith}
use native.Mathlib.Decide.{ℕ_discrete}
use lib.ListN.{length, length-append}
use Rattle.surface.specs.Pixels.{Px, px, across, rect, Inside}
use Rattle.surface.proofs.Lists.{In, Pairs, pairs-map, pairs-append, by_cases}

pub same-px : (p q : Px) → p.x ≡ q.x → p.y ≡ q.y → p ≡ q
same-px p q e f = λ i. record { x = e i; y = f i }

-- ---- which

pub in-across : (l : Bool) (x n y : ℕ) (p : Px) → In p (across l x n y) → (x ≤ p.x) × (p.x < x + n) × (p.y ≡ y)
unfolding across
in-across l x zero y p m = absurd (Memᴰ.not-nil m)
in-across false x (suc n) y p m =
    ⊎_elim (λ e. let a : p.x ≡ x = ap (λ (q : Px). q.x) e in let b : p.y ≡ y = ap (λ (q : Px). q.y) e in omega arith)
    (λ i. let r = in-across false (x + 1) n y p i in omega arith) (Memᴰ.cases_cons m)
in-across true x (suc n) y p m =
    ⊎_elim (λ e. let a : p.x ≡ x + n = ap (λ (q : Px). q.x) e in let b : p.y ≡ y = ap (λ (q : Px). q.y) e in omega arith)
    (λ i. let r = in-across true x n y p i in omega arith) (Memᴰ.cases_cons m)

pub across-in : (l : Bool) (x n y : ℕ) (p : Px) → x ≤ p.x → p.x < x + n → p.y ≡ y → In p (across l x n y)
unfolding across
across-in l x zero y p a b e = absurd (omega arith)
across-in false x (suc n) y p a b e =
    by_cases (ℕ_discrete p.x x) (λ q. Memᴰ.head (same-px p (px x y) q e))
    (λ q. Memᴰ.tail (across-in false (x + 1) n y p (omega arith) (omega arith) e))
across-in true x (suc n) y p a b e =
    by_cases (ℕ_discrete p.x (x + n)) (λ q. Memᴰ.head (same-px p (px (x + n) y) q e))
    (λ q. Memᴰ.tail (across-in true x n y p a (omega arith) e))

pub in-rect : (l t : Bool) (x y w h : ℕ) (p : Px) → In p (rect l t x y w h) → Inside x y w h p
unfolding rect
in-rect l t x y w zero p m = absurd (Memᴰ.not-nil m)
in-rect l false x y w (suc h) p m =
    ⊎_elim (λ i. let r = in-across l x w y p i in omega arith)
    (λ i. let r = in-rect l false x (y + 1) w h p i in omega arith) (Memᴰ.append_cases (across l x w y) m)
in-rect l true x y w (suc h) p m =
    ⊎_elim (λ i. let r = in-across l x w (y + h) p i in omega arith)
    (λ i. let r = in-rect l true x y w h p i in omega arith) (Memᴰ.append_cases (across l x w (y + h)) m)

pub rect-in : (l t : Bool) (x y w h : ℕ) (p : Px) → Inside x y w h p → In p (rect l t x y w h)
unfolding rect
rect-in l t x y w zero p i = absurd (omega arith)
rect-in l false x y w (suc h) p i =
    by_cases (ℕ_discrete p.y y) (λ e. Memᴰ.append_left (rect l false x (y + 1) w h) (across-in l x w y p i.left i.right e))
    (λ e. Memᴰ.append_right (across l x w y) (rect-in l false x (y + 1) w h p (omega arith)))
rect-in l true x y w (suc h) p i =
    by_cases (ℕ_discrete p.y (y + h)) (λ e. Memᴰ.append_left (rect l true x y w h) (across-in l x w (y + h) p i.left i.right e))
    (λ e. Memᴰ.append_right (across l x w (y + h)) (rect-in l true x y w h p (omega arith)))

-- ---- how many

pub across-length : (l : Bool) (x n y : ℕ) → length (across l x n y) ≡ n
unfolding across
across-length l x zero y = refl
across-length false x (suc n) y = ap suc (across-length false (x + 1) n y)
across-length true x (suc n) y = ap suc (across-length true x n y)

pub rect-length : (l t : Bool) (x y w h : ℕ) → length (rect l t x y w h) ≡ h * w
unfolding rect
rect-length l t x y w zero = omega arith
rect-length l false x y w (suc h) =
    omega (arith, length-append (across l x w y) (rect l false x (y + 1) w h), across-length l x w y, rect-length l false x (y + 1) w h, suc-mul h w)
rect-length l true x y w (suc h) =
    omega (arith, length-append (across l x w (y + h)) (rect l true x y w h), across-length l x w (y + h), rect-length l true x y w h, suc-mul h w)

-- ---- in what order

-- b comes after a, going up, or going down
abbrev pub Past : Bool → ℕ → ℕ → Type 0
Past false a b = a < b
Past true a b = b < a

-- pixel q comes after p in the order that the flags name
abbrev pub Ahead : Bool → Bool → Px → Px → Type 0
Ahead l t p q = Past t p.y q.y ⊎ ((p.y ≡ q.y) × Past l p.x q.x)

across-pairs : (l t : Bool) (x n y : ℕ) → Pairs (Ahead l t) (across l x n y)
unfolding across
across-pairs l t x zero y = tt
across-pairs false t x (suc n) y = (λ q m. let r = in-across false (x + 1) n y q m in inr (omega arith), across-pairs false t (x + 1) n y)
across-pairs true t x (suc n) y = (λ q m. let r = in-across true x n y q m in inr (omega arith), across-pairs true t x n y)

pub rect-pairs : (l t : Bool) (x y w h : ℕ) → Pairs (Ahead l t) (rect l t x y w h)
unfolding rect
rect-pairs l t x y w zero = tt
rect-pairs l false x y w (suc h) =
    pairs-append (across l x w y) (rect l false x (y + 1) w h) (across-pairs l false x w y) (rect-pairs l false x (y + 1) w h)
    (λ p q i j. let a = in-across l x w y p i in let b = in-rect l false x (y + 1) w h q j in inl (omega arith))
rect-pairs l true x y w (suc h) =
    pairs-append (across l x w (y + h)) (rect l true x y w h) (across-pairs l true x w (y + h)) (rect-pairs l true x y w h)
    (λ p q i j. let a = in-across l x w (y + h) p i in let b = in-rect l true x y w h q j in inl (omega arith))

past-apart : (b : Bool) (m n : ℕ) → Past b m n → m ≡ n → ⊥
past-apart false m n h e = omega arith
past-apart true m n h e = omega arith

pub ahead_apart : (l t : Bool) (p q : Px) → Ahead l t p q → p ≡ q → ⊥
ahead_apart l t p q h e =
    ⊎_elim (λ a. past-apart t p.y q.y a (ap (λ (r : Px). r.y) e)) (λ a. past-apart l p.x q.x a.1 (ap (λ (r : Px). r.x) e)) h

-- no pixel twice
abbrev pub Distinct : List Px → Type 0
Distinct ps = Pairs (λ p q. p ≡ q → ⊥) ps

pub rect-distinct : (l t : Bool) (x y w h : ℕ) → Distinct (rect l t x y w h)
rect-distinct l t x y w h = pairs-map (rect l t x y w h) (λ p q i j. ahead_apart l t p q) (rect-pairs l t x y w h)
