-- The sides of a line, the number of its points, and bounds of its steps.
-- Assumes nothing.
use mathlib.Core.Path.{◌≡◌, refl, sym, ap, ◌∙◌}
use mathlib.Core.Bool.{Bool, true, false, cond}
use Prim.Native.Nat.{ℕ, zero, suc, ◌+◌, ◌*◌, ◌/◌, ◌<◌, ◌≤◌}
use native.Mathlib.Nat.{mul-le-mul_right, div-lt_iff_lt-mul, div-zero, add-mul, mul_comm}
use native.Mathlib.Omega.{arith}
use borrow.Author.Tests.{leb-true, leb-false}
use lib.Arith.{digits_div}
use Rattle.line.specs.declared.Line.{Line}
use Rattle.line.specs.Line.{dx, dy, far, x_major, longer, shorter, aside, point_count}
use Rattle.line.specs.Asked.{Within, Placed}

-- what follows from a test that holds, and from one that does not
pub either : {A : Type 0} (t : Bool) → (t ≡ true → A) → (t ≡ false → A) → A
either true f g = f refl
either false f g = g refl

-- ---- which is which
pub longer-x : (l : Line) → x_major l ≡ true → longer l ≡ dx l
unfolding longer
longer-x l e = rw e

pub longer-y : (l : Line) → x_major l ≡ false → longer l ≡ dy l
unfolding longer
longer-y l e = rw e

pub shorter-y : (l : Line) → x_major l ≡ true → shorter l ≡ dy l
unfolding shorter
shorter-y l e = rw e

pub shorter-x : (l : Line) → x_major l ≡ false → shorter l ≡ dx l
unfolding shorter
shorter-x l e = rw e

pub shorter-le : (l : Line) → shorter l ≤ longer l
unfolding x_major
shorter-le l =
    either (x_major l) (λ e. omega (arith, longer-x l e, shorter-y l e, leb-true (dy l) (dx l) e))
    (λ e. omega (arith, longer-y l e, shorter-x l e, leb-false (dy l) (dx l) e))

-- ---- within 13 signed bits
far_lt : {a b : ℕ} → Within a → Within b → far a b < 8192
unfolding far
far_lt h k = omega arith

pub longer-lt : {l : Line} → Placed l → longer l < 8192
longer-lt {l} h =
    either (x_major l) (λ e. omega (arith, longer-x l e, far_lt h.x0 h.x1)) (λ e. omega (arith, longer-y l e, far_lt h.y0 h.y1))

-- ---- how many points
pub count-poly : (l : Line) → l.poly ≡ true → longer l ≡ point_count l
unfolding point_count
count-poly l e = sym (ap (λ (b : Bool). cond b (longer l) (longer l + 1)) e)

pub count-line : (l : Line) → l.poly ≡ false → longer l + 1 ≡ point_count l
unfolding point_count
count-line l e = sym (ap (λ (b : Bool). cond b (longer l) (longer l + 1)) e)

pub count-le : (l : Line) → point_count l ≤ longer l + 1
count-le l = either l.poly (λ e. omega (arith, count-poly l e)) (λ e. omega (arith, count-line l e))

-- ---- the steps along the minor axis
pub aside_none : (n m i : ℕ) → n ≡ 0 → 0 ≡ aside n m i
unfolding aside
aside_none n m i e = rw e (sym (div-zero (2 * i * m + 0)))

pub aside-first : (n m : ℕ) → aside n m 0 ≡ 0
unfolding aside
aside-first zero m = div-zero (2 * 0 * m + 0)
aside-first (suc n) m = let q : 2 * 0 * m + suc n ≡ 0 * (2 * suc n) + suc n = omega arith in rw q (digits_div 0 (omega arith))

pub aside-last : (n m : ℕ) → m ≤ n → aside n m n ≡ m
unfolding aside
aside-last zero m h = rw (div-zero (2 * 0 * m + 0)) (omega arith)
aside-last (suc n) m h = rw (mul_comm (2 * suc n) m) (digits_div m (omega arith))

pub aside-le : (n m i : ℕ) → m ≤ n → i ≤ n → aside n m i ≤ m
unfolding aside
aside-le zero m i h k = rw (div-zero (2 * i * m + 0)) (omega arith)
aside-le (suc n) m i h k =
    let a : 2 * i * m ≤ 2 * suc n * m = mul-le-mul_right m (omega arith) in
    let b : (m + 1) * (2 * suc n) ≡ m * (2 * suc n) + 2 * suc n = add-mul m 1 (2 * suc n) ∙ omega arith in
    let q : (2 * i * m + suc n) / (2 * suc n) < m + 1 =
    (div-lt_iff_lt-mul {k = 2 * suc n} {x = 2 * i * m + suc n} {y = m + 1} (omega arith)).1 (omega (arith, mul_comm m (2 * suc n))) in
    omega arith
