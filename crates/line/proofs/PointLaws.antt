-- Laws of a line's points: the first and the last, how many, where they lie, and that no two are the same.
-- Assumes nothing.
use mathlib.Core.Path.{◌≡◌, refl, sym, ap, subst, ◌∙◌}
use mathlib.Core.Logic.{⊎_elim}
use mathlib.Core.Bool.{true, false}
use mathlib.Core.List.Memᴰ
use mathlib.Core.List.{[], ◌∷◌, Memᴰ}
use Prim.Native.Nat.{ℕ, zero, suc, ◌+◌, ◌-◌, ◌<◌, ◌≤◌, min, max}
use native.Mathlib.Nat.{sub-zero}
use native.Mathlib.Omega.{arith}
use borrow.Author.Tests.{leb-true, leb-false}
use lib.Dec.{leb}
use lib.ListN.{length}
use Rattle.line.specs.declared.Point.{Point}
use Rattle.line.specs.declared.Line.{Line}
use Rattle.line.specs.Line.{point, far, towards, x_major, longer, shorter, place, point_at, points_from, point_count, points}
use Rattle.line.specs.Asked.{Within, Placed}
use Rattle.line.proofs.Sides.{either, longer-x, longer-y, shorter-x, shorter-y, shorter-le, count-le, aside-first, aside-last, aside-le}

-- ---- by the major axis
module _ (l : Line) (a b : ℕ) where
  pub place-x : x_major l ≡ true → place l a b ≡ point (towards l.x0 l.x1 a) (towards l.y0 l.y1 b)
  unfolding place
  place-x e = rw e

  pub place-y : x_major l ≡ false → place l a b ≡ point (towards l.x0 l.x1 b) (towards l.y0 l.y1 a)
  unfolding place
  place-y e = rw e

-- ---- from (x0, y0) to (x1, y1)
towards_none : (a b : ℕ) → towards a b 0 ≡ a
unfolding towards
towards_none a b = either (leb a b) (λ e. rw e (omega arith)) (λ e. rw e (omega arith))

towards-all : (a b : ℕ) → towards a b (far a b) ≡ b
unfolding towards far
towards-all a b = either (leb a b) (λ e. rw e (omega (arith, leb-true a b e))) (λ e. rw e (omega (arith, leb-false a b e)))

pub first : (l : Line) → point_at l 0 ≡ point l.x0 l.y0
unfolding point_at
first l =
    rw (aside-first (longer l) (shorter l))
    (either (x_major l) (λ e. place-x l 0 0 e ∙ simp towards_none) (λ e. place-y l 0 0 e ∙ simp towards_none))

pub last : (l : Line) → point_at l (longer l) ≡ point l.x1 l.y1
unfolding point_at
last l =
    rw (aside-last (longer l) (shorter l) (shorter-le l))
    (either (x_major l) (λ e. place-x l (longer l) (shorter l) e ∙ rw (longer-x l e, shorter-y l e, towards-all l.x0 l.x1, towards-all l.y0 l.y1))
    (λ e. place-y l (longer l) (shorter l) e ∙ rw (longer-y l e, shorter-x l e, towards-all l.x0 l.x1, towards-all l.y0 l.y1)))

-- ---- how many
from-length : (l : Line) (i k : ℕ) → length (points_from l i k) ≡ k
unfolding points_from
from-length l i zero = refl
from-length l i (suc k) = ap suc (from-length l (i + 1) k)

pub points-length : (l : Line) → length (points l) ≡ point_count l
unfolding points
points-length l = from-length l 0 (point_count l)

-- ---- what holds of point i for each i holds of each point
pub from_each : (P : Point → Type 0) (l : Line) (i k : ℕ) → ((j : ℕ) → i ≤ j → j < i + k → P (point_at l j))
    → (p : Point) → Memᴰ p (points_from l i k) → P p
unfolding points_from
from_each P l i zero f p m = absurd (Memᴰ.not-nil m)
from_each P l i (suc k) f p m =
    ⊎_elim (λ e. subst P (sym e) (f i (omega arith) (omega arith)))
    (λ n. from_each P l (i + 1) k (λ j g h. f j (omega arith) (omega arith)) p n) (Memᴰ.cases_cons m)

pub points-each : (P : Point → Type 0) (l : Line) → ((i : ℕ) → i ≤ longer l → P (point_at l i)) → (p : Point) → Memᴰ p (points l) → P p
unfolding points
points-each P l f = from_each P l 0 (point_count l) (λ j g h. f j (omega (arith, count-le l)))

-- ---- where they lie: within the box of the two ends
pub record Between (a b p : ℕ) : Type 0 where
  pub low : min a b ≤ p
  pub high : p ≤ max a b

pub record InBox (l : Line) (p : Point) : Type 0 where
  pub x : Between l.x0 l.x1 p.x
  pub y : Between l.y0 l.y1 p.y

towards-between : (a b k : ℕ) → k ≤ far a b → Between a b (towards a b k)
unfolding towards far
towards-between a b k h =
    either (leb a b) (λ e. let g = leb-true a b e in rw e (record { low = omega arith; high = omega arith }))
    (λ e. let g = leb-false a b e in rw e (record { low = omega arith; high = omega arith }))

pub place-in-box : (l : Line) (a b : ℕ) → a ≤ longer l → b ≤ shorter l → InBox l (place l a b)
place-in-box l a b h k =
    either (x_major l)
    (λ e. rw (place-x l a b e) (record {
      x = towards-between l.x0 l.x1 a (omega (arith, longer-x l e));
      y = towards-between l.y0 l.y1 b (omega (arith, shorter-y l e));
    }))
    (λ e. rw (place-y l a b e) (record {
      x = towards-between l.x0 l.x1 b (omega (arith, shorter-x l e));
      y = towards-between l.y0 l.y1 a (omega (arith, longer-y l e));
    }))

pub point-box : (l : Line) (i : ℕ) → i ≤ longer l → InBox l (point_at l i)
unfolding point_at
point-box l i h = place-in-box l i _ h (aside-le (longer l) (shorter l) i (shorter-le l) h)

pub points-in-box : (l : Line) (p : Point) → Memᴰ p (points l) → InBox l p
points-in-box l = points-each (InBox l) l (point-box l)

-- so positions stay within 13 signed bits
pub points-within : {l : Line} → Placed l → (p : Point) → Memᴰ p (points l) → Within p.x × Within p.y
points-within {l} h p m =
    let b = points-in-box l p m in
    (record { low = omega arith; high = omega arith }, record { low = omega arith; high = omega arith })

-- ---- no two are the same
towards-apart : (a b k k' : ℕ) → k ≤ far a b → k' ≤ far a b → towards a b k ≡ towards a b k' → k ≡ k'
unfolding towards far
towards-apart a b k k' h h' e =
    either (leb a b) (λ q. let r = rw q at e in omega arith) (λ q. let r = rw q at e in omega (arith, leb-false a b q))

pub points-differ : (l : Line) (i i' : ℕ) → i ≤ longer l → i' ≤ longer l → point_at l i ≡ point_at l i' → i ≡ i'
unfolding point_at
points-differ l i i' h h' q =
    either (x_major l)
    (λ e. towards-apart l.x0 l.x1 i i' (omega (arith, longer-x l e)) (omega (arith, longer-x l e))
    (ap (λ (p : Point). p.x) (sym (place-x l i _ e) ∙ q ∙ place-x l i' _ e)))
    (λ e. towards-apart l.y0 l.y1 i i' (omega (arith, longer-y l e)) (omega (arith, longer-y l e))
    (ap (λ (p : Point). p.y) (sym (place-y l i _ e) ∙ q ∙ place-y l i' _ e)))

pub same_point : (p q : Point) → p.x ≡ q.x → p.y ≡ q.y → p ≡ q
same_point p q e f = λ i. record { x = e i; y = f i }

-- ---- the points that a loop has left
pub from_start : (l : Line) (e : ℕ) → e ≡ point_count l → points_from l 0 (e - 0) ≡ points l
unfolding points
from_start l e q = rw (sub-zero e, q)

pub from_cons : (l : Line) (i e : ℕ) → i < e → points_from l i (e - i) ≡ point_at l i ∷ points_from l (i + 1) (e - (i + 1))
unfolding points_from
from_cons l i e h = let q : e - i ≡ suc (e - (i + 1)) = omega arith in rw q

pub from-none : (l : Line) (i e : ℕ) → e ≤ i → points_from l i (e - i) ≡ []
unfolding points_from
from-none l i e h = let q : e - i ≡ 0 = omega arith in rw q
