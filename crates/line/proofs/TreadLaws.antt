-- Laws of a walk along a line: a step from point i leads to point i + 1.
-- Assumes nothing.
use mathlib.Core.Path.{◌≡◌, refl, sym, ap, ◌∙◌}
use Prim.Native.Nat.{ℕ, zero, suc, ◌+◌, ◌-◌, ◌*◌, ◌/◌, ◌%◌, ◌<◌, ◌≤◌}
use native.Mathlib.Nat.{add-mul, div-add-mod', mod-lt, mod-eq_of_lt}
use native.Mathlib.Omega.{arith}
use borrow.Author.Tests.{ltb-true, ltb-false}
use lib.Arith.{digits_div, digits_mod}
use lib.Dec.{ltb}
use Rattle.line.specs.declared.Line.{Line}
use Rattle.line.specs.declared.Point.{Point}
use Rattle.line.specs.declared.Tread.{Tread}
use Rattle.line.specs.Line.{longer, shorter, aside, place, point_at, point_count}
use Rattle.line.specs.Tread.{tread, trodden, left_over, AtStep}
use Rattle.line.specs.Asked.{Placed}
use Rattle.line.proofs.Sides.{either, shorter-le, longer-lt, count-le, aside-first, aside-le}

-- ---- a sum goes on by k, at most the divisor
module _ (q r d t k : ℕ) (e : t ≡ q * d + r + k) where
  below : r + k < d → (t / d ≡ q) × (t % d ≡ r + k)
  below h =
      let f : t ≡ q * d + (r + k) = omega arith in
      (ap (λ (u : ℕ). u / d) f ∙ digits_div q h, ap (λ (u : ℕ). u % d) f ∙ digits_mod q h)

  above : d ≤ r + k → r + k < d + d → (t / d ≡ q + 1) × (t % d ≡ r + k - d)
  above h g =
      let f : t ≡ (q + 1) * d + (r + k - d) = omega (arith, add-mul q 1 d) in
      let s : r + k - d < d = omega arith in
      (ap (λ (u : ℕ). u / d) f ∙ digits_div (q + 1) s, ap (λ (u : ℕ). u % d) f ∙ digits_mod (q + 1) s)

module _ (n m i : ℕ) (h : m ≤ n) (p : 0 < n) where
  sum : 2 * (i + 1) * m + n ≡ aside n m i * (2 * n) + left_over n m i + 2 * m
  unfolding aside
  sum =
      let d : 2 * (i + 1) * m ≡ 2 * i * m + 2 * m = ap (λ (k : ℕ). k * m) (omega arith) ∙ add-mul (2 * i) 2 m in
      let f : 2 * (i + 1) * m + n ≡ 2 * i * m + n + 2 * m = omega arith in
      f ∙ ap (λ (t : ℕ). t + 2 * m) (sym (div-add-mod' (2 * i * m + n) (2 * n)))

  pub aside-stays : left_over n m i < 2 * n - 2 * m → (aside n m (i + 1) ≡ aside n m i) × (left_over n m (i + 1) ≡ left_over n m i + 2 * m)
  unfolding aside
  aside-stays g = below (aside n m i) (left_over n m i) (2 * n) (2 * (i + 1) * m + n) (2 * m) sum (omega arith)

  pub aside_grows : 2 * n - 2 * m ≤ left_over n m i
      → (aside n m (i + 1) ≡ aside n m i + 1) × (left_over n m (i + 1) ≡ left_over n m i - (2 * n - 2 * m))
  unfolding aside
  aside_grows g =
      let l : left_over n m i < 2 * n = mod-lt (2 * i * m + n) (omega arith) in
      let r = above (aside n m i) (left_over n m i) (2 * n) (2 * (i + 1) * m + n) (2 * m) sum (omega arith) (omega arith) in
      (r.0, r.1 ∙ omega arith)

-- ---- the walk
pub start-rest : (n m : ℕ) → n ≡ left_over n m 0
start-rest zero m = let q : 2 * 0 * m + 0 ≡ 0 = omega arith in rw q refl
start-rest (suc n) m = let q : 2 * 0 * m + suc n ≡ suc n = omega arith in rw q (sym (mod-eq_of_lt (omega arith)))

pub tread-start : (n m : ℕ) → AtStep n m 0 (tread 0 n)
tread-start n m = record { aside = sym (aside-first n m); rest = start-rest n m }

pub tread-next : (n m i : ℕ) (t : Tread) → m ≤ n → 0 < n → AtStep n m i t → AtStep n m (i + 1) (trodden n m t)
unfolding trodden
tread-next n m i t low some at =
    either (ltb t.rest (2 * n - 2 * m))
    (λ e.
    let a = aside-stays n m i low some (rw at.rest at (ltb-true t.rest (2 * n - 2 * m) e)) in
    rw e (record { aside = at.aside ∙ sym a.0; rest = ap (λ (r : ℕ). r + 2 * m) at.rest ∙ sym a.1 }))
    (λ e.
    let a = aside_grows n m i low some (rw at.rest at (ltb-false t.rest (2 * n - 2 * m) e)) in
    rw e (record { aside = ap (λ (k : ℕ). k + 1) at.aside ∙ sym a.0; rest = ap (λ (r : ℕ). r - (2 * n - 2 * m)) at.rest ∙ sym a.1 }))

-- ---- along a line whose sides the code has worked out: the walk is at point i
pub record OnWay (l : Line) (n m i : ℕ) (t : Tread) : Type 0 where
  pub long : n ≡ longer l
  pub short : m ≡ shorter l
  pub upto : i ≤ longer l
  pub at : AtStep n m i t

pub way-starts : {l : Line} {n m : ℕ} → n ≡ longer l → m ≡ shorter l → OnWay l n m 0 (tread 0 n)
way-starts {l} {n} {m} long short = record { long = long; short = short; upto = omega arith; at = tread-start n m }

module _ {l : Line} {n m i : ℕ} {t : Tread} (way : OnWay l n m i t) where
  pub way-aside : t.aside ≤ m
  way-aside = omega (arith, way.at.aside, aside-le n m i (omega (arith, shorter-le l, way.long, way.short)) (omega (arith, way.upto, way.long)))

  pub way-placed : (i ≤ longer l) × (t.aside ≤ shorter l)
  way-placed = (way.upto, omega (arith, way-aside, way.short))

  pub way-point : {p : Point} → p ≡ place l i t.aside → p ≡ point_at l i
  unfolding point_at
  way-point e = e ∙ ap (place l i) way.at.aside ∙ rw (way.long, way.short)

  pub way-small : Placed l → (m ≤ n) × (n < 8192) × (t.aside ≤ n)
  way-small placed =
      let low : m ≤ n = omega (arith, shorter-le l, way.long, way.short) in
      (low, omega (arith, longer-lt placed, way.long), omega (arith, way-aside))

  -- a line of a single point has no next one
  pub way-goes : {r : Tread} {total : ℕ} → r ≡ trodden n m t → total ≡ point_count l → i + 1 < total → OnWay l n m (i + 1) r
  way-goes e q h =
      let g : i + 1 ≤ longer l = omega (arith, count-le l) in
      record {
        long = way.long;
        short = way.short;
        upto = g;
        at = rw e (tread-next n m i t (omega (arith, shorter-le l, way.long, way.short)) (omega (arith, way.long)) way.at);
      }
