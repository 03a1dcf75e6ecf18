-- Laws of text put byte by byte: numbers place by place, texts one after the other, and what fits.
-- Assumes nothing.
use mathlib.Core.Path.{◌≡◌, refl, sym, ap, subst⁻¹, ◌∙◌}
use mathlib.Core.Bool.{Bool, true, false, cond}
use mathlib.Core.List.{List, [], ◌∷◌, ◌++◌}
use Prim.Native.Nat.{ℕ, zero, suc, ◌+◌, ◌-◌, ◌/◌, ◌^◌, ◌<◌, ◌≤◌}
use native.Mathlib.Nat.{pow-suc, pow-le-pow_right, mul-div_cancel}
use native.Mathlib.Omega.{arith}
use lib.Dec.{ltb}
use lib.ListN.{length, set, length-set}
use borrow.Author.Tests.{ltb-true}
use Rattle.basics.specs.Each.{each}
use Rattle.basics.proofs.EachLaws.{each_append}
use Rattle.ppm.specs.Text.{Page as Text·Page, page, put, said, digit, digits}
use Rattle.ppm.specs.declared.Page.{Page}
use Rattle.ppm.specs.Says.{Says}

-- ---- numbers
power_below : (k : ℕ) → 10 ^ suc k / 10 ≡ 10 ^ k
power_below k = ap (λ (n : ℕ). n / 10) (pow-suc 10 k) ∙ mul-div_cancel (10 ^ k) (omega arith)

module _ (power : ℕ) where
  pub power-some : (k : ℕ) → 0 < k → power ≡ 10 ^ k / 10 → 0 < power
  power-some zero h e = absurd (omega arith)
  power-some (suc k) h e =
      let some : 1 ≤ 10 ^ k = pow-le-pow_right {n = 10} (omega arith) {i = 0} {j = k} (omega arith) in
      omega (arith, e ∙ power_below k)

  pub power-again : (k : ℕ) → 0 < k → power ≡ 10 ^ k / 10 → power / 10 ≡ 10 ^ (k - 1) / 10
  power-again zero h e = absurd (omega arith)
  power-again (suc k) h e = let f : suc k - 1 ≡ k = omega arith in rw f (ap (λ (n : ℕ). n / 10) (e ∙ power_below k))

  pub digits-first : (n k : ℕ) → 0 < k → power ≡ 10 ^ k / 10 → digits k n ≡ digit n power ++ digits (k - 1) n
  unfolding digits
  digits-first n zero h e = absurd (omega arith)
  digits-first n (suc k) h e = let f : suc k - 1 ≡ k = omega arith in rw (f, e, power_below)

-- ---- texts one after the other
pub says_none : (p : Page) → Says [] p p
unfolding each
says_none p = record { text = refl; lent = refl }

pub says_both : {a b : List ℕ} {p q r : Page} → Says a p q → Says b q r → Says (a ++ b) p r
says_both {a} {b} {p} f g = record { text = g.text ∙ ap (said b) f.text ∙ sym (each_append put a b (page p.bytes.now p.used)); lent = g.lent ∙ f.lent }

-- ---- the text stays in the buffer
pub put-within : (b : ℕ) (p : Text·Page) → p.used ≤ length p.bytes → (put b p).used ≤ length (put b p).bytes
unfolding put
put-within b p h = by-test (ltb p.used (length p.bytes)) refl
  where
    by-test : (t : Bool) → ltb p.used (length p.bytes) ≡ t
        → (cond t (page (set p.bytes p.used b) (p.used + 1)) p).used ≤ length (cond t (page (set p.bytes p.used b) (p.used + 1)) p).bytes
    by-test true e = omega (arith, length-set p.bytes p.used b, ltb-true p.used (length p.bytes) e)
    by-test false e = h

pub said-within : (t : List ℕ) (p : Text·Page) → p.used ≤ length p.bytes → (said t p).used ≤ length (said t p).bytes
unfolding each
said-within [] p h = h
said-within (b ∷ t) p h = said-within t (put b p) (put-within b p h)

-- the same of a page that a text said from an empty one has become
pub text-within : (t : List ℕ) (bytes : List ℕ) (q : Text·Page) → q ≡ said t (page bytes 0) → q.used ≤ length q.bytes
text-within t bytes q e = subst⁻¹ (λ (p : Text·Page). p.used ≤ length p.bytes) e (said-within t (page bytes 0) (omega arith))

-- a text leaves one page: its bytes and how many are used, in the buffer that was lent
pub says-once : (t : List ℕ) (p q r : Page) → Says t p q → Says t p r → (page q.bytes.now q.used ≡ page r.bytes.now r.used) × (q.bytes.ghost_name ≡ r.bytes.ghost_name)
says-once t p q r a b = (a.text ∙ sym b.text, a.lent ∙ sym b.lent)
