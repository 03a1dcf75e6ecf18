-- Lines of bytes laid one by one, or as one run where nothing lies between them.
-- Assumes nothing.
use mathlib.Core.Path.{◌≡◌, sym, ap, subst, ◌∙◌}
use mathlib.Core.List.{List}
use Prim.Native.Nat.{ℕ, ◌+◌, ◌*◌, ◌/◌, ◌%◌, ◌<◌}
use native.Mathlib.Nat.{mod-lt, add-mul, mul-le-mul_right, div-add-mod', div-lt_iff_lt-mul}
use native.Mathlib.Omega.{arith}
use native.Mathlib.Decide.{ℕ_discrete}
use lib.Arith.{digits_lt}
use lib.ListN.{get_or}
use Rattle.surface.proofs.Lists.{by_cases}
use Rattle.surface.proofs.OnLaws.{pos-of-ne}
use Rattle.runs.specs.Runs.{Shifted}
use Rattle.runs.proofs.Runs.{untouched}
use Rattle.blocks.specs.Blocks.{Laid}
use Rattle.blocks.specs.Asked.{Lines}

-- ---- byte j of h lines of n bytes with nothing between them
some_bytes : (n h j : ℕ) → j < h * n → 0 < n
some_bytes n h j l = pos-of-ne (λ e. omega (arith, ap (λ (k : ℕ). h * k) e))

pub line_of : (n h j : ℕ) → j < h * n → (j / n < h) × (j % n < n) × (j / n * n + j % n ≡ j)
line_of n h j l = let p = some_bytes n h j l in ((div-lt_iff_lt-mul p).1 l, mod-lt j p, div-add-mod' j n)

pub laid-run : (d s n h : ℕ) {m m' : List ℕ} → Shifted d s 0 (h * n) m m' → Laid d n s n n h m m'
laid-run d s n h run = record {
  came = λ q i lq li. run.came (q * n + i) (omega arith) (digits_lt lq li);
  others = λ a out. untouched run a (λ j _ r e. let k = line_of n h j r in out (j / n) (j % n) k.0 k.1 (sym e ∙ ap (λ (i : ℕ). d + i) (sym k.2)));
  long = run.long;
}

-- ---- one line more
module _ {d p s r n h len : ℕ} (lines : Lines d p s r n h len) where
  elsewhere : (q q' i j : ℕ) → q' < q → i < n → d + q * p + j ≡ d + (q' * p + i) → ⊥
  elsewhere q q' i j l li e = omega (arith, lines.slim, mul-le-mul_right {m = q' + 1} {n = q} p (omega arith), add-mul q' 1 p)

  pub laid_next : (q : ℕ) {m₀ m m₁ : List ℕ} → q < h → Laid d p s r n q m₀ m → Shifted (d + q * p) (s + q * r) 0 n m m₁ → Laid d p s r n (q + 1) m₀ m₁
  laid_next q {m₀} {m} {m₁} lq laid run = record {
    came = λ q' i l li.
        by_cases (ℕ_discrete q' q)
        (λ e. subst (λ (k : ℕ). get_or m₁ (d + (k * p + i)) 0 ≡ get_or m₀ (s + (k * r + i)) 0) (sym e) (here i li))
        (λ e. untouched run (d + (q' * p + i)) (λ j _ _ f. elsewhere q q' i j (omega arith) li f) ∙ laid.came q' i (omega arith) li);
    others = λ a out. untouched run a (λ j _ lj e. out q j (omega arith) lj (omega arith)) ∙ laid.others a (λ q' i l. out q' i (omega arith));
    long = run.long ∙ laid.long;
  }
    where
      here : (i : ℕ) → i < n → get_or m₁ (d + (q * p + i)) 0 ≡ get_or m₀ (s + (q * r + i)) 0
      here i li =
          let to : d + (q * p + i) ≡ d + q * p + i = omega arith in
          let from : s + q * r + i ≡ s + (q * r + i) = omega arith in
          ap (λ (a : ℕ). get_or m₁ a 0) to ∙ run.came i (omega arith) li ∙ ap (λ (a : ℕ). get_or m a 0) from
          ∙ laid.others (s + (q * r + i)) (λ q' i' l l' e. lines.apart q' i' q i (omega arith) l' lq li (sym e))
