-- Laws of the search for a marked page and of their number: a turn of the loop, what is found, and that it is settled.
-- Assumes nothing.
use mathlib.Core.Path.{◌≡◌, sym, ap, ◌∙◌}
use mathlib.Core.Bool.{Bool, true, false}
use mathlib.Core.List.{List}
use Prim.Native.Nat.{ℕ, zero, suc, ◌+◌, ◌-◌, ◌<◌, ◌≤◌}
use native.Mathlib.Omega.{arith}
use native.Mathlib.Decide.{ℕ_discrete}
use lib.ListN.{get_or}
use Rattle.surface.proofs.Lists.{by_cases}
use Rattle.std.specs.Prelude.{Some, None}
use Rattle.pages.specs.Pages.{first_from, count_from}
use Rattle.pages.proofs.MarkLaws.{either}

-- ---- a turn of the loop
module _ (marks : List Bool) (k past : ℕ) where
  pub first-here : k < past → get_or marks k false ≡ true → Some k ≡ first_from marks k (past - k)
  unfolding first_from
  first-here h e = let q : past - k ≡ suc (past - (k + 1)) = omega arith in rw (q, e)

  pub first-later : k < past → get_or marks k false ≡ false → first_from marks (k + 1) (past - (k + 1)) ≡ first_from marks k (past - k)
  unfolding first_from
  first-later h e = let q : past - k ≡ suc (past - (k + 1)) = omega arith in rw (q, e)

  pub first-none : past ≤ k → None ≡ first_from marks k (past - k)
  unfolding first_from
  first-none h = let q : past - k ≡ 0 = omega arith in rw q

  pub count_set : k < past → get_or marks k false ≡ true → 1 + count_from marks (k + 1) (past - (k + 1)) ≡ count_from marks k (past - k)
  unfolding count_from
  count_set h e = let q : past - k ≡ suc (past - (k + 1)) = omega arith in rw (q, e)

  pub count-clear : k < past → get_or marks k false ≡ false → count_from marks (k + 1) (past - (k + 1)) ≡ count_from marks k (past - k)
  unfolding count_from
  count-clear h e = let q : past - k ≡ suc (past - (k + 1)) = omega arith in rw (q, e) (omega arith)

  pub count_none : past ≤ k → count_from marks k (past - k) ≡ 0
  unfolding count_from
  count_none h = let q : past - k ≡ 0 = omega arith in rw q

-- ---- what is found: the first marked page from one on, of n pages
pub record First (marks : List Bool) (page n k : ℕ) : Type 0 where
  pub low : page ≤ k
  pub high : k < page + n
  pub marked : get_or marks k false ≡ true
  pub before : (j : ℕ) → page ≤ j → j < k → get_or marks j false ≡ false

at_same : {a b : ℕ} → Some a ≡ Some b → a ≡ b
at_same e = cc

module _ (marks : List Bool) where
  -- what is known of a page's mark and of the later ones' is known of all
  from-here : (page k : ℕ) → get_or marks page false ≡ false → ((j : ℕ) → page + 1 ≤ j → j < k → get_or marks j false ≡ false)
      → (j : ℕ) → page ≤ j → j < k → get_or marks j false ≡ false
  from-here page k e f j g h =
      by_cases (ℕ_discrete j page) (λ q. ap (λ (i : ℕ). get_or marks i false) q ∙ e) (λ q. f j (omega arith) h)

  pub first_found : (page n k : ℕ) → first_from marks page n ≡ Some k → First marks page n k
  unfolding first_from
  first_found page zero k e = absurd (let z : ◌≡◌ {A = ℕ} 0 1 = cc in omega arith)
  first_found page (suc n) k e =
      either (get_or marks page false)
      (λ t.
      let q : page ≡ k = at_same (rw t at e) in
      record { low = omega arith; high = omega arith; marked = ap (λ (i : ℕ). get_or marks i false) (sym q) ∙ t; before = λ j g h. absurd (omega arith) })
      (λ t.
      let r = first_found (page + 1) n k (rw t at e) in
      record { low = omega (arith, r.low); high = omega (arith, r.high); marked = r.marked; before = from-here page k t r.before })

  pub first-nothing : (page n : ℕ) → first_from marks page n ≡ None → (j : ℕ) → page ≤ j → j < page + n → get_or marks j false ≡ false
  unfolding first_from
  first-nothing page zero e = λ j g h. absurd (omega arith)
  first-nothing page (suc n) e =
      either (get_or marks page false) (λ t. let w = rw t at e in absurd (let z : ◌≡◌ {A = ℕ} 0 1 = cc in omega arith))
      (λ t. from-here page (page + suc n) t (λ j g h. first-nothing (page + 1) n (rw t at e) j g (omega arith)))

  pub count-le : (k n : ℕ) → count_from marks k n ≤ n
  unfolding count_from
  count-le k zero = omega arith
  count-le k (suc n) = either (get_or marks k false) (λ t. rw t (omega (arith, count-le (k + 1) n))) (λ t. rw t (omega (arith, count-le (k + 1) n)))
