-- How many pixels masks count: row by row, a row by eights, and that a fill by masks counts as many.
-- Assumes nothing.
use mathlib.Core.Path.{◌≡◌, refl, sym, ap, ap₂, ◌∙◌}
use mathlib.Core.Bool.{false}
use mathlib.Core.List.{List}
use Prim.Native.Nat.{ℕ, zero, suc, ◌+◌, ◌-◌, ◌*◌, ◌/◌, ◌%◌, ◌<◌, ◌≤◌}
use native.Mathlib.Nat.{suc-mul, div-add-mod'}
use native.Mathlib.Omega.{arith}
use lib.ListN.{length, get_or, take, drop}
use Rattle.std.proofs.Common.{sum}
use Rattle.std.proofs.lemmas.List.Sums.{sum_by-cons}
use Rattle.std.proofs.Math.Seq.{drop-cons}
use Rattle.surface.specs.Pixels.{Px, across, rect}
use Rattle.paint.specs.Paint.{summed}
use Rattle.paint.proofs.Changes.{summed-append}
use Rattle.wash.specs.Asked.{Ones}
use Rattle.wash.specs.Count.{counting, countings}

-- ---- a few of eight masks
module _ (adds : List ℕ) (first : ℕ) where
  -- a run of them
  run-sum : (n i : ℕ) → i + n ≤ 8 → first + i + n ≤ length adds → sum (take n (drop (first + i) adds)) ≡ counting adds first i n
  unfolding counting
  run-sum zero i l u = refl
  run-sum (suc n) i l u =
      let e : i % 8 ≡ i = omega arith in
      let f : suc (first + i) ≡ first + (i + 1) = omega arith in
      rw (drop-cons adds (first + i) 0 (omega arith), f, e)
      (sum_by-cons (λ (x : ℕ). x) (get_or adds (first + i) 0) (take n (drop (first + (i + 1)) adds)) ∙ ap (λ (k : ℕ). get_or adds (first + i) 0 + k) (run-sum n (i + 1) (omega arith) (omega arith)))

  pub few-sum : (n : ℕ) → n ≤ 8 → first + n ≤ length adds → sum (take n (drop first adds)) ≡ counting adds first 0 n
  few-sum n l u = let e : first + 0 ≡ first = omega arith in rw e at (run-sum n 0 (omega arith) (omega arith))

  pub few-most : Ones adds first → (n i : ℕ) → counting adds first i n ≤ n
  unfolding counting
  few-most ones zero i = omega arith
  few-most ones (suc n) i = omega (arith, ones.one (i % 8) (omega arith), few-most ones n (i + 1))

  -- ---- a row by eights
  split : (i a b : ℕ) → counting adds first i (a + b) ≡ counting adds first i a + counting adds first (i + a) b
  unfolding counting
  split i zero b = let e : 0 + b ≡ b = omega arith in let f : i + 0 ≡ i = omega arith in rw (e, f) (omega arith)
  split i (suc a) b =
      let e : suc a + b ≡ suc (a + b) = omega arith in
      let f : i + 1 + a ≡ i + suc a = omega arith in
      rw e (omega (arith, split (i + 1) a b ∙ ap (λ (k : ℕ). counting adds first (i + 1) a + counting adds first k b) f))

  shift : (i w : ℕ) → counting adds first (i + 8) w ≡ counting adds first i w
  unfolding counting
  shift i zero = refl
  shift i (suc w) =
      let e : (i + 8) % 8 ≡ i % 8 = omega arith in
      let f : i + 8 + 1 ≡ i + 1 + 8 = omega arith in
      rw (e, f) (ap (λ (k : ℕ). get_or adds (first + i % 8) 0 + k) (shift (i + 1) w))

  eights : (q r : ℕ) → counting adds first 0 (q * 8 + r) ≡ q * counting adds first 0 8 + counting adds first 0 r
  eights zero r = let e : 0 * 8 + r ≡ r = omega arith in rw e (omega arith)
  eights (suc q) r =
      let e : suc q * 8 + r ≡ 8 + (q * 8 + r) = omega arith in
      rw (e, split 0 8 (q * 8 + r), shift 0 (q * 8 + r)) (omega (arith, eights q r, suc-mul q (counting adds first 0 8)))

  pub by-eights : (w : ℕ) → w / 8 * counting adds first 0 8 + counting adds first 0 (w % 8) ≡ counting adds first 0 w
  by-eights w = sym (eights (w / 8) (w % 8)) ∙ ap (counting adds first 0) (div-add-mod' w 8)

module _ (adds : List ℕ) (w : ℕ) where
  pub rows-turn : (h j r : ℕ) → j < h → r + counting adds (j % 8 * 8) 0 w + countings adds w (j + 1) (h - (j + 1)) ≡ r + countings adds w j (h - j)
  unfolding countings
  rows-turn h j r l = let q : h - j ≡ suc (h - (j + 1)) = omega arith in rw q (omega arith)

  pub rows-done : (h j r : ℕ) → h ≤ j → r + countings adds w j (h - j) ≡ r
  unfolding countings
  rows-done h j r l = let q : h - j ≡ 0 = omega arith in rw q (omega arith)

-- ---- as many as pixels by pixels
module _ (adds : List ℕ) (x y : ℕ) where
  -- what the mask of a pixel adds
  abbrev pub adds_at : Px → ℕ
  adds_at p = get_or adds ((p.y - y) % 8 * 8 + (p.x - x) % 8) 0

  row-summed : (j i w : ℕ) → summed adds_at (across false (x + i) w (y + j)) ≡ counting adds (j % 8 * 8) i w
  unfolding summed across counting
  row-summed j i zero = refl
  row-summed j i (suc w) =
      let e : (y + j - y) % 8 ≡ j % 8 = omega arith in
      let f : (x + i - x) % 8 ≡ i % 8 = omega arith in
      let g : x + i + 1 ≡ x + (i + 1) = omega arith in
      rw (e, f, g) (ap (λ (k : ℕ). get_or adds (j % 8 * 8 + i % 8) 0 + k) (row-summed j (i + 1) w))

  rows-summed : (w j h : ℕ) → summed adds_at (rect false false x (y + j) w h) ≡ countings adds w j h
  unfolding rect countings summed
  rows-summed w j zero = refl
  rows-summed w j (suc h) =
      let e : y + j + 1 ≡ y + (j + 1) = omega arith in
      let f : x ≡ x + 0 = omega arith in
      summed-append adds_at (across false x w (y + j)) (rect false false x (y + j + 1) w h)
      ∙ ap₂ ◌+◌ (ap (λ (c : ℕ). summed adds_at (across false c w (y + j))) f ∙ row-summed j 0 w) (ap (λ (r : ℕ). summed adds_at (rect false false x r w h)) e ∙ rows-summed w (j + 1) h)

  pub rect-summed : (w h : ℕ) → summed adds_at (rect false false x y w h) ≡ countings adds w 0 h
  rect-summed w h = let e : y ≡ y + 0 = omega arith in ap (λ (r : ℕ). summed adds_at (rect false false x r w h)) e ∙ rows-summed w 0 h
