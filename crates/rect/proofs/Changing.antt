-- Rows that runs change, one after the other: the pixels changed since the start are those changed before, and those of the row.
-- Assumes nothing.
use mathlib.Core.Path.{◌≡◌, refl, sym, ap, subst, ◌∙◌}
use mathlib.Core.Logic.{◌⊎◌, ⊎_elim}
use mathlib.Core.Bool.{false}
use mathlib.Core.List.{List, append-nil}
use Prim.Native.Nat.{ℕ, zero, suc, ◌+◌, ◌-◌, ◌*◌, ◌/◌, ◌%◌, ◌<◌, ◌≤◌}
use native.Mathlib.Nat.{add-zero, mod-lt}
use native.Mathlib.Omega.{arith}
use lib.ListN.{get_or}
use Rattle.surface.specs.declared.Surface.{Surface}
use Rattle.surface.specs.Place.{byte_of, row_pixels}
use Rattle.surface.specs.Pixels.{Px, across, rect}
use Rattle.surface.proofs.Pixels.{same_byte}
use Rattle.surface.proofs.Lists.{In}
use Rattle.surface.proofs.Rects.{in-across, in-rect}
use Rattle.surface.proofs.Run.{run-byte}
use Rattle.spans.proofs.Spans.{IsByte}
use Rattle.paint.specs.Paint.{changing, summed}
use Rattle.paint.proofs.Owners.{of-byte}
use Rattle.paint.proofs.Changes.{summed-append, summed-then}
use Rattle.runs.specs.Runs.{unlikes, Shifted, Given}
use Rattle.runs.proofs.Runs.{untouched, run_inside, run-column, run-place}
use Rattle.runs.proofs.Alike.{row-unlike}

-- ---- a sum over one row more, below or above
module _ (f : Px → ℕ) (x w : ℕ) where
  row_below : (top h : ℕ) → summed f (rect false false x top w (suc h)) ≡ summed f (rect false false x top w h) + summed f (across false x w (top + h))
  unfolding rect summed
  row_below top zero = rw (add-zero top, append-nil (across false x w top)) (omega arith)
  row_below top (suc h) =
      let e : top + 1 + h ≡ top + suc h = omega arith in
      let below = subst (λ (y : ℕ). summed f (rect false false x (top + 1) w (suc h)) ≡ summed f (rect false false x (top + 1) w h) + summed f (across false x w y)) e (row_below (top + 1) h) in
      omega (arith, below, summed-append f (across false x w top) (rect false false x (top + 1) w (suc h)), summed-append f (across false x w top) (rect false false x (top + 1) w h))

  row-above : (y h : ℕ) → summed f (rect false false x y w (suc h)) ≡ summed f (rect false false x (y + 1) w h) + summed f (across false x w y)
  unfolding rect
  row-above y h = omega (arith, summed-append f (across false x w y) (rect false false x (y + 1) w h))

  row_more : (top h top' y : ℕ) → ((top' ≡ top) × (y ≡ top + h)) ⊎ ((top' ≡ y) × (top ≡ y + 1))
      → summed f (rect false false x top' w (h + 1)) ≡ summed f (rect false false x top w h) + summed f (across false x w y)
  row_more top h top' y =
      let n : h + 1 ≡ suc h = omega arith in
      ⊎_elim (λ r. rw (n, r.0, r.1) (row_below top h)) (λ r. rw (n, r.0, r.1) (row-above y h))

-- ---- the row's pixels were as at the start, and the others stay as they are
module _ (s : Surface) (flat : s.tiled ≡ false) (colour : 0 < s.bytes) (byte : Px → ℕ → ℕ) (x w : ℕ) (columns : (c : ℕ) → c < w → x + c < row_pixels s) where
  at-column : (i : ℕ) → x ≤ i → i < x + w → i < row_pixels s
  at-column i low high = subst (λ (n : ℕ). n < row_pixels s) (omega arith) (columns (i - x) (omega arith))

  run-changes : (y from : ℕ) (m m₁ : List ℕ) → Shifted (byte_of s x y 0) from 0 (w * s.bytes) m m₁
      → unlikes m m s.bytes (byte_of s x y 0) from w ≡ summed (changing s m m₁) (across false x w y)
  run-changes y from m m₁ run =
      let at = byte_of s x y 0 in
      row-unlike s y m m₁ m m x at from w (λ c k l u. ap (λ (a : ℕ). get_or m a 0) (run-byte s flat x y at refl c k))
      (λ c k l u. sym (run.came (c * s.bytes + k) (omega arith) (run_inside s colour x y w c k l u)) ∙ ap (λ (a : ℕ). get_or m₁ a 0) (run-byte s flat x y at refl c k))

  pub changed_row : (top h top' y from : ℕ) (m₀ m m₁ : List ℕ) → ((top' ≡ top) × (y ≡ top + h)) ⊎ ((top' ≡ y) × (top ≡ y + 1))
      → Given s byte x top w h m₀ m → Shifted (byte_of s x y 0) from 0 (w * s.bytes) m m₁
      → summed (changing s m₀ m₁) (rect false false x top' w (h + 1)) ≡ summed (changing s m₀ m) (rect false false x top w h) + unlikes m m s.bytes (byte_of s x y 0) from w
  changed_row top h top' y from m₀ m m₁ rows given run =
      let apart : (r : ℕ) → top ≤ r → r < top + h → y ≡ r → ⊥ = (λ r a b e. ⊎_elim (λ z. omega arith) (λ z. omega arith) rows) in
      let above = rect false false x top w h in
      let row = across false x w y in
      let outside : (p : Px) → In p above → (a : ℕ) → IsByte s p a → get_or m₁ a 0 ≡ get_or m a 0 =
      (λ p i a b. let k = of-byte s colour p a b in
      let q = in-rect false false x top w h p i in
      untouched run a (λ j _ r e. apart p.y q.top q.bottom
      (same_byte s (x + j / s.bytes) y (j % s.bytes) p.x p.y b.k (columns (j / s.bytes) (run-column s colour x y w j r)) (at-column p.x q.left q.right) (mod-lt j colour) k.0
      (sym (run-place s colour x y flat j) ∙ e ∙ k.1)).1)) in
      let before : (p : Px) → In p row → (a : ℕ) → IsByte s p a → get_or m a 0 ≡ get_or m₀ a 0 =
      (λ p i a b. let k = of-byte s colour p a b in
      let r = in-across false x w y p i in
      given.others a (λ q inside j l e. apart q.y inside.top inside.bottom
      (sym r.2 ∙ (same_byte s p.x p.y b.k q.x q.y j (at-column p.x r.0 r.1) (at-column q.x inside.left inside.right) k.0 l (sym k.1 ∙ e)).1))) in
      row_more (changing s m₀ m₁) x w top h top' y rows ∙ sym (summed-append (changing s m₀ m₁) above row) ∙ summed-then s colour m₀ m m₁ above row outside before
      ∙ ap (λ (n : ℕ). summed (changing s m₀ m) above + n) (sym (run-changes y from m m₁ run))
