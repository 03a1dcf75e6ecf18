-- What was changed: where no pixel is touched twice, those told as changed are the pixels whose bytes are not the same before all and after all, in whatever
-- order they were touched.
-- Assumes nothing.
use mathlib.Core.Path.{◌≡◌, refl, sym, ap, ap₂, subst, ◌∙◌}
use mathlib.Core.Bool.{Bool, true, false, cond, not}
use mathlib.Core.List.Memᴰ
use mathlib.Core.List.{List, [], ◌∷◌, ◌++◌}
use mathlib.Core.Option.{Option, none, some}
use Prim.Native.Nat.{ℕ, ◌+◌, ◌<◌, ◌≤◌}
use native.Mathlib.Nat.{add-zero}
use native.Mathlib.Omega.{arith}
use lib.Dec.{eqb}
use lib.ListN.{length, get_or}
use borrow.Author.Tests.{eq-eqb}
use Rattle.surface.specs.declared.Surface.{Surface}
use Rattle.surface.specs.Place.{read_px, one, differs, row_pixels}
use Rattle.surface.specs.Pixels.{Px}
use Rattle.surface.proofs.OnLaws.{one-most}
use Rattle.surface.proofs.Lists.{In}
use Rattle.surface.proofs.Rects.{Distinct}
use Rattle.spans.proofs.Spans.{IsByte}
use Rattle.paint.specs.declared.Tally.{Tally}
use Rattle.paint.specs.Tally.{tally}
use Rattle.paint.specs.Paint.{State, tallied, state, Touch, dab, paint, altered, changing, summed}
use Rattle.paint.proofs.Owners.{one-owner, dab-leaves, read-px}
use Rattle.paint.proofs.Frame.{pixels, frame}

-- the pixels are the surface's columns
abbrev pub Columns : Surface → List Px → Type 0
Columns s ps = (p : Px) → In p ps → p.x < row_pixels s

-- ---- sums over pixels
pub summed_same : (f g : Px → ℕ) (ps : List Px) → ((p : Px) → In p ps → f p ≡ g p) → summed f ps ≡ summed g ps
unfolding summed
summed_same f g [] h = refl
summed_same f g (p ∷ ps) h = ap₂ (λ (a b : ℕ). a + b) (h p (Memᴰ.head refl)) (summed_same f g ps (λ q i. h q (Memᴰ.tail i)))

pub summed-none : (f : Px → ℕ) (ps : List Px) → ((p : Px) → f p ≡ 0) → summed f ps ≡ 0
unfolding summed
summed-none f [] h = refl
summed-none f (p ∷ ps) h = omega (arith, h p, summed-none f ps h)

pub summed-append : (f : Px → ℕ) (ps qs : List Px) → summed f (ps ++ qs) ≡ summed f ps + summed f qs
unfolding summed
summed-append f [] qs = omega arith
summed-append f (p ∷ ps) qs = omega (arith, summed-append f ps qs)

-- ---- one store
pub same_differs : (s : Surface) (m : List ℕ) (p : Px) → changing s m m p ≡ 0
same_differs s m p = rw (eq-eqb (read_px m s p.x p.y) (read_px m s p.x p.y) refl)

dab-changes : (s : Surface) (p : Px) (o : Option ℕ) (st : State)
    → (dab s p o st).tally.changed ≡ st.tally.changed + changing s st.mem (dab s p o st).mem p
unfolding dab
dab-changes s p none st = let e = same_differs s st.mem p in omega (arith, e)
dab-changes s p (some v) st = refl

-- those told as changed are the ones that their own stores altered
counted-in : (d : Bool) (p : Px) (ps : List Px) → length (cond d (p ∷ ps) ps) ≡ one d + length ps
counted-in true p ps = omega arith
counted-in false p ps = omega arith

dab-mem : (s : Surface) (p : Px) (o : Option ℕ) (m : List ℕ) (n k : Tally) → (dab s p o (tallied m n)).mem ≡ (dab s p o (tallied m k)).mem
unfolding dab
dab-mem s p none m n k = refl
dab-mem s p (some v) m n k = refl

pub changed-altered : (s : Surface) (ts : List Touch) (m : List ℕ) (n : Tally) → (paint s ts (tallied m n)).tally.changed ≡ n.changed + length (altered s ts m)
unfolding paint altered
changed-altered s [] m n = omega arith
changed-altered s (t ∷ ts) m n =
    let st = dab s t.at (t.gives m) (tallied m n) in
    let rest = changed-altered s ts st.mem st.tally in
    let own = dab-changes s t.at (t.gives m) (tallied m n) in
    let more = counted-in (differs s t.at.x t.at.y m st.mem) t.at (altered s ts st.mem) in
    subst (λ (left : List ℕ). (paint s ts st).tally.changed ≡ n.changed + length (cond (differs s t.at.x t.at.y m left) (t.at ∷ altered s ts left) (altered s ts left)))
    (dab-mem s t.at (t.gives m) m n (tally 0 0)) (omega (arith, rest, own, more))

-- it asks only for the pixel's bytes
pub changing-same : (s : Surface) → 0 < s.bytes → (p : Px) (a a' b b' : List ℕ) → ((i : ℕ) → IsByte s p i → get_or a i 0 ≡ get_or a' i 0)
    → ((i : ℕ) → IsByte s p i → get_or b i 0 ≡ get_or b' i 0) → changing s a b p ≡ changing s a' b' p
changing-same s colour p a a' b b' f g = ap₂ (λ (v w : ℕ). one (not (eqb v w))) (read-px s colour p a a' f) (read-px s colour p b b' g)

-- no more change than there are
pub changing-most : (s : Surface) (m m' : List ℕ) (ps : List Px) → summed (changing s m m') ps ≤ length ps
unfolding summed
changing-most s m m' [] = omega arith
changing-most s m m' (p ∷ ps) = omega (arith, one-most (differs s p.x p.y m m'), changing-most s m m' ps)

-- ---- all of them
module _ (s : Surface) (colour : 0 < s.bytes) where
  -- pixels in two parts: the first has changed by the time m, the second changes after it
  pub summed-then : (m₀ m m' : List ℕ) (ps qs : List Px) → ((p : Px) → In p ps → (a : ℕ) → IsByte s p a → get_or m' a 0 ≡ get_or m a 0)
      → ((q : Px) → In q qs → (a : ℕ) → IsByte s q a → get_or m a 0 ≡ get_or m₀ a 0)
      → summed (changing s m₀ m') (ps ++ qs) ≡ summed (changing s m₀ m) ps + summed (changing s m m') qs
  summed-then m₀ m m' ps qs done still =
      summed-append (changing s m₀ m') ps qs
      ∙ ap₂ (λ (a b : ℕ). a + b)
      (summed_same (changing s m₀ m') (changing s m₀ m) ps (λ p i. changing-same s colour p m₀ m₀ m' m (λ a b. refl) (done p i)))
      (summed_same (changing s m₀ m') (changing s m m') qs (λ q i. changing-same s colour q m₀ m m' m' (λ a b. sym (still q i a b)) (λ a b. refl)))

  pub changed-from : (m : List ℕ) (ts : List Touch) (st : State) → Distinct (pixels ts) → Columns s (pixels ts)
      → ((q : Px) → In q (pixels ts) → (a : ℕ) → IsByte s q a → get_or st.mem a 0 ≡ get_or m a 0)
      → (paint s ts st).tally.changed ≡ st.tally.changed + summed (changing s m (paint s ts st).mem) (pixels ts)
  unfolding paint summed
  changed-from m [] st d c h = sym (add-zero st.tally.changed)
  changed-from m (t ∷ ts) st d c h =
      let p = t.at in
      let o = t.gives st.mem in
      let st₁ = dab s p o st in
      let apart : (q : Px) → In q (pixels ts) → (a : ℕ) → IsByte s q a → IsByte s p a → ⊥ =
      (λ q i a b b'. d.0 q i (one-owner s colour p q a (c p (Memᴰ.head refl)) (c q (Memᴰ.tail i)) b' b)) in
      let own : changing s st.mem st₁.mem p ≡ changing s m (paint s ts st₁).mem p =
      changing-same s colour p st.mem m st₁.mem (paint s ts st₁).mem (h p (Memᴰ.head refl))
      (λ a b. sym (frame s colour ts st₁ a (λ q i b'. apart q i a b' b))) in
      let rest = changed-from m ts st₁ d.1 (λ q i. c q (Memᴰ.tail i))
      (λ q i a b. dab-leaves s colour p o st a (apart q i a b) ∙ h q (Memᴰ.tail i) a b) in
      omega (arith, rest, own, dab-changes s p o st)

  pub changed-between : (ts : List Touch) (m : List ℕ) (n : Tally) → Distinct (pixels ts) → Columns s (pixels ts)
      → (paint s ts (tallied m n)).tally.changed ≡ n.changed + summed (changing s m (paint s ts (tallied m n)).mem) (pixels ts)
  changed-between ts m n d c = changed-from m ts (tallied m n) d c (λ q i a b. refl)

  -- so whoever leaves the memory that painting leaves, counts what it counts, and adds up the pixels that differ, has painted
  pub told : (ts : List Touch) (m : List ℕ) (n : Tally) → Distinct (pixels ts) → Columns s (pixels ts) → {m' : List ℕ} {k c : ℕ}
      → m' ≡ (paint s ts (tallied m n)).mem → k ≡ (paint s ts (tallied m n)).tally.count → c ≡ n.changed + summed (changing s m m') (pixels ts)
      → state m' k c ≡ paint s ts (tallied m n)
  told ts m n d columns {m'} {k} {c} left count sum =
      let changed : c ≡ (paint s ts (tallied m n)).tally.changed =
      sum ∙ ap (λ (after : List ℕ). n.changed + summed (changing s m after) (pixels ts)) left ∙ sym (changed-between ts m n d columns) in
      λ i. state (left i) (count i) (changed i)
