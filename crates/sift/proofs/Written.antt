-- The pixels of a rectangle that pass the test of their source are those that painting writes: what leaves a pixel, a bit of the pattern or of a mono source, is not
-- changed by painting, since a mono source shares no byte with its target.
-- Assumes nothing.
use mathlib.Core.Path.{◌≡◌, refl, sym, ap, ap₂, ◌∙◌}
use mathlib.Core.Logic.{⊎_elim}
use mathlib.Core.Bool.{Bool, true, false, cond, not, false≢true}
use mathlib.Core.List.Memᴰ
use mathlib.Core.List.{List, [], ◌∷◌, map}
use mathlib.Core.Option.{Option, none, some}
use Prim.Native.Nat.{ℕ, suc, ◌≤◌}
use native.Mathlib.Omega.{arith}
use lib.ListN.{length}
use Rattle.surface.specs.declared.Surface.{Surface}
use Rattle.surface.specs.Pixels.{Px}
use Rattle.surface.proofs.Lists.{In}
use Rattle.surface.proofs.Rects.{Distinct}
use Rattle.raster.specs.Rop.{rop_bits}
use Rattle.ink.specs.declared.Ink.{Ink}
use Rattle.paint.specs.declared.Source.{Source}
use Rattle.paint.specs.Paint.{state, Touch, touch, dab, given, wrote}
use Rattle.paint.specs.Mix.{chosen as chosen_rop, target_match, mixed}
use Rattle.sift.specs.Sift.{chosen}
use Rattle.sift.proofs.SiftLaws.{chosen-in}

-- whether something is given
abbrev pub is_given : Option ℕ → Bool
is_given none = false
is_given (some v) = true

-- a pixel is given something exactly where its source does not leave it
pub mixed-given : (ink : Ink) (pattern : ℕ) (s : Source) (old : ℕ) → is_given (mixed ink pattern s old) ≡ not s.left
unfolding mixed
mixed-given ink pattern s old = by s.left (rop_bits 32 (chosen_rop ink s.key (target_match ink old)) pattern s.value old)
  where
    by : (t : Bool) (v : ℕ) → is_given (cond t none (some v)) ≡ not t
    by true v = refl
    by false v = refl

-- ---- pixels that are given something, or nothing, by a test that painting does not change
module _ (s : Surface) (g : Px → List ℕ → Option ℕ) (f : Px → Bool) (Stays : List ℕ → Type 0) (all : List Px)
    (tested : (p : Px) (m : List ℕ) → In p all → Stays m → is_given (g p m) ≡ f p)
    (stays : (p : Px) (m : List ℕ) → In p all → Stays m → Stays (dab s p (g p m) (state m 0 0)).mem) where
  abbrev touches : List Px → List Touch
  touches ps = map (λ p. touch p (g p)) ps

  pub wrote-chosen : (ps : List Px) (m : List ℕ) → ((p : Px) → In p ps → In p all) → Stays m → wrote s (touches ps) m ≡ chosen f ps
  unfolding wrote chosen
  wrote-chosen [] m i h = refl
  wrote-chosen (p ∷ ps) m i h =
      by (g p m) (f p) (tested p m (i p (Memᴰ.head refl)) h)
      (wrote-chosen ps (dab s p (g p m) (state m 0 0)).mem (λ q j. i q (Memᴰ.tail j)) (stays p m (i p (Memᴰ.head refl)) h))
    where
      by : (o : Option ℕ) (t : Bool) → is_given o ≡ t → wrote s (touches ps) (dab s p (g p m) (state m 0 0)).mem ≡ chosen f ps
          → given o p (wrote s (touches ps) (dab s p (g p m) (state m 0 0)).mem) ≡ cond t (p ∷ chosen f ps) (chosen f ps)
      by none true e more = absurd (let z : ◌≡◌ {A = ℕ} 0 1 = cc in omega arith)
      by none false e more = more
      by (some v) true e more = ap (λ (qs : List Px). p ∷ qs) more
      by (some v) false e more = absurd (let z : ◌≡◌ {A = ℕ} 0 1 = cc in omega arith)

-- ---- a part of a list without repetition has none; and one of the same length is all of it
module _ (f : Px → Bool) where
  pub chosen-distinct : (ps : List Px) → Distinct ps → Distinct (chosen f ps)
  unfolding chosen
  chosen-distinct [] d = tt
  chosen-distinct (p ∷ ps) d = by (chosen-distinct ps d.1) (f p)
    where
      by : Distinct (chosen f ps) → (t : Bool) → Distinct (cond t (p ∷ chosen f ps) (chosen f ps))
      by more true = (λ q i. d.0 q (chosen-in f ps q i), more)
      by more false = more

  pub chosen-most : (ps : List Px) → length (chosen f ps) ≤ length ps
  unfolding chosen
  chosen-most [] = omega arith
  chosen-most (p ∷ ps) = by (chosen-most ps) (f p)
    where
      by : length (chosen f ps) ≤ length ps → (t : Bool) → length (cond t (p ∷ chosen f ps) (chosen f ps)) ≤ suc (length ps)
      by more true = omega arith
      by more false = omega arith

  pub chosen-all : (ps : List Px) → length (chosen f ps) ≡ length ps → chosen f ps ≡ ps
  unfolding chosen
  chosen-all [] e = refl
  chosen-all (p ∷ ps) e = by (chosen-all ps) (chosen-most ps) (f p) e
    where
      by : (length (chosen f ps) ≡ length ps → chosen f ps ≡ ps) → length (chosen f ps) ≤ length ps → (t : Bool)
          → length (cond t (p ∷ chosen f ps) (chosen f ps)) ≡ suc (length ps) → cond t (p ∷ chosen f ps) (chosen f ps) ≡ p ∷ ps
      by more most true e = ap (λ (qs : List Px). p ∷ qs) (more (omega arith))
      by more most false e = absurd (omega arith)

-- a pixel is chosen exactly if it is there and passes the test
module _ (f : Px → Bool) where
  pub chosen-has : (ps : List Px) (q : Px) → In q ps → f q ≡ true → In q (chosen f ps)
  unfolding chosen
  chosen-has [] q i e = i
  chosen-has (p ∷ ps) q i e = by (λ j. chosen-has ps q j e) (f p) refl
    where
      by : (In q ps → In q (chosen f ps)) → (t : Bool) → f p ≡ t → In q (cond t (p ∷ chosen f ps) (chosen f ps))
      by more true h = ⊎_elim (λ same. Memᴰ.head same) (λ j. Memᴰ.tail (more j)) (Memᴰ.cases_cons i)
      by more false h = ⊎_elim (λ same. absurd (false≢true (sym h ∙ ap f (sym same) ∙ e))) more (Memᴰ.cases_cons i)

  pub chosen-true : (ps : List Px) (q : Px) → In q (chosen f ps) → f q ≡ true
  unfolding chosen
  chosen-true [] q i = absurd (Memᴰ.not-nil i)
  chosen-true (p ∷ ps) q i = by (chosen-true ps q) (f p) refl i
    where
      by : (In q (chosen f ps) → f q ≡ true) → (t : Bool) → f p ≡ t → In q (cond t (p ∷ chosen f ps) (chosen f ps)) → f q ≡ true
      by more true h j = ⊎_elim (λ same. ap f same ∙ h) more (Memᴰ.cases_cons j)
      by more false h j = more j

  pub chosen-every : (ps : List Px) → ((p : Px) → In p ps → f p ≡ true) → chosen f ps ≡ ps
  unfolding chosen
  chosen-every [] h = refl
  chosen-every (p ∷ ps) h = rw (h p (Memᴰ.head refl)) (ap (λ (qs : List Px). p ∷ qs) (chosen-every ps (λ q i. h q (Memᴰ.tail i))))

-- the same test, the same pixels
pub chosen-same : (f g : Px → Bool) (ps : List Px) → ((p : Px) → In p ps → f p ≡ g p) → chosen f ps ≡ chosen g ps
unfolding chosen
chosen-same f g [] h = refl
chosen-same f g (p ∷ ps) h = ap₂ (λ (t : Bool) (qs : List Px). cond t (p ∷ qs) qs) (h p (Memᴰ.head refl)) (chosen-same f g ps (λ q i. h q (Memᴰ.tail i)))
