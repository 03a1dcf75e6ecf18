-- Painting different pixels, none of which reads what an earlier one wrote: each has what it alone would have been given, every other byte is as it was, and
-- the order does not matter.
-- Assumes nothing.
use mathlib.Core.Path.{◌≡◌, refl, sym, ap, subst, ◌∙◌}
use mathlib.Core.Logic.{⊎_elim}
use mathlib.Core.List.Memᴰ
use mathlib.Core.List.{List, [], ◌∷◌, map}
use mathlib.Core.Option.{Option, none, some}
use Prim.Native.Nat.{ℕ, ◌+◌, ◌<◌, ◌≤◌}
use native.Mathlib.Nat.{le_antisymm, add-zero}
use native.Mathlib.Omega.{arith}
use lib.ListN.{length, get_or}
use lib.Seq.{ext_get_or}
use Rattle.surface.specs.declared.Surface.{Surface}
use Rattle.surface.specs.Pixels.{Px}
use Rattle.surface.proofs.Lists.{In, Pairs}
use Rattle.surface.proofs.Rects.{Distinct}
use Rattle.spans.proofs.Spans.{IsByte}
use Rattle.paint.specs.declared.Tally.{Tally}
use Rattle.paint.specs.Paint.{State, tallied, state, Touch, touch, dab, paint, changing, summed}
use Rattle.paint.proofs.Owners.{one-owner, dab-leaves, dab-length, dab-agree, owner}
use Rattle.paint.proofs.Frame.{pixels-of}
use Rattle.paint.proofs.Changes.{Columns, changed-from}

-- what a pixel is given, from the memory that its source is read in and from the memory now
abbrev pub Brush : Type 0
Brush = List ℕ → List ℕ → Px → Option ℕ

abbrev pub in_place : Brush → List Px → List Touch
in_place brush ps = map (λ p. touch p (λ now. brush now now p)) ps

abbrev pub from : Brush → List ℕ → List Px → List Touch
from brush m ps = map (λ p. touch p (λ now. brush m now p)) ps

-- it depends on the source bytes that Reads names, and on the pixel itself
pub record Local (s : Surface) (brush : Brush) (Reads : Px → ℕ → Type 0) : Type 0 where
  pub same : (p : Px) (m m' now now' : List ℕ)
      → ((a : ℕ) → Reads p a → get_or m a 0 ≡ get_or m' a 0)
      → ((a : ℕ) → IsByte s p a → get_or now a 0 ≡ get_or now' a 0)
      → brush m now p ≡ brush m' now' p

-- a step at q reads no byte of p
abbrev pub Unread : Surface → (Px → ℕ → Type 0) → Px → Px → Type 0
Unread s Reads p q = (a : ℕ) → Reads q a → IsByte s p a → ⊥

abbrev pub counted : Option ℕ → ℕ
counted none = 0
counted (some v) = 1

-- the pixels have what their steps give from m, each as if it were the only one, and all else is as it was
pub record Settled (s : Surface) (brush : Brush) (m : List ℕ) (ps : List Px) (st st' : State) : Type 0 where
  pub given : (p : Px) → In p ps → (a : ℕ) → IsByte s p a → get_or st'.mem a 0 ≡ get_or (dab s p (brush m m p) (state m 0 0)).mem a 0
  pub others : (a : ℕ) → ((p : Px) → In p ps → IsByte s p a → ⊥) → get_or st'.mem a 0 ≡ get_or st.mem a 0
  pub long : length st'.mem ≡ length st.mem
  pub counts : st'.tally.count ≡ st.tally.count + summed (λ p. counted (brush m m p)) ps
  pub changes : st'.tally.changed ≡ st.tally.changed + summed (changing s m st'.mem) ps

dab-counts : (s : Surface) (p : Px) (o : Option ℕ) (st : State) → (dab s p o st).tally.count ≡ st.tally.count + counted o
unfolding dab
dab-counts s p none st = sym (add-zero st.tally.count)
dab-counts s p (some v) st = refl

module _ (s : Surface) (colour : 0 < s.bytes) (brush : Brush) (Reads : Px → ℕ → Type 0) (loc : Local s brush Reads) where
  -- ---- in place, or from the memory as it was
  in-place-from : (m : List ℕ) (ps : List Px) (st : State) → Pairs (Unread s Reads) ps
      → ((q : Px) → In q ps → (a : ℕ) → Reads q a → get_or st.mem a 0 ≡ get_or m a 0)
      → paint s (in_place brush ps) st ≡ paint s (from brush m ps) st
  unfolding paint
  in-place-from m [] st u h = refl
  in-place-from m (p ∷ ps) st u h =
      let e : brush st.mem st.mem p ≡ brush m st.mem p = loc.same p st.mem m st.mem st.mem (h p (Memᴰ.head refl)) (λ a b. refl) in
      ap (λ (o : Option ℕ). paint s (in_place brush ps) (dab s p o st)) e
      ∙ in-place-from m ps (dab s p (brush m st.mem p) st) u.1
      (λ q i a r. dab-leaves s colour p (brush m st.mem p) st a (u.0 q i a r) ∙ h q (Memᴰ.tail i) a r)

  pub in-place : (ps : List Px) (m : List ℕ) (n : Tally) → Pairs (Unread s Reads) ps → paint s (in_place brush ps) (tallied m n) ≡ paint s (from brush m ps) (tallied m n)
  in-place ps m n u = in-place-from m ps (tallied m n) u (λ q i a r. refl)

  -- ---- what it comes to
  changed-settled : (m : List ℕ) (ps : List Px) (st : State) → Distinct ps → Columns s ps
      → ((q : Px) → In q ps → (a : ℕ) → IsByte s q a → get_or st.mem a 0 ≡ get_or m a 0)
      → (paint s (from brush m ps) st).tally.changed ≡ st.tally.changed + summed (changing s m (paint s (from brush m ps) st).mem) ps
  changed-settled m ps st =
      subst (λ (qs : List Px). Distinct qs → Columns s qs → ((q : Px) → In q qs → (a : ℕ) → IsByte s q a → get_or st.mem a 0 ≡ get_or m a 0)
      → (paint s (from brush m ps) st).tally.changed ≡ st.tally.changed + summed (changing s m (paint s (from brush m ps) st).mem) qs)
      (pixels-of (λ p now. brush m now p) ps) (changed-from s colour m (from brush m ps) st)

  settled-from : (m : List ℕ) (ps : List Px) (st : State) → Distinct ps → Columns s ps → length st.mem ≡ length m
      → ((q : Px) → In q ps → (a : ℕ) → IsByte s q a → get_or st.mem a 0 ≡ get_or m a 0)
      → Settled s brush m ps st (paint s (from brush m ps) st)
  unfolding paint summed
  settled-from m [] st d c l h = record {
    given = λ p i. absurd (Memᴰ.not-nil i);
    others = λ a f. refl;
    long = refl;
    counts = sym (add-zero st.tally.count);
    changes = sym (add-zero st.tally.changed);
  }
  settled-from m (p ∷ ps) st d c l h =
      let o = brush m st.mem p in
      let st₁ = dab s p o st in
      let e : o ≡ brush m m p = loc.same p m m st.mem m (λ a b. refl) (h p (Memᴰ.head refl)) in
      let apart : (q : Px) → In q ps → (a : ℕ) → IsByte s q a → IsByte s p a → ⊥ =
      (λ q i a b b'. d.0 q i (one-owner s colour p q a (c p (Memᴰ.head refl)) (c q (Memᴰ.tail i)) b' b)) in
      let r = settled-from m ps st₁ d.1 (λ q i. c q (Memᴰ.tail i)) (dab-length s p o st ∙ l)
      (λ q i a b. dab-leaves s colour p o st a (apart q i a b) ∙ h q (Memᴰ.tail i) a b) in
      let own : (a : ℕ) → IsByte s p a → get_or (paint s (from brush m ps) st₁).mem a 0 ≡ get_or (dab s p (brush m m p) (state m 0 0)).mem a 0 =
      (λ a b. r.others a (λ q i b'. apart q i a b' b) ∙ dab-agree s p o st (state m 0 0) a l (h p (Memᴰ.head refl) a b)
      ∙ ap (λ (v : Option ℕ). get_or (dab s p v (state m 0 0)).mem a 0) e) in
      record {
        given = λ q i a b. ⊎_elim
            (λ w. subst (λ (x : Px). (a : ℕ) → IsByte s x a → get_or (paint s (from brush m ps) st₁).mem a 0 ≡ get_or (dab s x (brush m m x) (state m 0 0)).mem a 0) (sym w) own a b)
            (λ j. r.given q j a b) (Memᴰ.cases_cons i);
        others = λ a f. r.others a (λ q i. f q (Memᴰ.tail i)) ∙ dab-leaves s colour p o st a (f p (Memᴰ.head refl));
        long = r.long ∙ dab-length s p o st;
        counts = let f : counted o ≡ counted (brush m m p) = ap counted e in omega (arith, r.counts, dab-counts s p o st);
        changes = changed-settled m (p ∷ ps) st d c h;
      }

  pub settled : (m : List ℕ) (ps : List Px) (n : Tally) → Distinct ps → Columns s ps → Settled s brush m ps (tallied m n) (paint s (from brush m ps) (tallied m n))
  settled m ps n d c = settled-from m ps (tallied m n) d c refl (λ q i a b. refl)

-- ---- any order
without : {p : Px} {ps : List Px} → In p ps → List Px
without (Memᴰ.head {x} {xs} e) = xs
without (Memᴰ.tail {x} {xs} i) = x ∷ without i

summed-without : (f : Px → ℕ) {p : Px} {ps : List Px} (i : In p ps) → summed f ps ≡ f p + summed f (without i)
unfolding summed without
summed-without f (Memᴰ.head {x} {xs} e) = ap (λ (q : Px). f q + summed f xs) (sym e)
summed-without f (Memᴰ.tail {x} {xs} i) = omega (arith, summed-without f i)

kept : {p : Px} {ps : List Px} (i : In p ps) (q : Px) → (q ≡ p → ⊥) → In q ps → In q (without i)
unfolding without
kept (Memᴰ.head {x} {xs} e) q n j = ⊎_elim (λ w. absurd (n (w ∙ sym e))) (λ k. k) (Memᴰ.cases_cons j)
kept (Memᴰ.tail {x} {xs} i) q n j = ⊎_elim (λ w. Memᴰ.head w) (λ k. Memᴰ.tail (kept i q n k)) (Memᴰ.cases_cons j)

summed-le : (f : Px → ℕ) (ps qs : List Px) → Distinct ps → ((p : Px) → In p ps → In p qs) → summed f ps ≤ summed f qs
unfolding summed
summed-le f [] qs d h = omega arith
summed-le f (p ∷ ps) qs d h =
    let i = h p (Memᴰ.head refl) in
    omega (arith, summed-without f i, summed-le f ps (without i) d.1 (λ q j. kept i q (λ e. d.0 q j (sym e)) (h q (Memᴰ.tail j))))

-- a sum over the same pixels
same_sum : (f : Px → ℕ) (ps qs : List Px) → Distinct ps → Distinct qs → ((p : Px) → In p ps → In p qs) → ((p : Px) → In p qs → In p ps)
    → summed f ps ≡ summed f qs
same_sum f ps qs dp dq to back = le_antisymm (summed-le f ps qs dp to) (summed-le f qs ps dq back)

settled_same : (s : Surface) (brush : Brush) (m : List ℕ) (ps qs : List Px) (st a b : State) → Distinct ps → Distinct qs
    → ((p : Px) → In p ps → In p qs) → ((p : Px) → In p qs → In p ps) → Settled s brush m ps st a → Settled s brush m qs st b → a ≡ b
settled_same s brush m ps qs st a b dp dq f g ha hb =
    let mems : a.mem ≡ b.mem = ext_get_or 0 a.mem b.mem (ha.long ∙ sym hb.long)
    (λ i l. ⊎_elim (λ r. ha.given r.0 r.1 i r.2 ∙ sym (hb.given r.0 (f r.0 r.1) i r.2))
    (λ h. ha.others i h ∙ sym (hb.others i (λ p j. h p (g p j)))) (owner s ps i)) in
    let t : summed (λ p. counted (brush m m p)) ps ≡ summed (λ p. counted (brush m m p)) qs = same_sum (λ p. counted (brush m m p)) ps qs dp dq f g in
    let counts : a.tally.count ≡ b.tally.count = omega (arith, ha.counts, hb.counts) in
    let u : summed (changing s m a.mem) ps ≡ summed (changing s m b.mem) qs =
    same_sum (changing s m a.mem) ps qs dp dq f g ∙ ap (λ (m' : List ℕ). summed (changing s m m') qs) mems in
    let changed : a.tally.changed ≡ b.tally.changed = omega (arith, ha.changes, hb.changes) in
    λ i. state (mems i) (counts i) (changed i)

pub any_order : (s : Surface) → 0 < s.bytes → (brush : Brush) (Reads : Px → ℕ → Type 0) → Local s brush Reads → (m : List ℕ) (ps qs : List Px) (n : Tally)
    → Distinct ps → Distinct qs → ((p : Px) → In p ps → In p qs) → ((p : Px) → In p qs → In p ps) → Columns s ps
    → paint s (from brush m ps) (tallied m n) ≡ paint s (from brush m qs) (tallied m n)
any_order s colour brush Reads loc m ps qs n dp dq f g c =
    settled_same s brush m ps qs (tallied m n) (paint s (from brush m ps) (tallied m n)) (paint s (from brush m qs) (tallied m n)) dp dq f g
    (settled s colour brush Reads loc m ps n dp c) (settled s colour brush Reads loc m qs n dq (λ p i. c p (g p i)))
