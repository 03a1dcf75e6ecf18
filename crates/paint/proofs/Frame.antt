-- Whatever is painted: only bytes of the pixels touched change, memory keeps its length and stays a memory of bytes, no more pixels are told than touched, the count
-- is that of the pixels written, and no more of them are changed.
-- Assumes nothing.
use mathlib.Core.Path.{◌≡◌, refl, sym, ap, ap₂, subst, ◌∙◌}
use mathlib.Core.List.Memᴰ
use mathlib.Core.List.{List, [], ◌∷◌, map}
use mathlib.Core.Option.{Option, none, some}
use Prim.Native.Nat.{ℕ, zero, suc, ◌+◌, ◌/◌, ◌%◌, ◌<◌, ◌≤◌}
use native.Mathlib.Omega.{arith}
use native.Mathlib.Decide.{ℕ_discrete, dec_lt}
use lib.ListN.{length, get_or, set}
use lib.Seq.{get_or-set_same, get_or-set_other, set_out}
use Rattle.surface.specs.declared.Surface.{Surface}
use Rattle.surface.specs.Place.{byte_of, write_bytes, write_px, one, differs}
use Rattle.surface.specs.Pixels.{Px}
use Rattle.surface.proofs.OnLaws.{one-most}
use Rattle.surface.proofs.Lists.{In, by_cases}
use Rattle.spans.proofs.Spans.{IsByte}
use Rattle.paint.specs.declared.Tally.{Tally}
use Rattle.paint.specs.Tally.{noted}
use Rattle.paint.specs.Paint.{State, tallied, state, Touch, touch, dab, paint, given, wrote}
use Rattle.paint.proofs.Tallies.{Upto, upto-none, upto-noted, upto-then, upto-more}
use Rattle.paint.proofs.Owners.{dab-leaves, dab-length}

-- the pixels of a list of touches
abbrev pub pixels : List Touch → List Px
pixels ts = map (λ t. t.at) ts

pub frame : (s : Surface) → 0 < s.bytes → (ts : List Touch) (st : State) (a : ℕ) → ((p : Px) → In p (pixels ts) → IsByte s p a → ⊥)
    → get_or (paint s ts st).mem a 0 ≡ get_or st.mem a 0
unfolding paint
frame s colour [] st a h = refl
frame s colour (t ∷ ts) st a h =
    frame s colour ts (dab s t.at (t.gives st.mem) st) a (λ p i. h p (Memᴰ.tail i))
    ∙ dab-leaves s colour t.at (t.gives st.mem) st a (h t.at (Memᴰ.head refl))

pub paint-length : (s : Surface) (ts : List Touch) (st : State) → length (paint s ts st).mem ≡ length st.mem
unfolding paint
paint-length s [] st = refl
paint-length s (t ∷ ts) st = paint-length s ts (dab s t.at (t.gives st.mem) st) ∙ dab-length s t.at (t.gives st.mem) st

-- the pixels of what a list of pixels is painted with
pub pixels-of : (f : Px → List ℕ → Option ℕ) (ps : List Px) → pixels (map (λ p. touch p (f p)) ps) ≡ ps
pixels-of f [] = refl
pixels-of f (p ∷ ps) = ap (λ (qs : List Px). p ∷ qs) (pixels-of f ps)

-- ---- the tally
dab-upto : (s : Surface) (p : Px) (o : Option ℕ) (st : State) → Upto st.tally 1 (dab s p o st).tally
unfolding dab
dab-upto s p none st = upto-more (upto-none st.tally) (omega arith)
dab-upto s p (some v) st = upto-noted 1 st.tally (one-most (differs s p.x p.y st.mem (write_px st.mem s p.x p.y v)))

pub paint-upto : (s : Surface) (ts : List Touch) (st : State) → Upto st.tally (length ts) (paint s ts st).tally
unfolding paint
paint-upto s [] st = upto-none st.tally
paint-upto s (t ∷ ts) st =
    let put = dab s t.at (t.gives st.mem) st in
    upto-more (upto-then (dab-upto s t.at (t.gives st.mem) st) (paint-upto s ts put)) (omega arith)

-- what is painted, and what it adds to the tally, is the same after any tally
abbrev after : Tally → State → State
after n st = tallied st.mem (noted st.tally.count st.tally.changed n)

dab-after : (s : Surface) (p : Px) (o : Option ℕ) (n : Tally) (st : State) → dab s p o (after n st) ≡ after n (dab s p o st)
unfolding dab
dab-after s p none n st = refl
dab-after s p (some v) n st =
    let d = one (differs s p.x p.y st.mem (write_px st.mem s p.x p.y v)) in
    let e : n.count + st.tally.count + 1 ≡ n.count + (st.tally.count + 1) = omega arith in
    let f : n.changed + st.tally.changed + d ≡ n.changed + (st.tally.changed + d) = omega arith in
    rw (e, f)

paint-after : (s : Surface) (ts : List Touch) (n : Tally) (st : State) → paint s ts (after n st) ≡ after n (paint s ts st)
unfolding paint
paint-after s [] n st = refl
paint-after s (t ∷ ts) n st =
    ap (paint s ts) (dab-after s t.at (t.gives st.mem) n st) ∙ paint-after s ts n (dab s t.at (t.gives st.mem) st)

pub painted-after : (s : Surface) (ts : List Touch) (m : List ℕ) (n : Tally) {m' : List ℕ} {k c : ℕ} → state m' k c ≡ paint s ts (state m 0 0)
    → tallied m' (noted k c n) ≡ paint s ts (tallied m n)
painted-after s ts m n e =
    let start : n.count + 0 ≡ n.count = omega arith in
    let start' : n.changed + 0 ≡ n.changed = omega arith in
    ap (after n) e ∙ sym (paint-after s ts n (state m 0 0)) ∙ ap₂ (λ (k c : ℕ). paint s ts (state m k c)) start start'

-- the count is the number of pixels written
pub count-wrote : (s : Surface) (ts : List Touch) (m : List ℕ) (n : Tally) → (paint s ts (tallied m n)).tally.count ≡ n.count + length (wrote s ts m)
unfolding paint wrote dab
count-wrote s [] m n = omega arith
count-wrote s (t ∷ ts) m n = by (λ left k. count-wrote s ts left k) (t.gives m)
  where
    by : ((left : List ℕ) (k : Tally) → (paint s ts (tallied left k)).tally.count ≡ k.count + length (wrote s ts left)) → (o : Option ℕ)
        → (paint s ts (dab s t.at o (tallied m n))).tally.count ≡ n.count + length (given o t.at (wrote s ts (dab s t.at o (state m 0 0)).mem))
    by rest none = rest m n
    by rest (some v) = let h = rest (write_px m s t.at.x t.at.y v) (dab s t.at (some v) (tallied m n)).tally in omega (arith, h)

-- no more are changed than written
dab-most : (s : Surface) (p : Px) (o : Option ℕ) (st : State) → st.tally.changed ≤ st.tally.count → (dab s p o st).tally.changed ≤ (dab s p o st).tally.count
unfolding dab
dab-most s p none st h = h
dab-most s p (some v) st h = omega (arith, one-most (differs s p.x p.y st.mem (write_px st.mem s p.x p.y v)))

pub changed-most : (s : Surface) (ts : List Touch) (st : State) → st.tally.changed ≤ st.tally.count → (paint s ts st).tally.changed ≤ (paint s ts st).tally.count
unfolding paint
changed-most s [] st h = h
changed-most s (t ∷ ts) st h = changed-most s ts (dab s t.at (t.gives st.mem) st) (dab-most s t.at (t.gives st.mem) st h)

-- ---- a memory of bytes
abbrev pub Bytes : List ℕ → Type 0
Bytes m = (a : ℕ) → get_or m a 0 < 256

set-bytes : (m : List ℕ) (i v : ℕ) → v < 256 → Bytes m → Bytes (set m i v)
set-bytes m i v h b a =
    by_cases (ℕ_discrete a i)
    (λ e. by_cases (dec_lt i (length m))
    (λ l. subst (λ (k : ℕ). get_or (set m i v) k 0 < 256) (sym e) (rw (get_or-set_same m i v 0 l) h))
    (λ l. rw (set_out m i v (omega arith)) (b a)))
    (λ e. rw (get_or-set_other m i a v 0 e) (b a))

pub write-bytes : (at : ℕ → ℕ) (k n v : ℕ) (m : List ℕ) → Bytes m → Bytes (write_bytes at k n v m)
unfolding write_bytes
write-bytes at k zero v m b = b
write-bytes at k (suc n) v m b = write-bytes at (suc k) n (v / 256) (set m (at k) (v % 256)) (set-bytes m (at k) (v % 256) (omega arith) b)

dab-bytes : (s : Surface) (p : Px) (o : Option ℕ) (st : State) → Bytes st.mem → Bytes (dab s p o st).mem
unfolding dab write_px
dab-bytes s p none st b = b
dab-bytes s p (some v) st b = write-bytes (byte_of s p.x p.y) 0 s.bytes v st.mem b

pub paint_bytes : (s : Surface) (ts : List Touch) (st : State) → Bytes st.mem → Bytes (paint s ts st).mem
unfolding paint
paint_bytes s [] st b = b
paint_bytes s (t ∷ ts) st b = paint_bytes s ts (dab s t.at (t.gives st.mem) st) (dab-bytes s t.at (t.gives st.mem) st b)
