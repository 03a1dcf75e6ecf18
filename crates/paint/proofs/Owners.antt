-- Bytes of pixels: what a write of one pixel leaves, what a read of one depends on, and that a byte of a colour surface belongs to one pixel.
-- Assumes nothing.
use mathlib.Core.Path.{◌≡◌, refl, sym, ap, subst, ◌∙◌}
use mathlib.Core.Logic.{◌⊎◌, inl, inr, ⊎_elim}
use mathlib.Core.List.Memᴰ
use mathlib.Core.List.{List, [], ◌∷◌}
use mathlib.Core.Option.{Option, none, some}
use Prim.Native.Nat.{ℕ, zero, suc, ◌+◌, ◌/◌, ◌%◌, ◌^◌, ◌-◌, ◌<◌, ◌≤◌}
use native.Mathlib.Nat.{le_refl, add-zero}
use native.Mathlib.Omega.{arith}
use native.Mathlib.Decide.{ℕ_discrete}
use lib.ListN.{length, get_or, set, length-set}
use Rattle.surface.specs.declared.Surface.{Surface}
use Rattle.surface.specs.Place.{byte_at, byte_of, write_bytes, read_px, write_px, mono_bit, row_pixels, first_byte, byte_count}
use Rattle.surface.specs.Pixels.{Px}
use Rattle.surface.proofs.OnLaws.{colour-first, colour-count, mono-first, some_byte}
use Rattle.surface.proofs.Pixels.{same_byte, write-leaves, read_same, length-write}
use Rattle.surface.proofs.Lists.{In, by_cases}
use Rattle.surface.proofs.Rects.{same-px}
use Rattle.spans.proofs.Spans.{IsByte}
use Rattle.paint.specs.Paint.{State, dab}

-- ---- the bytes of a colour pixel are its bytes by number
module _ (s : Surface) (colour : 0 < s.bytes) where
  pub byte-of : (p : Px) (k : ℕ) → k < s.bytes → IsByte s p (byte_of s p.x p.y k)
  unfolding byte_of
  byte-of p k h = record {
    k = k;
    low = subst (λ (n : ℕ). k < n) (sym (colour-count s p.x colour)) h;
    at = ap (λ (n : ℕ). byte_at s (n + k) p.y) (sym (colour-first s p.x colour));
  }

  pub of-byte : (p : Px) (a : ℕ) (b : IsByte s p a) → (b.k < s.bytes) × (a ≡ byte_of s p.x p.y b.k)
  unfolding byte_of
  of-byte p a b = (
    subst (λ (n : ℕ). b.k < n) (colour-count s p.x colour) b.low,
    b.at ∙ ap (λ (n : ℕ). byte_at s (n + b.k) p.y) (colour-first s p.x colour),
  )

  -- one owner
  pub one-owner : (p q : Px) (a : ℕ) → p.x < row_pixels s → q.x < row_pixels s → IsByte s p a → IsByte s q a → p ≡ q
  one-owner p q a hp hq b c =
      let f = of-byte p a b in
      let g = of-byte q a c in
      let r = same_byte s p.x p.y b.k q.x q.y c.k hp hq f.0 g.0 (sym f.1 ∙ g.1) in
      same-px p q r.0 r.1

  -- ---- one store
  pub dab-leaves : (p : Px) (o : Option ℕ) (st : State) (a : ℕ) → (IsByte s p a → ⊥) → get_or (dab s p o st).mem a 0 ≡ get_or st.mem a 0
  unfolding dab
  dab-leaves p none st a h = refl
  dab-leaves p (some v) st a h =
      write-leaves st.mem s p.x p.y v a (λ k l e. h (subst (IsByte s p) (sym e) (byte-of p k l)))

  pub read-px : (p : Px) (m m' : List ℕ) → ((a : ℕ) → IsByte s p a → get_or m a 0 ≡ get_or m' a 0) → read_px m s p.x p.y ≡ read_px m' s p.x p.y
  read-px p m m' h = read_same s p.x p.y m m' (λ k l. h (byte_of s p.x p.y k) (byte-of p k l))

pub read-bit : (s : Surface) → s.bytes ≡ 0 → (p : Px) (m m' : List ℕ) → ((a : ℕ) → IsByte s p a → get_or m a 0 ≡ get_or m' a 0)
    → mono_bit m s p.x p.y ≡ mono_bit m' s p.x p.y
unfolding mono_bit
read-bit s e p m m' h =
    ap (λ (b : ℕ). b / 2 ^ (7 - p.x % 8) % 2)
    (h (byte_at s (p.x / 8) p.y) (record {
      k = 0;
      low = some_byte s;
      at = ap (λ (n : ℕ). byte_at s n p.y) (sym (mono-first s p.x e) ∙ sym (add-zero (first_byte s p.x)));
    }))

pub dab-length : (s : Surface) (p : Px) (o : Option ℕ) (st : State) → length (dab s p o st).mem ≡ length st.mem
unfolding dab
dab-length s p none st = refl
dab-length s p (some v) st = length-write st.mem s p.x p.y v

-- ---- stores into memories that agree at an address leave them agreeing there
set-agree : (m m' : List ℕ) (i v a : ℕ) → length m ≡ length m' → get_or m a 0 ≡ get_or m' a 0 → get_or (set m i v) a 0 ≡ get_or (set m' i v) a 0
set-agree [] [] i v a e h = refl
set-agree [] (y ∷ ys) i v a e h = absurd (omega arith)
set-agree (x ∷ xs) [] i v a e h = absurd (omega arith)
set-agree (x ∷ xs) (y ∷ ys) zero v zero e h = refl
set-agree (x ∷ xs) (y ∷ ys) zero v (suc a) e h = h
set-agree (x ∷ xs) (y ∷ ys) (suc i) v zero e h = h
set-agree (x ∷ xs) (y ∷ ys) (suc i) v (suc a) e h = set-agree xs ys i v a (omega arith) h

write-agree : (at : ℕ → ℕ) (k n v : ℕ) (m m' : List ℕ) (a : ℕ) → length m ≡ length m' → get_or m a 0 ≡ get_or m' a 0
    → get_or (write_bytes at k n v m) a 0 ≡ get_or (write_bytes at k n v m') a 0
unfolding write_bytes
write-agree at k zero v m m' a e h = h
write-agree at k (suc n) v m m' a e h =
    write-agree at (suc k) n (v / 256) (set m (at k) (v % 256)) (set m' (at k) (v % 256)) a
    (length-set m (at k) (v % 256) ∙ e ∙ sym (length-set m' (at k) (v % 256))) (set-agree m m' (at k) (v % 256) a e h)

pub dab-agree : (s : Surface) (p : Px) (o : Option ℕ) (st st' : State) (a : ℕ) → length st.mem ≡ length st'.mem → get_or st.mem a 0 ≡ get_or st'.mem a 0
    → get_or (dab s p o st).mem a 0 ≡ get_or (dab s p o st').mem a 0
unfolding dab write_px
dab-agree s p none st st' a e h = h
dab-agree s p (some v) st st' a e h = write-agree (byte_of s p.x p.y) 0 s.bytes v st.mem st'.mem a e h

-- ---- an address is a byte of one of the pixels, or of none
found_in : (s : Surface) (p : Px) (a n : ℕ) → n ≤ byte_count s
    → IsByte s p a ⊎ ((k : ℕ) → k < n → a ≡ byte_at s (first_byte s p.x + k) p.y → ⊥)
found_in s p a zero l = inr (λ k h e. omega arith)
found_in s p a (suc n) l = ⊎_elim inl (λ f. by_cases (ℕ_discrete a (byte_at s (first_byte s p.x + n) p.y)) (λ e. inl (record { k = n; low = l; at = e }))
    (λ g. inr (λ k h e. by_cases (ℕ_discrete k n) (λ w. g (e ∙ ap (λ (i : ℕ). byte_at s (first_byte s p.x + i) p.y) w)) (λ w. f k (omega arith) e)))) (found_in s p a n (omega arith))

pub owner : (s : Surface) (ps : List Px) (a : ℕ) → ((p : Px) × In p ps × IsByte s p a) ⊎ ((p : Px) → In p ps → IsByte s p a → ⊥)
owner s [] a = inr (λ p i. absurd (Memᴰ.not-nil i))
owner s (p ∷ ps) a = ⊎_elim (λ r. inl (r.0, Memᴰ.tail r.1, r.2)) (λ f. ⊎_elim (λ b. inl (p, Memᴰ.head refl, b))
    (λ g. inr (λ q i b. ⊎_elim (λ e. g b.k b.low (b.at ∙ ap (λ (x : Px). byte_at s (first_byte s x.x + b.k) x.y) e)) (λ j. f q j b) (Memᴰ.cases_cons i)))
    (found_in s p a (byte_count s) (le_refl _))) (owner s ps a)
