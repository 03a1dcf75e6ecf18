-- Spans: the lowest and the highest address of a list of pixels; of one with corners, such as a rectangle, those of the two; and that a span holds every byte of its pixels.
-- Assumes nothing.
use mathlib.Core.Path.{◌≡◌, refl, sym, ap, ap₂, subst, ◌∙◌}
use mathlib.Core.Logic.{⊎_elim}
use mathlib.Core.Bool.{Bool, true, ◌&&◌}
use mathlib.Core.List.Memᴰ
use mathlib.Core.List.{List, [], ◌∷◌, Memᴰ}
use Prim.Native.Nat.{ℕ, zero, suc, ◌+◌, ◌-◌, ◌<◌, ◌≤◌}
use native.Mathlib.Nat.{le_antisymm, add-zero}
use native.Mathlib.Omega.{arith}
use native.Mathlib.Decide.{dec_le}
use borrow.Author.Tests.{lt-ltb}
use Rattle.surface.specs.declared.Surface.{Surface}
use Rattle.surface.specs.Place.{byte_at, row_pixels, first_byte, byte_count}
use Rattle.surface.specs.Pixels.{Px, px, rect}
use Rattle.spans.specs.Span.{addresses_of, addresses, span, lowest, highest, spanned, span_of, meet}
use Rattle.surface.proofs.Rows.{byte_at-mono}
use Rattle.surface.proofs.OnLaws.{some_byte, in_row, last_byte, last-in-row, first_byte-mono}
use Rattle.surface.proofs.Lists.{In, by_cases}
use Rattle.surface.proofs.Rects.{in-rect}
use Rattle.spans.proofs.Corner.{Between, Corners, rect-corners}

-- ---- the least and the greatest of a list

lowest-le : (a : ℕ) (l : List ℕ) (b : ℕ) → Memᴰ b (a ∷ l) → lowest a l ≤ b
unfolding lowest
lowest-le a [] b i = ⊎_elim (λ e. omega arith) (λ j. absurd (Memᴰ.not-nil j)) (Memᴰ.cases_cons i)
lowest-le a (c ∷ l) b i = ⊎_elim (λ e. omega arith) (λ j. let h = lowest-le c l b j in omega arith) (Memᴰ.cases_cons i)

highest-ge : (a : ℕ) (l : List ℕ) (b : ℕ) → Memᴰ b (a ∷ l) → b ≤ highest a l
unfolding highest
highest-ge a [] b i = ⊎_elim (λ e. omega arith) (λ j. absurd (Memᴰ.not-nil j)) (Memᴰ.cases_cons i)
highest-ge a (c ∷ l) b i = ⊎_elim (λ e. omega arith) (λ j. let h = highest-ge c l b j in omega arith) (Memᴰ.cases_cons i)

lowest-in : (a : ℕ) (l : List ℕ) → Memᴰ (lowest a l) (a ∷ l)
unfolding lowest
lowest-in a [] = Memᴰ.head refl
lowest-in a (c ∷ l) =
    by_cases (dec_le a (lowest c l)) (λ h. Memᴰ.head (omega arith))
    (λ h. Memᴰ.tail (Memᴰ.cast (omega arith) (lowest-in c l)))

highest-in : (a : ℕ) (l : List ℕ) → Memᴰ (highest a l) (a ∷ l)
unfolding highest
highest-in a [] = Memᴰ.head refl
highest-in a (c ∷ l) =
    by_cases (dec_le (highest c l) a) (λ h. Memᴰ.head (omega arith))
    (λ h. Memᴰ.tail (Memᴰ.cast (omega arith) (highest-in c l)))

-- a list with a least and a greatest member
spanned-is : (l : List ℕ) (lo hi : ℕ) → Memᴰ lo l → Memᴰ hi l → ((a : ℕ) → Memᴰ a l → (lo ≤ a) × (a ≤ hi)) → spanned l ≡ span lo (hi + 1)
unfolding spanned
spanned-is [] lo hi i j f = absurd (Memᴰ.not-nil i)
spanned-is (a ∷ l) lo hi i j f =
    ap₂ (λ (m n : ℕ). span m (n + 1))
    (le_antisymm (lowest-le a l lo i) (f (lowest a l) (lowest-in a l)).0)
    (le_antisymm (f (highest a l) (highest-in a l)).1 (highest-ge a l hi j))

-- ---- the addresses of a list of pixels

-- address a is a byte that pixel p lies in
pub record IsByte (s : Surface) (p : Px) (a : ℕ) : Type 0 where
  pub k : ℕ
  pub low : k < byte_count s
  pub at : a ≡ byte_at s (first_byte s p.x + k) p.y

in_bytes : (s : Surface) (c n y a : ℕ) → Memᴰ a (addresses_of s c n y) → (k : ℕ) × (k < n) × (a ≡ byte_at s (c + k) y)
unfolding addresses_of
in_bytes s c zero y a i = absurd (Memᴰ.not-nil i)
in_bytes s c (suc n) y a i =
    ⊎_elim (λ e. (0, omega arith, e ∙ ap (λ (m : ℕ). byte_at s m y) (omega arith)))
    (λ j. let r = in_bytes s (suc c) n y a j in (suc r.0, omega (arith, r.1), r.2 ∙ ap (λ (m : ℕ). byte_at s m y) (omega arith))) (Memᴰ.cases_cons i)

bytes-in : (s : Surface) (c n y a k : ℕ) → k < n → a ≡ byte_at s (c + k) y → Memᴰ a (addresses_of s c n y)
unfolding addresses_of
bytes-in s c zero y a k h e = absurd (omega arith)
bytes-in s c (suc n) y a zero h e = Memᴰ.head (e ∙ ap (λ (m : ℕ). byte_at s m y) (add-zero c))
bytes-in s c (suc n) y a (suc k) h e =
    let up : c + suc k ≡ suc c + k = omega arith in
    Memᴰ.tail (bytes-in s (suc c) n y a k (omega arith) (e ∙ ap (λ (m : ℕ). byte_at s m y) up))

pub in-addresses : (s : Surface) (ps : List Px) (a : ℕ) → Memᴰ a (addresses s ps) → (p : Px) × In p ps × IsByte s p a
unfolding addresses
in-addresses s [] a i = absurd (Memᴰ.not-nil i)
in-addresses s (p ∷ ps) a i =
    ⊎_elim
    (λ j. let r = in_bytes s (first_byte s p.x) (byte_count s) p.y a j in (p, Memᴰ.head refl, record { k = r.0; low = r.1; at = r.2 }))
    (λ j. let r = in-addresses s ps a j in (r.0, Memᴰ.tail r.1, r.2))
    (Memᴰ.append_cases (addresses_of s (first_byte s p.x) (byte_count s) p.y) i)

pub addresses-in : (s : Surface) (ps : List Px) (p : Px) (a : ℕ) → In p ps → IsByte s p a → Memᴰ a (addresses s ps)
unfolding addresses
addresses-in s [] p a i b = absurd (Memᴰ.not-nil i)
addresses-in s (q ∷ ps) p a i b =
    ⊎_elim
    (λ e. Memᴰ.append_left (addresses s ps) (bytes-in s (first_byte s q.x) (byte_count s) q.y a b.k b.low
    (b.at ∙ ap (λ (r : Px). byte_at s (first_byte s r.x + b.k) r.y) e)))
    (λ j. Memᴰ.append_right (addresses_of s (first_byte s q.x) (byte_count s) q.y) (addresses-in s ps p a j b)) (Memᴰ.cases_cons i)

-- ---- spans

-- every byte of the pixels is in their span
spanned-holds : (l : List ℕ) (a : ℕ) → Memᴰ a l → ((spanned l).low ≤ a) × (a < (spanned l).past)
unfolding spanned
spanned-holds [] a i = absurd (Memᴰ.not-nil i)
spanned-holds (b ∷ l) a i = (lowest-le b l a i, omega (arith, highest-ge b l a i))

pub span-holds : (s : Surface) (ps : List Px) (p : Px) (a : ℕ) → In p ps → IsByte s p a → ((span_of s ps).low ≤ a) × (a < (span_of s ps).past)
unfolding span_of
span-holds s ps p a i b = spanned-holds (addresses s ps) a (addresses-in s ps p a i b)

-- so two lists with a byte in common have spans that meet
pub spans-meet : (s t : Surface) (ps qs : List Px) (p q : Px) (a : ℕ) → In p ps → In q qs → IsByte s p a → IsByte t q a → meet (span_of s ps) (span_of t qs) ≡ true
spans-meet s t ps qs p q a i j b c =
    let u = span-holds s ps p a i b in
    let v = span-holds t qs q a j c in
    ap₂ ◌&&◌ (lt-ltb (span_of s ps).low (span_of t qs).past (omega arith)) (lt-ltb (span_of t qs).low (span_of s ps).past (omega arith))

-- an empty rectangle has an empty span
pub rect-empty : (l t : Bool) (s : Surface) (x y w h : ℕ) → (0 < w → 0 < h → ⊥) → span_of s (rect l t x y w h) ≡ span 0 0
unfolding span_of spanned addresses
rect-empty l t s x y w h none = no-pixel (rect l t x y w h) (λ p i. let r = in-rect l t x y w h p i in none (omega arith) (omega arith))
  where
    no-pixel : (ps : List Px) → ((p : Px) → In p ps → ⊥) → spanned (addresses s ps) ≡ span 0 0
    no-pixel [] f = refl
    no-pixel (p ∷ ps) f = absurd (f p (Memᴰ.head refl))

-- of pixels with corners: from the first byte of the first to the last byte of the last
pub corners-span : (s : Surface) {ps : List Px} {x y x' y' : ℕ} → Corners ps x y x' y' → x' < row_pixels s
    → span_of s ps ≡ span (byte_at s (first_byte s x) y) (byte_at s (last_byte s x') y' + 1)
unfolding span_of
corners-span s {ps} {x} {y} {x'} {y'} c column =
    let some = some_byte s in
    spanned-is (addresses s ps) (byte_at s (first_byte s x) y) (byte_at s (last_byte s x') y')
    (addresses-in s ps (px x y) (byte_at s (first_byte s x) y) c.first
    (record { k = 0; low = some; at = ap (λ (m : ℕ). byte_at s m y) (sym (add-zero (first_byte s x))) }))
    (addresses-in s ps (px x' y') (byte_at s (last_byte s x') y') c.last (record { k = byte_count s - 1; low = omega arith; at = refl }))
    (λ a i. let r = in-addresses s ps a i in held r.0 a (c.between r.0 r.1) r.2)
  where
    held : (p : Px) (a : ℕ) → Between x y x' y' p → IsByte s p a → (byte_at s (first_byte s x) y ≤ a) × (a ≤ byte_at s (last_byte s x') y')
    held p a i b =
        let inside = in_row s p.x b.k (omega arith) b.low in
        let left = first_byte-mono s {x = x} {x' = p.x} i.left in
        let right = first_byte-mono s {x = p.x} {x' = x'} i.right in (
          subst (λ (n : ℕ). byte_at s (first_byte s x) y ≤ n) (sym b.at) (byte_at-mono s inside (omega arith) i.top),
          subst (λ (n : ℕ). n ≤ byte_at s (last_byte s x') y') (sym b.at) (byte_at-mono s (last-in-row s x' column) (omega (arith, b.low)) i.bottom),
        )

pub rect-span : (l t : Bool) (s : Surface) (x y w h : ℕ) → 0 < w → 0 < h → x + (w - 1) < row_pixels s
    → span_of s (rect l t x y w h) ≡ span (byte_at s (first_byte s x) y) (byte_at s (last_byte s (x + (w - 1))) (y + (h - 1)) + 1)
rect-span l t s x y w h pw ph column = corners-span s (rect-corners l t x y w h pw ph) column
