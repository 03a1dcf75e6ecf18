-- Laws of `on_surface`: what a pixel that is on its surface has, and the one test that decides it.
-- Assumes nothing.
use mathlib.Core.Path.{◌≡◌, refl, sym, ap, ap₂, subst, ◌∙◌}
use mathlib.Core.Bool.{Bool, true, false, cond, ◌&&◌, and-true}
use Prim.Native.Nat.{ℕ, zero, suc, ◌+◌, ◌*◌, ◌/◌, ◌-◌, ◌<◌, ◌≤◌}
use native.Mathlib.Nat.{le_refl, lt_of_lt_of_le, lt_of_le_of_lt, div-mul-le_self, mul-le-mul_right, add-zero, add-mul, le-div_iff_mul-le}
use native.Mathlib.Omega.{arith}
use lib.Arith.{digits_lt}
use lib.Dec.{eqb, ltb}
use borrow.Author.Tests.{lt-ltb, eq-eqb, ne_eqb, ltb-true, eqb-false}
use Rattle.surface.specs.declared.Surface.{Surface}
use Rattle.surface.specs.Place.{row_bytes, byte_at, byte_of, one, row_pixels, first_byte, byte_count, in_memory, on_surface}
use Rattle.surface.specs.Asked.{HasByte, OnColour, OnMono}
use Rattle.surface.proofs.Rows.{byte_at-mono}

-- ---- tests
pub and_left : (a b : Bool) → (a && b) ≡ true → a ≡ true
and_left true b e = refl
and_left false b e = e

pub and_right : (a b : Bool) → (a && b) ≡ true → b ≡ true
and_right true b e = e
and_right false true e = refl
and_right false false e = e

-- two tests that hold together are one
pub same_test : (a b : Bool) → (a ≡ true → b ≡ true) → (b ≡ true → a ≡ true) → a ≡ b
same_test true b f g = sym (f refl)
same_test false true f g = g refl
same_test false false f g = refl

-- a test counts for one at most
pub one-most : (b : Bool) → one b ≤ 1
one-most true = omega arith
one-most false = omega arith

-- ---- by format
module _ (s : Surface) (x : ℕ) where
  pub colour-pixels : 0 < s.bytes → row_pixels s ≡ row_bytes s / s.bytes
  unfolding row_pixels
  colour-pixels h = rw (ne_eqb s.bytes 0 (λ e. omega arith))

  pub colour-first : 0 < s.bytes → first_byte s x ≡ x * s.bytes
  unfolding first_byte
  colour-first h = rw (ne_eqb s.bytes 0 (λ e. omega arith))

  pub colour-count : 0 < s.bytes → byte_count s ≡ s.bytes
  unfolding byte_count
  colour-count h = rw (ne_eqb s.bytes 0 (λ e. omega arith))

  pub mono-first : s.bytes ≡ 0 → first_byte s x ≡ x / 8
  unfolding first_byte
  mono-first h = rw (eq-eqb s.bytes 0 h)

-- a pixel has a byte
pub pos-of-ne : {n : ℕ} → (n ≡ 0 → ⊥) → 0 < n
pos-of-ne {n = zero} h = absurd (h refl)
pos-of-ne {n = suc n} h = omega arith

pub some_byte : (s : Surface) → 0 < byte_count s
unfolding byte_count
some_byte s = by-test (eqb s.bytes 0) refl
  where
    by-test : (t : Bool) → eqb s.bytes 0 ≡ t → 0 < cond t 1 s.bytes
    by-test true e = omega arith
    by-test false e = pos-of-ne (eqb-false s.bytes 0 e)

-- ---- a pixel of the row has its bytes in the row
pub in_row : (s : Surface) (x k : ℕ) → x < row_pixels s → k < byte_count s → first_byte s x + k < row_bytes s
unfolding row_pixels first_byte byte_count
in_row s x k = by-test (eqb s.bytes 0)
  where
    by-test : (t : Bool) → x < cond t (8 * row_bytes s) (row_bytes s / s.bytes) → k < cond t 1 s.bytes → cond t (x / 8) (x * s.bytes) + k < row_bytes s
    by-test true hx hk = omega arith
    by-test false hx hk = lt_of_lt_of_le (digits_lt hx hk) (div-mul-le_self (row_bytes s) s.bytes)

-- ---- the one test: whether the pixel's last byte is in memory
absorbed : (a b : Bool) → (b ≡ true → a ≡ true) → (a && b) ≡ b
absorbed true b f = refl
absorbed false true f = f refl
absorbed false false f = refl

last-decides : (s : Surface) (len c n y : ℕ) → 0 < n → c + (n - 1) < row_bytes s → in_memory s len c n y ≡ ltb (byte_at s (c + (n - 1)) y) len
unfolding in_memory
last-decides s len c zero y p h = absurd (omega arith)
last-decides s len c (suc zero) y p h = and-true _ ∙ ap (λ (k : ℕ). ltb (byte_at s k y) len) (omega arith)
last-decides s len c (suc (suc n)) y p h =
    let up : suc c + (suc n - 1) ≡ c + (suc (suc n) - 1) = omega arith in
    let rest = last-decides s len (suc c) (suc n) y (omega arith) (omega arith) ∙ ap (λ (k : ℕ). ltb (byte_at s k y) len) up in
    ap (λ t. ltb (byte_at s c y) len && t) rest
    ∙ absorbed (ltb (byte_at s c y) len) (ltb (byte_at s (c + (suc (suc n) - 1)) y) len)
    (λ e. lt-ltb _ _ (lt_of_le_of_lt (byte_at-mono s h (omega arith) (le_refl y)) (ltb-true _ _ e)))

abbrev pub last_byte : Surface → ℕ → ℕ
last_byte s x = first_byte s x + (byte_count s - 1)

pub last-in-row : (s : Surface) (x : ℕ) → x < row_pixels s → last_byte s x < row_bytes s
last-in-row s x h = in_row s x (byte_count s - 1) h (omega (arith, some_byte s))

pub on-decided : (s : Surface) (len x y : ℕ) → on_surface s len x y ≡ (ltb x (row_pixels s) && ltb (byte_at s (last_byte s x) y) len)
unfolding on_surface
on-decided s len x y = by-test (ltb x (row_pixels s)) refl
  where
    by-test : (t : Bool) → ltb x (row_pixels s) ≡ t
        → (t && in_memory s len (first_byte s x) (byte_count s) y) ≡ (t && ltb (byte_at s (last_byte s x) y) len)
    by-test true e = last-decides s len (first_byte s x) (byte_count s) y (some_byte s) (last-in-row s x (ltb-true _ _ e))
    by-test false e = refl

-- of a colour pixel both tests go by its last byte, so that nothing is divided
abbrev pub end_byte : Surface → ℕ → ℕ
end_byte s x = x * s.bytes + (s.bytes - 1)

pub on-by-end : (s : Surface) (len x y : ℕ) → 0 < s.bytes → on_surface s len x y ≡ (ltb (end_byte s x) (row_bytes s) && ltb (byte_at s (end_byte s x) y) len)
on-by-end s len x y p =
    let last : last_byte s x ≡ end_byte s x = ap₂ (λ (a b : ℕ). a + (b - 1)) (colour-first s x p) (colour-count s x p) in
    let fits : ltb x (row_pixels s) ≡ ltb (end_byte s x) (row_bytes s) =
    same_test _ _ (λ e. lt-ltb _ _ (subst (λ (n : ℕ). n < row_bytes s) last (last-in-row s x (ltb-true _ _ e))))
    (λ e.
    let q : x + 1 ≤ row_bytes s / s.bytes = (le-div_iff_mul-le {k = s.bytes} {x = x + 1} {y = row_bytes s} p).1 (omega (arith, ltb-true (end_byte s x) (row_bytes s) e, add-mul x 1 s.bytes)) in
    lt-ltb x (row_pixels s) (omega (arith, colour-pixels s x p))) in
    on-decided s len x y ∙ ap₂ (λ a b. a && b) fits (ap (λ (n : ℕ). ltb (byte_at s n y) len) last)

-- what a pixel on the surface has
module _ (s : Surface) (len x y : ℕ) (on : on_surface s len x y ≡ true) where
  decided : (ltb x (row_pixels s) && ltb (byte_at s (last_byte s x) y) len) ≡ true
  decided = sym (on-decided s len x y) ∙ on

  pub on-column : x < row_pixels s
  on-column = ltb-true x (row_pixels s) (and_left (ltb x (row_pixels s)) (ltb (byte_at s (last_byte s x) y) len) decided)

  pub on-last : byte_at s (last_byte s x) y < len
  on-last = ltb-true (byte_at s (last_byte s x) y) len (and_right (ltb x (row_pixels s)) (ltb (byte_at s (last_byte s x) y) len) decided)

  pub on-bytes : (k : ℕ) → k < byte_count s → byte_at s (first_byte s x + k) y < len
  on-bytes k h = lt_of_le_of_lt (byte_at-mono s (last-in-row s x on-column) (omega arith) (le_refl y)) on-last

-- and what puts a pixel there
pub on-from : (s : Surface) (len x y : ℕ) → x < row_pixels s → byte_at s (last_byte s x) y < len → on_surface s len x y ≡ true
on-from s len x y h k = on-decided s len x y ∙ ap₂ (λ a b. a && b) (lt-ltb _ _ h) (lt-ltb _ _ k)

-- ---- the corner law: a pixel to the left of one that is on the surface, and not below it, is on it too
pub first_byte-mono : (s : Surface) {x x' : ℕ} → x ≤ x' → first_byte s x ≤ first_byte s x'
unfolding first_byte
first_byte-mono s {x} {x'} h = by-test (eqb s.bytes 0)
  where
    by-test : (t : Bool) → cond t (x / 8) (x * s.bytes) ≤ cond t (x' / 8) (x' * s.bytes)
    by-test true = omega arith
    by-test false = mul-le-mul_right s.bytes h

pub corner : (s : Surface) (len x y x' y' : ℕ) → on_surface s len x' y' ≡ true → x ≤ x' → y ≤ y' → on_surface s len x y ≡ true
corner s len x y x' y' on hx hy =
    on-from s len x y (lt_of_le_of_lt hx (on-column s len x' y' on))
    (lt_of_le_of_lt (byte_at-mono s (last-in-row s x' (on-column s len x' y' on)) (omega (arith, first_byte-mono s hx)) hy) (on-last s len x' y' on))

-- ---- colour pixels, byte by byte
pub colour-byte : {s : Surface} {len x y : ℕ} → OnColour s len x y → (k : ℕ) → k < s.bytes → HasByte s len x y k
unfolding byte_of
colour-byte {s} {len} {x} {y} on k h =
    let first = colour-first s x on.colour.some in
    let count = colour-count s x on.colour.some in
    record {
      colour = on.colour;
      low = h;
      inside = subst (λ (n : ℕ). byte_at s (n + k) y < len) first (on-bytes s len x y on.on k (omega arith));
    }

-- ---- mono pixels: their one byte
pub mono_inside : {s : Surface} {len x y : ℕ} → OnMono s len x y → byte_at s (x / 8) y < len
mono_inside {s} {len} {x} {y} on =
    let h : 0 < byte_count s = some_byte s in
    let e : first_byte s x + 0 ≡ x / 8 = add-zero (first_byte s x) ∙ mono-first s x on.mono in
    subst (λ (n : ℕ). byte_at s n y < len) e (on-bytes s len x y on.on 0 h)
