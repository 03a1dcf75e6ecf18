-- Numbers in bytes that lie one after the other: the parts of a word, and how many pixels of two runs of words are not alike.
-- Assumes nothing.
use mathlib.Core.Path.{◌≡◌, refl, ap₂}
use mathlib.Core.Bool.{not, ◌||◌}
use Prim.Native.Nat.{ℕ, zero, suc, ◌+◌, ◌*◌, ◌/◌, ◌%◌, ◌^◌, ◌<◌, ◌≤◌}
use native.Mathlib.Nat.{add_assoc, pow-suc, div-div-eq-div-mul}
use native.Mathlib.Omega.{arith}
use native.Mathlib.Decide.{ℕ_discrete}
use borrow.Author.Tests.{eq-eqb, ne_eqb}
use lib.Dec.{eqb}
use Rattle.surface.specs.Place.{one}
use Rattle.surface.proofs.Lists.{by_cases}
use Rattle.pours.specs.Pours.{unlike}

low_byte : (x : ℕ) → x % 0x100 + 0x100 * (x / 0x100) ≡ x
low_byte x = omega arith

-- a word is the number in its four bytes
pub word_bytes : (x : ℕ) → x < 2 ^ 32 → x % 0x100 + 0x100 * (x / 0x100 % 0x100 + 0x100 * (x / 0x10000 % 0x100 + 0x100 * (x / 0x1000000 % 0x100))) ≡ x
word_bytes x l =
    let top : x / 0x1000000 % 0x100 ≡ x / 0x1000000 = omega arith in
    let p = rw (div-div-eq-div-mul x 0x10000 0x100) at (low_byte (x / 0x10000)) in
    let q = rw (div-div-eq-div-mul x 0x100 0x100) at (low_byte (x / 0x100)) in
    rw (top, p, q, low_byte x)

-- the number in n bytes from byte k on, low byte first
unfoldable pub number : (ℕ → ℕ) → ℕ → ℕ → ℕ
number f k zero = 0
number f k (suc n) = f k + 256 * number f (k + 1) n

pub number_fits : (f : ℕ → ℕ) → ((k : ℕ) → f k < 256) → (k n : ℕ) → number f k n < 256 ^ n
unfolding number
number_fits f small k zero = omega arith
number_fits f small k (suc n) = let h = number_fits f small (k + 1) n in let l = small k in rw (pow-suc 256 n) (omega arith)

number-alike : (f g : ℕ → ℕ) (k n : ℕ) → ((j : ℕ) → k ≤ j → f j ≡ g j) → number f k n ≡ number g k n
unfolding number
number-alike f g k zero h = refl
number-alike f g k (suc n) h = ap₂ (λ (a b : ℕ). a + 256 * b) (h k (omega arith)) (number-alike f g (k + 1) n (λ j l. h j (omega arith)))

-- how many of w pixels of b bytes are not alike, from byte k on in one run of bytes, and from byte o on in another
unfoldable pub unlikes : (ℕ → ℕ) → (ℕ → ℕ) → ℕ → ℕ → ℕ → ℕ → ℕ
unlikes f g b k o zero = 0
unlikes f g b k o (suc w) = unlike (number f k b) (number g o b) + unlikes f g b (k + b) (o + b) w

pub unlikes-alike : (f f' g : ℕ → ℕ) (b k o w : ℕ) → ((j : ℕ) → k ≤ j → f j ≡ f' j) → unlikes f g b k o w ≡ unlikes f' g b k o w
unfolding unlikes
unlikes-alike f f' g b k o zero h = refl
unlikes-alike f f' g b k o (suc w) h =
    ap₂ (λ (p q : ℕ). unlike p (number g o b) + q) (number-alike f f' k b h) (unlikes-alike f f' g b (k + b) (o + b) w (λ j l. h j (omega arith)))

-- numbers of two parts are not the same where one of the parts is not
pub parts-unlike : (p q p' q' v v' : ℕ) → (v ≡ v' → (p ≡ p') × (q ≡ q')) → (p ≡ p' → q ≡ q' → v ≡ v') → one (not (eqb p p') || not (eqb q q')) ≡ unlike v v'
parts-unlike p q p' q' v v' apart join =
    by_cases (ℕ_discrete p p')
    (λ e. by_cases (ℕ_discrete q q')
    (λ h. rw (eq-eqb p p' e, eq-eqb q q' h, eq-eqb v v' (join e h)))
    (λ h. rw (eq-eqb p p' e, ne_eqb q q' h, ne_eqb v v' (λ w. h (apart w).1))))
    (λ e. rw (ne_eqb p p' e, ne_eqb v v' (λ w. e (apart w).0)))

-- ---- the pixels that a word is, or three words are
module _ (f : ℕ → ℕ) (small : (k : ℕ) → f k < 256) (k : ℕ) where
  bytes_of : (number f k 1 ≡ number f k 4 % 0x100) × (number f (k + 1) 1 ≡ number f k 4 / 0x100 % 0x100)
      × (number f (k + 1 + 1) 1 ≡ number f k 4 / 0x10000 % 0x100) × (number f (k + 1 + 1 + 1) 1 ≡ number f k 4 / 0x1000000)
  unfolding number
  bytes_of = let p = small k in let q = small (k + 1) in let r = small (k + 1 + 1) in let s = small (k + 1 + 1 + 1) in omega arith

  halves_of : (number f k 2 ≡ number f k 4 % 0x10000) × (number f (k + 2) 2 ≡ number f k 4 / 0x10000)
  unfolding number
  halves_of =
      let z : k + 2 ≡ k + 1 + 1 = omega arith in
      let p = small k in let q = small (k + 1) in rw z (omega arith)

  threes-of : (number f k 3 ≡ number f k 4 % 0x1000000)
      × (number f (k + 3) 3 ≡ number f k 4 / 0x1000000 + 0x100 * (number f (k + 4) 4 % 0x10000))
      × (number f (k + 3 + 3) 3 ≡ number f (k + 4) 4 / 0x10000 + 0x10000 * (number f (k + 4 + 4) 4 % 0x100))
      × (number f (k + 3 + 3 + 3) 3 ≡ number f (k + 4 + 4) 4 / 0x100)
  unfolding number
  threes-of = (
    simp add_assoc (omega (arith, small k, small (k + 1), small (k + 2), small (k + 3))),
    simp add_assoc (omega (arith, small k, small (k + 1), small (k + 2), small (k + 3), small (k + 4), small (k + 5))),
    simp add_assoc (omega (arith, small (k + 4), small (k + 5), small (k + 6), small (k + 7), small (k + 8))),
    simp add_assoc (omega (arith, small (k + 8))),
  )

module _ (f g : ℕ → ℕ) (k o : ℕ) where
  pub word-unlike : (x y : ℕ) → x ≡ number f k 4 → y ≡ number g o 4 → unlike x y ≡ unlikes f g 4 k o 1
  unfolding unlikes
  word-unlike x y e h = rw (e, h) (omega arith)

module _ (f g : ℕ → ℕ) (small : (k : ℕ) → f k < 256) (small' : (k : ℕ) → g k < 256) (k o : ℕ) where
  pub bytes-unlike : (x y : ℕ) → x ≡ number f k 4 → y ≡ number g o 4
      → unlike (x % 0x100) (y % 0x100) + unlike (x / 0x100 % 0x100) (y / 0x100 % 0x100) + unlike (x / 0x10000 % 0x100) (y / 0x10000 % 0x100) + unlike (x / 0x1000000) (y / 0x1000000)
      ≡ unlikes f g 1 k o 4
  unfolding unlikes
  bytes-unlike x y e h =
      let p = bytes_of f small k in
      let q = bytes_of g small' o in
      rw (e, h, p.0, p.1, p.2, p.3, q.0, q.1, q.2, q.3) (omega arith)

  pub halves-unlike : (x y : ℕ) → x ≡ number f k 4 → y ≡ number g o 4 → unlike (x % 0x10000) (y % 0x10000) + unlike (x / 0x10000) (y / 0x10000) ≡ unlikes f g 2 k o 2
  unfolding unlikes
  halves-unlike x y e h =
      let p = halves_of f small k in
      let q = halves_of g small' o in
      rw (e, h, p.0, p.1, q.0, q.1) (omega arith)

  pub threes-unlike : (x y z a b c : ℕ) → x ≡ number f k 4 → y ≡ number f (k + 4) 4 → z ≡ number f (k + 4 + 4) 4 → a ≡ number g o 4 → b ≡ number g (o + 4) 4 → c ≡ number g (o + 4 + 4) 4
      → unlike (x % 0x1000000) (a % 0x1000000) + unlike (x / 0x1000000 + 0x100 * (y % 0x10000)) (a / 0x1000000 + 0x100 * (b % 0x10000))
      + unlike (y / 0x10000 + 0x10000 * (z % 0x100)) (b / 0x10000 + 0x10000 * (c % 0x100)) + unlike (z / 0x100) (c / 0x100)
      ≡ unlikes f g 3 k o 4
  unfolding unlikes
  threes-unlike x y z a b c ex ey ez ea eb ec =
      let p = threes-of f small k in
      let q = threes-of g small' o in
      rw (ex, ey, ez, ea, eb, ec, p.0, p.1, p.2, p.3, q.0, q.1, q.2, q.3) (omega arith)
