-- Laws of the pattern: that its bytes are among the 256, a value by the bytes that are read for it, a row of it filled from the front, and that contracts settle what they say.
-- Assumes nothing.
use mathlib.Core.Path.{◌≡◌, refl, sym, ap, subst, ◌∙◌}
use mathlib.Core.List.{List}
use Prim.Native.Nat.{ℕ, zero, suc, ◌+◌, ◌-◌, ◌*◌, ◌/◌, ◌%◌, ◌^◌, ◌<◌, ◌≤◌}
use native.Mathlib.Nat.{mul-le-mul_right, pow-suc}
use native.Mathlib.Omega.{arith}
use native.Mathlib.Decide.{ℕ_discrete, dec_lt}
use lib.Arith.{mod-mul}
use lib.ListN.{length, get_or, set, replicate}
use lib.Seq.{get_or-set_same, get_or-set_other, ext_get_or}
use Rattle.surface.proofs.Lists.{by_cases}
use Rattle.surface.specs.Place.{read_bytes}
use Rattle.ink.specs.declared.Ink.{Ink}
use Rattle.ink.specs.Pattern.{pattern_pixel, RowOf, ValuesOf}
use Rattle.ink.specs.Asked.{Cell}

-- the four bytes from a pixel's place on are in the pattern, however few of them it has
pub in-pattern : {bytes column row : ℕ} → Cell bytes column row → (row * 8 + column) * bytes + 3 < 256
in-pattern {bytes} {column} {row} c =
    let h : (row * 8 + column) * bytes ≤ 63 * bytes = mul-le-mul_right bytes (omega arith) in
    omega arith

-- ---- n bytes of a number are its first n bytes
pub bytes_pos : (n : ℕ) → 0 < 256 ^ n
bytes_pos zero = omega arith
bytes_pos (suc n) = let h = bytes_pos n in rw (pow-suc 256 n) (omega arith)

read_low : (m : List ℕ) (at : ℕ → ℕ) (k n j : ℕ) → ((i : ℕ) → get_or m i 0 < 256) → read_bytes m at k (n + j) % 256 ^ n ≡ read_bytes m at k n
unfolding read_bytes
read_low m at k zero j b = omega arith
read_low m at k (suc n) j b =
    let e : suc n + j ≡ suc (n + j) = omega arith in
    let v = get_or m (at k) 0 + 256 * read_bytes m at (suc k) (n + j) in
    let low : v % 256 ≡ get_or m (at k) 0 = omega (arith, b (at k)) in
    let high : v / 256 ≡ read_bytes m at (suc k) (n + j) = omega (arith, b (at k)) in
    let split : v % (256 ^ n * 256) ≡ v / 256 % 256 ^ n * 256 + v % 256 = mod-mul v (bytes_pos n) (omega arith) in
    rw (e, pow-suc 256 n, split, low, high, read_low m at (suc k) n j b) (omega arith)

-- the first bytes of the four from the pixel's place on are the pixel's
pub pixel_there : (pattern : List ℕ) (column row bytes : ℕ) → Cell bytes column row → ((i : ℕ) → get_or pattern i 0 < 256)
    → read_bytes pattern (λ k. (row * 8 + column) * bytes + k) 0 4 % 256 ^ bytes ≡ pattern_pixel bytes pattern column row
unfolding pattern_pixel
pixel_there pattern column row n cell small =
    let at : ℕ → ℕ = λ k. (row * 8 + column) * n + k in
    let four : 4 ≡ n + (4 - n) = omega (arith, cell.four) in
    ap (λ (j : ℕ). read_bytes pattern at 0 j % 256 ^ n) four ∙ read_low pattern at 0 n (4 - n) small

-- ---- lists filled from the front

-- one that is not yet filled
pub zeros : (n i : ℕ) → get_or {A = ℕ} (replicate n 0) i 0 ≡ 0
zeros zero i = refl
zeros (suc n) zero = refl
zeros (suc n) (suc i) = zeros n i

-- one element more
pub filled_more : (values : List ℕ) (c v : ℕ) (f : ℕ → ℕ) → c < length values → v ≡ f c → ((k : ℕ) → k < c → get_or values k 0 ≡ f k)
    → (k : ℕ) → k < c + 1 → get_or (set values c v) k 0 ≡ f k
filled_more values c v f h e g k l =
    by_cases (ℕ_discrete k c)
    (λ q. subst (λ (i : ℕ). get_or (set values c v) i 0 ≡ f i) (sym q) (get_or-set_same values c v 0 h ∙ e))
    (λ q. get_or-set_other values c k v 0 q ∙ g k (omega arith))

-- ---- what a contract says is one list

-- two lists of n entries, each of which a rule settles
pub entries-once : (n : ℕ) (rule : ℕ → ℕ) {a b : List ℕ} → length a ≡ n → length b ≡ n
    → ((i : ℕ) → i < n → get_or a i 0 ≡ rule i) → ((i : ℕ) → i < n → get_or b i 0 ≡ rule i) → a ≡ b
entries-once n rule {a} {b} long long' f g = ext_get_or 0 a b (long ∙ sym long') (λ i l. f i (omega arith) ∙ sym (g i (omega arith)))

pub row-once : {ink : Ink} {pattern : List ℕ} {row : ℕ} {a b : List ℕ} → RowOf ink pattern row a → RowOf ink pattern row b → a ≡ b
row-once f g = entries-once 8 _ f.long g.long f.at g.at

pub values-once : {ink : Ink} {pattern : List ℕ} {x y rows : ℕ} {a b : List ℕ} → ValuesOf ink pattern x y rows a → ValuesOf ink pattern x y rows b → a ≡ b
values-once {rows = rows} {a = a} {b = b} f g =
    ext_get_or 0 a b (f.long ∙ sym g.long)
    (λ i l. by_cases (dec_lt i (rows * 8)) (λ h. f.at i h ∙ sym (g.at i h)) (λ h. let u : rows * 8 ≤ i = omega arith in f.rest i u ∙ sym (g.rest i u)))
