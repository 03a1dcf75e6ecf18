-- Masks byte by byte: a pixel's bytes, changed one by one, are the pixel changed; and tables of masks.
-- Assumes nothing.
use mathlib.Core.Path.{◌≡◌, refl, sym, ap, ap₂, subst, ◌∙◌}
use mathlib.Core.List.{List}
use Prim.Native.Nat.{ℕ, zero, suc, ◌+◌, ◌-◌, ◌*◌, ◌/◌, ◌%◌, ◌^◌, ◌<◌, ◌≤◌}
use native.Mathlib.Nat.{mod-lt, pow-suc, add-zero, mul-le-mul_right, add-mul, div-lt_iff_lt-mul, div-add-mod'}
use native.Mathlib.Decide.{ℕ_discrete, dec_lt}
use native.Mathlib.Omega.{arith}
use lib.Arith.{digits_div, digits_mod, mod-mul}
use lib.Bits.{bit_and, bit_xor, and_shr, and_mod, xor_shr, xor_mod}
use lib.ListN.{length, get_or, set, length-set}
use lib.Seq.{get_or-set_other, set-get_or, ext_get_or}
use Rattle.surface.specs.Place.{read_bytes, write_bytes}
use Rattle.surface.proofs.Bytes.{length-written, read-written, read_alike, written-other}
use Rattle.surface.proofs.Lists.{by_cases}
use Rattle.ink.specs.declared.Ink.{Ink}
use Rattle.ink.proofs.PatternLaws.{bytes_pos, filled_more}
use Rattle.paint.proofs.Frame.{Bytes, write-bytes}
use Rattle.tint.specs.declared.Mask.{Mask}
use Rattle.tint.specs.Masking.{masked, mask_in, mask_here, blended, Table, Numbers, Tables, tables, MadeOf, MasksOf}

-- ---- a mask at its lowest byte, and above it
pub masked_low : (d keep flip : ℕ) → masked d keep flip % 256 ≡ masked (d % 256) (keep % 256) (flip % 256)
unfolding masked
masked_low d keep flip = xor_mod (bit_and d keep) flip 8 ∙ ap (λ (a : ℕ). bit_xor a (flip % 256)) (and_mod d keep 8)

pub masked-high : (d keep flip : ℕ) → masked d keep flip / 256 ≡ masked (d / 256) (keep / 256) (flip / 256)
unfolding masked
masked-high d keep flip = xor_shr (bit_and d keep) flip 8 ∙ ap (λ (a : ℕ). bit_xor a (flip / 256)) (and_shr d keep 8)

-- ---- bytes that are written where they were read leave the memory as it is
pub put_back : (m : List ℕ) (at : ℕ → ℕ) (k n : ℕ) → Bytes m → write_bytes at k n (read_bytes m at k n) m ≡ m
unfolding read_bytes write_bytes
put_back m at k zero b = refl
put_back m at k (suc n) b =
    let low : (get_or m (at k) 0 + 256 * read_bytes m at (suc k) n) % 256 ≡ get_or m (at k) 0 = omega (arith, b (at k)) in
    let high : (get_or m (at k) 0 + 256 * read_bytes m at (suc k) n) / 256 ≡ read_bytes m at (suc k) n = omega (arith, b (at k)) in
    rw (low, high, set-get_or m (at k) 0) (put_back m at (suc k) n b)

-- ---- n bytes of masks do for n bytes
cut : (v n : ℕ) → v % 256 ^ suc n ≡ v / 256 % 256 ^ n * 256 + v % 256
cut v n = rw (pow-suc 256 n) (mod-mul v (bytes_pos n) (omega arith))

cut_low : (v n : ℕ) → v % 256 ^ suc n % 256 ≡ v % 256
cut_low v n = rw (cut v n) (digits_mod (v / 256 % 256 ^ n) (mod-lt v (omega arith)))

cut_high : (v n : ℕ) → v % 256 ^ suc n / 256 ≡ v / 256 % 256 ^ n
cut_high v n = rw (cut v n) (digits_div (v / 256 % 256 ^ n) (mod-lt v (omega arith)))

pub put_low : (at : ℕ → ℕ) (k n d keep flip : ℕ) (m : List ℕ) → write_bytes at k n (masked d (keep % 256 ^ n) (flip % 256 ^ n)) m ≡ write_bytes at k n (masked d keep flip) m
unfolding write_bytes
put_low at k zero d keep flip m = refl
put_low at k (suc n) d keep flip m =
    let low : masked d (keep % 256 ^ suc n) (flip % 256 ^ suc n) % 256 ≡ masked d keep flip % 256 =
    masked_low d (keep % 256 ^ suc n) (flip % 256 ^ suc n) ∙ ap₂ (masked (d % 256)) (cut_low keep n) (cut_low flip n) ∙ sym (masked_low d keep flip) in
    let high : masked d (keep % 256 ^ suc n) (flip % 256 ^ suc n) / 256 ≡ masked (d / 256) (keep / 256 % 256 ^ n) (flip / 256 % 256 ^ n) =
    masked-high d (keep % 256 ^ suc n) (flip % 256 ^ suc n) ∙ ap₂ (masked (d / 256)) (cut_high keep n) (cut_high flip n) in
    rw (low, high, masked-high d keep flip) (put_low at (suc k) n (d / 256) (keep / 256) (flip / 256) (set m (at k) (masked d keep flip % 256)))

-- ---- bytes one by one
pub blended-turn : (keep flip : List ℕ) (from at n i : ℕ) (m : List ℕ) → i < n
    → blended keep flip (from + (i + 1)) (at + (i + 1)) (n - (i + 1)) (set m (at + i) (masked (get_or m (at + i) 0) (get_or keep (from + i) 0) (get_or flip (from + i) 0)))
    ≡ blended keep flip (from + i) (at + i) (n - i) m
unfolding blended
blended-turn keep flip from at n i m h =
    let q : n - i ≡ suc (n - (i + 1)) = omega arith in
    let f : from + (i + 1) ≡ from + i + 1 = omega arith in
    let a : at + (i + 1) ≡ at + i + 1 = omega arith in
    rw (q, f, a)

pub blended-none : (keep flip : List ℕ) (from at n i : ℕ) (m : List ℕ) → n ≤ i → blended keep flip from at (n - i) m ≡ m
unfolding blended
blended-none keep flip from at n i m h = let q : n - i ≡ 0 = omega arith in rw q

pub blended-append : (keep flip : List ℕ) (from at a b : ℕ) (m : List ℕ) → blended keep flip from at (a + b) m ≡ blended keep flip (from + a) (at + a) b (blended keep flip from at a m)
unfolding blended
blended-append keep flip from at zero b m =
    let e : 0 + b ≡ b = omega arith in rw (e, add-zero from, add-zero at)
blended-append keep flip from at (suc a) b m =
    let e : suc a + b ≡ suc (a + b) = omega arith in
    let f : from + 1 + a ≡ from + suc a = omega arith in
    let g : at + 1 + a ≡ at + suc a = omega arith in
    let next = set m at (masked (get_or m at 0) (get_or keep from 0) (get_or flip from 0)) in
    rw (e, ← f, ← g) (blended-append keep flip (from + 1) (at + 1) a b next)

-- a pixel's bytes are the pixel
pixel-from : (keep flip : List ℕ) (from at k n : ℕ) (m : List ℕ) → Bytes keep → Bytes flip → ((j : ℕ) → k ≤ j → get_or m (at + j) 0 < 256)
    → blended keep flip (from + k) (at + k) n m
    ≡ write_bytes (λ j. at + j) k n (masked (read_bytes m (λ j. at + j) k n) (read_bytes keep (λ j. from + j) k n) (read_bytes flip (λ j. from + j) k n)) m
unfolding blended read_bytes write_bytes
pixel-from keep flip from at k zero m bk bf b = refl
pixel-from keep flip from at k (suc n) m bk bf b =
    let d₀ = get_or m (at + k) 0 in
    let k₀ = get_or keep (from + k) 0 in
    let f₀ = get_or flip (from + k) 0 in
    let d₁ = read_bytes m (λ j. at + j) (suc k) n in
    let k₁ = read_bytes keep (λ j. from + j) (suc k) n in
    let f₁ = read_bytes flip (λ j. from + j) (suc k) n in
    let next = set m (at + k) (masked d₀ k₀ f₀) in
    let later : (j : ℕ) → suc k ≤ j → get_or next (at + j) 0 ≡ get_or m (at + j) 0 = (λ j l. get_or-set_other m (at + k) (at + j) (masked d₀ k₀ f₀) 0 (λ e. omega arith)) in
    let dl : (d₀ + 256 * d₁) % 256 ≡ d₀ = omega (arith, b k (omega arith)) in
    let kl : (k₀ + 256 * k₁) % 256 ≡ k₀ = omega (arith, bk (from + k)) in
    let fl : (f₀ + 256 * f₁) % 256 ≡ f₀ = omega (arith, bf (from + k)) in
    let dh : (d₀ + 256 * d₁) / 256 ≡ d₁ = omega (arith, b k (omega arith)) in
    let kh : (k₀ + 256 * k₁) / 256 ≡ k₁ = omega (arith, bk (from + k)) in
    let fh : (f₀ + 256 * f₁) / 256 ≡ f₁ = omega (arith, bf (from + k)) in
    let f : from + k + 1 ≡ from + suc k = omega arith in
    let a : at + k + 1 ≡ at + suc k = omega arith in
    rw (masked_low (d₀ + 256 * d₁) (k₀ + 256 * k₁) (f₀ + 256 * f₁), masked-high (d₀ + 256 * d₁) (k₀ + 256 * k₁) (f₀ + 256 * f₁), dl, kl, fl, dh, kh, fh, f, a)
    (pixel-from keep flip from at (suc k) n next bk bf (λ j l. rw (later j l) (b j (omega arith)))
    ∙ ap (λ (d : ℕ). write_bytes (λ j. at + j) (suc k) n (masked d k₁ f₁) next) (read_alike (λ j. at + j) (suc k) n next m (λ j l u. later j l)))

pub pixel-blended : (keep flip : List ℕ) (from at n : ℕ) (m : List ℕ) → Bytes keep → Bytes flip → Bytes m
    → blended keep flip from at n m
    ≡ write_bytes (λ j. at + j) 0 n (masked (read_bytes m (λ j. at + j) 0 n) (read_bytes keep (λ j. from + j) 0 n) (read_bytes flip (λ j. from + j) 0 n)) m
pixel-blended keep flip from at n m bk bf b =
    ap₂ (λ (f a : ℕ). blended keep flip f a n m) (sym (add-zero from)) (sym (add-zero at)) ∙ pixel-from keep flip from at 0 n m bk bf (λ j l. b (at + j))

-- ---- a table of masks, one more of which is written
pub table_more : {table old : List ℕ} {n k v : ℕ} {f : ℕ → ℕ} → Table n k f old table → k * n + n ≤ length table → v ≡ f k
    → Table n (k + 1) f old (write_bytes (λ i. k * n + i) 0 n v table)
table_more {table} {n = n} {k = k} {v = v} {f = f} t inside e =
    let next : (k + 1) * n ≡ k * n + 1 * n = add-mul k 1 n in
    record {
      made = λ j l.
          by_cases (ℕ_discrete j k)
          (λ q. subst (λ (i : ℕ). mask_in n (write_bytes (λ i. k * n + i) 0 n v table) i ≡ f i % 256 ^ n) (sym q)
          (read-written (λ i. k * n + i) 0 n v table (λ a b g h w. omega arith) (λ b h. omega arith) ∙ ap (λ (u : ℕ). u % 256 ^ n) e))
          (λ q. let below : (j + 1) * n ≤ k * n = mul-le-mul_right n (omega arith) in
          let after : (j + 1) * n ≡ j * n + 1 * n = add-mul j 1 n in
          read_alike (λ i. j * n + i) 0 n (write_bytes (λ i. k * n + i) 0 n v table) table
          (λ i a b. written-other (λ i. k * n + i) 0 n v table (j * n + i) (λ h c d w. omega (arith, below, after)))
          ∙ t.made j (omega arith));
      rest = λ a l. written-other (λ i. k * n + i) 0 n v table a (λ h c d w. omega (arith, next)) ∙ t.rest a (omega (arith, next));
      long = length-written (λ i. k * n + i) 0 n v table ∙ t.long;
      bytes = λ b. write-bytes (λ i. k * n + i) 0 n v table (t.bytes b);
    }

pub numbers_more : {numbers old : List ℕ} {k v : ℕ} {f : ℕ → ℕ} → Numbers k f old numbers → k < length numbers → v ≡ f k → Numbers (k + 1) f old (set numbers k v)
numbers_more {numbers} {k = k} {v = v} {f = f} t inside e = record {
  made = filled_more numbers k v f inside e t.made;
  rest = λ j l. get_or-set_other numbers k j v 0 (λ q. omega arith) ∙ t.rest j (omega arith);
  long = length-set numbers k v ∙ t.long;
}

-- the three tables, with one more
pub made_more : {ink : Ink} {pattern : List ℕ} {x y k : ℕ} {old t : Tables} {m : Mask} → let n = ink.target.bytes in
    MadeOf ink pattern x y k old t → k * n + n ≤ length t.keep → k * n + n ≤ length t.flip → k < length t.adds → m ≡ mask_here ink pattern x y k
    → MadeOf ink pattern x y (k + 1) old (tables (write_bytes (λ i. k * n + i) 0 n m.keep t.keep) (write_bytes (λ i. k * n + i) 0 n m.flip t.flip) (set t.adds k m.adds))
made_more t keeps flips adds e = record {
  keep = table_more t.keep keeps (ap (λ (m : Mask). m.keep) e);
  flip = table_more t.flip flips (ap (λ (m : Mask). m.flip) e);
  adds = numbers_more t.adds adds (ap (λ (m : Mask). m.adds) e);
}

-- ---- what is said of a table is one table
read_same : (at : ℕ → ℕ) (k n : ℕ) (a b : List ℕ) → Bytes a → Bytes b → read_bytes a at k n ≡ read_bytes b at k n → (j : ℕ) → k ≤ j → j < k + n → get_or a (at j) 0 ≡ get_or b (at j) 0
unfolding read_bytes
read_same at k zero a b f g e j low high = absurd (omega arith)
read_same at k (suc n) a b f g e j low high =
    by_cases (ℕ_discrete j k)
    (λ q. subst (λ (i : ℕ). get_or a (at i) 0 ≡ get_or b (at i) 0) (sym q) (omega (arith, e, f (at k), g (at k))))
    (λ q. read_same at (suc k) n a b f g (omega (arith, e, f (at k), g (at k))) j (omega arith) (omega arith))

table-once : {n many : ℕ} {f : ℕ → ℕ} {old a b : List ℕ} → 0 < n → Bytes old → Table n many f old a → Table n many f old b → a ≡ b
table-once {n} {many} {f} {old} {a} {b} some bytes s t =
    ext_get_or 0 a b (s.long ∙ sym t.long) (λ i l. by_cases (dec_lt i (many * n))
    (λ h. let k : i / n < many = (div-lt_iff_lt-mul some).1 h in
    subst (λ (p : ℕ). get_or a p 0 ≡ get_or b p 0) (div-add-mod' i n)
    (read_same (λ j. i / n * n + j) 0 n a b (s.bytes bytes) (t.bytes bytes) (s.made (i / n) k ∙ sym (t.made (i / n) k)) (i % n) (omega arith) (let l = mod-lt i some in omega (arith, l))))
    (λ h. let u : many * n ≤ i = omega arith in s.rest i u ∙ sym (t.rest i u)))

numbers-once : {many : ℕ} {f : ℕ → ℕ} {old a b : List ℕ} → Numbers many f old a → Numbers many f old b → a ≡ b
numbers-once {many} {f} {old} {a} {b} s t =
    ext_get_or 0 a b (s.long ∙ sym t.long)
    (λ i l. by_cases (dec_lt i many) (λ h. s.made i h ∙ sym (t.made i h)) (λ h. let u : many ≤ i = omega arith in s.rest i u ∙ sym (t.rest i u)))

-- and so of the three
pub masks-once : {ink : Ink} {pattern : List ℕ} {x y : ℕ} (rows : ℕ) {old a b : Tables} → 0 < ink.target.bytes → Bytes old.keep → Bytes old.flip
    → MasksOf ink pattern x y rows old a → MasksOf ink pattern x y rows old b → a ≡ b
masks-once rows some keep flip s t = rw (table-once some keep s.keep t.keep, table-once some flip s.flip t.flip, numbers-once s.adds t.adds)

-- 64 masks are 256 bytes at most
pub in_table : (k a n : ℕ) → k + a ≤ 64 → n < 5 → k * n + a * n ≤ 256
in_table k a n h few =
    let e : (k + a) * n ≡ k * n + a * n = add-mul k a n in
    let f : (k + a) * n ≤ 64 * n = mul-le-mul_right n h in
    omega (arith, e, f)

pub one_more : (k n : ℕ) → k < 64 → n < 5 → k * n + n ≤ 256
one_more k n h few = let e : k * n + 1 * n ≤ 256 = in_table k 1 n (omega arith) few in omega (arith, e)
