-- The text fits: how long each part of it can be, and that a text that fits is put down whole.
-- Assumes nothing.
use Rattle.std.proofs.Common.{◌≡◌, ℕ, zero, suc, ◌+◌, ◌-◌, ◌*◌, ◌/◌, ◌%◌, ◌^◌, ◌<◌, ◌≤◌, Bool, true, false, cond, ◌&&◌, eqb, ltb, List, [], ◌∷◌, ◌++◌, length, take, set, sym, refl, ap, ◌∙◌, append_assoc, append-nil, add-zero, mul_comm, mul-le-mul, le-mul_of_pos_right, add-one, arith, length-append, length-set, take-suc-set, lt-ltb}
use native.Mathlib.Nat.{pow-le-pow_right}
use Rattle.surface.specs.declared.Surface.{Surface}
use Rattle.surface.specs.Place.{read_px}
use Rattle.surface.specs.Asked.{Colour}
use Rattle.surface.specs.Pixels.{Px, rect}
use Rattle.spans.specs.Span.{all_on}
use Rattle.surface.proofs.Rows.{byte_at-area}
use Rattle.surface.proofs.OnLaws.{colour-first, last_byte, last-in-row, on-column, on-last}
use Rattle.surface.proofs.Rects.{rect-length}
use Rattle.spans.proofs.Corner.{rect-corner}
use Rattle.registers.specs.declared.Regs.{Regs}
use Rattle.engine.specs.Step.{regs}
use Rattle.basics.specs.Each.{each}
use Rattle.ppm.specs.Text.{Page, page, put, said, digit, digits, decimal, numeral}
use Rattle.ppm.specs.Picture.{shade, line, lines, header, no_picture, left, top, right, bottom, target, pixels, shows, picture}
use Rattle.picture.specs.Player.{Sheet, refusal, short_write, printed}
use Rattle.ppm.proofs.PictureLaws.{shown, rect-shown}

-- ---- numbers
digit-short : (n power : ℕ) → length (digit n power) ≤ 1
unfolding digit
digit-short n power = by-test (ltb n power && ltb 1 power)
  where
    by-test : (t : Bool) → length (cond t [] ((48 + n / power % 10) ∷ [])) ≤ 1
    by-test true = omega arith
    by-test false = omega arith

digits-short : (k n : ℕ) → length (digits k n) ≤ k
unfolding digits
digits-short zero n = omega arith
digits-short (suc k) n = omega (arith, length-append (digit n (10 ^ k)) (digits k n), digit-short n (10 ^ k), digits-short k n)

-- a number has no digits above its first
digits-few : (k j n : ℕ) → 0 < k → n < 10 ^ k → digits (k + j) n ≡ digits k n
unfolding digits digit
digits-few k zero n h e = ap (λ (i : ℕ). digits i n) (add-zero k)
digits-few k (suc j) n h e =
    let above : 10 ^ k ≤ 10 ^ (k + j) = pow-le-pow_right {n = 10} (omega arith) {i = k} {j = k + j} (omega arith) in
    let some : 10 ≤ 10 ^ (k + j) = pow-le-pow_right {n = 10} (omega arith) {i = 1} {j = k + j} (omega arith) in
    let next : k + suc j ≡ suc (k + j) = omega arith in
    rw (next, lt-ltb n (10 ^ (k + j)) (omega arith), lt-ltb 1 (10 ^ (k + j)) (omega arith)) (digits-few k j n h e)

decimal-short : (n : ℕ) → length (decimal n) ≤ 20
unfolding decimal
decimal-short n = digits-short 20 n

channel-short : (n : ℕ) → n < 2 ^ 8 → length (decimal n) ≤ 3
unfolding decimal
channel-short n h = rw (digits-few 3 17 n (omega arith) (omega arith)) (digits-short 3 n)

side-short : (n : ℕ) → n < 2 ^ 12 → length (decimal n) ≤ 4
unfolding decimal
side-short n h = rw (digits-few 4 16 n (omega arith) (omega arith)) (digits-short 4 n)

numeral-length : (n after : ℕ) → length (numeral n after) ≡ length (decimal n) + 1
unfolding numeral
numeral-length n after = length-append (decimal n) (after ∷ [])

-- ---- lines
line-short : (rgb : ℕ) → length (line rgb) ≤ 12
unfolding line
line-short rgb =
    let r = rgb / 2 ^ 16 % 2 ^ 8 in
    let g = rgb / 2 ^ 8 % 2 ^ 8 in
    let b = rgb % 2 ^ 8 in
    omega (
      arith,
      length-append (numeral r 32) (numeral g 32 ++ numeral b 10),
      length-append (numeral g 32) (numeral b 10),
      numeral-length r 32,
      numeral-length g 32,
      numeral-length b 10,
      channel-short r (omega arith),
      channel-short g (omega arith),
      channel-short b (omega arith),
    )

lines-short : (s : Surface) (m : List ℕ) (ps : List Px) → length (lines s m ps) ≤ 12 * length ps
unfolding lines
lines-short s m [] = omega arith
lines-short s m (p ∷ ps) =
    let l = line (shade s.bytes (read_px m s p.x p.y)) in
    omega (arith, length-append l (lines s m ps), line-short (shade s.bytes (read_px m s p.x p.y)), lines-short s m ps)

header-short : (w h : ℕ) → w < 2 ^ 12 → h < 2 ^ 12 → length (header w h) ≤ 17
unfolding header
header-short w h a b =
    omega (
      arith,
      length-append (numeral w 32) (numeral h 10 ++ (0x32 ∷ 0x35 ∷ 0x35 ∷ 10 ∷ [])),
      length-append (numeral h 10) (0x32 ∷ 0x35 ∷ 0x35 ∷ 10 ∷ []),
      numeral-length w 32,
      numeral-length h 10,
      side-short w a,
      side-short h b,
    )

refusal-short : (n k : ℕ) → length (refusal n k) ≤ 53
unfolding refusal
refusal-short n k =
    omega (arith, length-append (numeral n 0x20) ((0x61 ∷ 0x74 ∷ 0x20 ∷ []) ++ numeral k 10), numeral-length n 0x20, numeral-length k 10, decimal-short n, decimal-short k)

-- ---- a rectangle that is on the surface has no more pixels than the memory has bytes
pixels-few : (s : Surface) (len x y w h : ℕ) → Colour s → 0 < w → 0 < h → all_on s len (rect false false x y w h) ≡ true → h * w ≤ len
pixels-few s len x y w h colour pw ph e =
    let at = x + (w - 1) in
    let on = sym (rect-corner false false s len x y w h pw ph) ∙ e in
    let last = on-last s len at (y + (h - 1)) on in
    let row = last-in-row s at (on-column s len at (y + (h - 1)) on) in
    let column : at ≤ last_byte s at = omega (arith, colour-first s at colour.some, le-mul_of_pos_right at colour.some) in
    let area = byte_at-area s (last_byte s at) (y + (h - 1)) row in
    let inside : h * w ≤ (y + (h - 1) + 1) * (last_byte s at + 1) = mul-le-mul (omega arith) (omega arith) in
    omega (arith, mul_comm (last_byte s at + 1) (y + (h - 1) + 1))

picture-short : (r : Regs) (m : List ℕ) → length m ≤ 65536 → length (picture r m) ≤ 786449
unfolding picture
picture-short r m small = by-test (shows r (length m)) refl
  where
    by-test : (t : Bool) → shows r (length m) ≡ t
        → length (cond t (header (right r - left r) (bottom r - top r) ++ lines (target r) m (pixels r)) no_picture) ≤ 786449
    by-test true e =
        let k = shown r (length m) e in
        let w = right r - left r in
        let h = bottom r - top r in
        let few = pixels-few (target r) (length m) (left r) (top r) w h (rect-shown r (length m) (target r) refl e).colour (omega arith) (omega arith) k.on in
        omega (arith, length-append (header w h) (lines (target r) m (pixels r)), header-short w h (omega arith) (omega arith), lines-short (target r) m (pixels r), rect-length false false (left r) (top r) w h)
    by-test false e = omega arith

pub printed-short : (s : Sheet) → length s.memory ≤ 65536 → length (printed s) ≤ 786449
unfolding printed
printed-short s small = by-test (eqb s.player.refused 0) (eqb s.player.held 0)
  where
    by-test : (t u : Bool)
        → length (cond t (cond u (picture (regs s.player.engine) s.memory) short_write) (refusal s.player.refused s.player.played)) ≤ 786449
    by-test true true = picture-short (regs s.player.engine) s.memory small
    by-test true false = omega arith
    by-test false u = omega (arith, refusal-short s.player.refused s.player.played)

-- ---- a text that fits is put down whole
put-room : (b : ℕ) (p : Page) → p.used < length p.bytes → put b p ≡ page (set p.bytes p.used b) (p.used + 1)
unfolding put
put-room b p h = rw (lt-ltb _ _ h)

pub said-whole : (t : List ℕ) (p : Page) → p.used + length t ≤ length p.bytes
    → ((said t p).used ≡ p.used + length t) × (take (p.used + length t) (said t p).bytes ≡ take p.used p.bytes ++ t)
unfolding each
said-whole [] p h = let same : p.used + 0 ≡ p.used = omega arith in rw same (refl, sym (append-nil (take p.used p.bytes)))
said-whole (b ∷ t) p h =
    let q = page (set p.bytes p.used b) (p.used + 1) in
    let whole = said-whole t q (omega (arith, length-set p.bytes p.used b)) in
    let next : p.used + suc (length t) ≡ p.used + 1 + length t = omega arith in
    let front = ap (λ (n : ℕ). take n (set p.bytes p.used b)) (add-one p.used) ∙ take-suc-set p.bytes p.used b (omega arith) in
    let room = put-room b p (omega arith) in (
      ap (λ (r : Page). (said t r).used) room ∙ whole.0 ∙ sym next,
      ap (λ (r : Page). take (p.used + suc (length t)) (said t r).bytes) room
          ∙ ap (λ (n : ℕ). take n (said t q).bytes) next
          ∙ whole.1 ∙ ap (λ (l : List ℕ). l ++ t) front ∙ append_assoc (take p.used p.bytes) (b ∷ []) t,
    )
