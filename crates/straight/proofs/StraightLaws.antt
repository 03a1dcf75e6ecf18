-- Laws of straight copies: bytes that are given what they have, the bytes of a pixel and of its source, a pixel's turn in its row, and the rows of a rectangle.
-- Assumes nothing.
use mathlib.Core.Path.{◌≡◌, refl, sym, ap, ap₂, subst, ◌∙◌}
use mathlib.Core.Bool.{Bool, true, false, cond}
use mathlib.Core.List.{List}
use mathlib.Core.Option.{some}
use mir.Val.{bool_byte}
use Prim.Native.Nat.{ℕ, zero, suc, ◌+◌, ◌-◌, ◌*◌, ◌/◌, ◌%◌, ◌^◌, ◌<◌, ◌≤◌}
use native.Mathlib.Nat.{lt_of_lt_of_le, pow-le-pow_right}
use native.Mathlib.Omega.{arith}
use lib.ListN.{get_or}
use lib.Seq.{set-get_or}
use Rattle.colour.specs.Convert.{converted}
use Rattle.surface.specs.Place.{byte_of, read_bytes, write_bytes, read_px, one, differ}
use Rattle.surface.specs.Asked.{Held}
use Rattle.surface.specs.Pixels.{px}
use Rattle.surface.proofs.Bytes.{read_fits}
use Rattle.surface.proofs.Run.{in-rows, pixel-held, pixel-stored, run-pixel, read-run}
use Rattle.paint.specs.declared.Tally.{Tally}
use Rattle.paint.specs.Tally.{tally, noted}
use Rattle.paint.specs.Paint.{tallied, dab, nth}
use Rattle.paint.proofs.Frame.{Bytes}
use Rattle.paint.proofs.Turns.{nth_in, dab-stored}
use Rattle.paint.proofs.Loops.{RowLeft, row-goes-on}
use Rattle.straight.specs.declared.Straight.{Straight}
use Rattle.straight.specs.Straight.{keyed, straight_value, straight_giving, copied}
use Rattle.straight.specs.Asked.{CanCopy, RowCopies, Formats, PixelCopies, RunAt}

-- ---- bytes that are given what they have
given-again : (at : ℕ → ℕ) (k n : ℕ) (m : List ℕ) → Bytes m → write_bytes at k n (read_bytes m at k n) m ≡ m
unfolding read_bytes write_bytes
given-again at k zero m bytes = refl
given-again at k (suc n) m bytes =
    let b = get_or m (at k) 0 in
    let r = read_bytes m at (suc k) n in
    let low : (b + 256 * r) % 256 ≡ b = omega (arith, bytes (at k)) in
    let high : (b + 256 * r) / 256 ≡ r = omega (arith, bytes (at k)) in
    rw (low, high, set-get_or m (at k) 0) (given-again at (suc k) n m bytes)

-- the number in at most four bytes
read_word : (at : ℕ → ℕ) (n : ℕ) (m : List ℕ) → n < 5 → Bytes m → read_bytes m at 0 n < 2 ^ 32
read_word at n m few bytes =
    lt_of_lt_of_le (read_fits m at 0 n (λ j. bytes (at j))) (pow-le-pow_right {n = 256} (omega arith) {i = n} {j = 4} (omega arith))

-- ---- a pixel, left or given its source
module _ (t : Straight) (from to d s v : ℕ) (m : List ℕ) (formats : Formats t from to) (read : v ≡ read_bytes m (λ k. s + k) 0 from) where
  abbrev old : ℕ
  old = read_bytes m (λ k. d + k) 0 t.target.bytes

  source-read : v ≡ read_bytes m (λ k. s + k) 0 t.from.bytes
  source-read = read ∙ ap (λ (n : ℕ). read_bytes m (λ k. s + k) 0 n) formats.source

  -- what it is given, by the key
  by_key : (b : Bool) → keyed t v ≡ b → (cond b old (converted t.from.bytes t.target.bytes v)) % 2 ^ 32 ≡ straight_value t old (read_bytes m (λ k. s + k) 0 t.from.bytes)
  by_key b e =
      ap (λ (c : Bool). cond c old (converted t.from.bytes t.target.bytes v) % 2 ^ 32) (sym e) ∙ ap (λ (u : ℕ). straight_value t old u) source-read

  pub keeps : t.target.bytes < 5 → Bytes m → keyed t v ≡ true → m ≡ copied t d s m
  unfolding copied
  keeps few bytes e =
      let word : old ≡ old % 2 ^ 32 = omega (arith, read_word (λ k. d + k) t.target.bytes m few bytes) in
      sym (given-again (λ k. d + k) 0 t.target.bytes m bytes)
      ∙ ap (λ (u : ℕ). write_bytes (λ k. d + k) 0 t.target.bytes u m) (word ∙ by_key true e)

  pub puts : (u : ℕ) (m' : List ℕ) → u < 2 ^ 32 → keyed t v ≡ false → u ≡ converted from to v → m' ≡ write_bytes (λ k. d + k) 0 to u m → m' ≡ copied t d s m
  unfolding copied
  puts u m' word e c p =
      let low : u ≡ u % 2 ^ 32 = omega arith in
      p ∙ ap₂ (λ (n i : ℕ). write_bytes (λ k. d + k) 0 n i m) formats.target
      (low ∙ ap (λ (i : ℕ). i % 2 ^ 32) (c ∙ ap₂ (λ (f g : ℕ). converted f g v) formats.source formats.target) ∙ by_key false e)

-- a test as a number
pub as_one : (b : Bool) → (bool_byte b ≡ one b) × (bool_byte b ≤ 1)
as_one false = (refl, omega arith)
as_one true = (refl, omega arith)

-- ---- the same, of the pixel whose bytes begin there: it is given its value, and told
pub copied-px : (t : Straight) → t.target.tiled ≡ false → t.from.tiled ≡ false → (x y x' y' : ℕ) {to d s : ℕ} → to ≡ t.target.bytes → d ≡ byte_of t.target x y 0 → s ≡ byte_of t.from x' y' 0
    → (m : List ℕ) (n : Tally) {m' : List ℕ} {b : Bool} {c : ℕ} → (m' ≡ copied t d s m) × (b ≡ differ (λ k. d + k) to m m') → c ≡ bool_byte b
    → tallied m' (noted 1 c n) ≡ dab t.target (px x y) (some (straight_value t (read_px m t.target x y) (read_px m t.from x' y'))) (tallied m n)
unfolding copied
copied-px t flat from_flat x y x' y' {d = d} {s} format e f m n {m'} {b} copy told =
    let value = straight_value t (read_bytes m (λ k. d + k) 0 t.target.bytes) (read_bytes m (λ k. s + k) 0 t.from.bytes) in
    let width = ap (λ (w : ℕ). differ (λ k. d + k) w m m') format in
    rw (sym (read-run t.target (in-rows flat) x y d e m), sym (read-run t.from (in-rows from_flat) x' y' s f m))
    (dab-stored m n t.target (px x y) value (pixel-stored t.target (in-rows flat) x y d e value m (copy.0, copy.1 ∙ width)) (told ∙ (as_one b).0) refl)

-- a turn's number is one of the row's, and is counted from another place
pub in-turn : (b : Bool) {n i k : ℕ} → i < n → k ≡ nth b 0 n i → k < n
in-turn b {n} {i} more here = let within = (nth_in b 0 n i more).1 in omega (arith, here, within)

pub nth-from : (b : Bool) (at n i : ℕ) → at + nth b 0 n i ≡ nth b at n i
nth-from false at n i = omega arith
nth-from true at n i = omega arith

-- ---- the loop over row j: i of its pixels were given theirs, and c of them changed
abbrev pub Copying : Straight → ℕ → ℕ → Bool → List ℕ → ℕ → ℕ → List ℕ → Type 0
Copying t w j back m₀ i c m = RowLeft t.target (λ p now. straight_giving t now p) back t.x w (t.y + j) m₀ (tally 0 0) i m (tally i c)

-- ---- pixel number k of row j
module _ {t : Straight} {w j len from to d s : ℕ} (row : RowCopies t w j len) (run : RunAt t from to d s j) (k : ℕ) where
  target_at : d + k * to ≡ byte_of t.target (t.x + k) (t.y + j) 0
  target_at = ap (λ (b : ℕ). d + k * b) run.formats.target ∙ run-pixel t.target row.flat t.x (t.y + j) d run.first k

  source-at : s + k * from ≡ byte_of t.from (t.sx + k) (t.sy + j) 0
  source-at = ap (λ (b : ℕ). s + k * b) run.formats.source ∙ run-pixel t.from row.from_flat t.sx (t.sy + j) s run.source_first k

  -- its bytes, and its source's, are in memory
  pub pixel-copies : k < w → PixelCopies t from to (d + k * to) (s + k * from) len
  pixel-copies h = record {
    formats = run.formats;
    stored = subst (λ (b : ℕ). Held (d + k * to) b len) (sym run.formats.target) (pixel-held (in-rows row.flat) (row.on_target k h) (d + k * to) target_at);
    read = subst (λ (b : ℕ). Held (s + k * from) b len) (sym run.formats.source) (pixel-held (in-rows row.from_flat) (row.on_source k h) (s + k * from) source-at);
  }

  -- its turn, in the loop over the row
  pub row-copies : {back b : Bool} {i c r : ℕ} {m₀ m m' : List ℕ} → Copying t w j back m₀ i c m → i < w → k ≡ nth back 0 w i
      → (m' ≡ copied t (d + k * to) (s + k * from) m) × (b ≡ differ (λ n. d + k * to + n) to m m') → r ≡ bool_byte b → Copying t w j back m₀ (i + 1) (c + r) m'
  unfolding straight_giving
  row-copies {back} {i = i} {c} {m = m} left more e copy told =
      let column : k ≡ t.x + k - t.x = omega arith in
      let line : j ≡ t.y + j - t.y = omega arith in
      row-goes-on left (t.x + k) more (ap (λ (r : ℕ). t.x + r) e ∙ nth-from back t.x w i)
      (copied-px t row.flat row.from_flat (t.x + k) (t.y + j) (t.sx + (t.x + k - t.x)) (t.sy + (t.y + j - t.y)) run.formats.target target_at
      (source-at ∙ ap₂ (λ (a b : ℕ). byte_of t.from (t.sx + a) (t.sy + b) 0) column line) m (tally i c) copy told) refl

-- ---- the rows of a rectangle
pub can-row : {t : Straight} {w h len : ℕ} → CanCopy t w h len → (j : ℕ) → j < h → RowCopies t w j len
can-row can j low = record {
  flat = can.flat;
  from_flat = can.from_flat;
  target = can.target;
  from = can.from;
  wide = omega (arith, can.wide);
  row = omega (arith, can.high);
  source_row = omega (arith, can.source_high);
  on_target = λ i l. can.on_target i j l low;
  on_source = λ i l. can.on_source i j l low;
}
