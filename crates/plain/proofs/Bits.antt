-- Laws of mono pixels: bits of a byte, given their colours; inside the clip they are drawn so; and those that one byte of the word holds.
-- Assumes nothing.
use mathlib.Core.Path.{◌≡◌, refl, sym, ap, ap₂, ◌∙◌}
use mathlib.Core.Bool.{Bool, true, false, cond, ◌&&◌}
use mathlib.Core.List.{List, [], ◌∷◌}
use mathlib.Core.Option.{Option}
use Prim.Native.Nat.{ℕ, zero, suc, ◌+◌, ◌-◌, ◌*◌, ◌/◌, ◌%◌, ◌^◌, ◌<◌, ◌≤◌}
use native.Mathlib.Omega.{arith}
use lib.Dec.{eqb}
use borrow.Author.Tests.{eq-eqb}
use Rattle.surface.specs.Pixels.{Px, px, across, origin}
use Rattle.surface.proofs.Rects.{same-px}
use Rattle.paint.specs.declared.Clip.{Clip}
use Rattle.paint.specs.Paint.{State, dab, Touch, touch, paint}
use Rattle.paint.specs.Mix.{bit_source, mixed}
use Rattle.paint.specs.Clip.{in_clip, pixel_at}
use Rattle.paint.proofs.ClipLaws.{in-clip, clip-in}
use Rattle.paint.proofs.MixLaws.{direct-mixed}
use Rattle.bits.specs.declared.Plain.{Plain}
use Rattle.bits.specs.Bits.{coloured, bit_of, byte_touches}
use Rattle.bits.proofs.BitLaws.{bit-given}
use Rattle.host.specs.declared.Feed.{Feed}
use Rattle.host.specs.Host.{last_byte_of, Pixel, pixel, value_of}
use Rattle.host.specs.Stream.{data_byte}
use Rattle.host.specs.Draw.{host_source, host_touches, drawn}
use Rattle.host.proofs.Values.{bit-of-two}
use Rattle.plain.specs.Plain.{plain_ink, stretch, mono_touches}
use Rattle.plain.proofs.PlainLaws.{plain-direct}

-- between two places inside the clip all are
pub between : (c : Clip) (x y m q : ℕ) → in_clip c x y ≡ true → in_clip c (x + (m - 1)) y ≡ true → q < m → in_clip c (x + q) y ≡ true
between c x y m q a b h =
    let l = in-clip c x y a in
    let r = in-clip c (x + (m - 1)) y b in
    clip-in c (x + q) y (record { left = omega (arith, l.left); right = omega (arith, r.right); top = l.top; bottom = l.bottom })

-- ---- pixels of row j from column i on, by their values
unfoldable pub cells : (ℕ → ℕ) → ℕ → ℕ → ℕ → List Pixel
cells v j i zero = []
cells v j i (suc n) = pixel i j (v i) ∷ cells v j (i + 1) n

stretch-cells : (f : Feed) (last word j i n : ℕ) → stretch f last word j i n ≡ cells (λ a. value_of f last word (last_byte_of f a j % 4) a) j i n
unfolding stretch cells
stretch-cells f last word j i zero = refl
stretch-cells f last word j i (suc n) = ap (λ (ps : List Pixel). pixel i j (value_of f last word (last_byte_of f i j % 4) i) ∷ ps) (stretch-cells f last word j (i + 1) n)

-- n of them from column i₀ on, whose values are the bits of a byte from bit k on
module _ (p : Plain) (feed : Feed) (v : ℕ → ℕ) (byte k j i₀ n : ℕ) (low : origin ≤ feed.x + i₀) (values : (q : ℕ) → q < n → bit_of byte (k + q) ≡ v (i₀ + q)) where
  abbrev x₀ : ℕ
  x₀ = feed.x + i₀ - origin

  abbrev y₀ : ℕ
  y₀ = feed.y + j - origin

  bits-from : (m d : ℕ) → d + m ≤ n → byte_touches p byte k x₀ (across false (x₀ + d) m y₀) ≡ mono_touches p feed (cells v j (i₀ + d) m)
  unfolding cells across
  bits-from zero d fits = refl
  bits-from (suc m) d fits =
      let place : px (x₀ + d) y₀ ≡ pixel_at (feed.x + (i₀ + d)) (feed.y + j) = same-px (px (x₀ + d) y₀) (pixel_at (feed.x + (i₀ + d)) (feed.y + j)) (omega (arith, low)) refl in
      let column : x₀ + d - x₀ ≡ d = omega arith in
      let next : i₀ + d + 1 ≡ i₀ + (d + 1) = omega arith in
      let after : x₀ + d + 1 ≡ x₀ + (d + 1) = omega arith in
      rw (next, after)
      (ap (λ (ts : List Touch). touch (px (x₀ + d) y₀) (λ now. coloured p (bit_of byte (k + (x₀ + d - x₀)))) ∷ ts) (bits-from m (d + 1) (omega arith))
      ∙ ap₂ (λ (q : Px) (b : ℕ). touch q (λ now. coloured p b) ∷ mono_touches p feed (cells v j (i₀ + (d + 1)) m)) place (ap (λ (q : ℕ). bit_of byte (k + q)) column ∙ values d (omega arith)))

  pub bits-touched : byte_touches p byte k x₀ (across false x₀ n y₀) ≡ mono_touches p feed (cells v j i₀ n)
  bits-touched =
      let x : x₀ + 0 ≡ x₀ = omega arith in
      let i : i₀ + 0 ≡ i₀ = omega arith in
      rw (x, i) at (bits-from n 0 (omega arith))

-- ---- mono pixels inside the clip
module _ (p : Plain) (c : Clip) (feed : Feed) (mono : feed.bytes ≡ 0) (fore : p.fore < 2 ^ 32) (back : p.back < 2 ^ 32) where
  gives : (v pv old : ℕ) → v < 2 → mixed (plain_ink p) pv (host_source (plain_ink p) feed v) old ≡ coloured p v
  unfolding host_source bit_source plain_ink coloured
  gives v pv old h =
      rw (eq-eqb feed.bytes 0 mono)
      (direct-mixed (plain_ink p) pv (cond (eqb v 1) p.fore p.back) old (p.clear && eqb v 0) (plain-direct p) (either (eqb v 1))
      ∙ bit-given v p.fore p.back p.clear h)
    where
      either : (t : Bool) → cond t p.fore p.back < 2 ^ 32
      either true = fore
      either false = back

  pub cells-drawn : (v : ℕ → ℕ) (j m i : ℕ) (st : State) → ((a : ℕ) → i ≤ a → a < i + m → in_clip c (feed.x + a) (feed.y + j) ≡ true) → ((a : ℕ) → i ≤ a → a < i + m → v a < 2)
      → paint p.target (mono_touches p feed (cells v j i m)) st ≡ drawn (plain_ink p) [] c feed (cells v j i m) st
  unfolding cells host_touches paint plain_ink
  cells-drawn v j zero i st inside bits = refl
  cells-drawn v j (suc m) i st inside bits =
      rw (inside i (omega arith) (omega arith))
      (ap (λ (o : Option ℕ). paint p.target (mono_touches p feed (cells v j (i + 1) m)) (dab p.target (pixel_at (feed.x + i) (feed.y + j)) o st))
      (sym (gives (v i) _ _ (bits i (omega arith) (omega arith))))
      ∙ cells-drawn v j m (i + 1) _ (λ a l u. inside a (omega arith) (omega arith)) (λ a l u. bits a (omega arith) (omega arith)))

-- ---- mono pixels that one byte of the word holds
module _ (p : Plain) (c : Clip) (feed : Feed) (last word b j i₀ : ℕ) (mono : feed.bytes ≡ 0) (small : last < 2 ^ 32) (fore : p.fore < 2 ^ 32) (back : p.back < 2 ^ 32)
    (four : b < 4) (low : origin ≤ feed.x + i₀) where
  abbrev pub byte : ℕ
  byte = word / 2 ^ (8 * b) % 2 ^ 8

  abbrev values : ℕ → ℕ
  values i = value_of feed last word (last_byte_of feed i j % 4) i

  value-bit : (i : ℕ) → value_of feed last word b i ≡ bit_of byte (i % 8)
  unfolding value_of data_byte
  value-bit i =
      let e : b % 4 ≡ b = omega arith in
      let two = bit-of-two (λ _. word) 0 last (λ h. absurd (omega arith)) small b b (7 - i % 8) (omega arith) four (omega arith) in
      rw (eq-eqb feed.bytes 0 mono) (rw e at two)

  pub byte-drawn : (m : ℕ) (st : State) → ((q : ℕ) → q < m → in_clip c (feed.x + i₀ + q) (feed.y + j) ≡ true) → ((q : ℕ) → q < m → last_byte_of feed (i₀ + q) j % 4 ≡ b)
      → i₀ % 8 + m ≤ 8
      → paint p.target (byte_touches p byte (i₀ % 8) (feed.x + i₀ - origin) (across false (feed.x + i₀ - origin) m (feed.y + j - origin))) st
      ≡ drawn (plain_ink p) [] c feed (stretch feed last word j i₀ m) st
  byte-drawn m st inside at fits =
      ap (λ (ts : List Touch). paint p.target ts st) (bits-touched p feed values byte (i₀ % 8) j i₀ m low bit)
      ∙ cells-drawn p c feed mono fore back values j m i₀ st
      (λ a l u. let e : feed.x + i₀ + (a - i₀) ≡ feed.x + a = omega arith in rw e at (inside (a - i₀) (omega arith)))
      (λ a l u. let e : i₀ + (a - i₀) ≡ a = omega arith in let h = bit (a - i₀) (omega arith) in omega (arith, ap values e))
      ∙ ap (λ (ps : List Pixel). drawn (plain_ink p) [] c feed ps st) (sym (stretch-cells feed last word j i₀ m))
    where
      bit : (q : ℕ) → q < m → bit_of byte (i₀ % 8 + q) ≡ values (i₀ + q)
      bit q h =
          let column : i₀ % 8 + q ≡ (i₀ + q) % 8 = omega arith in
          ap (bit_of byte) column ∙ sym (value-bit (i₀ + q)) ∙ ap (λ (t : ℕ). value_of feed last word t (i₀ + q)) (sym (at q h))
