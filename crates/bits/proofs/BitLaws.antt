-- Laws of pixels from bits: the two colours, a pixel by where it begins, and a byte read once for all its pixels.
-- Assumes nothing.
use mathlib.Core.Path.{◌≡◌, refl, sym, ap, ◌∙◌}
use mathlib.Core.Bool.{Bool, true, false, cond, ◌&&◌}
use mathlib.Core.List.{List}
use mathlib.Core.Option.{Option, none, some}
use Prim.Native.Nat.{ℕ, ◌+◌, ◌-◌, ◌*◌, ◌/◌, ◌%◌, ◌<◌, ◌≤◌}
use native.Mathlib.Decide.{ℕ_discrete}
use native.Mathlib.Omega.{arith}
use lib.Dec.{eqb}
use lib.ListN.{get_or}
use Rattle.surface.specs.declared.Surface.{Surface}
use Rattle.surface.specs.Place.{byte_at, byte_of, mono_bit}
use Rattle.surface.specs.Asked.{Held}
use Rattle.surface.specs.Pixels.{Px, px, across}
use Rattle.surface.proofs.Run.{in-rows, pixel-held, run-pixel}
use Rattle.surface.proofs.Rects.{same-px, in-across}
use Rattle.surface.proofs.Lists.{In, by_cases}
use Rattle.spans.proofs.Spans.{IsByte}
use Rattle.paint.specs.declared.Tally.{Tally}
use Rattle.paint.specs.Paint.{State, dab, dab_at, paint}
use Rattle.paint.specs.Asked.{Room}
use Rattle.paint.proofs.Owners.{of-byte, dab-leaves}
use Rattle.paint.proofs.Turns.{paint-while, dab-at}
use Rattle.runs.specs.Asked.{RowOn}
use Rattle.bits.specs.declared.Mono.{Mono}
use Rattle.bits.specs.Bits.{coloured, bit_of, byte_touches, mono_giving, monoly}
use Rattle.bits.specs.Asked.{RowMono, CanMono}

-- the two colours as a source has them
pub bit-given : (bit fore back : ℕ) (clear : Bool) → bit < 2
    → cond (clear && eqb bit 0) none (some (cond (eqb bit 1) fore back)) ≡ cond (eqb bit 1) (some fore) (cond clear none (some back))
bit-given bit fore back clear h = by_cases (ℕ_discrete bit 1) (λ e. rw e (one clear)) (λ e. let z : bit ≡ 0 = omega arith in rw z (none_of clear))
  where
    one : (c : Bool) → ◌≡◌ {A = Option ℕ} (cond (c && false) none (some fore)) (some fore)
    one true = refl
    one false = refl

    none_of : (c : Bool) → ◌≡◌ {A = Option ℕ} (cond (c && true) none (some back)) (cond c none (some back))
    none_of true = refl
    none_of false = refl

-- ---- a pixel of the row, by where it begins
module _ (s : Surface) (flat : s.tiled ≡ false) (x y i n at : ℕ) (bytes : n ≡ s.bytes) (first : at ≡ byte_of s x y 0) where
  pub run-held : {len m : ℕ} → RowOn s len x m y → i < m → Held (at + i * n) n len
  run-held row h = rw bytes (pixel-held (in-rows flat) (row.on (x + i) (omega arith) (omega arith)) (at + i * s.bytes) (run-pixel s flat x y at first i))

  pub run-dab : (o : Option ℕ) (st : State) → dab_at (at + i * n) n o st ≡ dab s (px (x + i) y) o st
  run-dab o st = rw bytes (dab-at s (in-rows flat) (px (x + i) y) (at + i * s.bytes) o st (run-pixel s flat x y at first i))

-- ---- a byte read once
module _ {t : Mono} {w j len : ℕ} {n : Tally} (row : RowMono t w j len n) where
  abbrev target : Surface
  target = t.plain.target

  abbrev place : ℕ → ℕ
  place i = byte_at t.from ((t.sx + i) / 8) (t.sy + j)

  same_bit : (i l byte : ℕ) (now : List ℕ) → i ≤ l → (t.sx + i) % 8 + (l - i) < 8 → get_or now (place i) 0 ≡ byte
      → coloured t.plain (bit_of byte ((t.sx + i) % 8 + (l - i))) ≡ mono_giving t now (px (t.x + l) (t.y + j))
  unfolding mono_giving mono_bit
  same_bit i l byte now h small e =
      let c : t.sx + (t.x + l - t.x) ≡ t.sx + l = omega arith in
      let r : t.sy + (t.y + j - t.y) ≡ t.sy + j = omega arith in
      let a : (t.sx + l) / 8 ≡ (t.sx + i) / 8 = omega arith in
      let b : (t.sx + l) % 8 ≡ (t.sx + i) % 8 + (l - i) = omega arith in
      rw (c, r, a, b, e)

  -- a pixel of the part from column i on, by its number in the row
  at-number : (i m : ℕ) (q : Px) → In q (across false (t.x + i) m (t.y + j)) → (i ≤ q.x - t.x) × (q.x - t.x < i + m) × (px (t.x + (q.x - t.x)) (t.y + j) ≡ q)
  at-number i m q k =
      let c = in-across false (t.x + i) m (t.y + j) q k in
      (omega arith, omega arith, same-px (px (t.x + (q.x - t.x)) (t.y + j)) q (omega arith) (sym c.2))

  away : (i m : ℕ) (q : Px) → i < w → i + m ≤ w → In q (across false (t.x + i) m (t.y + j)) → IsByte target q (place i) → ⊥
  away i m q li lm k b =
      let l = q.x - t.x in
      let c = at-number i m q k in
      let f = of-byte target row.colour.some q (place i) b in
      row.apart i l b.k li (omega arith) f.0 (f.1 ∙ ap (λ (p : Px). byte_of target p.x p.y b.k) (sym c.2))

  pub byte-once : (i m byte : ℕ) (st : State) → i < w → i + m ≤ w → (t.sx + i) % 8 + m ≤ 8 → get_or st.mem (place i) 0 ≡ byte
      → paint target (byte_touches t.plain byte ((t.sx + i) % 8) (t.x + i) (across false (t.x + i) m (t.y + j))) st
      ≡ paint target (monoly t (across false (t.x + i) m (t.y + j))) st
  byte-once i m byte st li lm small e =
      paint-while target (λ q now. coloured t.plain (bit_of byte ((t.sx + i) % 8 + (q.x - (t.x + i))))) (λ q now. mono_giving t now q)
      (λ now. get_or now (place i) 0 ≡ byte) (across false (t.x + i) m (t.y + j))
      (λ q k now g.
      let c = at-number i m q k in
      let d : q.x - (t.x + i) ≡ q.x - t.x - i = omega arith in
      ap (λ (d : ℕ). coloured t.plain (bit_of byte ((t.sx + i) % 8 + d))) d
      ∙ same_bit i (q.x - t.x) byte now c.0 (omega (arith, c.1)) g ∙ ap (mono_giving t now) c.2)
      (λ q k o s g. dab-leaves target row.colour.some q o s (place i) (away i m q li lm k) ∙ g) st e

-- ---- a rectangle that can be copied has its rows ready
pub mono-line : {t : Mono} {w h len : ℕ} → CanMono t w h len → (j : ℕ) {n : Tally} → j < h → Room n w → RowMono t w j len n
mono-line {t} {w} {h} {len} can j l room = record {
  flat = can.flat;
  from_flat = can.from_flat;
  colour = can.colour;
  target = record {
    wide = can.wide;
    on = λ i a b. record { colour = can.colour; on = let e : t.x + (i - t.x) ≡ i = omega arith in rw e at (can.target (i - t.x) j (omega arith) l) };
  };
  room = room;
  small = can.small;
  mono = can.mono;
  wide = can.source_wide;
  high = omega (arith, can.source_high);
  down = omega (arith, can.high);
  source = λ i a. can.source i j a l;
  apart = λ i m k a b. can.apart i m j k a b l;
}
