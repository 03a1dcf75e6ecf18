-- A mono copy whose pixels get the colours of their bits: what a pixel is given, and that the rectangle can be copied a byte at a time.
-- Assumes nothing.
use mathlib.Core.Path.{◌≡◌, sym, ap, ◌∙◌}
use mathlib.Core.Logic.{⊎_elim}
use mathlib.Core.Bool.{Bool, true, false, cond, ◌&&◌}
use mathlib.Core.List.{List}
use Prim.Native.Nat.{ℕ, ◌+◌, ◌-◌, ◌/◌, ◌^◌, ◌<◌}
use native.Mathlib.Nat.{add-zero}
use native.Mathlib.Omega.{arith}
use lib.Dec.{eqb}
use borrow.Author.Tests.{eqb-true}
use Rattle.surface.specs.declared.Surface.{Surface}
use Rattle.surface.specs.Place.{byte_at, byte_of, read_px, mono_bit}
use Rattle.surface.specs.Pixels.{Px, px, rect, Inside}
use Rattle.surface.proofs.OnLaws.{and_left, and_right, mono-first, some_byte}
use Rattle.spans.specs.Span.{span_of, meet}
use Rattle.spans.proofs.Spans.{IsByte}
use Rattle.paint.specs.declared.Source.{Source}
use Rattle.paint.specs.declared.Tally.{Tally}
use Rattle.paint.specs.Paint.{tallied, paint}
use Rattle.paint.specs.Mix.{bit_source, mixed, direct}
use Rattle.ink.specs.Pattern.{pattern_column, pattern_row, pattern_bit, pattern_value}
use Rattle.paint.proofs.MixLaws.{direct-mixed}
use Rattle.paint.proofs.Owners.{byte-of}
use Rattle.bits.proofs.BitLaws.{bit-given}
use Rattle.bits.specs.Bits.{coloured, mono_giving}
use Rattle.bits.specs.Asked.{CanMono}
use Rattle.sweep.specs.declared.Task.{Task}
use Rattle.sweep.specs.Copy.{source_place, giving, as_before, in_turn}
use Rattle.sweep.specs.Asked.{CanPaint, Orderly}
use Rattle.rect.specs.Fast.{bitwise, mono_of}
use Rattle.rect.specs.Asked.{Flat}
use Rattle.sweep.proofs.TaskLaws.{can-number}
use Rattle.rect.proofs.Sources.{mono-source}
use Rattle.rect.proofs.Order.{between, as-before}

bit-small : (m : List ℕ) (s : Surface) (x y : ℕ) → mono_bit m s x y < 2
unfolding mono_bit
bit-small m s x y = omega arith

module _ (t : Task) (e : bitwise t ≡ true) where
  pub copied : t.copies ≡ true
  copied = and_left t.copies (eqb t.from.bytes 0) (and_left (t.copies && eqb t.from.bytes 0) (direct t.ink) e)

  pub is-mono : t.from.bytes ≡ 0
  is-mono = eqb-true t.from.bytes 0 (and_right t.copies (eqb t.from.bytes 0) (and_left (t.copies && eqb t.from.bytes 0) (direct t.ink) e))

  pub mono-gives : t.ink.fore < 2 ^ 32 → t.ink.back < 2 ^ 32 → (pattern now : List ℕ) (p : Px) → giving t pattern now now p ≡ mono_giving (mono_of t) now p
  unfolding giving source_place bit_source mono_giving mono_of coloured
  mono-gives fore back pattern now p =
      let bit = mono_bit now t.from (t.sx + (p.x - t.x)) (t.sy + (p.y - t.y)) in
      let pv = pattern_value t.ink pattern p.x p.y in
      let old = read_px now t.ink.target p.x p.y in
      ap (λ (s : Source). mixed t.ink pv s old) (mono-source t copied (pattern_bit pattern (pattern_column t.ink p.x) (pattern_row t.ink p.y)) now p is-mono)
      ∙ direct-mixed t.ink pv (cond (eqb bit 1) t.ink.fore t.ink.back) old (t.ink.clear && eqb bit 0)
      (and_right (t.copies && eqb t.from.bytes 0) (direct t.ink) e) (small (eqb bit 1) fore back)
      ∙ bit-given bit t.ink.fore t.ink.back t.ink.clear (bit-small now t.from (t.sx + (p.x - t.x)) (t.sy + (p.y - t.y)))
    where
      small : (b : Bool) {m n : ℕ} → m < 2 ^ 32 → n < 2 ^ 32 → cond b m n < 2 ^ 32
      small true h k = h
      small false h k = k

-- the byte of a mono pixel is its own
mono-byte : (s : Surface) → s.bytes ≡ 0 → (q : Px) → IsByte s q (byte_at s (q.x / 8) q.y)
mono-byte s e q = record { k = 0; low = some_byte s; at = ap (λ (c : ℕ). byte_at s c q.y) (sym (add-zero (_) ∙ mono-first s q.x e)) }

-- the two surfaces are not one
mono-other : (t : Task) → t.from.bytes ≡ 0 → 0 < t.ink.target.bytes → t.from ≡ t.ink.target → ⊥
mono-other t e c same = let b : t.from.bytes ≡ t.ink.target.bytes = ap (λ (s : Surface). s.bytes) same in omega arith

mono-apart : (t : Task) (w h : ℕ) → t.from.bytes ≡ 0 → 0 < t.ink.target.bytes → Orderly t w h
    → meet (span_of t.ink.target (rect false false t.x t.y w h)) (span_of t.from (rect false false t.sx t.sy w h)) ≡ false
mono-apart t w h e c = ⊎_elim (λ same. absurd (mono-other t e c same)) (λ apart. apart)

-- and the copy comes out alike from every corner
pub mono-corner : (t : Task) (w h len : ℕ) → t.from.bytes ≡ 0 → CanPaint t w h len → Orderly t w h → (l u : Bool) (pattern m : List ℕ) (n : Tally)
    → paint t.ink.target (in_turn t pattern (rect false false t.x t.y w h)) (tallied m n) ≡ paint t.ink.target (in_turn t pattern (rect l u t.x t.y w h)) (tallied m n)
mono-corner t w h len e can orderly l u pattern m n = either false false ∙ sym (either l u)
  where
    either : (l u : Bool)
        → paint t.ink.target (in_turn t pattern (rect l u t.x t.y w h)) (tallied m n) ≡ paint t.ink.target (as_before t pattern m (rect false false t.x t.y w h)) (tallied m n)
    either l u = as-before t w h len can (λ _. orderly) l u (λ _ same. absurd (mono-other t e can.colour.some same)) pattern m n

pub can-mono : (t : Task) (w h len : ℕ) → bitwise t ≡ true → Flat t → CanPaint t w h len → Orderly t w h → CanMono (mono_of t) w h len
unfolding mono_of source_place
can-mono t w h len e flat can orderly = record {
  flat = flat.target;
  from_flat = flat.from;
  colour = can.colour;
  wide = can.wide;
  high = can.high;
  small = can.small;
  mono = is-mono t e;
  source_wide = can.source_wide;
  source_high = can.source_high;
  target = λ i j li lj. (can-number can i j li lj).0.on;
  source = λ i j li lj. (can-number can i j li lj).1 (copied t e);
  apart = λ i l j k li ll lj lk f.
      between t w h len can (λ _. orderly) (mono-apart t w h (is-mono t e) can.colour.some orderly) (px (t.x + l) (t.y + j)) (px (t.x + i) (t.y + j)) (inside l j ll lj) (inside i j li lj)
      (byte_of t.ink.target (t.x + l) (t.y + j) k) (source-byte i j k l f) (byte-of t.ink.target can.colour.some (px (t.x + l) (t.y + j)) k lk);
}
  where
    inside : (i j : ℕ) → i < w → j < h → Inside t.x t.y w h (px (t.x + i) (t.y + j))
    inside i j li lj = omega arith

    column : (i : ℕ) → t.sx + (t.x + i - t.x) ≡ t.sx + i
    column i = omega arith

    row : (j : ℕ) → t.sy + (t.y + j - t.y) ≡ t.sy + j
    row j = omega arith

    source-byte : (i j k l : ℕ) → byte_at t.from ((t.sx + i) / 8) (t.sy + j) ≡ byte_of t.ink.target (t.x + l) (t.y + j) k
        → IsByte t.from (source_place t (px (t.x + i) (t.y + j))) (byte_of t.ink.target (t.x + l) (t.y + j) k)
    source-byte i j k l f = rw (← f, column i, row j) (mono-byte t.from (is-mono t e) (px (t.sx + i) (t.sy + j)))
