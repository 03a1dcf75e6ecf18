-- What a verdict of 0 gives the painters: a rectangle that can be painted, in an order that reads nothing too late, a line that can be drawn, an open host blit.
-- Assumes nothing.
use mathlib.Core.Path.{◌≡◌, refl, sym, ap, ap₂, ◌∙◌}
use mathlib.Core.Logic.{inl, inr}
use mathlib.Core.Bool.{Bool, true, false, cond, not, ◌&&◌, ◌||◌, false≢true}
use Prim.Native.Nat.{ℕ, ◌+◌, ◌-◌, ◌*◌, ◌/◌, ◌%◌, ◌^◌, ◌<◌, ◌≤◌}
use native.Mathlib.Nat.{mul-pos, mul_left_comm}
use native.Mathlib.Omega.{arith}
use lib.Dec.{eqb, ltb}
use borrow.Author.Tests.{ltb-false, eqb-false, not-true, not-false}
use Rattle.surface.specs.declared.Surface.{Surface}
use Rattle.surface.specs.Place.{same_surface, row_pixels}
use Rattle.surface.specs.Asked.{Small}
use Rattle.surface.specs.Pixels.{rect, Inside, origin}
use Rattle.spans.specs.Span.{all_on, span_of, meet}
use Rattle.formats.specs.Step.{packing_of, row_length, step_of, data_bytes, data_words}
use Rattle.formats.specs.Format.{source_of, source_code, bytes_of}
use Rattle.surface.proofs.Same.{same-as}
use Rattle.surface.proofs.OnLaws.{and_left, and_right, on-column, pos-of-ne}
use Rattle.surface.proofs.Rects.{rect-in}
use Rattle.spans.proofs.Corner.{all-each, rect-corner, rect-none}
use Rattle.surface.proofs.Lists.{by_cases}
use native.Mathlib.Decide.{dec_lt}
use Rattle.formats.proofs.FormatLaws.{target_small, target-colour, source-small}
use Rattle.paint.specs.declared.Clip.{Clip}
use Rattle.paint.specs.Clip.{in_clip, pixel_at}
use Rattle.paint.proofs.ClipLaws.{in-clip}
use Rattle.sweep.specs.Asked.{CanPaint, Orderly}
use Rattle.line.specs.Line.{points}
use Rattle.line.specs.Asked.{Within, Placed, Drawable}
use Rattle.line.specs.Draw.{covered_points, line_off}
use Rattle.host.specs.Host.{words_of}
use Rattle.host.specs.Asked.{Sizes, Opened}
use Rattle.plain.specs.Plain.{Plainly}
use Rattle.host.proofs.Needed.{data-small}
use Rattle.registers.specs.declared.Regs.{Regs}
use Rattle.positions.specs.Position.{placed}
use Rattle.cuts.specs.declared.Cut.{Cut}
use Rattle.command.specs.Decode.{target, origins, ink_of, plain_blit, plain_of, fill_task, copy_task, line_of, feed_of}
use Rattle.cuts.specs.Cut.{bit, width, height, clip_of, first_of, cut_at, fill_cut, copy_cut, covered, needed}
use Rattle.cuts.specs.Asked.{CutRange}
use Rattle.table.specs.Table.{target_fine, both_fine, host_fine, all_on_at, pixels, host_fault, fill_verdict, copy_verdict, host_verdict, line_verdict}
use Rattle.table.specs.Asked.{InRows}
use Rattle.cuts.proofs.CutLaws.{clip-bits, Bounded, cut-bounded}
use Rattle.table.proofs.Sources.{needed-first, needed-as-pixels, needed-pixels, no-clash}

-- what the surfaces of a command are, for the attribute of a function
pub ruleset smalls = (target_small, source-small)

-- ---- a verdict of 0 has passed each test
pub passed : (t : Bool) (n k : ℕ) → 0 < n → cond (not t) n k ≡ 0 → (t ≡ true) × (k ≡ 0)
passed true n k p e = (refl, e)
passed false n k p e = absurd (omega arith)

pub spared : (t : Bool) (n k : ℕ) → 0 < n → cond t n k ≡ 0 → (t ≡ false) × (k ≡ 0)
spared true n k p e = absurd (omega arith)
spared false n k p e = (refl, e)

pub neither : (a b : Bool) → (not a || not b) ≡ false → (a ≡ true) × (b ≡ true)
neither true true e = (refl, refl)
neither true false e = (refl, sym e)
neither false b e = (sym e, absurd (false≢true (sym e)))

-- ---- positions
pub placed-within : (raw : ℕ) → Within (placed raw)
placed-within raw = omega arith

first_small : (b : Bool) (at n : ℕ) → at < 20480 → first_of b at n < 20480
first_small true at n h = omega arith
first_small false at n h = omega arith

pub fill-range : (r : Regs) → CutRange (clip_of r) (placed r.dst_xy) (placed (r.dst_xy / 2 ^ 16)) (width r) (height r) origin origin
fill-range r = record {
  clip = clip-bits r;
  x15 = omega arith;
  y15 = omega arith;
  w13 = omega arith;
  h13 = omega arith;
  sx15 = omega arith;
  sy15 = omega arith;
}

pub fill-bounded : (r : Regs) → Bounded (fill_cut r)
unfolding fill_cut
fill-bounded r = cut-bounded (fill-range r)

pub copy-bounded : (r : Regs) → Bounded (copy_cut r)
unfolding copy_cut
copy-bounded r = cut-bounded (record {
  clip = clip-bits r;
  x15 = first_small (bit r.command 14) (placed r.dst_xy) (width r) (omega arith);
  y15 = first_small (bit r.command 15) (placed (r.dst_xy / 2 ^ 16)) (height r) (omega arith);
  w13 = omega arith;
  h13 = omega arith;
  sx15 = first_small (bit r.command 14) (placed r.src_xy) (width r) (omega arith);
  sy15 = first_small (bit r.command 15) (placed (r.src_xy / 2 ^ 16)) (height r) (omega arith);
})

-- ---- fills
pub record FillPassed (r : Regs) (len : ℕ) : Type 0 where
  pub fine : target_fine r ≡ true
  pub on : all_on (target r) len (covered (fill_cut r)) ≡ true

pub fill-passed : (r : Regs) (len : ℕ) → fill_verdict r len ≡ 0 → FillPassed r len
unfolding fill_verdict
fill-passed r len e =
    let p = passed (target_fine r) 5 (cond (not (all_on (target r) len (covered (fill_cut r)))) 7 0) (omega arith) e in
    record { fine = p.0; on = (passed (all_on (target r) len (covered (fill_cut r))) 7 0 (omega arith) p.1).0 }

pub fill-can : (r : Regs) (len : ℕ) → fill_verdict r len ≡ 0 → CanPaint (fill_task r) (fill_cut r).w (fill_cut r).h len
unfolding fill_task ink_of
fill-can r len e =
    let p = fill-passed r len e in
    let b = fill-bounded r in
    record {
      colour = target-colour r.dst_base_addr r.dst_format p.fine;
      small = omega arith;
      wide = b.wide;
      high = b.high;
      source_wide = omega (arith, b.wide);
      source_high = omega (arith, b.high);
      target = p.on;
      origin = λ c. absurd (false≢true c);
    }

-- ---- copies
pub record CopyPassed (r : Regs) (len : ℕ) : Type 0 where
  pub fine : both_fine r ≡ true
  pub on : all_on (target r) len (covered (copy_cut r)) ≡ true
  pub source : all_on_at (origins r) len (needed (copy_cut r)) ≡ true
  pub apart : (not (same_surface (target r) (origins r)) && meet (span_of (target r) (covered (copy_cut r))) (span_of (origins r) (pixels (needed (copy_cut r))))) ≡ false

pub copy_passed : (r : Regs) (len : ℕ) → copy_verdict r len ≡ 0 → CopyPassed r len
unfolding copy_verdict
copy_passed r len e =
    let A = all_on (target r) len (covered (copy_cut r)) in
    let B = all_on_at (origins r) len (needed (copy_cut r)) in
    let M = not (same_surface (target r) (origins r)) && meet (span_of (target r) (covered (copy_cut r))) (span_of (origins r) (pixels (needed (copy_cut r)))) in
    let p = passed (both_fine r) 5 (cond (not A || not B) 7 (cond M 8 0)) (omega arith) e in
    let q = spared (not A || not B) 7 (cond M 8 0) (omega arith) p.1 in
    let on = neither A B q.0 in
    record { fine = p.0; on = on.0; source = on.1; apart = (spared M 8 0 (omega arith) q.1).0 }

pub target-named : (r : Regs) → both_fine r ≡ true → target_fine r ≡ true
target-named r e = and_left (target_fine r) _ e

-- the source's pixels are on their surface as pixels
pub source-on : (s : Surface) (len : ℕ) (c : Cut) → all_on_at s len (needed c) ≡ true → all_on s len (rect false false (c.sx - origin) (c.sy - origin) c.w c.h) ≡ true
source-on s len c e = by_cases (dec_lt 0 c.w)
    (λ w. by_cases (dec_lt 0 c.h)
    (λ h. let f = needed-first s len c w h e in sym (needed-as-pixels s len c w h f.0 f.1) ∙ e)
    (λ n. rect-none false false s len (c.sx - origin) (c.sy - origin) c.w c.h (λ u v. n v)))
    (λ n. rect-none false false s len (c.sx - origin) (c.sy - origin) c.w c.h (λ u v. n u))

pub copy-can : (r : Regs) (len : ℕ) → copy_verdict r len ≡ 0 → CanPaint (copy_task r) (copy_cut r).w (copy_cut r).h len
unfolding copy_task ink_of
copy-can r len e =
    let p = copy_passed r len e in
    let b = copy-bounded r in
    record {
      colour = target-colour r.dst_base_addr r.dst_format (target-named r p.fine);
      small = source-small r.src_base_addr r.src_format (width r) (omega arith);
      wide = b.wide;
      high = b.high;
      source_wide = b.source_wide;
      source_high = b.source_high;
      target = p.on;
      origin = λ c. source-on (origins r) len (copy_cut r) p.source;
    }

pub copy-orderly : (r : Regs) (len : ℕ) → copy_verdict r len ≡ 0 → Orderly (copy_task r) (copy_cut r).w (copy_cut r).h
unfolding copy_task ink_of
copy-orderly r len e = by-test (same_surface (target r) (origins r)) refl
  where
    p : CopyPassed r len
    p = copy_passed r len e

    c : Cut
    c = copy_cut r

    by-test : (t : Bool) → same_surface (target r) (origins r) ≡ t → Orderly (copy_task r) (copy_cut r).w (copy_cut r).h
    by-test true f = inl (same-as (target r) (origins r) f)
    by-test false f =
        let apart : meet (span_of (target r) (covered c)) (span_of (origins r) (pixels (needed c))) ≡ false =
        sym (ap (λ b. not b && meet (span_of (target r) (covered c)) (span_of (origins r) (pixels (needed c)))) f) ∙ p.apart in
        inr (by_cases (dec_lt 0 c.w)
        (λ w. by_cases (dec_lt 0 c.h)
        (λ h. let n = needed-first (origins r) len c w h p.source in
        sym (ap (λ ps. meet (span_of (target r) (covered c)) (span_of (origins r) ps)) (needed-pixels c n.0 n.1)) ∙ apart)
        (λ n. no-clash (target r) c _ (λ u v. n v)))
        (λ n. no-clash (target r) c _ (λ u v. n u)))

-- the two rectangles of a copy or a stretch are in the rows of their surfaces
on-columns : (s : Surface) (len x y w h : ℕ) → 0 < w → 0 < h → all_on s len (rect false false x y w h) ≡ true → x + (w - 1) < row_pixels s
on-columns s len x y w h pw ph e = on-column s len (x + (w - 1)) (y + (h - 1)) (sym (rect-corner false false s len x y w h pw ph) ∙ e)

pub in-rows : (t s : Surface) (len : ℕ) (c b : Cut) → Small t → Small s → (0 < c.w → 0 < c.h → (0 < b.w) × (0 < b.h))
    → all_on t len (covered c) ≡ true → all_on_at s len (needed b) ≡ true → InRows t s c b
in-rows t s len c b ts ss some on source = record {
  target = ts;
  source = ss;
  columns = λ w h.
      let k = some w h in (
        on-columns t len c.x c.y c.w c.h w h on,
        on-columns s len (b.sx - origin) (b.sy - origin) b.w b.h k.0 k.1 (source-on s len b source),
      );
  left = λ w h. let k = some w h in (needed-first s len b k.0 k.1 source).0;
  top = λ w h. let k = some w h in (needed-first s len b k.0 k.1 source).1;
}

-- ---- lines
pub line-placed : (r : Regs) → Placed (line_of r)
unfolding line_of
line-placed r = record { x0 = placed-within r.src_xy; y0 = placed-within (r.src_xy / 2 ^ 16); x1 = placed-within r.dst_xy; y1 = placed-within (r.dst_xy / 2 ^ 16) }

-- what drawing a line asks for, for the attribute of a function
pub ruleset drawables = (target-colour, clip-bits, line-placed)

line-off-none : (s : Surface) (len : ℕ) (r : Regs) → line_off s len (clip_of r) (points (line_of r)) ≡ false → all_on s len (covered_points (clip_of r) (points (line_of r))) ≡ true
unfolding line_off
line-off-none s len r e = not-false (all_on s len (covered_points (clip_of r) (points (line_of r)))) e

pub line-can : (r : Regs) (len : ℕ) → line_verdict r len ≡ 0 → Drawable (target r) len (clip_of r) (line_of r)
unfolding line_verdict
line-can r len e =
    let off = line_off (target r) len (clip_of r) (points (line_of r)) in
    let p = passed (target_fine r) 5 (cond off 7 0) (omega arith) e in
    record {
      surface = target-colour r.dst_base_addr r.dst_format p.0;
      clip = clip-bits r;
      line = line-placed r;
      on = line-off-none (target r) len r (spared off 7 0 (omega arith) p.1).0;
    }

-- ---- host blits
pub record HostPassed (r : Regs) (len : ℕ) : Type 0 where
  pub fine : host_fine r ≡ true
  pub fault : host_fault r ≡ false
  pub on : all_on (target r) len (covered (fill_cut r)) ≡ true

pub host-passed : (r : Regs) (len : ℕ) → host_verdict r len ≡ 0 → HostPassed r len
unfolding host_verdict
host-passed r len e =
    let A = all_on (target r) len (covered (fill_cut r)) in
    let p = passed (host_fine r) 5 (cond (host_fault r) 6 (cond (not A) 7 0)) (omega arith) e in
    let q = spared (host_fault r) 6 (cond (not A) 7 0) (omega arith) p.1 in
    record { fine = p.0; fault = q.0; on = (passed A 7 0 (omega arith) q.1).0 }

pub feed-sizes : (r : Regs) → Sizes (feed_of r)
unfolding feed_of
feed-sizes r =
    let s = source-small r.src_base_addr r.src_format (width r) (omega arith) in
    record { bytes = s.bytes; step = s.stride; width = omega arith; height = omega arith }

-- the step holds a row: by the stride under packing 0, by rounding up under the others
or_right : (a b : Bool) → (a || b) ≡ false → b ≡ false
or_right true b e = absurd (false≢true (sym e))
or_right false b e = e

step-holds : (packing bytes width stride : ℕ) → (eqb packing 0 && ltb (step_of packing bytes width stride) (row_length bytes width)) ≡ false
    → row_length bytes width ≤ step_of packing bytes width stride
unfolding step_of
step-holds packing bytes width stride e = by-test (eqb packing 0) (eqb packing 1) (eqb packing 2) e
  where
    row : ℕ
    row = row_length bytes width

    by-test : (a b c : Bool)
        → (a && ltb (cond a stride (cond b row (cond c ((row + 1) / 2 * 2) ((row + 3) / 4 * 4)))) row) ≡ false
        → row ≤ cond a stride (cond b row (cond c ((row + 1) / 2 * 2) ((row + 3) / 4 * 4)))
    by-test true b c f = ltb-false stride row f
    by-test false true c f = omega arith
    by-test false false true f = omega arith
    by-test false false false f = omega arith

row-held : (r : Regs) → host_fault r ≡ false → row_length (origins r).bytes (width r) ≤ (origins r).stride
unfolding source_of
row-held r e =
    step-holds (packing_of r.src_format) (bytes_of (source_code r.src_format)) (width r) (r.src_format % 2 ^ 14)
    (or_right (not (eqb r.src_xy 0)) _ (or_right (not (eqb (r.command / 2 ^ 14 % 4) 0)) _ (or_right (not (eqb (r.src_format / 2 ^ 20 % 4) 0)) _ e)))

-- words are needed only where a row has bytes
some-row : (bytes step w h : ℕ) → 0 < data_words bytes step w h → 0 < row_length bytes w
unfolding data_words data_bytes row_length
some-row bytes step w h p = by-test (eqb w 0) refl (eqb h 0) (eqb bytes 0) refl p
  where
    by-test : (z : Bool) → eqb w 0 ≡ z → (y : Bool) → (b : Bool) → eqb bytes 0 ≡ b
        → 0 < (cond (z || y) 0 ((h - 1) * step + (w * cond b 1 (8 * bytes) + 7) / 8) + 3) / 4 → 0 < (w * cond b 1 (8 * bytes) + 7) / 8
    by-test true e y b f q = absurd (omega arith)
    by-test false e true b f q = absurd (omega arith)
    by-test false e false true f q = let some = pos-of-ne (eqb-false w 0 e) in omega arith
    by-test false e false false f q =
        let some = pos-of-ne (eqb-false w 0 e) in
        let deep = pos-of-ne (eqb-false bytes 0 f) in
        omega (arith, mul-pos some deep, mul_left_comm w 8 bytes)

-- a pixel of the rectangle that is inside the clip is one of those that the clip leaves
in_cut : (c : Clip) (x y w h sx sy i j : ℕ) → i < w → j < h → in_clip c (x + i) (y + j) ≡ true
    → Inside (cut_at c x y w h sx sy).x (cut_at c x y w h sx sy).y (cut_at c x y w h sx sy).w (cut_at c x y w h sx sy).h (pixel_at (x + i) (y + j))
unfolding cut_at
in_cut c x y w h sx sy i j p q e = let k = in-clip c (x + i) (y + j) e in omega arith

pub host-can : (r : Regs) (len : ℕ) → host_verdict r len ≡ 0 → 0 < words_of (feed_of r) → Opened (ink_of r) (clip_of r) (feed_of r) len
unfolding ink_of feed_of fill_cut
host-can r len e words =
    let p = host-passed r len e in
    let colour = target-colour r.dst_base_addr r.dst_format (and_left (target_fine r) _ p.fine) in
    record {
      colour = colour;
      bits12 = clip-bits r;
      rows = record {
        sizes = feed-sizes r;
        held = row-held r p.fault;
        some = some-row (origins r).bytes (origins r).stride (width r) (height r) words;
      };
      x = omega arith;
      y = omega arith;
      covered = record {
        on = λ i j iw jh inside. record {
          colour = colour;
          on = all-each (target r) len (covered (fill_cut r)) p.on (pixel_at (placed r.dst_xy + i) (placed (r.dst_xy / 2 ^ 16) + j))
              (rect-in false false (fill_cut r).x (fill_cut r).y (fill_cut r).w (fill_cut r).h _
              (in_cut (clip_of r) (placed r.dst_xy) (placed (r.dst_xy / 2 ^ 16)) (width r) (height r) origin origin i j iw jh inside));
        };
      };
    }

-- a number of words that four bytes each of a word can count
pub words-few : (r : Regs) → words_of (feed_of r) < 2 ^ 29
unfolding data_words data_bytes
words-few r = by-test (eqb (feed_of r).width 0 || eqb (feed_of r).height 0)
  where
    by-test : (z : Bool) → (cond z 0 (((feed_of r).height - 1) * (feed_of r).step + row_length (feed_of r).bytes (feed_of r).width) + 3) / 4 < 2 ^ 29
    by-test true = omega arith
    by-test false = omega (arith, data-small (feed_of r) (feed-sizes r))

-- the ink of a plain blit draws as the plain one
pub plain-ink : (r : Regs) → plain_blit r ≡ true → Plainly (ink_of r) (plain_of r)
unfolding ink_of plain_of
plain-ink r e =
    let code = eqb (r.command / 2 ^ 24 % 2 ^ 8) 0xcc in
    let source = not (bit r.command_extra 0) in
    let target = not (bit r.command_extra 1) in
    let keys = and_right code (source && target) e in
    record {
      target = refl;
      fore = refl;
      back = refl;
      clear = refl;
      gets = ap₂ (λ s t. s && t) (and_left code (source && target) e) (and_right source target keys);
      unkeyed = not-true (bit r.command_extra 0) (and_left source target keys);
    }
