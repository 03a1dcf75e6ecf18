-- Laws of stretches: the box of the source positions that pixels take decides their rows of the table, and what a verdict of 0 gives the painter.
-- Assumes nothing.
use mathlib.Core.Path.{◌≡◌, sym, ap, ◌∙◌}
use mathlib.Core.Bool.{true, false, cond, not, ◌||◌}
use mathlib.Core.List.Memᴰ
use mathlib.Core.List.{map, map-map}
use Prim.Native.Nat.{ℕ, ◌+◌, ◌-◌, ◌^◌, ◌<◌, ◌≤◌}
use native.Mathlib.Omega.{arith}
use Rattle.surface.specs.declared.Surface.{Surface}
use Rattle.spans.specs.Span.{all_on, span_of, meet}
use Rattle.surface.proofs.OnLaws.{on-column}
use Rattle.surface.proofs.Rects.{rect-in}
use Rattle.surface.specs.Pixels.{origin}
use Rattle.spans.proofs.Corner.{Corners, corners-map, rect-corners, rect-none}
use Rattle.spans.proofs.Spans.{corners-span}
use Rattle.formats.proofs.FormatLaws.{target-colour, target_small, source-small}
use Rattle.paint.specs.Clip.{pixel_at}
use Rattle.registers.specs.declared.Regs.{Regs}
use Rattle.cuts.specs.declared.Cut.{Cut}
use Rattle.cuts.specs.Cut.{low13, clip_of, cut_low, cut_size, cut_at, fill_cut, covered, needed}
use Rattle.cuts.proofs.CutLaws.{clip-bits, none_left}
use Rattle.scale.specs.declared.Scale.{Scale}
use Rattle.scale.specs.declared.Stretch.{Stretch}
use Rattle.scale.specs.Scale.{scaled}
use Rattle.scale.specs.Stretch.{taken_at}
use Rattle.scale.specs.Asked.{CanStretch}
use Rattle.scale.proofs.ScaleLaws.{scaled-mono}
use Rattle.command.specs.Decode.{target, stretch_origins, ink_of, stretch_of}
use Rattle.table.specs.Table.{both_fine, all_on_at, pixels, stretch_needed, stretch_fault, reach_of, taken_cut, source_rows, stretch_rows, stretch_verdict}
use Rattle.table.specs.Asked.{Reaches, OnScales}
use Rattle.table.proofs.Sources.{each_at, not_negative, corners-at, pixel-corners, needed-corners, no-clash}
use Rattle.table.proofs.Rows.{same_rows}
use Rattle.table.proofs.Verdicts.{passed, spared, neither, target-named, fill-bounded}

-- ---- the box: positions go up, so that those of the first and the last pixel are its corners
pub reach-up : (s : Scale) (at n : ℕ) → scaled s (origin + at) ≤ scaled s (origin + (at + (n - 1)))
reach-up s at n = scaled-mono s (omega arith)

pub ruleset ups = reach-up

reach-last : (s : Scale) (at n : ℕ) → (reach_of s at n).at + ((reach_of s at n).n - 1) ≡ scaled s (origin + (at + (n - 1)))
unfolding reach_of
reach-last s at n = omega (arith, reach-up s at n)

module _ (t : Stretch) (c : Cut) (w : 0 < c.w) (h : 0 < c.h) where
  taken-corners : Corners (map (taken_at t) (covered c)) (taken_cut t c).sx (taken_cut t c).sy
      ((taken_cut t c).sx + ((taken_cut t c).w - 1)) ((taken_cut t c).sy + ((taken_cut t c).h - 1))
  unfolding taken_at taken_cut reach_of
  taken-corners =
      rw (reach-last t.columns c.x c.w, reach-last t.rows c.y c.h)
      (corners-map (λ k. scaled t.columns (origin + k)) (λ k. scaled t.rows (origin + k))
      (λ a b l. scaled-mono t.columns (omega arith)) (λ a b l. scaled-mono t.rows (omega arith))
      (rect-corners false false c.x c.y c.w c.h w h))

  pub box-some : (0 < (taken_cut t c).w) × (0 < (taken_cut t c).h)
  unfolding taken_cut reach_of
  box-some = omega arith

  box-corners : Corners (needed (taken_cut t c)) (taken_cut t c).sx (taken_cut t c).sy
      ((taken_cut t c).sx + ((taken_cut t c).w - 1)) ((taken_cut t c).sy + ((taken_cut t c).h - 1))
  box-corners = needed-corners (taken_cut t c) box-some.0 box-some.1

  -- both lists have these corners: both are on the surface, or neither is, and they have one span
  box-on : (s : Surface) (len : ℕ) → all_on_at s len (map (taken_at t) (covered c)) ≡ all_on_at s len (needed (taken_cut t c))
  box-on s len = corners-at s len taken-corners ∙ sym (corners-at s len box-corners)

  box-span : (s : Surface) (len : ℕ) → all_on_at s len (needed (taken_cut t c)) ≡ true
      → span_of s (pixels (map (taken_at t) (covered c))) ≡ span_of s (pixels (needed (taken_cut t c)))
  box-span s len e =
      let on = (not_negative (taken_cut t c).sx (taken_cut t c).sy _ (sym (corners-at s len box-corners) ∙ e)).2 in
      let column = on-column s len _ _ on in
      corners-span s (pixel-corners taken-corners) column ∙ sym (corners-span s (pixel-corners box-corners) column)

-- ---- rows 7 and 8: none applies where no pixel is left, and elsewhere the box stands for the positions
pub rows_none : (t : Stretch) (c : Cut) (len : ℕ) → (0 < c.w → 0 < c.h → ⊥) → 0 ≡ stretch_rows t c len
unfolding source_rows all_on_at
rows_none t c len none =
    let on = rect-none false false t.ink.target len c.x c.y c.w c.h none in
    let clash = no-clash t.ink.target c (span_of t.from (pixels (map (taken_at t) (covered c)))) none in
    rw (on, clash, none_left c none (taken_at t))

pub rows-box : (t : Stretch) (c : Cut) (len : ℕ) → 0 < c.w → 0 < c.h
    → source_rows t.ink.target t.from len c (needed (taken_cut t c)) false ≡ stretch_rows t c len
rows-box t c len w h =
    same_rows t.ink.target t.from len c false (needed (taken_cut t c)) (map (taken_at t) (covered c))
    (sym (box-on t c w h t.from len)) (λ e. sym (box-span t c w h t.from len e))

pub ruleset boxes = (box-some, rows_none, rows-box)

-- ---- the registers' stretch: what the clip leaves of an axis are places of it
-- an axis with the sizes and the source place that registers can name
record Named (s : Scale) : Type 0 where
  size : s.size < 2 ^ 13
  source_size : s.source_size < 2 ^ 13
  from : s.from < 20480

reaches : (s : Scale) (low n : ℕ) → Named s → 0 < n → s.to ≤ low → origin ≤ low → low + n ≤ s.to + s.size → low + n ≤ origin + 2 ^ 13
    → Reaches s (low - origin) n
reaches s low n named some first above past most = omega arith

cut-reaches : (s : Scale) (least most : ℕ) → Named s → most < 2 ^ 12 → 0 < cut_size least most s.to s.size
    → Reaches s (cut_low least s.to - origin) (cut_size least most s.to s.size)
cut-reaches s least most named high some =
    reaches s (cut_low least s.to) (cut_size least most s.to s.size) named some (omega arith) (omega arith) (omega arith) (omega arith)

pub stretch-scales : (r : Regs) → OnScales (stretch_of r) (fill_cut r)
unfolding stretch_of ink_of fill_cut cut_at
stretch-scales r =
    let clip = clip-bits r in
    record {
      target = target_small r.dst_base_addr r.dst_format;
      source = source-small r.src_base_addr r.src_format (low13 r.src_size) (omega arith);
      columns = λ w h. cut-reaches (stretch_of r).columns (clip_of r).left (clip_of r).right (omega arith) clip.right w;
      rows = λ w h. cut-reaches (stretch_of r).rows (clip_of r).top (clip_of r).bottom (omega arith) clip.bottom h;
    }

-- rows 7 and 8 are the last that a stretch's verdict asks for
pub stretch-by : (r : Regs) (len : ℕ) → both_fine r ≡ true → stretch_fault r ≡ false → stretch_rows (stretch_of r) (fill_cut r) len ≡ stretch_verdict r len
unfolding stretch_verdict source_rows stretch_of ink_of
stretch-by r len f h = rw (f, h)

pub ruleset stretches = (stretch-scales, stretch-by)

-- ---- what a verdict of 0 gives
pub record StretchPassed (r : Regs) (len : ℕ) : Type 0 where
  pub fine : both_fine r ≡ true
  pub fault : stretch_fault r ≡ false
  pub on : all_on (target r) len (covered (fill_cut r)) ≡ true
  pub source : all_on_at (stretch_origins r) len (stretch_needed r) ≡ true
  pub apart : meet (span_of (target r) (covered (fill_cut r))) (span_of (stretch_origins r) (pixels (stretch_needed r))) ≡ false

pub stretch-passed : (r : Regs) (len : ℕ) → stretch_verdict r len ≡ 0 → StretchPassed r len
unfolding stretch_verdict
stretch-passed r len e =
    let A = all_on (target r) len (covered (fill_cut r)) in
    let B = all_on_at (stretch_origins r) len (stretch_needed r) in
    let M = meet (span_of (target r) (covered (fill_cut r))) (span_of (stretch_origins r) (pixels (stretch_needed r))) in
    let p = passed (both_fine r) 5 (cond (stretch_fault r) 6 (cond (not A || not B) 7 (cond M 8 0))) (omega arith) e in
    let f = spared (stretch_fault r) 6 (cond (not A || not B) 7 (cond M 8 0)) (omega arith) p.1 in
    let q = spared (not A || not B) 7 (cond M 8 0) (omega arith) f.1 in
    let on = neither A B q.0 in
    record { fine = p.0; fault = f.0; on = on.0; source = on.1; apart = (spared M 8 0 (omega arith) q.1).0 }

pub stretch-can : (r : Regs) (len : ℕ) → stretch_verdict r len ≡ 0
    → CanStretch (stretch_of r) (fill_cut r).x (fill_cut r).y (fill_cut r).w (fill_cut r).h len
unfolding stretch_of ink_of
stretch-can r len e =
    let t = stretch_of r in
    let c = fill_cut r in
    let p = stretch-passed r len e in
    let b = fill-bounded r in
    let s = stretch-scales r in
    record {
      colour = target-colour r.dst_base_addr r.dst_format (target-named r p.fine);
      small = s.source;
      wide = b.wide;
      high = b.high;
      columns = λ w h. ((s.columns w h).first, (s.columns w h).past);
      rows = λ w h. ((s.rows w h).first, (s.rows w h).past);
      target = p.on;
      source = λ q i. not_negative (taken_at t q).x (taken_at t q).y _
          (each_at t.from len (stretch_needed r) p.source (taken_at t q) (Memᴰ.map (taken_at t) (rect-in false false c.x c.y c.w c.h q i)));
      apart = ap (λ ps. meet (span_of (target r) (covered c)) (span_of t.from ps)) (sym (map-map (λ q. pixel_at q.x q.y) (taken_at t) (covered c))) ∙ p.apart;
    }
