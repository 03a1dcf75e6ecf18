-- A plain copy: no row of the table turns it down, it has every pixel of its rectangle written, and the rectangle's bytes have come across.
-- Assumes nothing.
use mathlib.Core.Path.{◌≡◌, refl, sym, ap, ap₂, subst, ◌∙◌}
use mathlib.Core.Logic.{⊎_elim}
use mathlib.Core.Bool.{Bool, true, false, not, ◌&&◌, and-false}
use mathlib.Core.List.{List}
use Prim.Native.Nat.{ℕ, zero, suc, ◌+◌, ◌-◌, ◌*◌, ◌<◌, ◌≤◌, min, max}
use native.Mathlib.Omega.{arith}
use native.Mathlib.Decide.{dec_lt}
use lib.ListN.{length, get_or}
use Rattle.surface.specs.Place.{same_surface, byte_of}
use Rattle.surface.specs.Pixels.{Px, px, Inside, origin}
use Rattle.spans.specs.Span.{all_on, span_of, meet}
use Rattle.surface.proofs.Same.{same-surface}
use Rattle.surface.proofs.Lists.{by_cases}
use Rattle.spans.proofs.Corner.{rect-none}
use Rattle.spans.proofs.Spans.{IsByte}
use Rattle.paint.specs.declared.Clip.{Clip}
use Rattle.paint.specs.Paint.{State, state, paint}
use Rattle.sweep.specs.Copy.{source_place, as_before}
use Rattle.rect.specs.Fast.{source_byte}
use Rattle.runs.specs.Runs.{Given}
use Rattle.paint.proofs.Owners.{byte-of}
use Rattle.paint.proofs.ClipLaws.{Covered, in-clip}
use Rattle.paint.proofs.Frame.{Bytes}
use Rattle.rect.proofs.Plain.{PlainCopy, plain-moves, plain-counts}
use Rattle.registers.specs.declared.Regs.{Regs}
use Rattle.cuts.specs.declared.Cut.{Cut}
use Rattle.command.specs.Decode.{target, origins, ink_of, copy_task}
use Rattle.cuts.specs.Cut.{width, height, clip_of, first_of, cut_at, copy_cut, covered, needed}
use Rattle.table.specs.Table.{all_on_at, pixels, copy_verdict}
use Rattle.cuts.proofs.CutLaws.{needed-rect}
use Rattle.table.proofs.Sources.{needed-none, no-clash}
use Rattle.table.proofs.Rows.{copy-by}
use Rattle.table.proofs.Verdicts.{copy-can}
use Rattle.restore.specs.Rectangles.{Rectangle, source_rect, target_rect, positions, Apart}
use Rattle.restore.specs.Restore.{Plain}
use Rattle.restore.proofs.Areas.{Of, not_negative, pixels-rect, all-on}

-- ---- what the clip leaves of a rectangle that is inside it: all of it
abbrev cut : ℕ → ℕ → ℕ → ℕ → ℕ → ℕ → Cut
cut x y w h sx sy = record { x = x; y = y; w = w; h = h; sx = sx; sy = sy }

all_left : (c : Clip) (x y w h sx sy : ℕ) → 0 < w → 0 < h → Covered c x y → Covered c (x + (w - 1)) (y + (h - 1))
    → cut_at c x y w h sx sy ≡ cut (x - origin) (y - origin) w h sx sy
unfolding cut_at
all_left c x y w h sx sy pw ph a b =
    let ex : max x (origin + c.left) - origin ≡ x - origin = omega arith in
    let ey : max y (origin + c.top) - origin ≡ y - origin = omega arith in
    let ew : min (x + w) (origin + c.right) - max x (origin + c.left) ≡ w = omega arith in
    let eh : min (y + h) (origin + c.bottom) - max y (origin + c.top) ≡ h = omega arith in
    let fx : sx + (max x (origin + c.left) - x) ≡ sx = omega arith in
    let fy : sy + (max y (origin + c.top) - y) ≡ sy = omega arith in
    λ i. record { x = ex i; y = ey i; w = ew i; h = eh i; sx = fx i; sy = fy i }

-- no more is left than there was
left-of : (c : Clip) (x y w h sx sy : ℕ) → ((cut_at c x y w h sx sy).w ≤ w) × ((cut_at c x y w h sx sy).h ≤ h)
unfolding cut_at
left-of c x y w h sx sy = omega arith

left_in : (c : Clip) (x y w h sx sy : ℕ) (p : Px)
    → Inside (cut_at c x y w h sx sy).x (cut_at c x y w h sx sy).y (cut_at c x y w h sx sy).w (cut_at c x y w h sx sy).h p
    → Inside x y w h (px (origin + p.x) (origin + p.y))
unfolding cut_at
left_in c x y w h sx sy p i = omega arith

-- the copy's rectangle, whole
abbrev pub full : Regs → Cut
full r = cut ((target_rect r).x - origin) ((target_rect r).y - origin) (width r) (height r) (source_rect r).x (source_rect r).y

module _ (len : ℕ) (r : Regs) (plain : Plain len r) where
  pub by_size : {A : Type 0} → (0 < width r → 0 < height r → A) → ((0 < width r → 0 < height r → ⊥) → A) → A
  by_size f g = by_cases (dec_lt 0 (width r)) (λ w. by_cases (dec_lt 0 (height r)) (λ h. f w h) (λ n. g (λ u v. n v))) (λ n. g (λ u v. n u))

  abbrev from : Rectangle
  from = source_rect r

  abbrev to : Rectangle
  to = target_rect r

  straight : copy_cut r ≡ cut_at (clip_of r) to.x to.y (width r) (height r) from.x from.y
  unfolding copy_cut
  straight =
      ap₂ (λ (a b : Bool). cut_at (clip_of r) (first_of a to.x (width r)) (first_of b to.y (height r)) (width r) (height r) (first_of a from.x (width r)) (first_of b from.y (height r)))
      plain.left plain.top

  -- the whole rectangle, where it has pixels
  pub whole : 0 < width r → 0 < height r → copy_cut r ≡ full r
  whole w h =
      straight
      ∙ all_left (clip_of r) to.x to.y (width r) (height r) from.x from.y w h
      (in-clip (clip_of r) _ _ (plain.clip to.x to.y (omega arith)))
      (in-clip (clip_of r) _ _ (plain.clip (to.x + (width r - 1)) (to.y + (height r - 1)) (omega arith)))

  -- and nothing, where it has none
  pub none_left : (0 < width r → 0 < height r → ⊥) → 0 < (copy_cut r).w → 0 < (copy_cut r).h → ⊥
  none_left none w h =
      let small = left-of (clip_of r) to.x to.y (width r) (height r) from.x from.y in
      let ew = ap (λ (c : Cut). c.w) straight in
      let eh = ap (λ (c : Cut). c.h) straight in
      none (omega arith) (omega arith)

  -- ---- the table
  abbrev spans-meet : Cut → Bool
  spans-meet c = meet (span_of (target r) (covered c)) (span_of (origins r) (pixels (needed c)))

  target-on : all_on (target r) len (covered (copy_cut r)) ≡ true
  target-on =
      by_size (λ w h. ap (λ (c : Cut). all_on (target r) len (covered c)) (whole w h) ∙ all-on to len plain.target_on)
      (λ none. rect-none false false (target r) len _ _ _ _ (none_left none))

  source-on : all_on_at (origins r) len (needed (copy_cut r)) ≡ true
  source-on =
      by_size (λ w h. ap (λ (c : Cut). all_on_at (origins r) len (needed c)) (whole w h) ∙ ap (all_on_at (origins r) len) (needed-rect (full r)) ∙ plain.source_on)
      (λ none. needed-none (origins r) len (copy_cut r) (none_left none))

  spans_apart : meet (span_of (target r) (pixels (positions to))) (span_of (origins r) (pixels (positions from))) ≡ false → spans-meet (copy_cut r) ≡ false
  spans_apart apart =
      by_size
      (λ w h. ap spans-meet (whole w h)
      ∙ ap₂ (λ (ps qs : List Px). meet (span_of (target r) ps) (span_of (origins r) qs)) (sym (pixels-rect to len plain.target_on w h)) (ap pixels (needed-rect (full r)))
      ∙ apart)
      (λ none. no-clash (target r) (copy_cut r) _ (none_left none))

  pub taken : Apart to from → copy_verdict r len ≡ 0
  taken apart =
      ⊎_elim
      (λ same. sym (copy-by r len plain.fine target-on source-on (same-surface (target r) (origins r) same.0) refl))
      (λ spans. sym (copy-by r len plain.fine target-on source-on refl
      (ap (λ (b : Bool). not (same_surface (target r) (origins r)) && b) (spans_apart spans) ∙ and-false (not (same_surface (target r) (origins r))))))
      apart

-- ---- a rectangle's bytes have come across, and no other has changed
pub record Came (from to : Rectangle) (m m' : List ℕ) : Type 0 where
  pub given : (i j k : ℕ) → i < to.w → j < to.h → k < to.surface.bytes
      → get_or m' (byte_of to.surface (to.x + i - origin) (to.y + j - origin) k) 0 ≡ get_or m (byte_of from.surface (from.x + i - origin) (from.y + j - origin) k) 0
  pub others : (a : ℕ) → ((p : Px) → Of to p → IsByte to.surface p a → ⊥) → get_or m' a 0 ≡ get_or m a 0
  pub long : length m' ≡ length m

-- on one axis: a place i of n from t on, and its source, by the numbers of what the clip leaves
on-axis : (t i n : ℕ) {x w : ℕ} → origin ≤ t → i < n → x ≡ t - origin → w ≡ n → (x ≤ t + i - origin) × (t + i - origin < x + w)
on-axis t i n h l e f = omega arith

source_of : (t s i : ℕ) {x sx : ℕ} → origin ≤ t → origin ≤ s → x ≡ t - origin → sx ≡ s → sx - origin + (t + i - origin - x) ≡ s + i - origin
source_of t s i h l e f = omega arith

no-product : (w h : ℕ) → (0 < w → 0 < h → ⊥) → h * w ≡ 0
no-product zero h none = omega arith
no-product (suc w) zero none = omega arith
no-product (suc w) (suc h) none = absurd (none (omega arith) (omega arith))

module _ (m : List ℕ) (r : Regs) (plain : Plain (length m) r) where
  plain-task : PlainCopy (copy_task r)
  unfolding copy_task ink_of
  plain-task = record { copies = refl; operation = plain.operation; source_key = plain.source_key; target_key = plain.target_key; format = plain.format }

  pub comes : (m' : List ℕ) → Given (copy_task r).ink.target (source_byte (copy_task r) m) (copy_task r).x (copy_task r).y (copy_cut r).w (copy_cut r).h m m' → Came (source_rect r) (target_rect r) m m'
  unfolding copy_task ink_of source_place
  comes m' moved = record {
    given = λ i j k wi hj kb.
        let e = whole (length m) r plain (omega arith) (omega arith) in
        let t = not_negative (target_rect r) (length m) plain.target_on (omega arith) (omega arith) in
        let s = not_negative (source_rect r) (length m) plain.source_on (omega arith) (omega arith) in
        let x = ap (λ (c : Cut). c.x) e in
        let y = ap (λ (c : Cut). c.y) e in
        let w = ap (λ (c : Cut). c.w) e in
        let h = ap (λ (c : Cut). c.h) e in
        let sx = ap (λ (c : Cut). c.sx) e in
        let sy = ap (λ (c : Cut). c.sy) e in
        let p = px ((target_rect r).x + i - origin) ((target_rect r).y + j - origin) in
        let across = on-axis (target_rect r).x i (width r) t.0 wi x w in
        let down = on-axis (target_rect r).y j (height r) t.1 hj y h in
        moved.inside p (record { left = across.0; right = across.1; top = down.0; bottom = down.1 }) k kb
        ∙ ap₂ (λ (u v : ℕ). get_or m (byte_of (origins r) u v k) 0)
        (source_of (target_rect r).x (source_rect r).x i t.0 s.0 x sx) (source_of (target_rect r).y (source_rect r).y j t.1 s.1 y sy);
    others = λ a f. moved.others a (λ p i k l b. f p
        (left_in (clip_of r) (target_rect r).x (target_rect r).y (width r) (height r) (source_rect r).x (source_rect r).y p
        (subst (λ (c : Cut). Inside c.x c.y c.w c.h p) (straight (length m) r plain) i)) (subst (IsByte (target r) p) (sym b) (byte-of (target r) (omega arith) p k l)));
    long = moved.long;
  }

  -- what the copy leaves, by any pattern
  pub record Copied (st : State) : Type 0 where
    pub came : Came (source_rect r) (target_rect r) m st.mem
    pub count : st.tally.count ≡ height r * width r

  pub plain_copied : (pattern : List ℕ) → Bytes m → Apart (target_rect r) (source_rect r)
      → Copied (paint (target r) (as_before (copy_task r) pattern m (covered (copy_cut r))) (state m 0 0))
  unfolding copy_task ink_of
  plain_copied pattern bytes apart =
      let can = copy-can r (length m) (taken (length m) r plain apart) in
      record {
        came = comes _ (plain-moves (copy_task r) pattern m (copy_cut r).w (copy_cut r).h plain-task can bytes);
        count = plain-counts (copy_task r) pattern m (copy_cut r).w (copy_cut r).h plain-task can bytes ∙ all-counted;
      }
    where
      all-counted : (copy_cut r).h * (copy_cut r).w ≡ height r * width r
      all-counted =
          by_size (length m) r plain (λ w h. ap (λ (c : Cut). c.h * c.w) (whole (length m) r plain w h))
          (λ none. no-product (copy_cut r).w (copy_cut r).h (none_left (length m) r plain none) ∙ sym (no-product (width r) (height r) none))
