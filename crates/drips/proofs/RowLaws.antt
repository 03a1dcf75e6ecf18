-- The pixels that some words finish, found row by row, are those that are written, where none is left.
-- Assumes nothing.
use mathlib.Core.Path.{◌≡◌, refl, sym, ap, ◌∙◌}
use mathlib.Core.Logic.{⊎_elim}
use mathlib.Core.Bool.{Bool, true, false, cond, ◌&&◌}
use mathlib.Core.List.Memᴰ
use mathlib.Core.List.{List, []}
use Prim.Native.Nat.{ℕ, zero, suc, ◌+◌, ◌-◌, ◌*◌, ◌<◌, ◌≤◌, min}
use native.Mathlib.Decide.{ℕ_discrete, dec_lt}
use native.Mathlib.Omega.{arith}
use lib.Dec.{eqb, leb, ltb}
use lib.ListN.{length}
use borrow.Author.Tests.{leb-true, ltb-true, le-leb, lt-ltb, ne_eqb}
use Rattle.surface.specs.declared.Surface.{Surface}
use Rattle.surface.specs.Pixels.{Px, rect, origin}
use Rattle.surface.proofs.Lists.{In, by_cases}
use Rattle.surface.proofs.OnLaws.{and_left, and_right}
use Rattle.surface.proofs.Rects.{same-px, in-rect, rect-in}
use Rattle.spans.specs.Span.{addresses}
use Rattle.spans.proofs.Corner.{each_all}
use Rattle.ink.specs.declared.Ink.{Ink}
use Rattle.paint.specs.declared.Clip.{Clip}
use Rattle.paint.specs.Clip.{in_clip, pixel_at}
use Rattle.paint.specs.Mix.{bit_source, colour_source}
use Rattle.paint.proofs.ClipLaws.{in-clip, clip-in}
use Rattle.pages.specs.Pages.{marked_at, marking}
use Rattle.pages.specs.Asked.{Markable}
use Rattle.pages.proofs.MarkLaws.{marking-append, marking-none, marking-same}
use Rattle.host.specs.declared.Feed.{Feed}
use Rattle.host.specs.Host.{last_column, last_byte_of, pixel, by_run}
use Rattle.host.specs.Draw.{host_source}
use Rattle.host.specs.Asked.{Rows}
use Rattle.host.proofs.Places.{whole-width, column-held}
use Rattle.drips.specs.Drips.{dripped, first_row, past_row}
use Rattle.drips.specs.Rows.{whole_by, left_of, right_of, row_drips, rows_drips}
use Rattle.drips.specs.Asked.{Dripping}
use Rattle.drips.proofs.Drops.{in-dripped, dripped-in}
use Rattle.drips.proofs.Reach.{run-reached, reached-run, row_first, row-past, whole_before, whole-behind}

-- p is the target pixel, inside the clip, of a pixel of row j whose last byte is one from number `from` up to, and without, `past`
record OfRow (c : Clip) (feed : Feed) (from past j : ℕ) (p : Px) : Type 0 where
  i : ℕ
  column : i < feed.width
  low : from ≤ last_byte_of feed i j
  high : last_byte_of feed i j < past
  inside : in_clip c (feed.x + i) (feed.y + j) ≡ true
  place : p ≡ pixel_at (feed.x + i) (feed.y + j)

module _ (c : Clip) (feed : Feed) (ok : Rows feed) (from past : ℕ) where
  -- ---- a row
  row_of : (j : ℕ) (p : Px) → In p (row_drips c feed from past j) → OfRow c feed from past j p
  unfolding row_drips last_byte_of
  row_of j p m = by-test (leb (origin + c.top) (feed.y + j) && ltb (feed.y + j) (origin + c.bottom)) refl m
    where
      by-test : (t : Bool) → (leb (origin + c.top) (feed.y + j) && ltb (feed.y + j) (origin + c.bottom)) ≡ t
          → In p (cond t (rect false false (left_of c feed from j - origin) (feed.y + j - origin) (right_of c feed past j - left_of c feed from j) 1) [])
          → OfRow c feed from past j p
      by-test true e n =
          let top = leb-true (origin + c.top) (feed.y + j) (and_left (leb (origin + c.top) (feed.y + j)) (ltb (feed.y + j) (origin + c.bottom)) e) in
          let bottom = ltb-true (feed.y + j) (origin + c.bottom) (and_right (leb (origin + c.top) (feed.y + j)) (ltb (feed.y + j) (origin + c.bottom)) e) in
          let r = in-rect false false (left_of c feed from j - origin) (feed.y + j - origin) (right_of c feed past j - left_of c feed from j) 1 p n in
          let i = p.x + origin - feed.x in
          let back : feed.x + i ≡ p.x + origin = omega (arith, r.left, r.right) in
          let after : whole_by feed j from ≤ i = omega (arith, r.left, r.right) in
          let before : i < whole_by feed j past = omega (arith, r.left, r.right) in
          let column : i < feed.width = omega (arith, whole-width feed (min (past - j * feed.step) feed.step)) in
          let held : last_column feed i < feed.step = omega (arith, column-held feed i column, ok.held) in
          record {
            i = i;
            column = column;
            low = by_cases (dec_lt (last_column feed i) (min (from - j * feed.step) feed.step))
                (λ l. absurd (omega (arith, whole_before feed ok (min (from - j * feed.step) feed.step) i column l))) (λ l. omega arith);
            high = by_cases (dec_lt (last_column feed i) (min (past - j * feed.step) feed.step)) (λ l. omega arith)
                (λ l. absurd (omega (arith, whole-behind feed ok (min (past - j * feed.step) feed.step) i column (omega arith))));
            inside = clip-in c (feed.x + i) (feed.y + j) (record { left = omega (arith, r.left); right = omega (arith, r.left, r.right); top = top; bottom = bottom });
            place = same-px p (pixel_at (feed.x + i) (feed.y + j)) (omega arith) (omega (arith, r.top, r.bottom));
          }
      by-test false e n = absurd (Memᴰ.not-nil n)

  of_row : (j : ℕ) (p : Px) → OfRow c feed from past j p → In p (row_drips c feed from past j)
  unfolding row_drips last_byte_of
  of_row j p r =
      let v = in-clip c (feed.x + r.i) (feed.y + j) r.inside in
      let held : last_column feed r.i < feed.step = omega (arith, column-held feed r.i r.column, ok.held) in
      let after = whole-behind feed ok (min (from - j * feed.step) feed.step) r.i r.column (omega (arith, r.low)) in
      let before = whole_before feed ok (min (past - j * feed.step) feed.step) r.i r.column (omega (arith, r.high)) in
      let x : p.x ≡ feed.x + r.i - origin = ap (λ (q : Px). q.x) r.place in
      let y : p.y ≡ feed.y + j - origin = ap (λ (q : Px). q.y) r.place in
      rw (le-leb (origin + c.top) (feed.y + j) v.top, lt-ltb (feed.y + j) (origin + c.bottom) v.bottom)
      (rect-in false false (left_of c feed from j - origin) (feed.y + j - origin) (right_of c feed past j - left_of c feed from j) 1 p
      (record { left = omega (arith, v.left); right = omega (arith, v.left, v.right); top = omega arith; bottom = omega arith }))

  -- ---- rows
  rows_of : (j n : ℕ) (p : Px) → In p (rows_drips c feed from past j n) → (k : ℕ) × (j ≤ k) × (k < j + n) × OfRow c feed from past k p
  unfolding rows_drips
  rows_of j zero p m = absurd (Memᴰ.not-nil m)
  rows_of j (suc n) p m =
      ⊎_elim (λ i. (j, omega arith, omega arith, row_of j p i))
      (λ i. let r = rows_of (j + 1) n p i in (r.0, omega (arith, r.1), omega (arith, r.2), r.3)) (Memᴰ.append_cases (row_drips c feed from past j) m)

  of-rows : (j n k : ℕ) (p : Px) → j ≤ k → k < j + n → OfRow c feed from past k p → In p (rows_drips c feed from past j n)
  unfolding rows_drips
  of-rows j zero k p l u r = absurd (omega arith)
  of-rows j (suc n) k p l u r =
      by_cases (ℕ_discrete j k)
      (λ e. Memᴰ.append_left {s = row_drips c feed from past j} (rows_drips c feed from past (j + 1) n) (rw e (of_row k p r)))
      (λ e. Memᴰ.append_right (row_drips c feed from past j) (of-rows (j + 1) n k p (omega arith) (omega arith) r))

-- ---- marking a row: it is outside the clip, or has no pixel, or its pixels are a rectangle's
module _ (ink : Ink) (c : Clip) (feed : Feed) (from past j : ℕ) where
  pub row-outside : Rows feed → (marks : List Bool) → (origin + c.top ≤ feed.y + j → feed.y + j < origin + c.bottom → ⊥)
      → marks ≡ marking ink.target (row_drips c feed from past j) marks
  row-outside ok marks out =
      sym (marking-none ink.target (row_drips c feed from past j) marks
      (λ p m. let r = row_of c feed ok from past j p m in let v = in-clip c (feed.x + r.i) (feed.y + j) r.inside in out v.top v.bottom))

  pub row-none : (marks : List Bool) → right_of c feed past j ≤ left_of c feed from j → marks ≡ marking ink.target (row_drips c feed from past j) marks
  unfolding row_drips
  row-none marks none = sym (marking-none ink.target (row_drips c feed from past j) marks (λ p m. no-pixel (leb (origin + c.top) (feed.y + j) && ltb (feed.y + j) (origin + c.bottom)) p m))
    where
      no-pixel : (t : Bool) (p : Px) → In p (cond t (rect false false (left_of c feed from j - origin) (feed.y + j - origin) (right_of c feed past j - left_of c feed from j) 1) []) → ⊥
      no-pixel true p m = let r = in-rect false false (left_of c feed from j - origin) (feed.y + j - origin) (right_of c feed past j - left_of c feed from j) 1 p m in omega (arith, r.left, r.right)
      no-pixel false p m = Memᴰ.not-nil m

  row-rect : origin + c.top ≤ feed.y + j → feed.y + j < origin + c.bottom
      → row_drips c feed from past j ≡ rect false false (left_of c feed from j - origin) (feed.y + j - origin) (right_of c feed past j - left_of c feed from j) 1
  unfolding row_drips
  row-rect top bottom = rw (le-leb (origin + c.top) (feed.y + j) top, lt-ltb (feed.y + j) (origin + c.bottom) bottom)

  pub row-marked : (marks : List Bool) {marks' : List Bool} → origin + c.top ≤ feed.y + j → feed.y + j < origin + c.bottom
      → marks' ≡ marking ink.target (rect false false (left_of c feed from j - origin) (feed.y + j - origin) (right_of c feed past j - left_of c feed from j) 1) marks
      → marks' ≡ marking ink.target (row_drips c feed from past j) marks
  row-marked marks top bottom put = rw (row-rect top bottom) put

  pub row-markable : Dripping ink c feed → j < feed.height → origin + c.top ≤ feed.y + j → feed.y + j < origin + c.bottom → left_of c feed from j < right_of c feed past j
      → Markable ink.target (left_of c feed from j - origin) (feed.y + j - origin) (right_of c feed past j - left_of c feed from j) 1
  row-markable d row top bottom some =
      let o = d.opened in
      record {
        colour = o.colour;
        wide = omega (arith, o.bits12);
        high = omega (arith, o.bits12);
        len = d.len;
        limit = d.limit;
        on = each_all ink.target d.len (rect false false (left_of c feed from j - origin) (feed.y + j - origin) (right_of c feed past j - left_of c feed from j) 1)
            (λ p m.
            let r = row_of c feed o.rows from past j p (rw (row-rect top bottom) m) in
            rw r.place (o.covered.on r.i j r.column row r.inside).on);
      }

-- ---- rows from the front
pub rows_take : (s : Surface) (c : Clip) (feed : Feed) (from past j e : ℕ) (marks : List Bool) {marks' all : List Bool} → j < e
    → marks' ≡ marking s (row_drips c feed from past j) marks → marking s (rows_drips c feed from past j (e - j)) marks ≡ all
    → marking s (rows_drips c feed from past (j + 1) (e - (j + 1))) marks' ≡ all
unfolding rows_drips
rows_take s c feed from past j e marks h put now =
    let q : e - j ≡ suc (e - (j + 1)) = omega arith in
    ap (marking s (rows_drips c feed from past (j + 1) (e - (j + 1)))) put
    ∙ sym (marking-append s (row_drips c feed from past j) (rows_drips c feed from past (j + 1) (e - (j + 1))) marks)
    ∙ rw q at now

pub rows-done : (s : Surface) (c : Clip) (feed : Feed) (from past j e : ℕ) (marks : List Bool) {all : List Bool} → e ≤ j
    → marking s (rows_drips c feed from past j (e - j)) marks ≡ all → marks ≡ all
unfolding rows_drips addresses marked_at
rows-done s c feed from past j e marks h now = let q : e - j ≡ 0 = omega arith in rw q at now

-- ---- where no pixel can be left, the rows that the words reach have exactly the pixels that are written
abbrev pub NoneLeft : Ink → Feed → Type 0
NoneLeft ink feed = (v : ℕ) → (host_source ink feed v).left ≡ false

pub colour-kept : (ink : Ink) (feed : Feed) → (feed.bytes ≡ 0 → ⊥) → NoneLeft ink feed
unfolding host_source colour_source
colour-kept ink feed e v = rw (ne_eqb _ _ e)

pub solid-kept : (ink : Ink) (feed : Feed) → ink.clear ≡ false → NoneLeft ink feed
unfolding host_source bit_source colour_source
solid-kept ink feed e v = by-test (eqb feed.bytes 0) refl
  where
    by-test : (t : Bool) → eqb feed.bytes 0 ≡ t → (host_source ink feed v).left ≡ false
    by-test true f = rw (f, e)
    by-test false f = rw f

pub rows-marks : (ink : Ink) (c : Clip) (feed : Feed) → Rows feed → NoneLeft ink feed → (ws : List ℕ) (last k : ℕ) (marks : List Bool) {marks' : List Bool}
    → marks' ≡ marking ink.target (rows_drips c feed (4 * k) (4 * (k + length ws)) (first_row feed k) (min feed.height (past_row feed k (length ws)) - first_row feed k)) marks
    → marks' ≡ marking ink.target (dripped ink c feed (by_run feed last ws k)) marks
rows-marks ink c feed ok kept ws last k marks put =
    let n = length ws in
    let first = first_row feed k in
    let past = min feed.height (past_row feed k n) in
    put
    ∙ marking-same ink.target (rows_drips c feed (4 * k) (4 * (k + n)) first (past - first)) (dripped ink c feed (by_run feed last ws k)) marks
    (λ p m.
    let r = rows_of c feed ok (4 * k) (4 * (k + n)) first (past - first) p m in
    let o = r.3 in
    let s = reached-run feed ok ws last k o.i r.0 (record { column = o.column; row = omega (arith, r.1, r.2); from = o.low; up_to = o.high }) in
    dripped-in ink c feed (by_run feed last ws k) p
    (record { of = pixel o.i r.0 s.0; one = s.1; inside = o.inside; kept = kept s.0; place = o.place }))
    (λ p m.
    let r = in-dripped ink c feed (by_run feed last ws k) p m in
    let s = run-reached feed ok ws last k r.of r.one in
    let a = row_first feed ok k n r.of.i r.of.j s in
    let b = row-past feed ok k n r.of.i r.of.j s in
    of-rows c feed ok (4 * k) (4 * (k + n)) first (past - first) r.of.j p a (omega (arith, s.row))
    (record { i = r.of.i; column = s.column; low = s.from; high = s.up_to; inside = r.inside; place = r.place }))
