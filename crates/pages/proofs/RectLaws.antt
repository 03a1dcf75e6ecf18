-- The pages of a rectangle on its surface: its numbers fit, its last page has a mark, and band by band they are all.
-- Assumes nothing.
use mathlib.Core.Path.{◌≡◌, sym, ap, ◌∙◌}
use mathlib.Core.Bool.{Bool, true, false}
use mathlib.Core.List.{List, ◌++◌, append_assoc}
use Prim.Native.Nat.{ℕ, zero, suc, ◌+◌, ◌-◌, ◌*◌, ◌^◌, ◌<◌, ◌≤◌}
use native.Mathlib.Nat.{zero-add, suc-add, add-zero, sub-zero, suc-mul}
use native.Mathlib.Omega.{arith}
use Rattle.surface.specs.declared.Surface.{Surface}
use Rattle.surface.specs.Place.{on_surface}
use Rattle.surface.specs.Pixels.{rect}
use Rattle.surface.specs.Asked.{Small}
use Rattle.surface.proofs.Bytes.{product_lt}
use Rattle.surface.proofs.Rects.{rect-in, in-rect}
use Rattle.surface.proofs.OnLaws.{colour-first, colour-count, last_byte, on-last}
use Rattle.spans.proofs.Corner.{rect-corner, all-each, each_all}
use Rattle.pages.specs.Pages.{marking}
use Rattle.pages.specs.Extent.{last_page}
use Rattle.pages.specs.Asked.{Markable, InBand}
use Rattle.pages.proofs.MarkLaws.{marking-append, marking-none}
use Rattle.pages.proofs.Bands.{Filled, stride-some}

pub column-small : {s : Surface} (x : ℕ) → Small s → x ≤ 2 ^ 13 → x * s.bytes < 2 ^ 17
column-small {s} x small h = product_lt 14 3 {a = x} {b = s.bytes} (omega arith) (omega (arith, small.bytes))

-- ---- a rectangle in one band
module _ {s : Surface} {x y w h : ℕ} (b : InBand s x y w h) where
  corner-on : on_surface s b.markable.len (x + (w - 1)) (y + (h - 1)) ≡ true
  corner-on = sym (rect-corner false false s b.markable.len x y w h b.some b.high) ∙ b.markable.on

  pub last-page-fits : last_page s x y w h < 4096
  last-page-fits =
      let some = b.markable.colour.some in
      let next : (x + w) * s.bytes ≡ (x + (w - 1)) * s.bytes + s.bytes = ap (λ (n : ℕ). n * s.bytes) (omega (arith, b.some)) ∙ suc-mul (x + (w - 1)) s.bytes in
      let column : last_byte s (x + (w - 1)) ≡ (x + w) * s.bytes - 1 = omega (arith, colour-first s (x + (w - 1)) some, colour-count s x some) in
      let inside = rw column at (on-last s b.markable.len (x + (w - 1)) (y + (h - 1)) corner-on) in
      omega (arith, b.markable.limit)

  pub band-filled : Filled s x y w h (rect false false x y w h)
  band-filled = record {
    some = b.markable.colour.some;
    stride = stride-some s b.markable.len (x + (w - 1)) (y + (h - 1)) corner-on;
    wide = b.some;
    high = b.high;
    band = b.band;
    all = rect-in false false x y w h;
    only = in-rect false false x y w h;
  }

-- ---- band by band
rect-append : (x y w n k : ℕ) → rect false false x y w (n + k) ≡ rect false false x y w n ++ rect false false x (y + n) w k
unfolding rect
rect-append x y w zero k = rw (zero-add k, add-zero y)
rect-append x y w (suc n) k =
    let down : y + suc n ≡ y + 1 + n = omega arith in rw (suc-add n k, down, rect-append x (y + 1) w n k, append_assoc)

pub rows_start : (s : Surface) (x y w h : ℕ) (marks : List Bool) → marking s (rect false false x (y + 0) w (h - 0)) marks ≡ marking s (rect false false x y w h) marks
rows_start s x y w h marks = rw (add-zero y, sub-zero h)

pub rows-turn : (s : Surface) (x y w h j n : ℕ) (marks : List Bool) → n ≤ h - j
    → marking s (rect false false x (y + (j + n)) w (h - (j + n))) (marking s (rect false false x (y + j) w n) marks)
    ≡ marking s (rect false false x (y + j) w (h - j)) marks
rows-turn s x y w h j n marks k =
    let q : h - j ≡ n + (h - (j + n)) = omega arith in
    let r : y + (j + n) ≡ y + j + n = omega arith in
    rw (q, r, rect-append x (y + j) w n (h - (j + n)))
    (sym (marking-append s (rect false false x (y + j) w n) (rect false false x (y + j + n) w (h - (j + n))) marks))

-- none where there is no row left, or no column
pub rect-none : (s : Surface) (x y w h : ℕ) (marks : List Bool) → (0 < w → 0 < h → ⊥) → marking s (rect false false x y w h) marks ≡ marks
rect-none s x y w h marks none =
    marking-none s (rect false false x y w h) marks (λ p i. let r = in-rect false false x y w h p i in none (omega arith) (omega arith))

pub rows-markable : {s : Surface} {x y w h : ℕ} (j n : ℕ) → Markable s x y w h → j < h → n ≤ h - j → Markable s x (y + j) w n
rows-markable {s} {x} {y} {w} {h} j n m low few = record {
  colour = m.colour;
  wide = m.wide;
  high = omega (arith, m.high);
  len = m.len;
  limit = m.limit;
  on = each_all s m.len (rect false false x (y + j) w n) (λ p i.
      let r = in-rect false false x (y + j) w n p i in
      all-each s m.len (rect false false x y w h) m.on p (rect-in false false x y w h p (omega arith)));
}
