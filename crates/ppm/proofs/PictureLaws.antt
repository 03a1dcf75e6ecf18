-- Laws of the picture's lines: what a turn of a loop over a row or over rows leaves to be said.
-- Assumes nothing.
use mathlib.Core.Path.{◌≡◌, refl}
use mathlib.Core.Bool.{true, false, ◌&&◌}
use mathlib.Core.List.{List, [], ◌∷◌, ◌++◌, append_assoc}
use Prim.Native.Nat.{ℕ, zero, suc, ◌+◌, ◌-◌, ◌<◌}
use native.Mathlib.Omega.{arith}
use lib.Dec.{ltb}
use borrow.Author.Tests.{ltb-true}
use Rattle.surface.specs.declared.Surface.{Surface}
use Rattle.surface.specs.Place.{read_px, on_surface}
use Rattle.surface.specs.Asked.{OnColour}
use Rattle.surface.specs.Pixels.{Px, across, rect}
use Rattle.spans.specs.Span.{all_on}
use Rattle.formats.specs.Format.{target_named}
use Rattle.surface.proofs.OnLaws.{and_left, and_right}
use Rattle.formats.proofs.FormatLaws.{target-colour}
use Rattle.registers.specs.declared.Regs.{Regs}
use Rattle.ppm.specs.Picture.{shade, line, lines, left, top, right, bottom, target, pixels, shows}
use Rattle.ppm.specs.Asked.{RowOn, RectOn}

module _ (s : Surface) where
  -- ---- on the surface
  all_left : (len : ℕ) (ps qs : List Px) → all_on s len (ps ++ qs) ≡ true → all_on s len ps ≡ true
  unfolding all_on
  all_left len [] qs e = refl
  all_left len (p ∷ ps) qs e =
      let o = on_surface s len p.x p.y in
      let a = and_left o (all_on s len (ps ++ qs)) e in
      let b = all_left len ps qs (and_right o (all_on s len (ps ++ qs)) e) in
      rw (a, b)

  all_right : (len : ℕ) (ps qs : List Px) → all_on s len (ps ++ qs) ≡ true → all_on s len qs ≡ true
  unfolding all_on
  all_right len [] qs e = e
  all_right len (p ∷ ps) qs e = all_right len ps qs (and_right (on_surface s len p.x p.y) (all_on s len (ps ++ qs)) e)

  pub row_first : (len x w y : ℕ) → 0 < w → RowOn s len x w y → OnColour s len x y
  unfolding across all_on
  row_first len x zero y h on = absurd (omega arith)
  row_first len x (suc w) y h on = record { colour = on.colour; on = and_left (on_surface s len x y) (all_on s len (across false (x + 1) w y)) on.on }

  pub row-rest : (len x w y : ℕ) → 0 < w → RowOn s len x w y → RowOn s len (x + 1) (w - 1) y
  unfolding across all_on
  row-rest len x zero y h on = absurd (omega arith)
  row-rest len x (suc w) y h on =
      let e : suc w - 1 ≡ w = omega arith in
      rw e (record { colour = on.colour; on = and_right (on_surface s len x y) (all_on s len (across false (x + 1) w y)) on.on })

  pub rect-first : (len x y w h : ℕ) → 0 < h → RectOn s len x y w h → RowOn s len x w y
  unfolding rect
  rect-first len x y w zero g on = absurd (omega arith)
  rect-first len x y w (suc h) g on = record { colour = on.colour; on = all_left len (across false x w y) (rect false false x (y + 1) w h) on.on }

  pub rect-rest : (len x y w h : ℕ) → 0 < h → RectOn s len x y w h → RectOn s len x (y + 1) w (h - 1)
  unfolding rect
  rect-rest len x y w zero g on = absurd (omega arith)
  rect-rest len x y w (suc h) g on =
      let e : suc h - 1 ≡ h = omega arith in
      rw e (record { colour = on.colour; on = all_right len (across false x w y) (rect false false x (y + 1) w h) on.on })

  -- ---- what is said
  module _ (m : List ℕ) where
    pub lines-append : (ps qs : List Px) → lines s m (ps ++ qs) ≡ lines s m ps ++ lines s m qs
    unfolding lines
    lines-append [] qs = refl
    lines-append (p ∷ ps) qs = rw (lines-append ps qs, append_assoc)

    pub row-lines : (x w y : ℕ) → 0 < w → lines s m (across false x w y) ≡ line (shade s.bytes (read_px m s x y)) ++ lines s m (across false (x + 1) (w - 1) y)
    unfolding across lines
    row-lines x zero y h = absurd (omega arith)
    row-lines x (suc w) y h = let f : suc w - 1 ≡ w = omega arith in rw f

    pub rect-lines : (x y w h : ℕ) → 0 < h
        → lines s m (rect false false x y w h) ≡ lines s m (across false x w y) ++ lines s m (rect false false x (y + 1) w (h - 1))
    unfolding rect
    rect-lines x y w zero g = absurd (omega arith)
    rect-lines x y w (suc h) g = let f : suc h - 1 ≡ h = omega arith in rw (f, lines-append)

-- ---- what there is where a picture is shown
pub record Shown (r : Regs) (len : ℕ) : Type 0 where
  pub named : target_named r.dst_format ≡ true
  pub wide : left r < right r
  pub high : top r < bottom r
  pub on : all_on (target r) len (pixels r) ≡ true

pub shown : (r : Regs) (len : ℕ) → shows r len ≡ true → Shown r len
unfolding shows
shown r len e =
    let a = target_named r.dst_format in
    let b = ltb (left r) (right r) in
    let c = ltb (top r) (bottom r) in
    let d = all_on (target r) len (pixels r) in
    let f = and_right a (b && (c && d)) e in
    let g = and_right b (c && d) f in
    record {
      named = and_left a (b && (c && d)) e;
      wide = ltb-true (left r) (right r) (and_left b (c && d) f);
      high = ltb-true (top r) (bottom r) (and_left c d g);
      on = and_right c d g;
    }

pub rect-shown : (r : Regs) (len : ℕ) (s : Surface) → s ≡ target r → shows r len ≡ true → RectOn s len (left r) (top r) (right r - left r) (bottom r - top r)
rect-shown r len s e h =
    let k = shown r len h in
    rw e (record { colour = target-colour r.dst_base_addr r.dst_format k.named; on = k.on })
