-- The rows that some words can reach, cut from the rectangle of the blit: they lie in it, and hold every pixel that the words write.
-- Assumes nothing.
use mathlib.Core.Path.{◌≡◌, refl, ap}
use mathlib.Core.List.{List}
use Prim.Native.Nat.{ℕ, ◌+◌, ◌-◌, ◌<◌, ◌≤◌, min, max}
use native.Mathlib.Omega.{arith}
use lib.ListN.{length}
use Rattle.surface.specs.Pixels.{Px, Inside, origin}
use Rattle.surface.proofs.Lists.{In}
use Rattle.ink.specs.declared.Ink.{Ink}
use Rattle.paint.specs.declared.Clip.{Clip}
use Rattle.paint.proofs.ClipLaws.{in-clip}
use Rattle.host.specs.declared.Feed.{Feed}
use Rattle.host.specs.Host.{by_run}
use Rattle.host.specs.Asked.{Rows}
use Rattle.host.proofs.Touched.{Touched}
use Rattle.cuts.specs.declared.Cut.{Cut}
use Rattle.cuts.specs.Cut.{cut_at}
use Rattle.drips.specs.Drips.{dripped, first_row, past_row, data_box}
use Rattle.drips.proofs.Drops.{in-dripped}
use Rattle.drips.proofs.Reach.{run-reached, row_first, row-past}
use Rattle.drips.proofs.Falls.{dripped-touched}

-- pixel p is one of a cut's
abbrev pub InCut : Cut → Px → Type 0
InCut cut p = Inside cut.x cut.y cut.w cut.h p

-- every pixel of the blit inside the clip is one of what the clip leaves of its rectangle
pub touched-cut : (c : Clip) (feed : Feed) (p : Px) → Touched c feed p → InCut (cut_at c feed.x feed.y feed.width feed.height origin origin) p
unfolding cut_at
touched-cut c feed p t =
    let v = in-clip c (feed.x + t.i) (feed.y + t.j) t.inside in
    let x : p.x ≡ feed.x + t.i - origin = ap (λ (q : Px). q.x) t.place in
    let y : p.y ≡ feed.y + t.j - origin = ap (λ (q : Px). q.y) t.place in
    record {
      left = omega (arith, v.left);
      right = omega (arith, v.left, v.right, t.column);
      top = omega (arith, v.top);
      bottom = omega (arith, v.top, v.bottom, t.row);
    }

-- a box is some rows of a cut
pub record RowsOf (cut box : Cut) : Type 0 where
  pub x : box.x ≡ cut.x
  pub w : box.w ≡ cut.w
  pub top : cut.y ≤ box.y
  pub bottom : box.y + box.h ≤ cut.y + cut.h

pub box-rows : (feed : Feed) (cut : Cut) (taken n : ℕ) → RowsOf cut (data_box feed cut taken n)
unfolding data_box
box-rows feed cut taken n = record { x = refl; w = refl; top = omega arith; bottom = omega arith }

pub box-inside : (feed : Feed) (cut : Cut) (taken n : ℕ) (p : Px) → InCut (data_box feed cut taken n) p → InCut cut p
unfolding data_box
box-inside feed cut taken n p i = record {
  left = i.left;
  right = i.right;
  top = omega (arith, i.top);
  bottom = omega (arith, i.top, i.bottom);
}

-- a row of the cut that lies from `first` up to, and without, `past`
row-in-box : (top h first past y : ℕ) → top ≤ y → y < top + h → first ≤ y → y < past
    → let low = min (max top first) (top + h) in (low ≤ y) × (y < low + (min past (top + h) - low))
row-in-box top h first past y a b l u =
    let low = min (max top first) (top + h) in
    let under : low ≤ y = omega arith in
    (under, omega arith)

pub box-holds : (ink : Ink) (c : Clip) (feed : Feed) → Rows feed → (cut : Cut) → ((p : Px) → Touched c feed p → InCut cut p) → (ws : List ℕ) (last taken : ℕ) (p : Px)
    → In p (dripped ink c feed (by_run feed last ws taken)) → InCut (data_box feed cut taken (length ws)) p
unfolding data_box
box-holds ink c feed ok cut held ws last taken p m =
    let r = in-dripped ink c feed (by_run feed last ws taken) p m in
    let s = run-reached feed ok ws last taken r.of r.one in
    let i = held p (dripped-touched ink c feed ok ws last taken p m) in
    let v = in-clip c (feed.x + r.of.i) (feed.y + r.of.j) r.inside in
    let y : p.y ≡ feed.y + r.of.j - origin = ap (λ (q : Px). q.y) r.place in
    let a = row_first feed ok taken (length ws) r.of.i r.of.j s in
    let b = row-past feed ok taken (length ws) r.of.i r.of.j s in
    let row = row-in-box cut.y cut.h (feed.y + first_row feed taken - origin) (feed.y + past_row feed taken (length ws) - origin) p.y i.top i.bottom (omega arith) (omega (arith, v.top)) in
    record { left = i.left; right = i.right; top = row.0; bottom = row.1 }
