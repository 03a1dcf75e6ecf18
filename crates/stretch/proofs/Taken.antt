-- The places of a stretch: those between two of an axis, where a walk stands, and the rows of a rectangle that can be stretched to.
-- Assumes nothing.
use mathlib.Core.Path.{◌≡◌, ap, subst⁻¹, ◌∙◌}
use mathlib.Core.Bool.{false}
use Prim.Native.Nat.{ℕ, ◌+◌, ◌<◌, ◌≤◌}
use native.Mathlib.Omega.{arith}
use Rattle.surface.specs.Pixels.{px, rect, Inside, origin}
use Rattle.surface.proofs.Rects.{rect-in}
use Rattle.spans.proofs.Corner.{all-each}
use Rattle.scale.specs.declared.Scale.{Scale}
use Rattle.scale.specs.declared.Stretch.{Stretch}
use Rattle.scale.specs.declared.Walk.{Walk}
use Rattle.scale.specs.Scale.{scaled, walk_at, next_of}
use Rattle.scale.specs.Asked.{OnScale, Steps, CanStretch}
use Rattle.scale.specs.Stretch.{taken_at}
use Rattle.scale.proofs.ScaleLaws.{next-walk, walk_steps}
use Rattle.stretch.specs.Asked.{TakesFrom, RowTakes}

-- a place between two
pub on-between : {s : Scale} {a b : ℕ} → OnScale s a → OnScale s b → (c : ℕ) → a ≤ c → c ≤ b → OnScale s c
on-between first last c l h = record {
  first = omega (arith, first.first);
  past = omega (arith, last.past);
  some = first.some;
  size = first.size;
  source_size = first.source_size;
  from = first.from;
}

-- a walk at place number i from a first one can step, and then it is at the next
module _ {s : Scale} (at n i : ℕ) (first : OnScale s (origin + at)) (last : OnScale s (origin + (at + n))) {walk : Walk} (here : walk ≡ walk_at s (origin + (at + i))) (h : i < n) where
  on-way : OnScale s (origin + (at + i))
  on-way = on-between first last (origin + (at + i)) (omega arith) (omega arith)

  pub can-step : Steps walk
  can-step = subst⁻¹ Steps here (walk_steps s (origin + (at + i)) on-way)

  pub steps_on : {walk' : Walk} → walk' ≡ next_of walk → walk' ≡ walk_at s (origin + (at + (i + 1)))
  steps_on next =
      let e : origin + (at + i) + 1 ≡ origin + (at + (i + 1)) = omega arith in
      next ∙ ap next_of here ∙ next-walk s (origin + (at + i)) on-way ∙ ap (walk_at s) e

-- a walk at the first place is at place number 0 from it
pub walk_begins : (s : Scale) (at : ℕ) {walk : Walk} → walk ≡ walk_at s (origin + at) → walk ≡ walk_at s (origin + (at + 0))
walk_begins s at e = let place : origin + at ≡ origin + (at + 0) = omega arith in e ∙ ap (walk_at s) place

-- the source place of a walk
pub walk-place : (s : Scale) (place : ℕ) {walk : Walk} → walk ≡ walk_at s place → walk.at ≡ scaled s place
unfolding walk_at
walk-place s place e = ap (λ (k : Walk). k.at) e

-- ---- the rows of a rectangle
module _ {t : Stretch} {x y w h len : ℕ} (can : CanStretch t x y w h len) where
  pub can-take : (i j : ℕ) → i < w → j < h → TakesFrom t (x + i) (y + j) len
  unfolding taken_at
  can-take i j li lj =
      let inside : Inside x y w h (px (x + i) (y + j)) = omega arith in
      let source = can.source (px (x + i) (y + j)) inside in
      record {
        on = record { colour = can.colour; on = all-each t.ink.target len (rect false false x y w h) can.target (px (x + i) (y + j)) (rect-in false false x y w h _ inside) };
        left = source.0;
        top = source.1;
        from = source.2;
      }

  pub can-row : (j : ℕ) → 0 < w → j < h → RowTakes t x (y + j) w len
  can-row j wide lj =
      let columns = can.columns wide (omega arith) in
      record {
        colour = can.colour;
        small = can.small;
        wide = can.wide;
        first = columns.0;
        last = columns.1;
        each = λ i li. can-take i j li lj;
      }
