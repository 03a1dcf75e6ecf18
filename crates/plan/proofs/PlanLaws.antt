-- The values of the raster operation that the keys choose make the raster operation; and a key test by the key's range.
-- Assumes nothing.
use mathlib.Core.Path.{◌≡◌, refl, ap, ap₂, ◌∙◌}
use mathlib.Core.Bool.{Bool, true, false, cond, ◌&&◌}
use mathlib.Core.List.{List}
use mathlib.Core.Option.{Option, none, some}
use Prim.Native.Nat.{ℕ, ◌+◌, ◌*◌, ◌/◌, ◌%◌, ◌<◌}
use native.Mathlib.Omega.{arith}
use lib.ListN.{get_or}
use Rattle.keys.specs.declared.Range.{Range}
use Rattle.keys.specs.Key.{key_match}
use Rattle.keys.specs.Range.{range_of, in_range}
use Rattle.keys.proofs.RangeLaws.{in-range}
use Rattle.raster.specs.Rop.{rop_bits}
use Rattle.raster.specs.Masks.{laid}
use Rattle.raster.proofs.RopTree.{merged-is}
use Rattle.ink.specs.declared.Ink.{Ink}
use Rattle.paint.specs.declared.Source.{Source}
use Rattle.paint.specs.Mix.{chosen, target_match, mixed}
use Rattle.plan.specs.Plan.{code_of, MasksOf, QuadsFrom, QuadsOf, code_at, quad_at, merged_at, quad_mixed}

module _ (ink : Ink) (values quads : List ℕ) (h : QuadsOf ink values quads) (column : ℕ) (small : column < 8) where
  -- value k of raster operation number c
  quad : (c k i : ℕ) → c < 4 → k < 4 → i ≡ c * 32 + column * 4 + k → get_or quads i 0 ≡ laid 32 (code_of ink c) k (get_or values column 0)
  quad c k i few four e =
      let code : i / 32 ≡ c = omega arith in
      let quarter : i / 4 ≡ c * 8 + column = omega arith in
      let bit : i % 4 ≡ k = omega (arith, quarter) in
      let place : (c * 8 + column) % 8 ≡ column = omega arith in
      h.at i (omega arith) ∙ rw (code, bit, quarter, place)

  by_code : (c at : ℕ) → c < 4 → at ≡ c * 32 + column * 4 → (s d : ℕ)
      → merged_at quads at s d ≡ rop_bits 32 (code_of ink c) (get_or values column 0) s d
  by_code c at few e s d =
      rw (
        quad c 0 at few (omega arith) (omega arith),
        quad c 1 (at + 1) few (omega arith) (omega arith),
        quad c 2 (at + 2) few (omega arith) (omega arith),
        quad c 3 (at + 3) few (omega arith) (omega arith),
      )
      (merged-is (code_of ink c) (get_or values column 0) s d)

  merged-chosen : (a b : Bool) (at s d : ℕ) → at ≡ code_at a b + column * 4
      → merged_at quads at s d ≡ rop_bits 32 (chosen ink a b) (get_or values column 0) s d
  unfolding code_at chosen code_of
  merged-chosen true true at s d e = by_code 3 at (omega arith) (omega (arith, e)) s d
  merged-chosen true false at s d e = by_code 2 at (omega arith) (omega (arith, e)) s d
  merged-chosen false true at s d e = by_code 1 at (omega arith) (omega (arith, e)) s d
  merged-chosen false false at s d e = by_code 0 at (omega arith) (omega (arith, e)) s d

  pub quad-mixed : (s : Source) (old : ℕ) → quad_mixed ink quads column s old ≡ mixed ink (get_or values column 0) s old
  unfolding quad_mixed mixed
  quad-mixed s old =
      ap {B = Option ℕ} (λ (v : ℕ). cond s.left none (some v)) (merged-chosen s.key (target_match ink old) (quad_at ink s.key old column) s.value old refl)

-- the values of a row, from the bits of the codes
pub quads-are : (ink : Ink) (masks values quads : List ℕ) → MasksOf ink masks → QuadsFrom masks values quads → QuadsOf ink values quads
unfolding laid
quads-are ink masks values quads h q = record {
  at = λ i small.
      let at = i / 32 * 8 + i % 4 in
      let low : at / 8 ≡ i / 32 = omega arith in
      let high : (at + 4) / 8 ≡ i / 32 = omega arith in
      let bit : at % 8 ≡ i % 4 = omega arith in
      let next : (at + 4) % 8 ≡ i % 4 + 4 = omega arith in
      q.at i small ∙ rw (h.at at (omega arith), h.at (at + 4) (omega arith), low, high, bit, next);
}

-- a key test by the key's range
pub hit : {bytes to : ℕ} {r : Range} (on : Bool) (lo hi v : ℕ) → to ≡ bytes → r ≡ range_of bytes lo hi → (on && in_range to r v) ≡ (on && key_match bytes lo hi v)
hit {bytes} {to} on lo hi v e f =
    ap₂ (λ (n : ℕ) (r : Range). on && in_range n r v) e f ∙ ap (λ t. on && t) (in-range bytes lo hi v)
