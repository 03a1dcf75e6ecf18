-- `tint::tint_across` meets its contract: the bytes are changed first, and then the pixels written are counted.
-- Assumes nothing.
use native.Mathlib.Omega.{arith}
use mathlib.Core.Path.{◌≡◌, refl, ap, ap₂, ◌∙◌}
use mathlib.Core.List.{List}
use Prim.Native.Nat.{ℕ, ◌+◌, ◌*◌, ◌<◌, ◌≤◌}
use borrow.Author.Rules.{rules}
use lib.ListN.{get_or}
use Rattle.surface.specs.declared.Surface.{Surface}
use Rattle.tint.specs.Asked.{CanTint}
use Rattle.tint.specs.Masking.{blended}
use Rattle.tint.proofs.ByteLaws.{in_table}
use Rattle.tint.proofs.RowLaws.{total, total-more, row-blended, row-held}
use Rattle.tint.proofs.tint_across.Goals as goal

module _ {s : Surface} {keep flip adds : List ℕ} {first len x w y : ℕ} (can : CanTint s keep flip adds first len x w y) (few : w ≤ 8) where
  -- the masks' bytes are in their tables
  room : {bytes : ℕ} → bytes ≡ s.bytes → first * bytes + w * bytes ≤ 256
  room {bytes} e = in_table first w bytes (omega (arith, can.eight, few)) (omega (arith, can.colour.small.bytes, e))

  -- each counts one pixel at most
  one : {i : ℕ} → i < w → get_or adds (first + i) 0 ≤ 1
  one {i} h = (can.sound i (omega (arith, few, h))).few

pub tint_bytes-requires : goal.tint_bytes-requires
tint_bytes-requires g c =
    let p = c.requires in (
      rw (c.place_in_rows-at.ensures, p.1) (λ i h. row-held p.0.0 i h),
      omega (arith, room p.0.0 p.2 p.1),
      omega (arith, room p.0.0 p.2 p.1),
    )

pub loop-i-init : goal.loop-i-init
unfolding total
loop-i-init g c = (refl, omega arith)

pub loop-i-preserved : goal.loop-i-preserved
loop-i-preserved g c =
    let a = c.args in
    let p = c.requires in
    let l = c.loop-i in
    (omega (arith, l.invariant.0, total-more a.masks.adds.now a.masks.first l.i), omega (arith, one p.0.0 p.2 c.loop-i-test.true, l.invariant.1))

pub returns : goal.returns
returns g c =
    let l = c.loop-i in
    let a = c.args in
    let m = a.masks in
    let p = c.requires in
    let end : l.i ≡ a.w = omega (arith, c.loop-i-test.false) in
    let made = c.tint_bytes.ensures ∙ ap₂ (λ (at n : ℕ). blended m.keep.now m.flip.now (m.first * n) at (a.w * n) a.mem.now) c.place_in_rows-at.ensures p.1 in
    let count = l.invariant.0 ∙ ap (total m.adds.now m.first) end in
    rw (made, count)
    (row-blended a.s m.keep.now m.flip.now m.adds.now m.first a.x a.y p.0.0.flat p.0.0.colour.some p.0.0.colour.small.bytes
    p.0.1.0 p.0.1.1 p.0.0.sound a.w a.mem.now p.2 (λ i. search rules))
