-- `tint::masks_at` meets its contract: the masks passed are those of their pixels.
-- Assumes nothing.
use native.Mathlib.Omega.{arith}
use mathlib.Core.Path.{◌≡◌, refl, ap₂, ◌∙◌}
use Prim.Native.Nat.{ℕ, ◌+◌, ◌*◌, ◌/◌, ◌%◌, ◌<◌, ◌≤◌}
use Rattle.ink.specs.Pattern.{pattern_column, pattern_row, pattern_bit}
use Rattle.tint.specs.Masking.{mask_for, mask_here}
use Rattle.tint.proofs.ByteLaws.{one_more, made_more}
use Rattle.tint.proofs.FillLaws.{bit-there}
use Rattle.tint.proofs.masks_at.Goals as goal

-- ---- in a turn of the inner loop: the number of the mask, and where its bytes go in the tables
module _ {j i rows : ℕ} (most : rows ≤ 8) (down : j < rows) (across : i < 8) where
  few : j * 8 + i < 64
  few = omega arith

  room : {n : ℕ} → n < 5 → (j * 8 + i) * n + n ≤ 256
  room {n} small = one_more (j * 8 + i) n few small

pub put_bytes-requires : goal.put_bytes-requires
put_bytes-requires c =
    let p = c.requires in
    let made = c.loop-i.invariant _ c.loop-j.invariant in
    let room = room p.3 c.loop-j-test.true c.loop-i-test.true p.0.small.bytes in
    record { some = p.0.some; few = p.0.small.bytes; inside = omega (arith, room, made.keep.long, p.4.keeps) }

pub put_bytes-requires-in-loop-i : goal.put_bytes-requires-in-loop-i
put_bytes-requires-in-loop-i c =
    let p = c.requires in
    let made = c.loop-i.invariant _ c.loop-j.invariant in
    let room = room p.3 c.loop-j-test.true c.loop-i-test.true p.0.small.bytes in
    record { some = p.0.some; few = p.0.small.bytes; inside = omega (arith, room, made.flip.long, p.4.flips) }

pub loop-i-preserved : goal.loop-i-preserved
loop-i-preserved c =
    let a = c.args in
    let p = c.requires in
    let l = c.loop-i in
    let j = c.loop-j.j in
    let i = l.i in
    let k = j * 8 + i in
    let taken = c.loop-i-test.true in
    let across : i ≡ k % 8 = omega (arith, taken) in
    let down : j ≡ k / 8 = omega (arith, taken) in
    let few = few p.3 c.loop-j-test.true taken in
    let room = room p.3 c.loop-j-test.true taken p.0.small.bytes in
    let bit : c.bit_of-bit.result ≡ pattern_bit a.pattern (pattern_column a.ink (a.x + i)) (pattern_row a.ink (a.y + j)) =
    bit-there a.pattern c.pattern_column.result c.pattern_row-row.result c.bit_of-bit.ensures refl
    ∙ ap₂ (pattern_bit a.pattern) c.pattern_column.ensures.0 c.pattern_row-row.ensures.0 in
    let there = bit ∙ ap₂ (λ (i j : ℕ). pattern_bit a.pattern (pattern_column a.ink (a.x + i)) (pattern_row a.ink (a.y + j))) across down in
    let value = c.values_at-values.ensures.at k (omega arith) in
    let mask : c.mask_of-m.result ≡ mask_here a.ink a.pattern a.x a.y k = c.mask_of-m.ensures ∙ ap₂ (mask_for a.ink) value there in
    let e : j * 8 + (i + 1) ≡ k + 1 = omega arith in
    let made = l.invariant _ c.loop-j.invariant in
    λ old m. rw (e, c.put_bytes-in-loop-i.ensures, c.put_bytes.ensures)
    (made_more (l.invariant old m) (omega (arith, room, made.keep.long, p.4.keeps)) (omega (arith, room, made.flip.long, p.4.flips))
    (omega (arith, few, made.adds.long, p.4.counts)) mask)

pub loop-j-preserved : goal.loop-j-preserved
loop-j-preserved c =
    let l = c.loop-i in
    let o = c.loop-j in
    let e : (o.j + 1) * 8 ≡ o.j * 8 + l.i = omega (arith, c.loop-i-test.false) in
    rw e (l.invariant _ o.invariant)

pub returns : goal.returns
returns c =
    let l = c.loop-j in
    let e : c.args.rows ≡ l.j = omega (arith, c.loop-j-test.false) in
    rw e l.invariant
