-- `rect::on_tiles` meets its contract: a plain copy that shares no pixel with its source moves its bytes, a solid fill gives each pixel one value, and one without a target key goes by masks.
-- Assumes nothing.
use mathlib.Core.Path.{◌≡◌, sym, ◌∙◌}
use mathlib.Core.Bool.{Bool, true, not, ◌&&◌}
use Prim.Native.Nat.{ℕ}
use native.Mathlib.Omega.{arith}
use borrow.Author.Tests.{not-true}
use lib.Dec.{ltb}
use lib.ListN.{length}
use Rattle.surface.proofs.Bytes.{product_lt}
use Rattle.surface.proofs.OnLaws.{and_left, and_right}
use Rattle.sweep.specs.declared.Task.{Task}
use Rattle.sweep.specs.Asked.{CanPaint}
use Rattle.rect.specs.Fast.{plainly, touching}
use Rattle.rect.specs.Asked.{Apart, Cornered}
use Rattle.rect.proofs.Order.{apart-early}
use Rattle.rect.proofs.Plain.{plainly-plain}
use Rattle.rect.proofs.Moved.{moved}
use Rattle.rect.proofs.Solid.{rect-on, solid-fills, solid-made, fill-made}
use Rattle.rect.proofs.Tests.{both_some}
use Rattle.rect.proofs.on_tiles.Goals as goal

by_tests : {t : Task} {w h len : ℕ} {to_left to_top plain touches : Bool} → CanPaint t w h len → Cornered t w h to_left to_top → plain ≡ plainly t → touches ≡ touching t w h
    → (ltb 0 w && ltb 0 h) ≡ true → (plain && not touches) ≡ true → Apart t w h len
by_tests {t} {w} {h} {plain = plain} {touches = touches} can corner e f some so =
    let is_plain = sym e ∙ and_left plain (not touches) so in
    record {
      plain = is_plain;
      can = can;
      orderly = corner.copies (plainly-plain t is_plain).copies;
      none = sym f ∙ not-true touches (and_right plain (not touches) so);
      wide = (both_some w h some).0;
      high = (both_some w h some).1;
    }

pub move_apart-requires : goal.move_apart-requires
move_apart-requires c =
    let p = c.requires in
    by_tests p.0 p.1 c.is_plain.ensures c.is_touching.ensures c.if-w-h.true c.if-is_plain-is_touching.true

pub overflow_mul-result : goal.overflow_mul-result
overflow_mul-result c =
    let a = c.args in
    let p = c.requires.0 in
    omega (arith, product_lt 14 14 {a = a.w} {b = a.h} (omega (arith, p.wide)) (omega (arith, p.high)))

pub returns-then-is_plain-is_touching : goal.returns-then-is_plain-is_touching
returns-then-is_plain-is_touching c =
    let a = c.args in
    let p = c.requires in
    let apart : Apart a.t a.w a.h (length a.mem.now) =
    by_tests p.0 p.1 c.is_plain.ensures c.is_touching.ensures c.if-w-h.true c.if-is_plain-is_touching.true in
    moved a.t a.pattern a.mem.now a.w a.h a.to_left a.to_top apart.plain p.0 apart.orderly
    (apart-early a.t a.w a.h (length a.mem.now) p.0 (λ _. apart.orderly) a.to_left a.to_top apart.none)
    (λ i. omega (arith, c.slice_known-1.given i)) c.move_apart.ensures

pub solid_blocks-requires : goal.solid_blocks-requires
solid_blocks-requires c =
    let a = c.args in
    (rect-on c.requires.0, both_some a.w a.h c.if-w-h.true)

pub returns-then-is_solid : goal.returns-then-is_solid
returns-then-is_solid c =
    let a = c.args in
    let solid = sym c.is_solid.ensures ∙ c.if-is_solid.true in
    let corner = c.requires.1.fills (solid-fills a.t solid) in
    rw (corner.0, corner.1)
    (solid-made a.t a.pattern a.mem.now a.w a.h solid c.raster-v.ensures c.solid_blocks.ensures)

pub wash_rows-requires : goal.wash_rows-requires
wash_rows-requires c =
    let a = c.args in
    (rect-on c.requires.0, (λ _. both_some a.w a.h c.if-w-h.true, not-true _ (and_right (not a.t.copies) _ c.if-t.true)))

pub returns-then-t : goal.returns-then-t
returns-then-t c =
    let a = c.args in
    let fills = not-true a.t.copies (and_left (not a.t.copies) (not a.t.ink.dst_key) c.if-t.true) in
    let corner = c.requires.1.fills fills in
    rw (corner.0, corner.1) (fill-made a.t a.pattern a.mem.now a.w a.h fills c.wash_rows.ensures)
