-- `rect::copy_rect` meets its contract: on tiles; in rows a mono copy gives each pixel the colour of its bit, a plain one that is not late moves its source's bytes, a straight one gives the source or keeps; and the loops go from the corner that is asked for.
-- Assumes nothing.
use mathlib.Core.Path.{◌≡◌, sym, ap, subst⁻¹, ◌∙◌}
use mathlib.Core.Bool.{Bool, true, false, not, ◌&&◌, ◌||◌}
use Prim.Native.Nat.{ℕ}
use native.Mathlib.Omega.{arith}
use borrow.Author.Tests.{not-true}
use lib.ListN.{length}
use Rattle.surface.specs.Pixels.{rect}
use Rattle.surface.proofs.OnLaws.{and_left, and_right}
use Rattle.paint.specs.Tally.{tally}
use Rattle.paint.specs.Paint.{state, paint}
use Rattle.sweep.specs.declared.Task.{Task}
use Rattle.sweep.specs.Copy.{giving}
use Rattle.rect.specs.Fast.{plainly, mono_of, straight_of, late}
use Rattle.rect.specs.Asked.{Flat}
use Rattle.bits.specs.declared.Mono.{Mono}
use Rattle.straight.specs.declared.Straight.{Straight}
use Rattle.straight.specs.Straight.{straight_giving, straightly}
use Rattle.straight.specs.Asked.{CanCopy}
use Rattle.bits.specs.Bits.{mono_giving, monoly}
use Rattle.bits.specs.Asked.{CanMono}
use Rattle.rect.proofs.Straight.{straight-gives, can-straight}
use Rattle.rect.proofs.Mono.{is-mono, mono-gives, mono-corner, can-mono}
use Rattle.paint.proofs.Turns.{paint-same}
use Rattle.rect.proofs.Moved.{moved}
use Rattle.rect.proofs.Tests.{neither}
use Rattle.rect.proofs.copy_rect.Goals as goal

-- ---- both surfaces are in rows
in-rows : {t : Task} → (t.ink.target.tiled || t.from.tiled) ≡ false → Flat t
in-rows {t} e = let flat = neither t.ink.target.tiled t.from.tiled e in record { target = flat.0; from = flat.1 }

pub mono_rows-requires : goal.mono_rows-requires
mono_rows-requires c =
    let a = c.args in
    let p = c.requires in
    subst⁻¹ (λ (k : Mono). CanMono k a.w a.h (length a.mem.now)) c.mono_of.ensures.0
    (can-mono a.t a.w a.h (length a.mem.now) (sym c.is_bitwise.ensures ∙ c.if-is_bitwise.true) (in-rows c.if-t.false) p.0 p.1.1)

pub returns-then-is_bitwise : goal.returns-then-is_bitwise
unfolding mono_of
returns-then-is_bitwise c =
    let a = c.args in
    let p = c.requires in
    let bitwise = sym c.is_bitwise.ensures ∙ c.if-is_bitwise.true in
    let made = c.mono_of.ensures in
    let m = a.mem.now in
    let ps = rect false false a.t.x a.t.y a.w a.h in
    c.mono_rows.ensures
    ∙ ap (λ (k : Mono). paint k.plain.target (monoly k (rect false false k.x k.y a.w a.h)) (state m 0 0)) made.0
    ∙ sym (paint-same a.t.ink.target (λ q now. giving a.t a.pattern now now q) (λ q now. mono_giving (mono_of a.t) now q) ps
    (λ q i now. mono-gives a.t bitwise made.1.0 made.1.1 a.pattern now q) (state m 0 0))
    ∙ mono-corner a.t a.w a.h (length m) (is-mono a.t bitwise) p.0 p.1.1 a.to_left a.to_top a.pattern m (tally 0 0)

-- a copy is moved where it is plain and not late
by_tests : (t : Task) (w h : ℕ) (l u : Bool) {plain is_late : Bool} → plain ≡ plainly t → is_late ≡ late l u t w h → (plain && not is_late) ≡ true
    → (plainly t ≡ true) × (late l u t w h ≡ false)
by_tests t w h l u {plain} {is_late} e f both = (sym e ∙ and_left plain (not is_late) both, sym f ∙ not-true is_late (and_right plain (not is_late) both))

pub returns-then-is_plain-is_late : goal.returns-then-is_plain-is_late
returns-then-is_plain-is_late c =
    let a = c.args in
    let p = c.requires in
    let tests = by_tests a.t a.w a.h a.to_left a.to_top c.is_plain.ensures c.is_late.ensures c.if-is_plain-is_late.true in
    moved a.t a.pattern a.mem.now a.w a.h a.to_left a.to_top tests.0 p.0 p.1.1 tests.1
    (λ i. omega (arith, c.slice_known-1.given i)) c.move_rows.ensures

pub straight_rows-requires : goal.straight_rows-requires
straight_rows-requires c =
    let a = c.args in
    subst⁻¹ (λ (k : Straight). CanCopy k a.w a.h (length a.mem.now)) c.straight_of.ensures
    (can-straight a.t (sym c.is_straight.ensures ∙ c.if-is_straight.true) a.w a.h (length a.mem.now) (in-rows c.if-t.false) c.requires.0)

pub returns-then-is_straight : goal.returns-then-is_straight
unfolding straight_of
returns-then-is_straight c =
    let a = c.args in
    let straight = sym c.is_straight.ensures ∙ c.if-is_straight.true in
    let m = a.mem.now in
    c.straight_rows.ensures
    ∙ ap (λ (k : Straight). paint k.target (straightly k (rect a.to_left a.to_top k.x k.y a.w a.h)) (state m 0 0)) c.straight_of.ensures
    ∙ sym (paint-same a.t.ink.target (λ q now. giving a.t a.pattern now now q) (λ q now. straight_giving (straight_of a.t) now q)
    (rect a.to_left a.to_top a.t.x a.t.y a.w a.h) (λ q i now. straight-gives a.t straight a.pattern now q) (state m 0 0))
