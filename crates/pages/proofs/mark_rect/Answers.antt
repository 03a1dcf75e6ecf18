-- `pages::mark_rect` meets its contract: the rows left, marked now, are the rectangle, marked at the start.
-- Assumes nothing.
use mathlib.Core.Path.{sym, ap, ◌∙◌}
use mathlib.Core.Bool.{false}
use Prim.Native.Nat.{◌+◌, ◌-◌}
use native.Mathlib.Omega.{arith}
use Rattle.surface.specs.Pixels.{rect}
use Rattle.pages.specs.Pages.{marking}
use Rattle.pages.proofs.Bands.{band-again}
use Rattle.pages.proofs.RectLaws.{rows_start, rows-turn, rows-markable, rect-none}
use Rattle.pages.proofs.mark_rect.Goals as goal

pub returns-then-w-eq0 : goal.returns-then-w-eq0
returns-then-w-eq0 c = let a = c.args in sym (rect-none a.s a.x a.y a.w a.h a.marks.now (λ p q. omega (arith, c.if-w-eq0.true)))

pub loop-j-init : goal.loop-j-init
loop-j-init c = let a = c.args in rows_start a.s a.x a.y a.w a.h a.marks.now

pub mark_band-requires : goal.mark_band-requires
mark_band-requires c =
    let j = c.loop-j.j in
    let b = c.band-n in
    let rows = c.args.h - j in
    record {
      markable = rows-markable j b.result c.requires c.loop-j-test.true b.ensures.1;
      some = omega (arith, c.if-w-eq0.false);
      high = b.ensures.2 (omega (arith, c.loop-j-test.true));
      band = rw b.ensures.0 (band-again c.args.s (c.args.y + j) rows);
    }

pub loop-j-smaller : goal.loop-j-smaller
loop-j-smaller c =
    let taken = c.loop-j-test.true in omega (arith, c.band-n.ensures.2 (omega arith))

pub loop-j-preserved : goal.loop-j-preserved
loop-j-preserved c =
    let a = c.args in
    let j = c.loop-j.j in
    let n = c.band-n.result in
    ap (marking a.s (rect false false a.x (a.y + (j + n)) a.w (a.h - (j + n)))) c.mark_band.ensures
    ∙ rows-turn a.s a.x a.y a.w a.h j n _ c.band-n.ensures.1 ∙ c.loop-j.invariant

pub returns : goal.returns
returns c =
    let a = c.args in
    let j = c.loop-j.j in
    sym (rect-none a.s a.x (a.y + j) a.w (a.h - j) _ (λ p q. omega (arith, c.loop-j-test.false))) ∙ c.loop-j.invariant
