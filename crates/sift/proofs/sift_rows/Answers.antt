-- `sift::sift_rows` meets its contract: the rows left, marked now, are those of the rectangle, marked at the start.
-- Assumes nothing.
use mathlib.Core.Path.{sym, ap, subst, ◌∙◌}
use mathlib.Core.Bool.{false}
use Prim.Native.Nat.{◌+◌, ◌-◌}
use native.Mathlib.Nat.{add-zero}
use native.Mathlib.Omega.{arith}
use lib.ListN.{length}
use Rattle.surface.specs.Pixels.{rect}
use Rattle.pages.specs.Pages.{marking}
use Rattle.sift.specs.Sift.{chosen, wet}
use Rattle.sift.specs.Asked.{Siftable}
use Rattle.sift.proofs.SiftLaws.{part-can, rows_start, rows-turn, rows_none}
use Rattle.sift.proofs.sift_rows.Goals as goal

pub loop-j-init : goal.loop-j-init
loop-j-init c =
    let a = c.args in rows_start a.v.task.ink.target (wet a.v a.pattern.now a.mem.now) a.marks.now a.x a.y a.w a.h

pub sift_row-requires : goal.sift_row-requires
sift_row-requires c =
    let j = c.loop-j.j in
    subst (λ n. Siftable c.args.v n (c.args.y + j) c.args.w 1 (length c.args.mem.now)) (add-zero c.args.x)
    (part-can c.requires 0 j c.args.w 1 (omega arith) (omega (arith, c.loop-j-test.true)))

pub loop-j-preserved : goal.loop-j-preserved
loop-j-preserved c =
    let a = c.args in
    let j = c.loop-j.j in
    let s = a.v.task.ink.target in
    let f = wet a.v a.pattern.now a.mem.now in
    ap (marking s (chosen f (rect false false a.x (a.y + (j + 1)) a.w (a.h - (j + 1))))) c.sift_row.ensures
    ∙ rows-turn s f _ a.x a.y a.w a.h j c.loop-j-test.true ∙ c.loop-j.invariant

pub returns : goal.returns
returns c =
    let a = c.args in
    sym (rows_none a.v.task.ink.target (wet a.v a.pattern.now a.mem.now) _ a.x a.y a.w a.h c.loop-j.j c.loop-j-test.false) ∙ c.loop-j.invariant
