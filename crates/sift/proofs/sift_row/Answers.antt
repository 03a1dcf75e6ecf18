-- `sift::sift_row` meets its contract: the pixels left, marked now, are those of the row, marked at the start.
-- Assumes nothing.
use mathlib.Core.Path.{sym, ap, subst, ◌∙◌}
use mathlib.Core.Bool.{false}
use Prim.Native.Nat.{◌+◌, ◌-◌}
use native.Mathlib.Nat.{add-zero}
use native.Mathlib.Omega.{arith}
use lib.ListN.{length}
use Rattle.surface.specs.Pixels.{across}
use Rattle.pages.specs.Pages.{marking}
use Rattle.sift.specs.Sift.{chosen, wet}
use Rattle.sift.specs.Asked.{Siftable}
use Rattle.sift.proofs.SiftLaws.{part-can, row-start, row-turn, row-none}
use Rattle.sift.proofs.sift_row.Goals as goal

pub loop-i-init : goal.loop-i-init
loop-i-init c =
    let a = c.args in (omega arith, row-start a.v.task.ink.target (wet a.v a.pattern.now a.mem.now) a.marks.now a.x a.w a.y)

pub sift_some-i-requires : goal.sift_some-i-requires
sift_some-i-requires c =
    let i = c.loop-i.i in (
      subst (λ n. Siftable c.args.v (c.args.x + i) n (c.args.w - i) 1 (length c.args.mem.now)) (add-zero c.args.y)
          (part-can c.requires i 0 (c.args.w - i) 1 (omega arith) (omega arith)),
      omega (arith, c.loop-i-test.true),
    )

pub loop-i-smaller : goal.loop-i-smaller
loop-i-smaller c = omega (arith, c.sift_some-i.ensures.0, c.sift_some-i.ensures.1)

pub loop-i-preserved : goal.loop-i-preserved
loop-i-preserved c =
    let a = c.args in
    let i = c.loop-i.i in
    let n = c.sift_some-i.result in
    let s = a.v.task.ink.target in
    let f = wet a.v a.pattern.now a.mem.now in (
      omega (arith, c.sift_some-i.ensures.1),
      ap (marking s (chosen f (across false (a.x + (i + n)) (a.w - (i + n)) a.y))) c.sift_some-i.ensures.2
          ∙ row-turn s f _ a.x a.w a.y i n (omega (arith, c.sift_some-i.ensures.1)) ∙ c.loop-i.invariant.1,
    )

pub returns : goal.returns
returns c =
    let a = c.args in
    sym (row-none a.v.task.ink.target (wet a.v a.pattern.now a.mem.now) _ a.x a.w a.y c.loop-i.i c.loop-i-test.false) ∙ c.loop-i.invariant.1
